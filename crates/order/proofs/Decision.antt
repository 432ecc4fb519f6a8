-- `below` decides the closure of declared pairs: it is reflexive, transitive and relates each pair, and so relates all that the closure
-- does; what it relates, the closure relates.
use borrow.Author.Tests.{eqb-true, eq-eqb, ltb-true, lt-ltb}
use Prim.Native.Nat.{ℕ, ◌<◌}
use mathlib.Core.Path.{◌≡◌, refl}
use mathlib.Core.Logic.{◌↔◌, ◌⊎◌, inl, inr, ⊎_elim}
use mathlib.Core.Bool.{Bool, true, false, cond, false≢true}
use mathlib.Core.List.Memᴰ
use mathlib.Core.List.{List, [], ◌∷◌}
use lib.Dec.{eqb, ltb}
use Rattle.pregroup.specs.Tests.{Decides}
use Rattle.pregroup.proofs.Decision.{and_iff}
use Rattle.order.specs.Closed.{Closed, reflexive, pair, transitive, Pair, Listed, DeclaredPairs, below}
use Rattle.order.proofs.ClosureLaws.{closed_map}

-- The test with one pair more.
either : (before to from : Bool) → (cond before true (cond to from false) ≡ true) ↔ ((before ≡ true) ⊎ ((to ≡ true) × (from ≡ true)))
either true to from = (λ h. inl refl, λ h. refl)
either false true from = (λ h. inr (refl, h), ⊎_elim (λ h. absurd (false≢true h)) (λ t. t.1))
either false false from = (λ h. absurd (false≢true h), ⊎_elim (λ h. h) (λ t. t.0))

module _ (types : ℕ) where
  abbrev Below : List Pair → ℕ → ℕ → Type 0
  Below pairs p q = below types pairs p q ≡ true

  below_more :
      (x : Pair) (pairs : List Pair) (p q : ℕ)
      → Below (x ∷ pairs) p q ↔ (Below pairs p q ⊎ (Below pairs p x.lower × Below pairs x.upper q))
  unfolding below
  below_more x pairs p q = either (below types pairs p q) (below types pairs p x.lower) (below types pairs x.upper q)

  below_reflexive : (pairs : List Pair) (p : ℕ) → p < types → Below pairs p p
  unfolding below
  below_reflexive [] p h = (and_iff (eqb p p) (ltb p types)).1 (eq-eqb p p refl, lt-ltb p types h)
  below_reflexive (x ∷ pairs) p h = (below_more x pairs p p).1 (inl (below_reflexive pairs p h))

  -- With one pair more, from p to r through q: before, or by the pair once.
  below_through :
      (x : Pair) (pairs : List Pair) (p q r : ℕ) → ((p q r : ℕ) → Below pairs p q → Below pairs q r → Below pairs p r)
      → Below pairs p q ⊎ (Below pairs p x.lower × Below pairs x.upper q)
      → Below pairs q r ⊎ (Below pairs q x.lower × Below pairs x.upper r)
      → Below pairs p r ⊎ (Below pairs p x.lower × Below pairs x.upper r)
  below_through x pairs p q r before (inl h) (inl k) = inl (before p q r h k)
  below_through x pairs p q r before (inl h) (inr k) = inr (before p q x.lower h k.0, k.1)
  below_through x pairs p q r before (inr h) (inl k) = inr (h.0, before x.upper q r h.1 k)
  below_through x pairs p q r before (inr h) (inr k) = inr (h.0, k.1)

  below_transitive : (pairs : List Pair) (p q r : ℕ) → Below pairs p q → Below pairs q r → Below pairs p r
  unfolding below
  below_transitive [] p q r h k =
      let e : p ≡ q = eqb-true p q ((and_iff (eqb p q) (ltb p types)).0 h).0 in
      rw e k
  below_transitive (x ∷ pairs) p q r h k =
      (below_more x pairs p r).1
      (below_through x pairs p q r (λ p q r. below_transitive pairs p q r) ((below_more x pairs p q).0 h) ((below_more x pairs q r).0 k))

  -- Each pair of declared types.
  below_listed : (pairs : List Pair) (p q : ℕ) → p < types → q < types → Listed pairs p q → Below pairs p q
  below_listed [] p q hp hq m = elim m [ ]
  below_listed (x ∷ pairs) p q hp hq (Memᴰ.head e) =
      let to : Below pairs p x.lower = rw (← e) (below_reflexive pairs p hp) in
      let from : Below pairs x.upper q = rw (← e) (below_reflexive pairs q hq) in
      (below_more x pairs p q).1 (inr (to, from))
  below_listed (x ∷ pairs) p q hp hq (Memᴰ.tail m) = (below_more x pairs p q).1 (inl (below_listed pairs p q hp hq m))

  below_of_closed : (pairs : List Pair) → DeclaredPairs types pairs → {p q : ℕ} → Closed types (Listed pairs) p q → Below pairs p q
  below_of_closed pairs declared (reflexive {p} h) = below_reflexive pairs p h
  below_of_closed pairs declared (pair {p} {q} m) = below_listed pairs p q (declared p q m).0 (declared p q m).1 m
  below_of_closed pairs declared (transitive {p} {q} {r} c d) =
      below_transitive pairs p q r (below_of_closed pairs declared c) (below_of_closed pairs declared d)

  closed_more : (x : Pair) {pairs : List Pair} {p q : ℕ} → Closed types (Listed pairs) p q → Closed types (Listed (x ∷ pairs)) p q
  closed_more x = closed_map (λ p q. Memᴰ.tail)

  closed_of_below : (pairs : List Pair) (p q : ℕ) → Below pairs p q → Closed types (Listed pairs) p q
  unfolding below
  closed_of_below [] p q h =
      let t = (and_iff (eqb p q) (ltb p types)).0 h in
      rw (← eqb-true p q t.0) (reflexive (ltb-true p types t.1))
  closed_of_below (x ∷ pairs) p q h =
      ⊎_elim (λ b. closed_more x (closed_of_below pairs p q b))
      (λ t.
      transitive (closed_more x (closed_of_below pairs p x.lower t.0))
      (transitive (pair (Memᴰ.head refl)) (closed_more x (closed_of_below pairs x.upper q t.1))))
      ((below_more x pairs p q).0 h)

pub below_decides : (types : ℕ) (pairs : List Pair) → DeclaredPairs types pairs → Decides (below types pairs) (Closed types (Listed pairs))
below_decides types pairs declared p q = (closed_of_below types pairs p q, below_of_closed types pairs declared)
