-- The closed order has as many pairs as `closed_count` says: the pairs p ≤ q, gathered row by row, stand in a list once each. And no relation has
-- two numbers of pairs.
use Prim.Native.Nat.{ℕ, zero, suc, ◌+◌, ◌≤◌, ◌<◌}
use native.Mathlib.Omega.{arith}
use native.Mathlib.Nat.{le-suc_iff}
use mathlib.Core.Path.{◌≡◌, refl, sym, ap, ◌∙◌}
use mathlib.Core.Logic.{◌⊎◌, inl, inr, ⊎_elim, ∥∥₁_elim}
use mathlib.Core.HLevel.{⊥_prop}
use mathlib.Core.Bool.{Bool, true, false, cond}
use mathlib.Core.List.Memᴰ
use mathlib.Core.List.Pairwise
use mathlib.Core.List.{List, [], ◌∷◌, ◌++◌, Memᴰ, Nodup, Nodup-append, Nodup-cons}
use lib.ListN.{length, length-append}
use Rattle.bits.specs.Totals.{total}
use Rattle.bits.proofs.TotalLaws.{total_same}
use Rattle.pregroup.specs.Order.{Relation}
use Rattle.order.specs.Closed.{Closed, Pair, Listed, DeclaredPairs, HasPairs, below, closed_count}
use Rattle.order.proofs.ClosureLaws.{closed_within}
use Rattle.order.proofs.Decision.{below_decides}

-- The lists f 0, f 1, .. up to f (n - 1), one behind another.
gather : (ℕ → List Pair) → ℕ → List Pair
gather f zero = []
gather f (suc n) = gather f n ++ f n

module _ (f : ℕ → List Pair) where
  gather_length : (n : ℕ) → length (gather f n) ≡ total (λ k. length (f k)) n
  unfolding gather total
  gather_length zero = refl
  gather_length (suc n) = length-append (gather f n) (f n) ∙ ap (λ (m : ℕ). m + length (f n)) (gather_length n)

  -- What is in one of the lists is gathered ..
  gathered : (n k : ℕ) (x : Pair) → k < n → Memᴰ x (f k) → Memᴰ x (gather f n)
  unfolding gather
  gathered zero k x h m = absurd (omega arith)
  gathered (suc n) k x h m =
      ⊎_elim (λ (l : k < n). Memᴰ.append_left (f n) (gathered n k x l m))
      (λ (e : suc k ≡ suc n). Memᴰ.append_right (gather f n) (let same : k ≡ n = omega arith in rw same at m)) (le-suc_iff.0 h)

  -- .. and nothing else.
  gathered_from : (n : ℕ) (x : Pair) → Memᴰ x (gather f n) → (k : ℕ) × (k < n) × Memᴰ x (f k)
  unfolding gather
  gathered_from zero x m = absurd (Memᴰ.not-nil m)
  gathered_from (suc n) x m =
      ⊎_elim (λ l. let t = gathered_from n x l in (t.0, omega (arith, t.1), t.2)) (λ l. (n, omega arith, l)) (Memᴰ.append_cases (gather f n) m)

  -- Lists without repetition that share nothing.
  gather_once : ((k : ℕ) → Nodup (f k)) → ((x : Pair) (j k : ℕ) → Memᴰ x (f j) → Memᴰ x (f k) → j ≡ k) → (n : ℕ) → Nodup (gather f n)
  unfolding gather
  gather_once each apart zero = Pairwise.nil
  gather_once each apart (suc n) =
      Nodup-append.1 (
        gather_once each apart n,
        each n,
        λ x a b. ∥∥₁_elim a ⊥_prop (λ l. ∥∥₁_elim b ⊥_prop (λ r. let t = gathered_from n x l in omega (arith, t.1, apart x t.0 n t.2 r))),
      )

module _ (types : ℕ) (pairs : List Pair) where
  abbrev pair_of : ℕ → ℕ → Pair
  pair_of p q = record { lower = p; upper = q }

  -- The pair p ≤ q if it is one.
  abbrev cell : ℕ → ℕ → List Pair
  cell p q = cond (below types pairs p q) (pair_of p q ∷ []) []

  abbrev row : ℕ → List Pair
  row p = gather (cell p) types

  in_cell : (p q : ℕ) (b : Bool) (x : Pair) → Memᴰ x (cond b (pair_of p q ∷ []) []) → (x ≡ pair_of p q) × (b ≡ true)
  in_cell p q true x m = (Memᴰ.eq_of_singleton m, refl)
  in_cell p q false x m = absurd (Memᴰ.not-nil m)

  cell_once : (b : Bool) (x : Pair) → Nodup (cond b (x ∷ []) [])
  cell_once true x = Pairwise.cons (λ y m. absurd (∥∥₁_elim m ⊥_prop Memᴰ.not-nil)) Pairwise.nil
  cell_once false x = Pairwise.nil

  cell_length : (b : Bool) (x : Pair) → length (cond b (x ∷ []) []) ≡ cond b 1 0
  cell_length true x = refl
  cell_length false x = refl

  in_row : (p : ℕ) (x : Pair) → Memᴰ x (row p) → (x.lower ≡ p) × (below types pairs p x.upper ≡ true)
  in_row p x m =
      let t = gathered_from (cell p) types x m in
      let c = in_cell p t.0 (below types pairs p t.0) x t.2 in
      (ap (λ (y : Pair). y.lower) c.0, rw (ap (λ (y : Pair). y.upper) c.0) c.1)

  row_once : (p : ℕ) → Nodup (row p)
  row_once p =
      gather_once (cell p) (λ q. cell_once (below types pairs p q) (pair_of p q))
      (λ x j k a b. sym (ap (λ (y : Pair). y.upper) (in_cell p j (below types pairs p j) x a).0) ∙ ap (λ (y : Pair). y.upper) (in_cell p k (below types pairs p k) x b).0) types

  pub closed_has_pairs : DeclaredPairs types pairs → HasPairs (Closed types (Listed pairs)) (closed_count types pairs)
  unfolding closed_count
  closed_has_pairs declared = record {
    pairs = gather row types;
    once = gather_once row row_once (λ x j k a b. sym (in_row j x a).0 ∙ (in_row k x b).0) types;
    all = λ p q. (
      λ m.
          let t = gathered_from row types (pair_of p q) m in
          let r = in_row t.0 (pair_of p q) t.2 in
          (below_decides types pairs declared p q).0 (rw r.0 r.1),
      λ c.
          let w = closed_within declared p q c in
          gathered row types p (pair_of p q) w.0
          (gathered (cell p) types q (pair_of p q) w.1 (rw ((below_decides types pairs declared p q).1 c) (Memᴰ.head refl))),
    );
    count = gather_length row types
        ∙ total_same (λ p. length (row p)) (λ p. total (λ q. cond (below types pairs p q) 1 0) types) types
        (λ p h. gather_length (cell p) types ∙ total_same (λ q. length (cell p q)) (λ q. cond (below types pairs p q) 1 0) types (λ q k. cell_length (below types pairs p q) (pair_of p q)));
  }

-- A list without one of its members.
without : {x : Pair} {l : List Pair} → Memᴰ x l → List Pair
without (Memᴰ.head {xs} e) = xs
without (Memᴰ.tail {x = y} m) = y ∷ without m

without_length : {x : Pair} {l : List Pair} (m : Memᴰ x l) → suc (length (without m)) ≡ length l
unfolding without
without_length (Memᴰ.head e) = refl
without_length (Memᴰ.tail m) = ap suc (without_length m)

without_else : {x y : Pair} {l : List Pair} (m : Memᴰ x l) → Memᴰ y l → (y ≡ x) ⊎ Memᴰ y (without m)
unfolding without
without_else (Memᴰ.head e) (Memᴰ.head q) = inl (q ∙ sym e)
without_else (Memᴰ.head e) (Memᴰ.tail k) = inr k
without_else (Memᴰ.tail m) (Memᴰ.head q) = inr (Memᴰ.head q)
without_else (Memᴰ.tail m) (Memᴰ.tail k) = ⊎_elim inl (λ r. inr (Memᴰ.tail r)) (without_else m k)

-- A list without repetition is no longer than one that has all its members.
no_longer : (xs ys : List Pair) → Nodup xs → ((x : Pair) → Memᴰ x xs → Memᴰ x ys) → length xs ≤ length ys
no_longer [] ys once within = omega arith
no_longer (x ∷ xs) ys once within =
    let m = within x (Memᴰ.head refl) in
    let apart = Nodup-cons.0 once in
    let rest = no_longer xs (without m) apart.1
    (λ y k. ⊎_elim (λ e. absurd (apart.0 ∣ Memᴰ.cast (sym e) k ∣₁)) (λ r. r) (without_else m (within y (Memᴰ.tail k)))) in
    omega (arith, without_length m)

pub pairs_unique : {R : Relation} {n m : ℕ} → HasPairs R n → HasPairs R m → n ≡ m
pairs_unique a b =
    let there = no_longer a.pairs b.pairs a.once (λ x k. (b.all x.lower x.upper).1 ((a.all x.lower x.upper).0 k)) in
    let back = no_longer b.pairs a.pairs b.once (λ x k. (a.all x.lower x.upper).1 ((b.all x.lower x.upper).0 k)) in
    omega (arith, a.count, b.count)
