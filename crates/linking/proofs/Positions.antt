-- A linking, as the paper says it position by position, is the same as its index form: one unlinked position, and linked stretches before
-- and behind it.
use Prim.Native.Nat.{ℕ, zero, suc, ◌+◌, ◌≤◌, ◌<◌}
use mathlib.Core.Path.{◌≡◌, refl, sym, ◌∙◌, ap}
use mathlib.Core.Logic.{◌↔◌}
use mathlib.Core.List.{List}
use native.Mathlib.Omega.{arith}
use native.Mathlib.Decide.{dec_lt}
use lib.ListN.{length}
use Rattle.pregroup.specs.Types.{Basic, PregroupType}
use Rattle.pregroup.specs.Order.{Relation}
use Rattle.pregroup.specs.Vanish.{Contracts}
use Rattle.linking.specs.Linking.{Position, simple_at, partner, IsLinking}
use Rattle.linking.proofs.Numbers.{Placed, under, same, over, placed}
use Rattle.linking.specs.Greedy.{Link}
use Rattle.linking.proofs.Linked.{Linked, nothing, linked, Parted}

-- What holds at a position m of a linked stretch: its partner is another one of the stretch, with m as its partner; the two could contract;
-- and everything between them is linked inside.
pub record Inside (Le : Relation) (X : PregroupType) (P : List ℕ) (i j m : ℕ) : Type 0 where
  pub lower : i ≤ partner P m
  pub upper : partner P m < j
  pub other : partner P m ≡ m → ⊥
  pub involutive : partner P (partner P m) ≡ m
  pub contract : m < partner P m → Contracts Le (simple_at X m) (simple_at X (partner P m))
  pub inside : (k : ℕ) → m < k → k < partner P m → (m < partner P k) × (partner P k < partner P m) × (partner P k ≡ k → ⊥)

module _ {Le : Relation} {X : PregroupType} {P : List ℕ} where
  widened : {i j i' j' m : ℕ} → i' ≤ i → j ≤ j' → Inside Le X P i j m → Inside Le X P i' j' m
  widened h g t =
      record {
        lower = omega arith;
        upper = omega arith;
        other = t.other;
        involutive = t.involutive;
        contract = t.contract;
        inside = t.inside;
      }

  -- The two ends of the first link.
  first_inside :
      {i j k : ℕ} → Link Le X P i k → k < j → ((m : ℕ) → suc i ≤ m → m < k → Inside Le X P (suc i) k m) → Inside Le X P i j i
  first_inside {i} {j} {k} l h f =
      let a = l.ahead in
      let e = l.forth in
      record {
        lower = omega arith;
        upper = omega arith;
        other = λ o. omega arith;
        involutive = rw e l.back;
        contract = λ o. rw e l.contract;
        inside = λ m g o. let t = f m g (omega arith) in (t.lower, rw e t.upper, t.other);
      }

  last_inside : {i j k : ℕ} → Link Le X P i k → k < j → Inside Le X P i j k
  last_inside {i} {j} {k} l h =
      let a = l.ahead in
      let e = l.back in
      record {
        lower = omega arith;
        upper = omega arith;
        other = λ o. omega arith;
        involutive = rw e l.forth;
        contract = λ o. absurd (omega arith);
        inside = λ m g o. absurd (omega arith);
      }

  -- The cases of a position m of a linked stretch: one of the ends of the first link, between them, or behind.
  inside_at :
      {i j k m : ℕ} → Link Le X P i k → k < j → ((n : ℕ) → suc i ≤ n → n < k → Inside Le X P (suc i) k n)
      → ((n : ℕ) → suc k ≤ n → n < j → Inside Le X P (suc k) j n) → i ≤ m → m < j → Placed m i → Placed m k → Inside Le X P i j m
  inside_at l b f g p h (under o) c = absurd (omega arith)
  inside_at l b f g p h (same e) c = rw e (first_inside l b f)
  inside_at {m = m} l b f g p h (over o) (under q) = widened (omega arith) (omega arith) (f m o q)
  inside_at l b f g p h (over o) (same e) = rw e (last_inside l b)
  inside_at {m = m} l b f g p h (over o) (over q) =
      let a = l.ahead in
      widened (omega arith) (omega arith) (g m q h)

  -- Every position of a linked stretch is linked inside it.
  pub inside_of_linked : {i j : ℕ} → Linked Le X P i j → (m : ℕ) → i ≤ m → m < j → Inside Le X P i j m
  inside_of_linked (nothing e) m h g = absurd (omega arith)
  inside_of_linked {i} (linked k l b u w) m h g =
      inside_at l b (λ n. inside_of_linked u n) (λ n. inside_of_linked w n) h g (placed m i) (placed m k)

-- What holds at a position of a parted string: it is the unlinked one u, or it is linked, not over u.
data Cases (Le : Relation) (X : PregroupType) (P : List ℕ) (u i : ℕ) : Type 0 where
  itself : i ≡ u → Cases Le X P u i
  beside : Inside Le X P 1 (suc (length X)) i → (i < u → partner P i < u) → Cases Le X P u i

-- The facts of a linking at one position.
record Facts (Le : Relation) (X : PregroupType) (P : List ℕ) (u i : ℕ) : Type 0 where
  within : Position X (partner P i)
  involutive : partner P (partner P i) ≡ i
  contract : i < partner P i → Contracts Le (simple_at X i) (simple_at X (partner P i))
  inside : (k : ℕ) → i < k → k < partner P i → (i < partner P k) × (partner P k < partner P i) × (partner P k ≡ k → ⊥)
  only : partner P i ≡ i → i ≡ u
  uncovered : i < u → u < partner P i → ⊥

facts : {Le : Relation} {X : PregroupType} {P : List ℕ} {u i : ℕ} → Position X u → partner P u ≡ u → Cases Le X P u i → Facts Le X P u i
facts {P = P} {i = i} p o (itself e) =
    let own : partner P i ≡ i = rw e o in
    record {
      within = rw (own, e) p;
      involutive = rw own own;
      contract = λ a. absurd (omega arith);
      inside = λ k a b. absurd (omega arith);
      only = λ a. e;
      uncovered = λ a b. omega arith;
    }
facts p o (beside t g) =
    record {
      within = (t.lower, omega arith);
      involutive = t.involutive;
      contract = t.contract;
      inside = t.inside;
      only = λ e. absurd (t.other e);
      uncovered = λ a b. let c = g a in omega arith;
    }

-- The stretch from i up to j is closed under partners, and none of its positions is its own.
abbrev Closed : List ℕ → ℕ → ℕ → Type 0
Closed P i j = (m : ℕ) → i ≤ m → m < j → (i ≤ partner P m) × (partner P m < j) × (partner P m ≡ m → ⊥)

module _ {Le : Relation} {s : Basic} {X : PregroupType} {P : List ℕ} where
  cases : (t : Parted Le s X P 1) (i : ℕ) → Position X i → Cases Le X P t.unlinked i
  cases t i p = at (placed i t.unlinked)
    where
      at : Placed i t.unlinked → Cases Le X P t.unlinked i
      at (under h) =
          let f = inside_of_linked t.before i p.0 h in
          beside (widened (omega arith) (omega arith) f) (λ g. f.upper)
      at (same e) = itself e
      at (over h) = beside (widened (omega arith) (omega arith) (inside_of_linked t.behind i h (omega arith))) (λ g. absurd (omega arith))

  linking_of_parted : length P ≡ length X → Parted Le s X P 1 → IsLinking Le s X P
  linking_of_parted n t =
      let at : (i : ℕ) → Position X i → Facts Le X P t.unlinked i = λ i p. facts t.unlinked_place t.own (cases t i p) in
      record {
        count = n;
        within = λ i p. (at i p).within;
        involutive = λ i p. (at i p).involutive;
        contract = λ i p. (at i p).contract;
        uncrossed = λ i k p q a b c. let d = (at i p).inside k a b in omega arith;
        inside = λ i k p. (at i p).inside k;
        unlinked = t.unlinked;
        unlinked_place = t.unlinked_place;
        own = t.own;
        only = λ i p. (at i p).only;
        is_plain = t.is_plain;
        below = t.below;
        uncovered = λ i p. (at i p).uncovered;
      }

  -- Behind a link of i to k, no partner of m lies in it.
  partner_behind :
      IsLinking Le s X P → (i m : ℕ) → Position X i → Position X m → partner P i < m → i ≤ partner P m → i < partner P i → partner P i < partner P m
  partner_behind t i m p q h a l = at (placed (partner P m) i) (placed (partner P m) (partner P i))
    where
      back : partner P (partner P m) ≡ m
      back = t.involutive m q

      at : Placed (partner P m) i → Placed (partner P m) (partner P i) → partner P i < partner P m
      at (under f) c = absurd (omega arith)
      at (same e) (under g) = let f : partner P i ≡ m = rw e at back in absurd (omega arith)
      at (same e) (same g) = absurd (omega arith)
      at (same e) (over g) = g
      at (over f) (under g) = let c = t.inside i (partner P m) p f g in absurd (omega (arith, back))
      at (over f) (same g) = let c : i ≡ m = rw (g, t.involutive i p) at back in absurd (omega arith)
      at (over f) (over g) = g

  -- A closed stretch is linked. The number n bounds its length.
  linked_of_linking :
      IsLinking Le s X P → (n i j : ℕ) → j ≤ i + n → 1 ≤ i → i ≤ j → j ≤ suc (length X)
      → Closed P i j → Linked Le X P i j
  linked_of_linking t zero i j b p h e c = let k : i ≡ j = omega arith in nothing k
  linked_of_linking t (suc n) i j b p h e c = at (dec_lt i j) (linked_of_linking t n)
    where
      at :
          Dec (i < j)
          → ((i' j' : ℕ) → j' ≤ i' + n → 1 ≤ i' → i' ≤ j' → j' ≤ suc (length X) → Closed P i' j' → Linked Le X P i' j') → Linked Le X P i j
      at (no g) f = let k : i ≡ j = omega arith in nothing k
      at (yes g) f =
          let q : Position X i = (p, omega arith) in
          let o : (i ≤ partner P i) × (partner P i < j) × (partner P i ≡ i → ⊥) = c i (omega arith) g in
          let a : i < partner P i = omega arith in
          let l : Link Le X P i (partner P i) =
          record { ahead = a; forth = refl; back = t.involutive i q; contract = t.contract i q a } in
          linked (partner P i) l o.1
          (f (suc i) (partner P i) (omega arith) (omega arith) a (omega arith) (λ m d r. t.inside i m q d r))
          (f (suc (partner P i)) j (omega arith) (omega arith) o.1 e
          (λ m d r. let x = c m (omega arith) r in (partner_behind t i m q (omega arith, omega arith) d x.0 a, x.1, x.2)))

  -- The partner of another position is not the unlinked one.
  partner_beside : (t : IsLinking Le s X P) (m : ℕ) → Position X m → (m ≡ t.unlinked → ⊥) → partner P m ≡ t.unlinked → ⊥
  partner_beside t m p h e = h (sym (t.involutive m p) ∙ ap (partner P) e ∙ t.own)

  closed_before : (t : IsLinking Le s X P) → Closed P 1 t.unlinked
  closed_before t m h g =
      let u = t.unlinked_place in
      let p : Position X m = (h, omega arith) in
      let apart = partner_beside t m p (omega arith) in
      let clear = t.uncovered m p g in
      ((t.within m p).0, omega arith, λ e. omega (arith, t.only m p e))

  closed_behind : (t : IsLinking Le s X P) → Closed P (suc t.unlinked) (suc (length X))
  closed_behind t m h g =
      let u = t.unlinked_place in
      let p : Position X m = (omega arith, omega arith) in
      let apart = partner_beside t m p (omega arith) in
      let w = t.within m p in
      let clear : partner P m < t.unlinked → ⊥ = λ o. t.uncovered (partner P m) w o (rw (t.involutive m p) h) in
      (omega arith, omega arith, λ e. omega (arith, t.only m p e))

  parted_of_linking : IsLinking Le s X P → Parted Le s X P 1
  parted_of_linking t =
      let u = t.unlinked in
      record {
        unlinked = u;
        unlinked_place = t.unlinked_place;
        own = t.own;
        is_plain = t.is_plain;
        below = t.below;
        before = linked_of_linking t u 1 u (omega arith) (omega arith) (omega arith) (omega arith) (closed_before t);
        behind = linked_of_linking t (length X) (suc u) (suc (length X)) (omega arith) (omega arith) (omega arith) (omega arith) (closed_behind t);
      }

  -- A linking is a partner list as long as the string, by which the whole string is parted.
  pub linking_iff_parted : IsLinking Le s X P ↔ ((length P ≡ length X) × Parted Le s X P 1)
  linking_iff_parted = (λ t. (t.count, parted_of_linking t), λ t. linking_of_parted t.0 t.1)
