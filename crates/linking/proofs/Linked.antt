-- The index form of a linking: the stretch from i up to j links up within itself by the partner list P. It vanishes, and every stretch that
-- vanishes is linked up by some partner list.
use Prim.Native.Nat.{ℕ, suc, ◌+◌, ◌-◌, ◌≤◌, ◌<◌}
use mathlib.Core.Path.{◌≡◌, refl}
use mathlib.Core.List.{List, [], ◌∷◌, ◌++◌}
use native.Mathlib.Omega.{arith}
use lib.IntN.{pos}
use lib.ListN.{length, replicate, length-append, length-replicate}
use Rattle.pregroup.specs.Types.{Basic, PregroupType, plain}
use Rattle.pregroup.specs.Order.{Relation}
use Rattle.pregroup.specs.Vanish.{Contracts, Vanish, empty, link}
use Rattle.linking.specs.Linking.{simple_at, partner, stretch}
use Rattle.linking.specs.Greedy.{Link}
use Rattle.linking.proofs.Stretches.{stretch_empty, stretch_cons, stretch_append, length_stretch, Reads, reads_head, reads_tail, reads_front, reads_back, reads_behind, reads_stretch}

-- The stretch is empty, or its first position is linked to some k, and the stretches between them and behind k are linked.
pub data Linked (Le : Relation) (X : PregroupType) (P : List ℕ) : ℕ → ℕ → Type 0 where
  nothing : {i j : ℕ} → i ≡ j → Linked Le X P i j
  linked : {i j : ℕ} (k : ℕ) → Link Le X P i k → k < j → Linked Le X P (suc i) k → Linked Le X P (suc k) j → Linked Le X P i j

-- The string from position i on is parted: one position is unlinked, plain and at or below the target; the stretches before and behind
-- it are linked.
pub record Parted (Le : Relation) (s : Basic) (X : PregroupType) (P : List ℕ) (i : ℕ) : Type 0 where
  pub unlinked : ℕ
  pub unlinked_place : (i ≤ unlinked) × (unlinked ≤ length X)
  pub own : partner P unlinked ≡ unlinked
  pub is_plain : (simple_at X unlinked).exponent ≡ pos 0
  pub below : Le (simple_at X unlinked).base s
  pub before : Linked Le X P i unlinked
  pub behind : Linked Le X P (suc unlinked) (suc (length X))

-- What is linked vanishes.
pub vanish_of_linked :
    {Le : Relation} {X : PregroupType} {P : List ℕ} {i j : ℕ} → Linked Le X P i j → 1 ≤ i → j ≤ suc (length X) → Vanish Le (stretch X i j)
vanish_of_linked {X = X} {i = i} {j = j} (nothing e) p b = rw (← e, stretch_empty X i) empty
vanish_of_linked {Le} {X} {P} {i} {j} (linked k l h u w) p b =
    let n = l.ahead in
    rw (stretch_cons X i j p (omega arith) b, stretch_append X (suc i) k j (omega arith) (omega arith) b, stretch_cons X k j (omega arith) h b)
    (link l.contract (vanish_of_linked u (omega arith) (omega arith)) (vanish_of_linked w (omega arith) b))

-- The partners of a string that vanishes and begins at position i.
pub partners_of : {Le : Relation} {Z : PregroupType} → Vanish Le Z → ℕ → List ℕ
partners_of empty i = []
partners_of (link {U = U} c u w) i =
    let k = suc (i + length U) in
    k ∷ (partners_of u (suc i) ++ (i ∷ partners_of w (suc k)))

pub partners_length : {Le : Relation} {Z : PregroupType} (v : Vanish Le Z) (i : ℕ) → length (partners_of v i) ≡ length Z
unfolding partners_of
partners_length empty i = refl
partners_length (link {U = U} c u w) i =
    simp (length-append, partners_length u (suc i), partners_length w (suc (suc (i + length U))))

-- Where X reads a string that vanishes and P its partners, both from i on, the stretch is linked.
pub linked_of_vanish :
    {Le : Relation} {X Z : PregroupType} {P : List ℕ} (v : Vanish Le Z) {i : ℕ} (j : ℕ) → i + length Z ≡ j
    → Reads (plain 0) X i Z → Reads 0 P i (partners_of v i) → Linked Le X P i j
unfolding partners_of
linked_of_vanish empty {i} j e r q = let h : i ≡ j = omega arith in nothing h
linked_of_vanish {Le} {X} {P = P} (link {x} {y} {U} {W} c u w) {i} j e r q =
    let k = suc (i + length U) in
    let before = partners_of u (suc i) in
    let behind = i ∷ partners_of w (suc k) in
    let e₁ : length before ≡ length U = partners_length u (suc i) in
    let e₂ : length (U ++ (y ∷ W)) ≡ length U + suc (length W) = length-append U (y ∷ W) in
    let between : suc i + length U ≡ k = omega arith in
    let within : k < j = omega arith in
    let rest : suc k + length W ≡ j = omega arith in
    let as_long : suc i + length before ≡ k = omega arith in
    let rx = reads_tail r in
    let qx = reads_tail {L = before ++ behind} q in
    let ry = reads_back U (y ∷ W) k between rx in
    let qy = reads_back before behind k as_long qx in
    let l : Link Le X P i k =
    record { ahead = omega arith; forth = reads_head {L = before ++ behind} q; back = reads_head qy; contract = rw (reads_head r, reads_head ry) c } in
    linked k l within (linked_of_vanish u k between (reads_front U (y ∷ W) rx) (reads_front before behind qx))
    (linked_of_vanish w j rest (reads_tail ry) (reads_tail qy))

-- A stretch that vanishes is linked by some partner list.
pub linked_stretch :
    {Le : Relation} (X : PregroupType) (i j : ℕ) → 1 ≤ i → i ≤ j → j ≤ suc (length X) → Vanish Le (stretch X i j)
    → (P : List ℕ) × Linked Le X P i j
linked_stretch X i j p h b v =
    let front : List ℕ = replicate (i - 1) 0 in
    let e : suc (length front) ≡ i = rw (length-replicate {A = ℕ} (i - 1) 0) (omega arith) in
    let q : Reads 0 (front ++ partners_of v i) i (partners_of v i) = rw e at (reads_behind {d = 0} front (partners_of v i)) in
    (front ++ partners_of v i, linked_of_vanish v j (length_stretch X i j p h b) (reads_stretch X (j - i) i j (omega arith) p b) q)
