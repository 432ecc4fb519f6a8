-- Document 01, "A reading": the linkings of a type, their order, and the first of them as antt computes it. A linking is held as its
-- partner list: at each position the position that it is linked to, and at the unlinked position its own.
use Rattle.std.specs.Prelude.{ℕ, zero, suc, ◌-◌, ◌≤◌, ◌<◌, ◌≡◌, cond, ◌&&◌, List, [], ◌∷◌, ◌++◌, eqb, leb, length, get_or, pos}
use Rattle.std.proofs.Math.Option.{Option, none, some, map}
use Rattle.std.proofs.Math.Seq.{slice}
use Rattle.pregroup.specs.Types.{Basic, Simple, PregroupType, plain}
use Rattle.pregroup.specs.Order.{Relation}
use Rattle.pregroup.specs.Vanish.{Contracts}
use Rattle.pregroup.specs.Tests.{Test, same_exponent, contracts}

-- Positions count from 1.
abbrev pub Position : PregroupType → ℕ → Type 0
Position X i = (1 ≤ i) × (i ≤ length X)

abbrev pub simple_at : PregroupType → ℕ → Simple
simple_at X i = get_or X (i - 1) (plain 0)

abbrev pub partner : List ℕ → ℕ → ℕ
partner P i = get_or P (i - 1) 0

-- P is a linking of X with target s: a partner for each simple type, each the other's; the earlier and the later end of a link could
-- contract; links never cross; everything between the ends of a link is linked inside. Exactly one simple type is unlinked; it is plain,
-- at or below the target, under no link, and its own partner.
pub record IsLinking (Le : Relation) (s : Basic) (X : PregroupType) (P : List ℕ) : Type 0 where
  pub count : length P ≡ length X
  pub within : (i : ℕ) → Position X i → Position X (partner P i)
  pub involutive : (i : ℕ) → Position X i → partner P (partner P i) ≡ i
  pub contract : (i : ℕ) → Position X i → i < partner P i → Contracts Le (simple_at X i) (simple_at X (partner P i))
  pub uncrossed : (i k : ℕ) → Position X i → Position X k → i < k → k < partner P i → partner P i < partner P k → ⊥
  pub inside : (i k : ℕ) → Position X i → i < k → k < partner P i → (i < partner P k) × (partner P k < partner P i) × (partner P k ≡ k → ⊥)
  pub unlinked : ℕ
  pub unlinked_place : Position X unlinked
  pub own : partner P unlinked ≡ unlinked
  pub only : (i : ℕ) → Position X i → partner P i ≡ i → i ≡ unlinked
  pub is_plain : (simple_at X unlinked).exponent ≡ pos 0
  pub below : Le (simple_at X unlinked).base s
  pub uncovered : (i : ℕ) → Position X i → i < unlinked → unlinked < partner P i → ⊥

-- The same, or smaller at the first difference.
pub data AtMost : List ℕ → List ℕ → Type 0 where
  equal : {A : List ℕ} → AtMost A A
  first : {a b : ℕ} {A B : List ℕ} → a < b → AtMost (a ∷ A) (b ∷ B)
  later : {a : ℕ} {A B : List ℕ} → AtMost A B → AtMost (a ∷ A) (a ∷ B)

-- The stretch of X from position i up to, not including, position j.
abbrev pub stretch : PregroupType → ℕ → ℕ → PregroupType
stretch X i j = slice (i - 1) (j - 1) X

-- What f gives for the first of d numbers, from k on, for which it gives something.
unfoldable pub first_some : (ℕ → Option (List ℕ)) → ℕ → ℕ → Option (List ℕ)
first_some f zero k = none
first_some f (suc d) k = elim (f k) [ none ↦ first_some f d (suc k) | some P ↦ some P ]

module _ (le : Test) (X : PregroupType) where
  -- The partners from i on where i is linked to k: A of what stands between the two, B of what stands behind k. There are none where either
  -- has none, or where i and k could not contract.
  unfoldable pub linked_to : ℕ → ℕ → Option (List ℕ) → Option (List ℕ) → Option (List ℕ)
  linked_to i k none behind = none
  linked_to i k (some A) none = none
  linked_to i k (some A) (some B) = cond (contracts le (simple_at X i) (simple_at X k)) (some (k ∷ (A ++ (i ∷ B)))) none

  -- The first partners of the stretch from i up to j, all of it linked: each position takes the nearest partner that leaves the rest
  -- linkable. The first number bounds the stretch's length.
  unfoldable pub first_within : ℕ → ℕ → ℕ → Option (List ℕ)
  first_within zero i j = some []
  first_within (suc d) i j =
      cond (eqb i j) (some []) (first_some (λ k. linked_to i k (first_within d (suc i) k) (first_within d (suc k) j)) (j - suc i) (suc i))

  -- The partners from i on where i stays unlinked, with A of what stands behind it: i must be plain and at or below the target.
  unfoldable pub unlinked_at : Basic → ℕ → Option (List ℕ) → Option (List ℕ)
  unlinked_at s i behind =
      cond (leb i (length X) && same_exponent (simple_at X i).exponent (pos 0) && le (simple_at X i).base s) (map (λ (A : List ℕ). i ∷ A) behind) none

  -- The first partners of the string from i on: i stays unlinked if it can, and else takes the nearest partner that it can.
  unfoldable pub first_from : Basic → ℕ → ℕ → Option (List ℕ)
  first_from s zero i = none
  first_from s (suc d) i =
      let linked = first_some (λ k. linked_to i k (first_within d (suc i) k) (first_from s d (suc k))) (length X - i) (suc i) in
      elim (unlinked_at s i (first_within d (suc i) (suc (length X)))) [ none ↦ linked | some P ↦ some P ]

-- The first linking of X with target s, if there is one.
unfoldable pub first_linking : Test → Basic → PregroupType → Option (List ℕ)
first_linking le s X = first_from le X s (length X) 1
