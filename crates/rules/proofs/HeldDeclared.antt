-- A type at the first places of a list, place by place: whether its basic types are declared.
use Prim.Native.Nat.{ℕ, zero, suc, ◌+◌, ◌%◌, ◌≤◌, ◌<◌}
use native.Mathlib.Omega.{arith}
use mathlib.Core.Path.{◌≡◌, refl, sym, ap, ◌∙◌}
use mathlib.Core.List.{List, [], ◌∷◌}
use lib.ListN.{length, get_or, take}
use lib.Dec.{ltb}
use Rattle.std.specs.List.{list_all}
use Rattle.pregroup.specs.Types.{Simple, PregroupType, plain}
use Rattle.pregroup.specs.Held.{held}
use Rattle.pregroup.proofs.HeldLaws.{held_base}
use Rattle.format.specs.Records.{every}
use Rattle.notation.specs.Places.{Holds}
use Rattle.rules.specs.Rules.{bases, declared_among}

-- The k-th place holds the k-th simple type.
module _ {places : List ℕ} {X : PregroupType} where
  pub holds_at : Holds places 0 X → (k : ℕ) → k < length X → held (get_or {A = ℕ} places k 0) ≡ get_or X k (plain 0)
  holds_at h k l =
      let from : 0 + k ≡ k = omega arith in
      ap (λ (i : ℕ). held (get_or {A = ℕ} places i 0)) (sym from) ∙ h.each k l

-- So the test of the first places is that of all basic types.
bases_all :
    (places : List ℕ) (count types : ℕ) (X : PregroupType) → count ≤ length places → length X ≡ count
    → ((i : ℕ) → i < length X → get_or {A = ℕ} places i 0 % 256 ≡ (get_or X i (plain 0)).base)
    → list_all (λ (place : ℕ). ltb (place % 256) types) (take count places) ≡ every (declared_among types) (bases X)
unfolding every
bases_all places zero types [] few n h = refl
bases_all places zero types (x ∷ X) few n h = absurd (omega arith)
bases_all places (suc count) types [] few n h = absurd (omega arith)
bases_all [] (suc count) types (x ∷ X) few n h = absurd (omega arith)
bases_all (p ∷ places) (suc count) types (x ∷ X) few n h =
    rw (h 0 (omega arith), bases_all places count types X (omega arith) (omega arith) (λ i l. h (suc i) (omega arith)))

module _ (places : List ℕ) (count : ℕ) (few : count ≤ length places) (types : ℕ) (X : PregroupType) (n : length X ≡ count) (h : Holds places 0 X) where
  base_at : (i : ℕ) → i < length X → get_or {A = ℕ} places i 0 % 256 ≡ (get_or X i (plain 0)).base
  base_at i l = sym (held_base (get_or {A = ℕ} places i 0)) ∙ ap (λ (x : Simple). x.base) (holds_at h i l)

  pub held_all : list_all (λ (place : ℕ). ltb (place % 256) types) (take count places) ≡ every (declared_among types) (bases X)
  held_all = bases_all places count types X few n base_at
