-- A type at the first places of a list, place by place.
use Prim.Native.Nat.{ℕ, zero, suc, ◌+◌, ◌*◌, ◌/◌, ◌%◌, ◌≤◌, ◌<◌}
use native.Mathlib.Omega.{arith}
use mathlib.Core.Path.{◌≡◌, refl, sym, ap, ◌∙◌}
use mathlib.Core.List.{List, [], ◌∷◌}
use lib.ListN.{length, get_or}
use Rattle.figures.specs.Limits.{max_entry_simples}
use Rattle.pregroup.specs.Types.{PregroupType, plain, ◌⁽◌⁾}
use Rattle.pregroup.specs.Held.{held}
use Rattle.format.specs.Records.{Bytes}
use Rattle.notation.specs.Places.{Holds}
use Rattle.book.specs.declared.EntryType.{EntryType}
use Rattle.rules.specs.Layouts.{exponent_of, simples_of}
use Rattle.book.specs.Kept.{HeldType}
use Rattle.rules.proofs.Simples.{simple_from}

-- A type stands there where the k-th place holds the k-th simple type.
module _ {places : List ℕ} {X : PregroupType} where
  holds_from : ((k : ℕ) → k < length X → held (get_or {A = ℕ} places k 0) ≡ get_or X k (plain 0)) → Holds places 0 X
  holds_from h =
      record { each = λ k l. let from : 0 + k ≡ k = omega arith in ap (λ (i : ℕ). held (get_or {A = ℕ} places i 0)) from ∙ h k l }

-- The simple types of a type that stands as pairs of bytes.
pub simples_length : (part : Bytes) → length part % 2 ≡ 0 → length (simples_of part) ≡ length part / 2
unfolding simples_of
simples_length [] h = refl
simples_length (number ∷ []) h = absurd (omega arith)
simples_length (number ∷ exponent ∷ rest) h = let e = simples_length rest (omega arith) in omega arith

pub simple_at : (part : Bytes) (k : ℕ) → 2 * k + 1 < length part → get_or (simples_of part) k (plain 0) ≡ simple_from part (2 * k)
unfolding simples_of
simple_at [] k h = absurd (omega arith)
simple_at (number ∷ []) k h = absurd (omega arith)
simple_at (number ∷ exponent ∷ rest) zero h = refl
simple_at (number ∷ exponent ∷ rest) (suc k) h =
    let all = number ∷ exponent ∷ rest in
    let next : suc (suc (2 * k)) ≡ 2 * suc k = omega arith in
    let behind : suc (suc (2 * k + 1)) ≡ suc (suc (2 * k)) + 1 = omega arith in
    simple_at rest k (omega arith)
    ∙ ap (λ (i : ℕ). get_or {A = ℕ} rest (2 * k) 0 ⁽ exponent_of (get_or {A = ℕ} all i 0) ⁾) behind
    ∙ ap (λ (i : ℕ). simple_from all i) next

-- A type as the code holds it, place by place.
held_type :
    (t : EntryType) (X : PregroupType) → t.count ≡ length X → length X ≤ max_entry_simples
    → ((k : ℕ) → k < length X → held (get_or {A = ℕ} t.simples k 0) ≡ get_or X k (plain 0)) → HeldType t X
held_type t X size short each = record { count = size; short = short; simples = holds_from each }

pub pairs_held :
    (t : EntryType) (part : Bytes) → length part % 2 ≡ 0 → length part ≤ 2 * max_entry_simples → t.count ≡ length part / 2
    → ((k : ℕ) → k < t.count → held (get_or {A = ℕ} t.simples k 0) ≡ simple_from part (2 * k)) → HeldType t (simples_of part)
pairs_held t part pairs short size each =
    let all = simples_length part pairs in
    held_type t (simples_of part) (size ∙ sym all) (omega arith) (λ k l. each k (omega arith) ∙ sym (simple_at part k (omega arith)))
