-- The types of entries as they are held: how long they are, and that what holds a type is that type.
use Prim.Native.Nat.{ℕ, zero, suc, ◌+◌, ◌<◌}
use native.Mathlib.Omega.{arith}
use mathlib.Core.Path.{◌≡◌, refl, sym, ap, ap₂, ◌∙◌}
use mathlib.Core.List.{List, [], ◌∷◌}
use lib.Dec.{eqb}
use lib.ListN.{length, get_or}
use borrow.Author.Tests.{ne_eqb}
use Rattle.pregroup.specs.Types.{Simple, PregroupType, plain}
use Rattle.pregroup.specs.Held.{held}
use Rattle.book.specs.declared.EntryType.{EntryType}
use Rattle.book.specs.Kept.{HeldType}
use Rattle.graph.specs.Layout.{has_none}
use Rattle.slots.specs.Laying.{held_from, type_held}

pub held_length : (n i : ℕ) (l : List ℕ) → length (held_from n i l) ≡ n
unfolding held_from
held_length zero i l = refl
held_length (suc n) i l = ap suc (held_length n (suc i) l)

-- A type is empty where it has no places.
pub held_none : (n i : ℕ) (l : List ℕ) → has_none (held_from n i l) ≡ eqb n 0
unfolding held_from
held_none zero i l = refl
held_none (suc n) i l = sym (ne_eqb (suc n) 0 (λ e. omega arith))

held_from_lem : (X : PregroupType) (i : ℕ) (l : List ℕ) → ((k : ℕ) → k < length X → held (get_or {A = ℕ} l (i + k) 0) ≡ get_or X k (plain 0)) → held_from (length X) i l ≡ X
unfolding held_from
held_from_lem [] i l each = refl
held_from_lem (x ∷ X) i l each =
    let here : i + 0 ≡ i = omega arith in
    ap₂ (λ (y : Simple) (Y : PregroupType). y ∷ Y) (ap (λ (k : ℕ). held (get_or {A = ℕ} l k 0)) (sym here) ∙ each 0 (omega arith))
    (held_from_lem X (suc i) l (λ k h. let e : suc i + k ≡ i + suc k = omega arith in ap (λ (m : ℕ). held (get_or {A = ℕ} l m 0)) e ∙ each (suc k) (omega arith)))

pub held_type : {t : EntryType} {X : PregroupType} → HeldType t X → type_held t ≡ X
held_type {t} {X} h = ap (λ (n : ℕ). held_from n 0 t.simples) h.count ∙ held_from_lem X 0 t.simples h.simples.each
