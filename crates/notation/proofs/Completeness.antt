-- What stands at the front of a text is read, whatever stands behind it, if its brackets are not too deep and it does not go on.
use Prim.Native.Nat.{ℕ, zero, suc}
use native.Mathlib.Omega.{arith}
use mathlib.Core.Path.{◌≡◌, refl, ap, ◌∙◌}
use mathlib.Core.Bool.{true, false}
use mathlib.Core.Option.{Option, none, some}
use mathlib.Core.List.{[], ◌∷◌, ◌++◌, append_assoc}
use lib.Dec.{eqb, leb}
use borrow.Author.Tests.{ne_eqb, leb-true}
use Rattle.format.specs.Records.{Bytes, every}
use Rattle.format.specs.Names.{name_byte, is_name, name_front, name_behind}
use Rattle.format.proofs.Bools.{both}
use Rattle.notation.specs.Grammar.{opening, closing, slash, backslash, Tree, named, over, under, IsType}
use Rattle.notation.specs.Trees.{Front, front, name_at, closed_by, closed, unit_by, joined, second_by, behind_first, type_by, unit_at, type_at}
use Rattle.notation.proofs.Induction.{Inductive, all_types}
use Rattle.notation.proofs.Counting.{NameForm, name_form, Balanced, unit_balanced, Shallow, shallow_first, shallow_second, shallow_behind, shallow_inside, not_shallow}

-- What stands behind a name begins with no byte of a name.
abbrev EndsName : Bytes → Type 0
EndsName [] = Unit {0}
EndsName (b ∷ rest) = name_byte b ≡ false

-- What stands behind a type begins with no slash either.
abbrev pub EndsType : Bytes → Type 0
EndsType [] = Unit {0}
EndsType (b ∷ rest) = (name_byte b ≡ false) × (eqb b slash ≡ false) × (eqb b backslash ≡ false)

ends_name : (rest : Bytes) → EndsType rest → EndsName rest
ends_name [] e = tt
ends_name (b ∷ rest) e = e.0

front_is : (name rest : Bytes) → every name_byte name ≡ true → EndsName rest → name_front (name ++ rest) ≡ name
unfolding name_front every
front_is [] [] h e = refl
front_is [] (b ∷ rest) h e = rw e
front_is (b ∷ name) rest h e =
    let t = both (name_byte b) (every name_byte name) h in
    rw (t.0, front_is name rest t.1 e)

behind_is : (name rest : Bytes) → every name_byte name ≡ true → EndsName rest → name_behind (name ++ rest) ≡ rest
unfolding name_behind every
behind_is [] [] h e = refl
behind_is [] (b ∷ rest) h e = rw e
behind_is (b ∷ name) rest h e =
    let t = both (name_byte b) (every name_byte name) h in
    rw (t.0, behind_is name rest t.1 e)

name_read : (name rest : Bytes) → is_name name ≡ true → EndsName rest → name_at (name ++ rest) ≡ some (front (named name) rest)
unfolding name_at
name_read name rest h e =
    let bytes = (name_form name h).bytes in
    rw (front_is name rest bytes e, behind_is name rest bytes e, h)

-- A name is no opening bracket, so a unit that begins with it is read as a name.
unit_of_name : (type : Bytes → Option Front) (name rest : Bytes) → NameForm name → unit_by type (name ++ rest) ≡ name_at (name ++ rest)
unfolding unit_by
unit_of_name type [] rest f = absurd (omega (arith, f.some_bytes))
unit_of_name type (b ∷ name) rest f =
    let letter = leb-true 97 b (both (leb 97 b) (leb b 122) f.letter).0 in
    rw (ne_eqb b opening (omega arith), unit_by)

unit_at_name : (d : ℕ) (name rest : Bytes) → NameForm name → unit_at d (name ++ rest) ≡ name_at (name ++ rest)
unfolding unit_at
unit_at_name zero name rest f = unit_of_name (λ text. none) name rest f
unit_at_name (suc d) name rest f = unit_of_name (type_by (unit_at d)) name rest f

-- A unit, and a type, that is read wherever it stands.
abbrev UnitRead : Bytes → Tree → Type 0
UnitRead p T = (d : ℕ) → Shallow d p → (rest : Bytes) → EndsName rest → unit_at d (p ++ rest) ≡ some (front T rest)

abbrev TypeRead : Bytes → Tree → Type 0
TypeRead p T = (d : ℕ) → Shallow d p → (rest : Bytes) → EndsType rest → type_at d (p ++ rest) ≡ some (front T rest)

brackets_read : (text : Bytes) (T : Tree) → TypeRead text T → UnitRead (opening ∷ (text ++ (closing ∷ []))) T
unfolding unit_at unit_by closed closed_by name_byte
brackets_read text T h zero s rest e = absurd (not_shallow (text ++ (closing ∷ [])) s)
brackets_read text T h (suc d) s rest e =
    ap closed (ap (type_at d) (append_assoc text (closing ∷ []) rest) ∙ h d (shallow_inside d text s) (closing ∷ rest) (refl, refl, refl))

second_none : (unit : Bytes → Option Front) (A : Tree) (rest : Bytes) → EndsType rest → second_by unit A rest ≡ some (front A rest)
unfolding second_by
second_none unit A [] e = refl
second_none unit A (b ∷ rest) e = rw (e.1, second_by, e.2)

unit_read : (text : Bytes) (T : Tree) → UnitRead text T → TypeRead text T
unfolding behind_first
unit_read text T h d s rest e = ap (behind_first (unit_at d)) (h d s rest (ends_name rest e)) ∙ second_none (unit_at d) T rest e

slash_read : (a b : Bytes) (A B : Tree) → Balanced a → UnitRead a A → UnitRead b B → TypeRead (a ++ (slash ∷ b)) (over A B)
unfolding behind_first second_by joined name_byte
slash_read a b A B same h k d s rest e =
    let behind = shallow_behind d slash b refl refl (shallow_second d a (slash ∷ b) same s) in
    ap (type_at d) (append_assoc a (slash ∷ b) rest)
    ∙ ap (behind_first (unit_at d)) (h d (shallow_first d a (slash ∷ b) s) (slash ∷ (b ++ rest)) refl)
    ∙ ap (joined (λ X. over A X)) (k d behind rest (ends_name rest e))

backslash_read : (b a : Bytes) (B A : Tree) → Balanced b → UnitRead b B → UnitRead a A → TypeRead (b ++ (backslash ∷ a)) (under B A)
unfolding behind_first second_by joined name_byte
backslash_read b a B A same h k d s rest e =
    let behind = shallow_behind d backslash a refl refl (shallow_second d b (backslash ∷ a) same s) in
    ap (type_at d) (append_assoc b (backslash ∷ a) rest)
    ∙ ap (behind_first (unit_at d)) (h d (shallow_first d b (backslash ∷ a) s) (backslash ∷ (a ++ rest)) refl)
    ∙ ap (joined (λ X. under B X)) (k d behind rest (ends_name rest e))

all_read : Inductive UnitRead TypeRead
all_read = record {
  of_name = λ name h d s rest e. unit_at_name d name rest (name_form name h) ∙ name_read name rest h e;
  of_brackets = brackets_read;
  of_unit = unit_read;
  of_slash = λ a b A B u v h k. slash_read a b A B (unit_balanced u) h k;
  of_backslash = λ b a B A u v h k. backslash_read b a B A (unit_balanced u) h k;
}

-- A type with brackets no deeper than d is read where no byte of a name and no slash stands behind it.
pub type_complete :
    {p : Bytes} {T : Tree} → IsType p T → (d : ℕ) → Shallow d p → (rest : Bytes) → EndsType rest → type_at d (p ++ rest) ≡ some (front T rest)
type_complete t = all_types all_read t
