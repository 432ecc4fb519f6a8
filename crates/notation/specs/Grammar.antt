-- Document 02, 2.5: types written with slashes. Which texts are a type or a unit, and of which tree; and what a tree means.
use Rattle.std.specs.Prelude.{ℕ, ◌≡◌, true, List, [], ◌∷◌, ◌++◌}
use Rattle.pregroup.specs.Types.{PregroupType, plain, left_adjoint, right_adjoint}
use Rattle.format.specs.Records.{Bytes}
use Rattle.format.specs.Names.{is_name, number_of}

-- The bytes ( ) / \.
abbrev pub opening : ℕ
opening = 40

abbrev pub closing : ℕ
closing = 41

abbrev pub slash : ℕ
slash = 47

abbrev pub backslash : ℕ
backslash = 92

-- What a type is put together from (the functional types of a categorial grammar): names, A/B and B\A. Brackets leave no trace.
pub data Tree : Type 0 where
  named : Bytes → Tree
  over : Tree → Tree → Tree
  under : Tree → Tree → Tree

mutual
  -- A type is a unit, or two units with one slash between.
  pub data IsType : Bytes → Tree → Type 0 where
    alone : {text : Bytes} {T : Tree} → IsUnit text T → IsType text T
    with_slash : {a b : Bytes} {A B : Tree} → IsUnit a A → IsUnit b B → IsType (a ++ (slash ∷ b)) (over A B)
    with_backslash : {b a : Bytes} {B A : Tree} → IsUnit b B → IsUnit a A → IsType (b ++ (backslash ∷ a)) (under B A)

  -- A unit is a name, or a type in brackets.
  pub data IsUnit : Bytes → Tree → Type 0 where
    a_name : {name : Bytes} → is_name name ≡ true → IsUnit name (named name)
    in_brackets : {text : Bytes} {T : Tree} → IsType text T → IsUnit (opening ∷ (text ++ (closing ∷ []))) T

-- The type that a tree means where basic types have these names: A/B is A, then B's left adjoint; B\A is B's right adjoint, then A.
unfoldable pub meaning : List Bytes → Tree → PregroupType
meaning names (named name) = plain (number_of names name) ∷ []
meaning names (over A B) = meaning names A ++ left_adjoint (meaning names B)
meaning names (under B A) = right_adjoint (meaning names B) ++ meaning names A
