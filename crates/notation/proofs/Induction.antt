-- Induction over units and types together.
use mathlib.Core.Path.{◌≡◌}
use mathlib.Core.Bool.{true}
use mathlib.Core.List.{[], ◌∷◌, ◌++◌}
use Rattle.format.specs.Records.{Bytes}
use Rattle.format.specs.Names.{is_name}
use Rattle.notation.specs.Grammar.{opening, closing, slash, backslash, Tree, named, over, under, IsType, IsUnit, alone, with_slash, with_backslash, a_name, in_brackets}

-- U holds of units and P of types, if each follows from the parts; of two units it may be known that they are such.
pub record Inductive (U P : Bytes → Tree → Type 0) : Type 0 where
  pub of_name : (name : Bytes) → is_name name ≡ true → U name (named name)
  pub of_brackets : (text : Bytes) (T : Tree) → P text T → U (opening ∷ (text ++ (closing ∷ []))) T
  pub of_unit : (text : Bytes) (T : Tree) → U text T → P text T
  pub of_slash : (a b : Bytes) (A B : Tree) → IsUnit a A → IsUnit b B → U a A → U b B → P (a ++ (slash ∷ b)) (over A B)
  pub of_backslash : (b a : Bytes) (B A : Tree) → IsUnit b B → IsUnit a A → U b B → U a A → P (b ++ (backslash ∷ a)) (under B A)

module _ {U P : Bytes → Tree → Type 0} (i : Inductive U P) where
  pub all_units : {text : Bytes} {T : Tree} → IsUnit text T → U text T
  all_units w = elim w as (λ text T t. P text T) (λ text T t. U text T) [
    | alone {text} {T} (u → h) ↦ i.of_unit text T h
    | with_slash {a} {b} {A} {B} (u → h) (v → k) ↦ i.of_slash a b A B u v h k
    | with_backslash {b} {a} {B} {A} (u → h) (v → k) ↦ i.of_backslash b a B A u v h k
    | a_name {name} e ↦ i.of_name name e
    | in_brackets {text} {T} (t → h) ↦ i.of_brackets text T h
  ]

  pub all_types : {text : Bytes} {T : Tree} → IsType text T → P text T
  all_types (alone {text} {T} u) = i.of_unit text T (all_units u)
  all_types (with_slash {a} {b} {A} {B} u v) = i.of_slash a b A B u v (all_units u) (all_units v)
  all_types (with_backslash {b} {a} {B} {A} u v) = i.of_backslash b a B A u v (all_units u) (all_units v)
