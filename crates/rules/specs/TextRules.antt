-- Document 02, 2.5: which rules the text of a slashed entry breaks, by the grammar alone.
use Rattle.std.specs.Prelude.{ℕ, ◌<◌, ◌≡◌, false, ◌↔◌, List, length}
use Rattle.figures.specs.Limits.{max_entry_simples}
use Rattle.figures.specs.Refusals.{undeclared_type, exponent_outside, brackets_too_deep, not_a_type, type_too_long}
use Rattle.format.specs.Records.{Bytes}
use Rattle.format.specs.Names.{is_among}
use Rattle.notation.specs.Grammar.{Tree, named, over, under, IsType, meaning}
use Rattle.notation.specs.Brackets.{TooDeep}

-- A name stands in a tree.
pub data Names : Bytes → Tree → Type 0 where
  here : {name : Bytes} → Names name (named name)
  over_first : {name : Bytes} {A B : Tree} → Names name A → Names name (over A B)
  over_second : {name : Bytes} {A B : Tree} → Names name B → Names name (over A B)
  under_first : {name : Bytes} {B A : Tree} → Names name B → Names name (under B A)
  under_second : {name : Bytes} {B A : Tree} → Names name A → Names name (under B A)

-- Which rules a text breaks behind records that declare these names: 19, its brackets are too deep; 20, it has no tree; 5, a name in its tree is not
-- declared; 21, its tree means over 12 simple types. The tree may be of any depth. 6 is broken only with 19, which comes before it.
pub record TextRuled (names : List Bytes) (text : Bytes) (Broken : ℕ → Type 0) : Type 0 where
  pub is_too_deep : Broken brackets_too_deep ↔ TooDeep text
  pub no_type : Broken not_a_type ↔ ((T : Tree) → IsType text T → ⊥)
  pub undeclared : Broken undeclared_type ↔ ((T : Tree) × IsType text T × ((name : Bytes) × Names name T × (is_among names name ≡ false)))
  pub too_long : Broken type_too_long ↔ ((T : Tree) × IsType text T × (max_entry_simples < length (meaning names T)))
  pub no_exponent : Broken exponent_outside → TooDeep text
