-- The tree of a text as antt computes it: what stands at the front of a text is a unit or a type, or is none. A name goes as far as its bytes do.
use Rattle.std.specs.Prelude.{ℕ, zero, suc, ◌+◌, Bool, true, false, cond, List, [], ◌∷◌, eqb, length}
use Rattle.std.proofs.Math.Option.{Option, none, some}
use Rattle.pregroup.specs.Types.{PregroupType}
use Rattle.format.specs.Records.{Bytes}
use Rattle.format.specs.Names.{is_name, name_front, name_behind}
use Rattle.notation.specs.Grammar.{opening, closing, slash, backslash, Tree, named, over, under, meaning}
use Rattle.notation.specs.Brackets.{times, too_deep}

-- A tree at the front of a text, and what stands behind it.
pub record Front : Type 0 where
  pub tree : Tree
  pub behind : Bytes

abbrev pub front : Tree → Bytes → Front
front T behind = record { tree = T; behind = behind }

unfoldable pub name_at : Bytes → Option Front
name_at text = cond (is_name (name_front text)) (some (front (named (name_front text)) (name_behind text))) none

-- The closing bracket behind a tree.
unfoldable pub closed_by : Tree → Bytes → Option Front
closed_by T [] = none
closed_by T (b ∷ text) = cond (eqb b closing) (some (front T text)) none

unfoldable pub closed : Option Front → Option Front
closed none = none
closed (some f) = closed_by f.tree f.behind

-- A unit, by what reads the type in its brackets.
unfoldable pub unit_by : (Bytes → Option Front) → Bytes → Option Front
unit_by type [] = none
unit_by type (b ∷ text) = elim (eqb b opening) [ true ↦ closed (type text) | false ↦ name_at (b ∷ text) ]

-- The second unit, behind its slash.
unfoldable pub joined : (Tree → Tree) → Option Front → Option Front
joined f none = none
joined f (some u) = some (front (f u.tree) u.behind)

unfoldable pub second_by : (Bytes → Option Front) → Tree → Bytes → Option Front
second_by unit A [] = some (front A [])
second_by unit A (b ∷ text) = elim (eqb b slash) [
  | true ↦ joined (λ B. over A B) (unit text)
  | false ↦ elim (eqb b backslash) [ true ↦ joined (λ B. under A B) (unit text) | false ↦ some (front A (b ∷ text)) ]
]

-- A type, by what reads its units.
unfoldable pub behind_first : (Bytes → Option Front) → Option Front → Option Front
behind_first unit none = none
behind_first unit (some f) = second_by unit f.tree f.behind

abbrev pub type_by : (Bytes → Option Front) → Bytes → Option Front
type_by unit text = behind_first unit (unit text)

-- A unit, and a type, with brackets no deeper than d.
unfoldable pub unit_at : ℕ → Bytes → Option Front
unit_at zero = unit_by (λ text. none)
unit_at (suc d) = unit_by (type_by (unit_at d))

abbrev pub type_at : ℕ → Bytes → Option Front
type_at d = type_by (unit_at d)

-- A tree with nothing behind it.
unfoldable pub whole_by : Tree → Bytes → Option Tree
whole_by T [] = some T
whole_by T (b ∷ text) = none

unfoldable pub whole : Option Front → Option Tree
whole none = none
whole (some f) = whole_by f.tree f.behind

-- The tree of a text, if it has one. No text has deeper brackets than bytes.
unfoldable pub tree_of : Bytes → Option Tree
tree_of text = whole (type_at (length text) text)

unfoldable pub is_some : Option Tree → Bool
is_some none = false
is_some (some T) = true

abbrev pub has_tree : Bytes → Bool
has_tree text = is_some (tree_of text)

-- The type of a text, and where it has no tree the empty type.
unfoldable pub meaning_of : List Bytes → Option Tree → PregroupType
meaning_of names none = []
meaning_of names (some T) = meaning names T

abbrev pub text_type : List Bytes → Bytes → PregroupType
text_type names text = meaning_of names (tree_of text)

-- The same for a text whose brackets are not too deep; for any other the empty type.
abbrev pub shallow_type : List Bytes → Bytes → PregroupType
shallow_type names text = cond (too_deep text) [] (text_type names text)

-- How many slashes a text has, of either kind.
abbrev pub slashes : Bytes → ℕ
slashes text = times slash text + times backslash text
