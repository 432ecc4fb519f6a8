-- Of document 01, "When the screen says no", causes 2 to 9, with document 02's 19 to 21: the rules for one record. They stand with their numbers in
-- `kind_rules`, `body_rules` and `record_rules`, and the first of them that is broken counts.
use Rattle.std.specs.Prelude.{ℕ, ◌+◌, Bool, true, cond, not, ◌||◌, List, [], ◌∷◌, map, leb, ltb, eqb, ℤ, pos, negsuc, length}
use Rattle.std.proofs.Math.Option.{none, some}
use Rattle.figures.specs.Limits.{max_types, max_entries, max_targets, max_entry_simples, max_exponent}
use Rattle.figures.specs.Refusals.{cut_short, kind_not_listed, bad_layout, undeclared_type, exponent_outside, name_used, too_many_targets, too_many_records, brackets_too_deep, not_a_type, type_too_long}
use Rattle.pregroup.specs.Types.{Basic, Simple, PregroupType}
use Rattle.format.specs.Records.{Bytes, every, head_length, kind_at, body_at, next_at}
use Rattle.format.specs.Names.{is_name, is_among}
use Rattle.notation.specs.Brackets.{too_deep}
use Rattle.notation.specs.Trees.{has_tree, text_type}
use Rattle.rules.specs.Layouts.{Kind, basic_type, order_pair, entry, target, slashed_entry, kind_of, type_part, simples_of, is_worded, is_entry}

-- What the rules ask of type numbers, exponents and names.

abbrev pub bases : PregroupType → List Basic
bases X = map (λ (x : Simple). x.base) X

abbrev pub exponents : PregroupType → List ℤ
exponents X = map (λ (x : Simple). x.exponent) X

abbrev pub declared_among : ℕ → Basic → Bool
declared_among types number = ltb number types

-- −8 to 8.
unfoldable pub exponent_listed : ℤ → Bool
exponent_listed (pos n) = leb n max_exponent
exponent_listed (negsuc n) = ltb n max_exponent

-- The rules for a record of each kind that is there whole, in the order in which they are tried: a number, and whether the record is refused with it.
-- Of the records before it they look at the names of the basic types, the number of entries, and that of targets.
abbrev pub kind_rules : Kind → Bytes → List Bytes → ℕ → ℕ → List (ℕ × Bool)
kind_rules basic_type body names entries targets =
    (bad_layout, not (is_name body))
    ∷ (name_used, is_among names body)
    ∷ (too_many_records, leb max_types (length names))
    ∷ []
kind_rules order_pair body names entries targets =
    (bad_layout, not (eqb (length body) 2))
    ∷ (undeclared_type, not (every (declared_among (length names)) body))
    ∷ []
kind_rules entry body names entries targets =
    let simples = simples_of (type_part body) in
    (bad_layout, not (is_entry body))
    ∷ (undeclared_type, not (every (declared_among (length names)) (bases simples)))
    ∷ (exponent_outside, not (every exponent_listed (exponents simples)))
    ∷ (too_many_records, leb max_entries entries)
    ∷ []
kind_rules target body names entries targets =
    (bad_layout, not (eqb (length body) 1))
    ∷ (undeclared_type, not (every (declared_among (length names)) body))
    ∷ (too_many_targets, leb max_targets targets)
    ∷ []
kind_rules slashed_entry body names entries targets =
    let part = type_part body in
    let meant = text_type names part in
    (bad_layout, not (is_worded body))
    ∷ (brackets_too_deep, too_deep part)
    ∷ (not_a_type, not (has_tree part))
    ∷ (undeclared_type, not (every (declared_among (length names)) (bases meant)))
    ∷ (exponent_outside, not (every exponent_listed (exponents meant)))
    ∷ (type_too_long, ltb max_entry_simples (length meant))
    ∷ (too_many_records, leb max_entries entries)
    ∷ []

-- The same by the number in the record's head.
unfoldable pub body_rules : ℕ → Bytes → List Bytes → ℕ → ℕ → List (ℕ × Bool)
body_rules number body names entries targets =
    elim (kind_of number) [ none ↦ (kind_not_listed, true) ∷ [] | some kind ↦ kind_rules kind body names entries targets ]

-- The rules for the record at an offset.
unfoldable pub record_rules : Bytes → ℕ → List Bytes → ℕ → ℕ → List (ℕ × Bool)
record_rules bytes at names entries targets =
    (cut_short, ltb (length bytes) (at + head_length) || ltb (length bytes) (next_at bytes at))
    ∷ body_rules (kind_at bytes at) (body_at bytes at) names entries targets

-- Within a record the first rule that it breaks: its number, or 0.
unfoldable pub first_broken : List (ℕ × Bool) → ℕ
first_broken [] = 0
first_broken (rule ∷ rules) = cond rule.1 rule.0 (first_broken rules)
