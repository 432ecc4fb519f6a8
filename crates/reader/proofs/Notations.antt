-- Books that differ only in notation give every line the same outcome; and document 01's first book with every type in slashes.
use Prim.Native.Nat.{ℕ, ◌≤◌}
use native.Mathlib.Omega.{arith}
use mathlib.Core.Path.{◌≡◌, refl, sym, ap, ◌∙◌}
use mathlib.Core.Logic.{◌⊎◌, inl, inr}
use mathlib.Core.List.{List, [], ◌∷◌, ◌++◌}
use lib.ListN.{length}
use Rattle.figures.specs.Limits.{max_book}
use Rattle.format.specs.Records.{Bytes, every, same_bytes}
use Rattle.format.specs.Names.{name_byte, is_name, name_front, name_behind, number_of}
use Rattle.pregroup.specs.Types.{adjoint_by}
use Rattle.notation.specs.Grammar.{opening, closing, slash, backslash, meaning}
use Rattle.notation.specs.Brackets.{deep_behind}
use Rattle.notation.specs.Trees.{name_at, closed_by, closed, unit_by, joined, second_by, behind_first, unit_at, whole_by, whole, tree_of, is_some, meaning_of}
use Rattle.rules.specs.Layouts.{exponent_of, simples_of}
use Rattle.book.specs.Format.{Parsed, refused, parse, nothing_yet, add}
use Rattle.book.specs.Notation.{DifferInNotation, same_rest, same_record, in_slashes, AlikeParsed, both_accepted, both_refused}
use Rattle.book.proofs.Notation.{notation_alike}
use Rattle.book.proofs.PaperBooks.{join, types, slashed_record, target_record, first_book, fetch, bed4, ward7, urgently, admit, site, go, please}
use Rattle.reader.specs.Outcome.{read_parsed, outcome}

-- Every line has the same outcome with both, or both are refused with the same number.
abbrev pub SameWithBoth : Bytes → Bytes → Type 0
SameWithBoth a b =
    ((line : Bytes) (buffer : List ℕ) → outcome a line buffer ≡ outcome b line buffer)
    ⊎ ((number v w : ℕ) × (parse a ≡ refused number v) × (parse b ≡ refused number w))

alike_same : (a b : Bytes) {p q : Parsed} → parse a ≡ p → parse b ≡ q → AlikeParsed p q → SameWithBoth a b
alike_same a b e f both_accepted = inl (λ line buffer. ap (λ (p : Parsed). read_parsed p line buffer) (e ∙ sym f))
alike_same a b e f (both_refused {number} {v} {w}) = inr (number, v, w, e, f)

pub notation_outcome : (a b : Bytes) → DifferInNotation nothing_yet a b → length a ≤ max_book → length b ≤ max_book → SameWithBoth a b
notation_outcome a b d short brief = alike_same a b refl refl (notation_alike a b d short brief)

-- The entries of the first book as the linguists write them.
abbrev slashed_entries : List Bytes
slashed_entries =
    slashed_record fetch (111 ∷ slash ∷ 112 ∷ [])
    ∷ slashed_record fetch (opening ∷ 111 ∷ slash ∷ 119 ∷ closing ∷ slash ∷ 112 ∷ [])
    ∷ slashed_record bed4 (112 ∷ [])
    ∷ slashed_record ward7 (117 ∷ [])
    ∷ slashed_record urgently (111 ∷ backslash ∷ 111 ∷ [])
    ∷ slashed_record admit (111 ∷ slash ∷ 117 ∷ [])
    ∷ slashed_record site (119 ∷ [])
    ∷ slashed_record go (111 ∷ [])
    ∷ slashed_record please (111 ∷ slash ∷ 111 ∷ [])
    ∷ []

abbrev pub slashed_book : Bytes
slashed_book = join (types ++ (target_record 0 ∷ slashed_entries))

first_in_slashes : DifferInNotation nothing_yet first_book slashed_book
unfolding exponent_of simples_of name_byte is_name every same_bytes number_of deep_behind name_front name_behind name_at closed_by closed unit_by joined second_by behind_first unit_at whole_by whole tree_of is_some adjoint_by meaning meaning_of add
first_in_slashes =
    same_record 1 (111 ∷ [])
    (same_record 1 (112 ∷ [])
    (same_record 1 (119 ∷ [])
    (same_record 1 (117 ∷ [])
    (same_record 2 (3 ∷ 2 ∷ [])
    (same_record 4 (0 ∷ [])
    (in_slashes fetch (0 ∷ 0 ∷ 1 ∷ 255 ∷ []) (111 ∷ slash ∷ 112 ∷ []) refl (omega arith) refl refl refl
    (in_slashes fetch (0 ∷ 0 ∷ 2 ∷ 255 ∷ 1 ∷ 255 ∷ []) (opening ∷ 111 ∷ slash ∷ 119 ∷ closing ∷ slash ∷ 112 ∷ []) refl (omega arith) refl refl refl
    (in_slashes bed4 (1 ∷ 0 ∷ []) (112 ∷ []) refl (omega arith) refl refl refl
    (in_slashes ward7 (3 ∷ 0 ∷ []) (117 ∷ []) refl (omega arith) refl refl refl
    (in_slashes urgently (0 ∷ 1 ∷ 0 ∷ 0 ∷ []) (111 ∷ backslash ∷ 111 ∷ []) refl (omega arith) refl refl refl
    (in_slashes admit (0 ∷ 0 ∷ 3 ∷ 255 ∷ []) (111 ∷ slash ∷ 117 ∷ []) refl (omega arith) refl refl refl
    (in_slashes site (2 ∷ 0 ∷ []) (119 ∷ []) refl (omega arith) refl refl refl
    (in_slashes go (0 ∷ 0 ∷ []) (111 ∷ []) refl (omega arith) refl refl refl
    (in_slashes please (0 ∷ 0 ∷ 0 ∷ 255 ∷ []) (111 ∷ slash ∷ 111 ∷ []) refl (omega arith) refl refl refl same_rest))))))))))))))

pub the_first_book_in_slashes : SameWithBoth first_book slashed_book
the_first_book_in_slashes = notation_outcome first_book slashed_book first_in_slashes (omega arith) (omega arith)
