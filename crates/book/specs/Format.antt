-- Document 01, "The book's bytes" and, of "When the screen says no", causes 1 and 10 and the order of records: what any list of bytes is as a book.
-- The rules for a record are those of `record_rules`, in the crate `rules`; within a record the first of them that is broken counts, and the earliest
-- bad record decides.
use Rattle.std.specs.Prelude.{ℕ, zero, suc, Bool, cond, List, [], ◌∷◌, ◌++◌, ltb, eqb, length, get_or}
use Rattle.std.proofs.Math.Option.{none, some}
use Rattle.figures.specs.Limits.{max_book}
use Rattle.figures.specs.Refusals.{book_too_long, no_target}
use Rattle.pregroup.specs.Types.{Basic, PregroupType}
use Rattle.order.specs.Closed.{Pair}
use Rattle.format.specs.Records.{Bytes, kind_at, body_at, next_at}
use Rattle.notation.specs.Trees.{text_type}
use Rattle.rules.specs.Layouts.{Kind, basic_type, order_pair, entry, target, slashed_entry, kind_number, kind_of, word_of, type_part, simples_of, slashed}
use Rattle.rules.specs.Rules.{record_rules, first_broken}

-- An entry (the lexical entry of a pregroup lexicon): a word with one of its types.
pub record Entry : Type 0 where
  pub word : Bytes
  pub type : PregroupType

-- A book (a pregroup lexicon with its order and its start types): the names of its basic types, its order pairs, its entries and its
-- targets. Basic types, entries and targets are numbered from 0 as they stand. A target is a basic type and stands for its plain type.
pub record Book : Type 0 where
  pub names : List Bytes
  pub pairs : List Pair
  pub entries : List Entry
  pub targets : List Basic

-- What a list of bytes is as a book: accepted, or refused with a number and the value returned with it.
pub data Parsed : Type 0 where
  accepted : Book → Parsed
  refused : ℕ → ℕ → Parsed

-- The type that stands as these bytes in an entry whose kind has this number, where basic types have these names.
abbrev pub part_type : ℕ → List Bytes → Bytes → PregroupType
part_type number names part = cond (eqb number slashed) (text_type names part) (simples_of part)

abbrev pub entry_of : ℕ → List Bytes → Bytes → Entry
entry_of number names body = record { word = word_of body; type = part_type number names (type_part body) }

-- A book of which nothing has been read.
abbrev pub nothing_yet : Book
nothing_yet = record { names = []; pairs = []; entries = []; targets = [] }

abbrev pub with_entry : Book → Entry → Book
with_entry B x = record { names = B.names; pairs = B.pairs; entries = B.entries ++ (x ∷ []); targets = B.targets }

-- What a record of each kind holds, put behind what the records before it hold.
abbrev pub add_kind : Kind → Bytes → Book → Book
add_kind basic_type body B = record { names = B.names ++ (body ∷ []); pairs = B.pairs; entries = B.entries; targets = B.targets }
add_kind order_pair body B =
    let pair : Pair = record { lower = get_or {A = ℕ} body 0 0; upper = get_or {A = ℕ} body 1 0 } in
    record { names = B.names; pairs = B.pairs ++ (pair ∷ []); entries = B.entries; targets = B.targets }
add_kind entry body B = with_entry B (entry_of (kind_number entry) B.names body)
add_kind target body B = record { names = B.names; pairs = B.pairs; entries = B.entries; targets = B.targets ++ (get_or {A = ℕ} body 0 0 ∷ []) }
add_kind slashed_entry body B = with_entry B (entry_of (kind_number slashed_entry) B.names body)

-- The same by the number in the record's head. A record whose kind is not listed holds nothing.
unfoldable pub add : ℕ → Bytes → Book → Book
add number body B = elim (kind_of number) [ none ↦ B | some kind ↦ add_kind kind body B ]

-- The record at an offset behind those that hold B: its rules, and what they hold with it.
abbrev pub next_rules : Bytes → ℕ → Book → List (ℕ × Bool)
next_rules bytes at B = record_rules bytes at B.names (length B.entries) (length B.targets)

abbrev pub with_next : Bytes → ℕ → Book → Book
with_next bytes at B = add (kind_at bytes at) (body_at bytes at) B

-- The book's end: without a target it is refused.
unfoldable pub ended : Bytes → Book → Parsed
ended bytes B = cond (eqb (length B.targets) 0) (refused no_target (length bytes)) (accepted B)

-- The records from an offset on, behind those that hold B. The first number bounds how many there can be.
unfoldable pub records_from : ℕ → Bytes → ℕ → Book → Parsed
records_from zero bytes at B = ended bytes B
records_from (suc more) bytes at B =
    let fault = first_broken (next_rules bytes at B) in
    let rest = records_from more bytes (next_at bytes at) (with_next bytes at B) in
    cond (ltb at (length bytes)) (cond (eqb fault 0) rest (refused fault at)) (ended bytes B)

-- A record takes at least four bytes, so a book has fewer records than bytes.
unfoldable pub parse : Bytes → Parsed
parse bytes = cond (ltb max_book (length bytes)) (refused book_too_long 0) (records_from (length bytes) bytes 0 nothing_yet)
