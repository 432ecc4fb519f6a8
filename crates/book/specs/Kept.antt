-- What the code keeps of a book while it reads it: where each basic type's and each entry's record starts, the order pairs as rows, the
-- targets, and how far it has come.
use Rattle.std.specs.Prelude.{Result, Ok, Err, ℕ, ◌%◌, ◌≤◌, ◌<◌, ◌≡◌, true, false, List, map, length, get_or, take}
use Rattle.pregroup.specs.Held.{InRows}
use Rattle.order.specs.Closed.{Within, Listed}
use Rattle.figures.specs.Limits.{max_types, max_entries, max_targets, max_book, max_entry_simples}
use Rattle.figures.specs.declared.refusals.Cause.{Cause}
use Rattle.figures.specs.declared.refusals.Refusal.{Refusal}
use Rattle.figures.specs.Refusals.{number_of}
use Rattle.order.specs.Rows.{Hold}
use Rattle.format.specs.Records.{Bytes, every, kind_at, body_at, next_at, bodies_at, Whole}
use Rattle.format.specs.Names.{name_places, Named}
use Rattle.notation.specs.Brackets.{too_deep}
use Rattle.notation.specs.Trees.{has_tree}
use Rattle.notation.specs.Places.{Holds}
use Rattle.pregroup.specs.Types.{PregroupType}
use Rattle.rules.specs.Layouts.{entry, kind_number, slashed, type_part, is_worded}
use Rattle.rules.specs.Rules.{declared_among, bases, exponents, exponent_listed, first_broken}
use Rattle.book.specs.Format.{Book, Entry, accepted, refused, parse, entry_of, next_rules, with_next}
use Rattle.book.specs.declared.EntryType.{EntryType}
use Rattle.book.specs.declared.Progress.{Progress}
use Rattle.book.specs.declared.Counts.{Counts}

-- The entry whose record starts at an offset, where basic types have these names.
abbrev pub entry_from : Bytes → List Bytes → ℕ → Entry
entry_from bytes names at = entry_of (kind_at bytes at) names (body_at bytes at)

-- The entries whose records start at the first offsets.
abbrev pub entries_at : Bytes → List Bytes → List ℕ → ℕ → List Entry
entries_at bytes names offsets count = map (entry_from bytes names) (take count offsets)

-- The bytes of a type are as its entry's kind has them: simple types of two bytes each, or a text with a tree.
pub data Shaped : ℕ → Bytes → Type 0 where
  as_simples : {part : Bytes} → length part % 2 ≡ 0 → Shaped (kind_number entry) part
  as_text : {part : Bytes} → too_deep part ≡ false → has_tree part ≡ true → Shaped slashed part

-- At an offset stands an entry with a word, with declared types, with exponents from −8 to 8, and with no more than 12 simple types.
pub record Formed (bytes : Bytes) (names : List Bytes) (at : ℕ) : Type 0 where
  pub worded : is_worded (body_at bytes at) ≡ true
  pub shaped : Shaped (kind_at bytes at) (type_part (body_at bytes at))
  pub declared : every (declared_among (length names)) (bases (entry_from bytes names at).type) ≡ true
  pub listed : every exponent_listed (exponents (entry_from bytes names at).type) ≡ true
  pub short : length (entry_from bytes names at).type ≤ max_entry_simples

-- At the first offsets stand such entries.
abbrev pub AllFormed : Bytes → List Bytes → List ℕ → ℕ → Type 0
AllFormed bytes names offsets count = (i : ℕ) → i < count → Formed bytes names (get_or {A = ℕ} offsets i 0)

-- A type as the code holds it.
pub record HeldType (t : EntryType) (X : PregroupType) : Type 0 where
  pub count : t.count ≡ length X
  pub short : length X ≤ max_entry_simples
  pub simples : Holds t.simples 0 X

-- What the lent arrays hold: the offsets of the basic types' records and of the entries' records, the order pairs as rows, and the targets'
-- numbers of basic types.
pub record Store : Type 0 where
  pub names : List ℕ
  pub entries : List ℕ
  pub direct : List ℕ
  pub targets : List ℕ

abbrev pub store : List ℕ → List ℕ → List ℕ → List ℕ → Store
store names entries direct targets = record { names = names; entries = entries; direct = direct; targets = targets }

-- There is room for all that a book may have.
pub record StoreRoomy (s : Store) : Type 0 where
  pub names_room : name_places ≤ length s.names
  pub entries_room : max_entries ≤ length s.entries
  pub rows : length s.direct ≡ max_types
  pub targets_room : max_targets ≤ length s.targets

-- The rows hold no pair yet.
abbrev pub NoPairs : List ℕ → Type 0
NoPairs direct = (p q : ℕ) → InRows direct p q → ⊥

-- The first targets are declared.
abbrev pub TargetsDeclared : List ℕ → ℕ → ℕ → Type 0
TargetsDeclared targets types count = (i : ℕ) → i < count → get_or {A = ℕ} targets i 0 < types

-- What is kept of the entries, the order pairs and the targets lies within its limits, with room for more, and names declared basic types only.
pub record EntriesSound (bytes : Bytes) (names : List Bytes) (offsets : List ℕ) (count : ℕ) : Type 0 where
  pub room : max_entries ≤ length offsets
  pub few : count ≤ max_entries
  pub whole : Whole bytes offsets count
  pub formed : AllFormed bytes names offsets count

pub record PairsSound (direct : List ℕ) (types : ℕ) : Type 0 where
  pub rows : length direct ≡ max_types
  pub within : Within types (InRows direct)

pub record TargetsSound (targets : List ℕ) (types count : ℕ) : Type 0 where
  pub room : max_targets ≤ length targets
  pub few : count ≤ max_targets
  pub declared : TargetsDeclared targets types count

-- All that is kept is sound.
pub record Sound (bytes : Bytes) (s : Store) (p : Progress) : Type 0 where
  pub short : length bytes ≤ max_book
  pub reached : p.at ≤ length bytes
  pub names : Named bytes s.names p.types
  pub entries : EntriesSound bytes (bodies_at bytes s.names p.types) s.entries p.entries
  pub pairs : PairsSound s.direct p.types
  pub targets : TargetsSound s.targets p.types p.targets

-- What is kept stands for B.
pub record Keeps (bytes : Bytes) (s : Store) (p : Progress) (B : Book) : Type 0 where
  pub names : B.names ≡ bodies_at bytes s.names p.types
  pub pairs : Hold s.direct (Listed B.pairs)
  pub entries : B.entries ≡ entries_at bytes B.names s.entries p.entries
  pub targets : B.targets ≡ take p.targets s.targets

-- The number that the record at an offset, behind records that hold B, is refused with, or 0.
abbrev pub next_fault : Bytes → ℕ → Book → ℕ
next_fault bytes at B = first_broken (next_rules bytes at B)

-- A record taken in: s and p become s' and p'.
pub record Taking (bytes : Bytes) (s : Store) (p : Progress) (s' : Store) (p' : Progress) : Type 0 where
  pub sound : Sound bytes s' p'
  pub on : p'.at ≡ next_at bytes p.at
  pub right : (B : Book) → Keeps bytes s p B → (next_fault bytes p.at B ≡ 0) × Keeps bytes s' p' (with_next bytes p.at B)

-- A record refused with a number.
pub record Refusing (bytes : Bytes) (s : Store) (p : Progress) (number : ℕ) : Type 0 where
  pub some_number : number ≡ 0 → ⊥
  pub faulty : (B : Book) → Keeps bytes s p B → next_fault bytes p.at B ≡ number

abbrev pub TakenSays : Bytes → Store → Progress → Store → Result Progress Cause → Type 0
TakenSays bytes s p s' (Ok p') = Taking bytes s p s' p'
TakenSays bytes s p s' (Err cause) = Refusing bytes s p (number_of cause)

-- What is kept of an accepted book B.
pub record Opened (bytes : Bytes) (s : Store) (types count goals : ℕ) (B : Book) : Type 0 where
  pub parsed : parse bytes ≡ accepted B
  pub few_entries : count ≤ max_entries
  pub named : Named bytes s.names types
  pub entries_whole : Whole bytes s.entries count
  pub formed : AllFormed bytes (bodies_at bytes s.names types) s.entries count
  pub some_target : 0 < goals
  pub few_targets : goals ≤ max_targets
  pub targets_declared : TargetsDeclared s.targets types goals
  pub within : Within types (InRows s.direct)
  pub names : B.names ≡ bodies_at bytes s.names types
  pub pairs : Hold s.direct (Listed B.pairs)
  pub entries : B.entries ≡ entries_at bytes B.names s.entries count
  pub targets : B.targets ≡ take goals s.targets

abbrev pub ScanSays : Bytes → Store → Result Counts Refusal → Type 0
ScanSays bytes s (Ok counts) = (B : Book) × Opened bytes s counts.types counts.entries counts.targets B
ScanSays bytes s (Err refusal) = parse bytes ≡ refused refusal.number refusal.value
