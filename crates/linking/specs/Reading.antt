-- Document 01, "A reading": choices of a line, its readings, which of them comes first, and that one as antt computes it.
use Rattle.std.specs.Prelude.{ℕ, suc, ◌<◌, Bool, true, false, length, get_or}
use Rattle.std.proofs.Math.Option.{Option, none, some, map}
use mathlib.Core.List.{List, [], ◌∷◌, ◌++◌, Memᴰ}
use Rattle.pregroup.specs.Types.{Basic, PregroupType, plain}
use Rattle.pregroup.specs.Order.{Relation}
use Rattle.pregroup.specs.Steps.{Chain}
use Rattle.pregroup.specs.Tests.{Test}
use Rattle.linking.specs.Linking.{IsLinking, AtMost, first_linking}

-- An entry as a line sees it: its number in the book, and its type.
pub record NumberedEntry : Type 0 where
  pub number : ℕ
  pub type : PregroupType

-- The words of a line, each by its entries in the book's order.
abbrev pub Words : Type 0
Words = List (List NumberedEntry)

-- A choice takes for each word one entry of that word, and joins their types in the line's order: the entries' numbers and the joined type.
pub data Choice : Words → List ℕ → PregroupType → Type 0 where
  empty : Choice [] [] []
  take : {e : NumberedEntry} {es : List NumberedEntry} {rest : Words} {ns : List ℕ} {X : PregroupType}
      → Memᴰ e es → Choice rest ns X → Choice (es ∷ rest) (e.number ∷ ns) (e.type ++ X)

-- The target with this number.
abbrev pub target_at : List Basic → ℕ → Basic
target_at targets t = get_or targets t 0

-- The type that a target stands for: its one basic type, plain.
abbrev pub target_type : Basic → PregroupType
target_type s = plain s ∷ []

-- A reading (document 02, 2.4): the number of a target, the entry numbers of a choice, and a linking of its type with that target.
pub record IsReading (Le : Relation) (targets : List Basic) (words : Words) (t : ℕ) (ns P : List ℕ) : Type 0 where
  pub target_there : t < length targets
  pub type : PregroupType
  pub chosen : Choice words ns type
  pub linking : IsLinking Le (target_at targets t) type P

-- The words have a reading.
pub data HasReading (Le : Relation) (targets : List Basic) (words : Words) : Type 0 where
  reads_by : {t : ℕ} {ns P : List ℕ} → IsReading Le targets words t ns P → HasReading Le targets words

-- Some choice of entries can be turned into some target.
pub record HasChain (Le : Relation) (targets : List Basic) (words : Words) : Type 0 where
  pub target : ℕ
  pub target_there : target < length targets
  pub entries : List ℕ
  pub type : PregroupType
  pub chosen : Choice words entries type
  pub chain : Chain Le type (target_type (target_at targets target))

-- The first reading: at most every reading, by the target's number, then by the entry list and then by the partner list. The entry lists of a
-- line are all of one length, so the three are compared as one list.
pub record IsFirst (Le : Relation) (targets : List Basic) (words : Words) (t : ℕ) (ns P : List ℕ) : Type 0 where
  pub reading : IsReading Le targets words t ns P
  pub least : (t' : ℕ) (ns' P' : List ℕ) → IsReading Le targets words t' ns' P' → AtMost (t ∷ (ns ++ P)) (t' ∷ (ns' ++ P'))

-- What is answered: a target's number, entry numbers and partner list.
pub record Answer : Type 0 where
  pub target : ℕ
  pub entries : List ℕ
  pub partners : List ℕ

abbrev pub answer : ℕ → List ℕ → List ℕ → Answer
answer t ns P = record { target = t; entries = ns; partners = P }

-- For one target: entry numbers and partner list.
abbrev pub Selection : Type 0
Selection = List ℕ × List ℕ

-- The first entry of a word by which the rest, with this entry's type behind X, has a selection.
unfoldable pub first_entry : (PregroupType → Option Selection) → PregroupType → List NumberedEntry → Option Selection
first_entry rest X [] = none
first_entry rest X (e ∷ es) = elim (rest (X ++ e.type)) [ none ↦ first_entry rest X es | some a ↦ some (e.number ∷ a.0, a.1) ]

-- The first choice of the words whose type, joined behind X, has a linking with target s; and its first linking.
unfoldable pub first_behind : Test → Basic → Words → PregroupType → Option Selection
first_behind le s [] X = elim (first_linking le s X) [ none ↦ none | some P ↦ some ([], P) ]
first_behind le s (es ∷ words) X = first_entry (λ Y. first_behind le s words Y) X es

-- The same for a whole line.
abbrev pub first_for : Test → Basic → Words → Option Selection
first_for le s words = first_behind le s words []

-- The same with the target's number one more.
abbrev pub raised : Answer → Answer
raised a = answer (suc a.target) a.entries a.partners

-- What the first of some targets gives, and otherwise what the others give, whose numbers are one more.
unfoldable pub first_target : Option Selection → Option Answer → Option Answer
first_target (some a) others = some (answer 0 a.0 a.1)
first_target none others = map raised others

-- The first reading of a line, if there is one: for the first target that has one.
unfoldable pub first_reading : Test → List Basic → Words → Option Answer
first_reading le [] words = none
first_reading le (s ∷ targets) words = first_target (first_for le s words) (first_reading le targets words)

-- Whether a line has a reading, for some target.
abbrev pub is_some : Option Answer → Bool
is_some none = false
is_some (some a) = true

abbrev pub reads : Test → List Basic → Words → Bool
reads le targets words = is_some (first_reading le targets words)
