-- The results that everything here serves, each in full and proved elsewhere under the name on its last line. They go from the calculus to
-- linkings and readings, then to a book and the look-up of words in it, and end with what reading a line comes to.
use Prim.Native.Nat.{ℕ, ◌+◌, ◌≤◌, ◌<◌}
use mathlib.Core.Path.{◌≡◌}
use mathlib.Core.Bool.{true}
use mathlib.Core.Logic.{◌↔◌, ◌⊎◌}
use mathlib.Core.List.{List, [], ◌∷◌, ◌++◌, map, Memᴰ}
use mathlib.Core.Option.{none, some}
use lib.ListN.{length}
use Rattle.figures.specs.Limits.{max_book, max_types, max_targets}
use Rattle.figures.specs.Refusals.{Reply, exponent_outside, Refused}
use Rattle.pregroup.specs.Types.{Basic, PregroupType, plain, left_adjoint, right_adjoint}
use Rattle.pregroup.specs.Order.{Relation, IsOrder, AllDeclared}
use Rattle.pregroup.specs.Steps.{Chain, Contractions}
use Rattle.pregroup.specs.Vanish.{Vanish, Reduces}
use Rattle.pregroup.specs.Tests.{Test, Decides}
use Rattle.pregroup.proofs.General.{general, general_left}
use Rattle.pregroup.proofs.Switching.{switching, switching_contractions}
use Rattle.linking.specs.Linking.{IsLinking}
use Rattle.linking.specs.Reading.{Words, target_at, IsReading, HasReading, HasChain, IsFirst, answer, first_reading}
use Rattle.linking.specs.Ascending.{AllAscending}
use Rattle.linking.proofs.Reduction.{linking_iff_reduces}
use Rattle.linking.proofs.FirstReading.{first_reading_some, first_reading_none, first_reading_unique}
use Rattle.linking.proofs.Targets.{IsFirstFor, one_target_reads}
use Rattle.linking.proofs.Derivation.{reading_iff_chain}
use Rattle.order.specs.Closed.{Closed, Pair, Listed, DeclaredPairs, below, closed_count}
use Rattle.order.specs.Rows.{Hold, pairs_in}
use Rattle.order.proofs.Decision.{below_decides}
use Rattle.order.proofs.Counting.{pairs_in_closed}
use Rattle.format.specs.Records.{Bytes, record_of}
use Rattle.notation.specs.Grammar.{Tree, IsType}
use Rattle.notation.specs.Brackets.{TooDeep, too_deep}
use Rattle.notation.specs.Trees.{tree_of}
use Rattle.notation.proofs.BracketLaws.{deep_exactly}
use Rattle.notation.proofs.TreeLaws.{tree_sound, tree_complete, one_tree}
use Rattle.rules.specs.Layouts.{slashed, type_part}
use Rattle.rules.specs.Rules.{body_rules, first_broken}
use Rattle.book.specs.Format.{Book, accepted, parse, nothing_yet, records_from}
use Rattle.rules.specs.TextRules.{TextRuled}
use Rattle.book.specs.Check.{book_check, check_reply, BookPromised}
use Rattle.book.proofs.Parsing.{bound_never_ends}
use Rattle.book.proofs.Promises.{check_promised, one_answer}
use Rattle.rules.proofs.Slashed.{no_exponent_fault}
use Rattle.rules.proofs.TextRules.{text_ruled}
use Rattle.capitals.specs.Capitals.{small, small_bytes, same_word}
use Rattle.lookup.specs.Respelt.{DifferInCase}
use Rattle.capitals.proofs.CapitalLaws.{CapitalOf, NoCapital, alike_exactly, same_reflexive, same_symmetric, same_transitive, equal_words, same_without_capitals}
use Rattle.line.specs.LineFaults.{entries_of_line}
use Rattle.line.specs.Promise.{LookUpPromised}
use Rattle.line.proofs.PromiseLaws.{look_up_kept}
use Rattle.answer.specs.Answers.{outcome_reply}
use Rattle.reader.specs.Outcome.{outcome}
use Rattle.reader.specs.Demands.{OrderOf, Readable, Promised, LineNumber}
use Rattle.reader.proofs.Promises.{outcome_promised, refusals_within}
use Rattle.reader.proofs.Notations.{SameWithBoth, notation_outcome}
use Rattle.book.specs.Notation.{DifferInNotation}
use Rattle.reader.proofs.Capitals.{small_line_outcome, same_books_outcome}
use Rattle.reader.proofs.SeveralTargets.{one_target_outcome, repeated_target_outcome}
use Rattle.reader.proofs.Table.{Case, line_of, cases, lent, expected, paper_cases}

module _ {Declared : Basic → Type 0} {Le : Relation} (order : IsOrder Declared Le) where
  -- The general theorem: X can be turned into Y exactly when X with the right adjoint of Y behind it vanishes.
  pub general_theorem : (X Y : PregroupType) → AllDeclared Declared Y → Chain Le X Y ↔ Vanish Le (X ++ right_adjoint Y)
  general_theorem = general order

  -- By the left adjoint too: exactly when the left adjoint of Y with X behind it vanishes.
  pub general_theorem_left : (X Y : PregroupType) → AllDeclared Declared Y → Chain Le X Y ↔ Vanish Le (left_adjoint Y ++ X)
  general_theorem_left = general_left order

  -- The switching lemma: X reaches s exactly when contractions alone bring it to some plain q with q ≤ s.
  pub switching_lemma : (X : PregroupType) (s : Basic) → Declared s → Chain Le X (plain s ∷ []) ↔ ((q : Basic) × Contractions Le X (plain q ∷ []) × Le q s)
  switching_lemma = switching_contractions order

  -- The same by what vanishes: X reaches s exactly when everything in it but one plain q with q ≤ s links up.
  pub switching_by_links : (X : PregroupType) (s : Basic) → Declared s → Chain Le X (plain s ∷ []) ↔ Reduces Le s X
  switching_by_links = switching order

  -- A line has a reading exactly when the type of some choice can be turned into some target.
  pub reading_exactly_when_chain : (targets : List Basic) → ((t : ℕ) → t < length targets → Declared (target_at targets t)) → (words : Words)
      → HasReading Le targets words ↔ HasChain Le targets words
  reading_exactly_when_chain = reading_iff_chain order

-- A type has a linking exactly when everything in it but one plain type at or below the target links up.
pub linking_exactly_when_reduces : {Le : Relation} {s : Basic} {X : PregroupType} → Reduces Le s X ↔ ((P : List ℕ) × IsLinking Le s X P)
linking_exactly_when_reduces = linking_iff_reduces

module _ {le : Test} {Le : Relation} (decides : Decides le Le) {words : Words} (ascending : AllAscending words) {targets : List Basic} where
  -- What `first_reading` gives is the first reading.
  pub found_is_first : {t : ℕ} {ns P : List ℕ} → first_reading le targets words ≡ some (answer t ns P) → IsFirst Le targets words t ns P
  found_is_first = first_reading_some decides ascending

  -- It gives none exactly when there is no reading.
  pub none_exactly_when_unread : (first_reading le targets words ≡ none) ↔ ((t : ℕ) (ns P : List ℕ) → IsReading Le targets words t ns P → ⊥)
  none_exactly_when_unread = first_reading_none decides ascending

  -- The first reading is unique: any one is what it gives.
  pub first_is_unique : {t : ℕ} {ns P : List ℕ} → IsFirst Le targets words t ns P → first_reading le targets words ≡ some (answer t ns P)
  first_is_unique = first_reading_unique decides ascending

-- With one target the first reading is the one for that target, with 0 in front.
pub first_for_one_target : {Le : Relation} {s : Basic} {words : Words} {t : ℕ} {ns P : List ℕ}
    → IsFirst Le (s ∷ []) words t ns P ↔ ((t ≡ 0) × IsFirstFor Le s words ns P)
first_for_one_target = one_target_reads

-- The test of a book's order is right: it says yes exactly of what the closure of the pairs relates.
pub order_is_decided : (types : ℕ) (pairs : List Pair) → DeclaredPairs types pairs → Decides (below types pairs) (Closed types (Listed pairs))
order_is_decided = below_decides

-- Rows of bits that hold the closure have as many ones as it has pairs p ≤ q.
pub closure_is_counted : (types : ℕ) (pairs : List Pair) (rows : List ℕ) → types ≤ max_types → DeclaredPairs types pairs → Hold rows (Closed types (Listed pairs))
    → pairs_in rows ≡ closed_count types pairs
closure_is_counted = pairs_in_closed

module _ (book : Bytes) where
  -- What `book_check` defines keeps every promise made of the book check, and nothing else does.
  pub check_promises_kept : BookPromised book (check_reply (book_check book))
  check_promises_kept = check_promised book

  pub one_reply : (reply : Reply) → BookPromised book reply → reply ≡ check_reply (book_check book)
  one_reply = one_answer book

  -- The bound in `records_from` is never what ends a book.
  pub bound_is_enough : (more : ℕ) → length book ≤ more → records_from more book 0 nothing_yet ≡ records_from (length book) book 0 nothing_yet
  bound_is_enough = bound_never_ends book

-- Bytes that count as one: equal ones, and a capital and its small letter.
pub bytes_alike_exactly : (x y : ℕ) → (small x ≡ small y) ↔ ((x ≡ y) ⊎ (CapitalOf x y ⊎ CapitalOf y x))
bytes_alike_exactly = alike_exactly

-- Sameness of words is an equivalence that holds of equal bytes, and without capitals of no others.
pub sameness_reflexive : (a : Bytes) → same_word a a ≡ true
sameness_reflexive = same_reflexive

pub sameness_symmetric : (a b : Bytes) → same_word a b ≡ true → same_word b a ≡ true
sameness_symmetric = same_symmetric

pub sameness_transitive : (a b c : Bytes) → same_word a b ≡ true → same_word b c ≡ true → same_word a c ≡ true
sameness_transitive = same_transitive

pub equal_bytes_are_the_same : (a b : Bytes) → a ≡ b → same_word a b ≡ true
equal_bytes_are_the_same = equal_words

pub no_others_without_capitals : (a b : Bytes) → NoCapital a → NoCapital b → same_word a b ≡ true → a ≡ b
no_others_without_capitals = same_without_capitals

-- Books that differ only in the case of their entries' words give every line the same outcome.
pub case_of_a_book : (a b : Bytes) → DifferInCase a b → (line : Bytes) (buffer : List ℕ) → outcome a line buffer ≡ outcome b line buffer
case_of_a_book = same_books_outcome

-- Types written with slashes (document 02, 2.5). No text has two trees.
pub one_tree_of_a_text : {text : Bytes} {T U : Tree} → IsType text T → IsType text U → T ≡ U
one_tree_of_a_text = one_tree

-- The computed tree of a text is its tree by the grammar.
pub computed_tree_exactly : (text : Bytes) (T : Tree) → (tree_of text ≡ some T) ↔ IsType text T
computed_tree_exactly text T = (tree_sound text T, tree_complete text T)

-- The test for 19 is exact.
pub too_deep_exactly : (text : Bytes) → (too_deep text ≡ true) ↔ TooDeep text
too_deep_exactly = deep_exactly

-- A slashed entry breaks 19, 20, 5 and 21 exactly when the grammar says so of its text, and 6 only with 19.
pub rules_of_a_text : (body : Bytes) (names : List Bytes) (entries targets : ℕ)
    → TextRuled names (type_part body) (λ n. Memᴰ (n, true) (body_rules slashed body names entries targets))
rules_of_a_text = text_ruled

-- So 6 is never the first that a slashed entry breaks.
pub no_six_for_a_text : (body : Bytes) (names : List Bytes) (entries targets : ℕ) → first_broken (body_rules slashed body names entries targets) ≡ exponent_outside → ⊥
no_six_for_a_text = no_exponent_fault

-- Books that differ only in that entries of kind 3 stand as slashed entries of the same type give every line the same outcome, or are refused with the
-- same number.
pub notation_of_a_book : (a b : Bytes) → DifferInNotation nothing_yet a b → length a ≤ max_book → length b ≤ max_book → SameWithBoth a b
notation_of_a_book = notation_outcome

-- The look-up of a line's words finds exactly the entries of each, all of them, in the book's order, and 13, 14 and the choice go by what it finds.
pub look_up_is_exact : (B : Book) (line : Bytes) → LookUpPromised B line (entries_of_line B line)
look_up_is_exact = look_up_kept

module _ (book line : Bytes) (buffer : List ℕ) where
  -- A line has the outcome that it has with its capitals made small.
  pub case_of_a_line : outcome book line buffer ≡ outcome book (small_bytes line) buffer
  case_of_a_line = small_line_outcome book line buffer

  -- What `outcome` defines keeps every promise made of an answer and the buffer.
  pub promises_kept : Promised book line buffer (outcome book line buffer).answer (outcome book line buffer).buffer
  promises_kept = outcome_promised book line buffer

  -- A refusal has a number from 1 to 16 or from 19 to 21; 0 stands for success.
  pub refusals_of_a_line : (number value : ℕ) → (outcome book line buffer).answer ≡ Refused number value → LineNumber number
  refusals_of_a_line = refusals_within book line buffer

-- A book with one target takes the readings that it takes for this target, with 0 in front of the values.
pub one_target_answers : (book line : Bytes) (B : Book) (words : Words) (s : Basic) → Readable book line B words → B.targets ≡ s ∷ [] → (ns P buffer : List ℕ)
    → IsFirstFor (OrderOf B) s words ns P → 3 + length ns + length P ≤ length buffer
    → outcome_reply (outcome book line buffer) ≡ record { number = 0; values = 0 ∷ length ns ∷ (ns ++ (length P ∷ P)) }
one_target_answers = one_target_outcome

-- A target repeated at the end of a book changes no outcome.
pub repeated_target_changes_nothing : (book : Bytes) (B : Book) (t : ℕ) → parse book ≡ accepted B → t < length B.targets → length B.targets < max_targets
    → length book + 5 ≤ max_book → (line : Bytes) (buffer : List ℕ)
    → outcome (book ++ record_of 4 (target_at B.targets t ∷ [])) line buffer ≡ outcome book line buffer
repeated_target_changes_nothing = repeated_target_outcome

-- The marked cases of the paper come to what its table says.
pub marked_cases : map (λ (c : Case). outcome c.book (line_of c.words) lent) cases ≡ map (λ (c : Case). expected c.reading) cases
marked_cases = paper_cases
