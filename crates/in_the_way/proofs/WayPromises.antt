-- The outcome keeps every promise of specs/WayDemands.antt.
use Prim.Native.Nat.{ℕ, ◌<◌}
use native.Mathlib.Omega.{arith}
use mathlib.Core.Path.{◌≡◌, refl, sym, ap, subst, ◌∙◌}
use mathlib.Core.Logic.Iff
use mathlib.Core.Logic.{◌↔◌}
use mathlib.Core.Bool.{Bool, true, false, cond, false≢true}
use mathlib.Core.List.{List}
use mathlib.Core.Option.{Option, none, some}
use lib.Dec.{eqb}
use lib.ListN.{length}
use borrow.Author.Tests.{eqb-true, eqb-false, ne_eqb}
use Rattle.figures.specs.Refusals.{no_reading, Refused}
use Rattle.bits.specs.Bits.{Has}
use Rattle.bits.proofs.Cases.{none_some}
use Rattle.pregroup.specs.Tests.{Test, Decides}
use Rattle.order.specs.Closed.{below, DeclaredPairs}
use Rattle.order.proofs.Decision.{below_decides}
use Rattle.order.proofs.ClosureLaws.{closed_is_order}
use Rattle.format.specs.Records.{Bytes}
use Rattle.book.specs.Format.{Book, accepted, parse}
use Rattle.book.proofs.Accepted.{accepted_declares}
use Rattle.linking.specs.Reading.{Words, Answer, HasReading, reads_by, HasChain, first_reading, is_some, reads}
use Rattle.linking.specs.Ascending.{AllAscending}
use Rattle.linking.proofs.FirstReading.{first_reading_some, first_reading_none}
use Rattle.linking.proofs.Derivation.{reading_iff_chain}
use Rattle.line.specs.Remaining.{without, IsWithout}
use Rattle.line.proofs.Passed.{line_passing}
use Rattle.line.proofs.Remaining.{without_ascending, without_passes}
use Rattle.answer.specs.Answers.{Gives, LineAnswer}
use Rattle.reader.specs.Outcome.{outcome}
use Rattle.reader.specs.Demands.{OrderOf, Readable}
use Rattle.std.specs.Prelude.{Ok, Err}
use Rattle.reader.proofs.Given.{gives_promised}
use Rattle.reader.proofs.Unread.{first_of_book, unread_exactly, unread_line}
use Rattle.in_the_way.specs.declared.WayAnswer.{WayAnswer}
use Rattle.in_the_way.specs.declared.WayAnswer.TheVariants.{Ordinary, NoReading}
use Rattle.left_out.specs.LeftOut.{way_of}
use Rattle.in_the_way.specs.Way.{way_against, way_parsed, told, way_outcome}
use Rattle.in_the_way.specs.WayDemands.{ordinary, InTheWay, WayPromised}
use Rattle.left_out.proofs.WayLaws.{way_says, way_ends}

-- Words without a first reading, and words with one.
unread_says : (o : Option Answer) → (o ≡ none) ↔ (is_some o ≡ true → ⊥)
unread_says none = (λ e h. false≢true h, λ h. refl)
unread_says (some a) = (λ e. none_some (sym e), λ h. absurd (h refl))

-- Against an accepted book.
module _ (book : Bytes) (B : Book) (is-accepted : parse book ≡ accepted B) where
  abbrev le : Test
  le = below (length B.names) B.pairs

  declared : DeclaredPairs (length B.names) B.pairs
  declared = (accepted_declares book B is-accepted).pairs

  decides : Decides le (OrderOf B)
  decides = below_decides (length B.names) B.pairs declared

  reads_some : (words : Words) → AllAscending words → (o : Option Answer) → first_reading le B.targets words ≡ o → (is_some o ≡ true) ↔ HasReading (OrderOf B) B.targets words
  reads_some words a none e = (λ h. absurd (false≢true h), λ r. absurd (unread r))
    where
      unread : HasReading (OrderOf B) B.targets words → ⊥
      unread (reads_by {t} {ns} {P} r) = (first_reading_none decides a).0 e t ns P r
  reads_some words a (some x) e = (λ h. reads_by (first_reading_some decides a e).reading, λ r. refl)

  reads_reading : (words : Words) → AllAscending words → (reads le B.targets words ≡ true) ↔ HasReading (OrderOf B) B.targets words
  reads_reading words a = reads_some words a (first_reading le B.targets words) refl

  reading_chain : (words : Words) → HasReading (OrderOf B) B.targets words ↔ HasChain (OrderOf B) B.targets words
  reading_chain words = reading_iff_chain (closed_is_order declared) B.targets (accepted_declares book B is-accepted).targets words

-- A line that is read.
module _ (book line : Bytes) (B : Book) (words : Words) (r : Readable book line B words) where
  abbrev number : ℕ
  number = way_of (below (length B.names) B.pairs) B.targets words

  ascending : (k : ℕ) → AllAscending (without k words)
  ascending k = without_ascending k (line_passing B line words r.line_passed).ascending

  says : (k : ℕ) → k < length words → Has number k ↔ (reads (below (length B.names) B.pairs) B.targets (without k words) ≡ true)
  says k h = way_says _ _ words k h

  bit_reading : (k : ℕ) → k < length words → Has number k ↔ HasReading (OrderOf B) B.targets (without k words)
  bit_reading k h = Iff.trans (says k h) (reads_reading book B r.book_accepted (without k words) (ascending k))

  pub other_line : (k : ℕ) → k < length words → (other : Bytes) → IsWithout k line other → (lent : List ℕ)
      → ((outcome book other lent).answer ≡ Refused no_reading 0) ↔ (Has number k → ⊥)
  other_line k h other e lent =
      let readable : Readable book other B (without k words) = record { book_accepted = r.book_accepted; line_passed = without_passes B line other k words r.line_passed e } in
      let unread = Iff.trans (unread_exactly book other lent B (without k words) readable) (unread_says (first_of_book B (without k words))) in
      let set = says k h in
      (λ o s. unread.0 o (set.0 s), λ n. unread.1 (λ s. n (set.1 s)))

  pub in_the_way : InTheWay book line B words number
  in_the_way = record {
    reading = bit_reading;
    chain = λ k h. Iff.trans (bit_reading k h) (reading_chain book B r.book_accepted (without k words));
    no_more = λ k h. way_ends _ _ words k h;
    line_without = other_line;
  }

  pub number_is : way_parsed (parse book) line ≡ number
  unfolding way_parsed way_against
  number_is = rw (r.book_accepted, r.line_passed)

-- What an answer becomes.
module _ (w : ℕ) where
  by_number : (number value : ℕ) (b : Bool) → eqb number no_reading ≡ b → (number ≡ no_reading → value ≡ 0)
      → ordinary (cond b (NoReading w) (Ordinary (Refused number value))) ≡ Refused number value
  by_number n value true e h =
      let same = eqb-true n no_reading e in
      ap (λ (m : ℕ). Refused m 0) (sym same) ∙ ap (λ (v : ℕ). Refused n v) (sym (h same))
  by_number n value false e h = refl

  pub told_ordinary : (a : LineAnswer) → ((value : ℕ) → a ≡ Refused no_reading value → value ≡ 0) → ordinary (told w a) ≡ a
  unfolding told
  told_ordinary (Ok n) h = refl
  told_ordinary (Err r) h = by_number r.number r.value (eqb r.number no_reading) refl (λ e. h r.value (ap (λ (n : ℕ). Refused n r.value) e))

  pub told_fifteen : (value : ℕ) → told w (Refused no_reading value) ≡ NoReading w
  unfolding told
  told_fifteen value = refl

  pub told_other : (number value : ℕ) → (number ≡ no_reading → ⊥) → told w (Refused number value) ≡ Ordinary (Refused number value)
  unfolding told
  told_other number value d = rw (ne_eqb number no_reading d)

  pub told_read : (n : ℕ) → told w (Ok n) ≡ Ordinary (Ok n)
  unfolding told
  told_read n = refl

  same_way : {n m : ℕ} → NoReading n ≡ NoReading m → n ≡ m
  same_way e = cc

  pub other_way : {C : Type 0} {a : LineAnswer} {n : ℕ} → Ordinary a ≡ NoReading n → C
  other_way e = let z : ◌≡◌ {A = ℕ} 0 1 = cc in absurd (omega arith)

  told_number : (a : LineAnswer) (n : ℕ) → told w a ≡ NoReading n → n ≡ w
  unfolding told
  told_number (Ok m) n e = other_way e
  told_number (Err r) n e = go (eqb r.number no_reading) e
    where
      go : (b : Bool) → cond b (NoReading w) (Ordinary (Err r)) ≡ NoReading n → n ≡ w
      go true k = sym (same_way k)
      go false k = other_way k

  -- An ordinary refusal has another number than 15.
  pub ordinary_apart : (a : LineAnswer) (number value : ℕ) → told w a ≡ Ordinary (Refused number value) → number ≡ no_reading → ⊥
  unfolding told
  ordinary_apart (Ok m) number value e same = let z : ◌≡◌ {A = ℕ} 0 1 = cc in omega arith
  ordinary_apart (Err r) number value e same = go (eqb r.number no_reading) refl e
    where
      go : (b : Bool) → eqb r.number no_reading ≡ b → cond b (NoReading w) (Ordinary (Err r)) ≡ Ordinary (Refused number value) → ⊥
      go true q k = other_way (sym k)
      go false q k = let one : r.number ≡ number = cc in eqb-false r.number no_reading q (one ∙ same)

module _ (book line : Bytes) (buffer : List ℕ) where
  abbrev read : LineAnswer
  read = (outcome book line buffer).answer

  abbrev way : ℕ
  way = way_parsed (parse book) line

  same_answer : ordinary (told way read) ≡ read
  same_answer = told_ordinary way read (λ value e. (unread_line book line buffer value e).no_value)

  as_outcome : Gives (outcome book line buffer) (ordinary (told way read)) (outcome book line buffer).buffer
  as_outcome = record { returned = same_answer; left = refl }

  tells_way : (number : ℕ) → told way read ≡ NoReading number → (B : Book) × (words : Words) × Readable book line B words × InTheWay book line B words number
  tells_way number e =
      let refused : read ≡ Refused no_reading 0 = sym same_answer ∙ ap ordinary e in
      let u = unread_line book line buffer 0 refused in
      let same : number ≡ way_of (below (length u.contents.names) u.contents.pairs) u.contents.targets u.words = told_number way read number e ∙ number_is book line u.contents u.words u.readable in
      (u.contents, u.words, u.readable, subst (InTheWay book line u.contents u.words) (sym same) (in_the_way book line u.contents u.words u.readable))

  pub way_promised : WayPromised book line buffer (way_outcome book line buffer).answer (way_outcome book line buffer).buffer
  way_promised = record {
    as_read = as_outcome;
    promised = gives_promised book line buffer as_outcome;
    with_fifteen = (
      λ e. (way, ap (told way) (sym same_answer ∙ e) ∙ told_fifteen way 0),
      λ n. ap ordinary n.1,
    );
    tells = tells_way;
  }

  -- Whatever gives the outcome keeps the promises.
  pub gives_way_promised : {answer : WayAnswer} {after : List ℕ} → Gives (way_outcome book line buffer) answer after → WayPromised book line buffer answer after
  gives_way_promised {answer} {after} g =
      subst (λ (a : WayAnswer). WayPromised book line buffer a after) (sym g.returned)
      (subst (λ (l : List ℕ). WayPromised book line buffer (way_outcome book line buffer).answer l) (sym g.left) way_promised)
