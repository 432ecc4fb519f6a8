-- The outcome keeps every promise of specs/Demands.antt, and every refusal has a number of a line or of its book.
use Prim.Native.Nat.{ℕ, ◌≤◌, ◌<◌}
use native.Mathlib.Omega.{arith}
use mathlib.Core.Path.{◌≡◌, refl, sym, ap, subst, ◌∙◌}
use mathlib.Core.Logic.Iff
use mathlib.Core.Logic.{◌↔◌, ◌⊎◌, inl, inr}
use mathlib.Core.Bool.{Bool, true, false, cond}
use mathlib.Core.List.{List, ◌∷◌, ◌++◌}
use mathlib.Core.Option.{Option, none, some}
use lib.Dec.{ltb}
use lib.ListN.{length, get_or, drop, length-append}
use lib.Seq.{take-append_seam}
use borrow.Author.Tests.{ltb-true, ltb-false}
use Rattle.figures.specs.Refusals.{Reply, refusal, no_reading, buffer_too_short, Refused}
use Rattle.bits.proofs.Cases.{some_same, none_some}
use Rattle.pregroup.specs.Tests.{Decides}
use Rattle.order.specs.Closed.{below, DeclaredPairs}
use Rattle.order.proofs.Decision.{below_decides}
use Rattle.order.proofs.ClosureLaws.{closed_is_order}
use Rattle.format.specs.Records.{Bytes}
use Rattle.book.specs.Format.{Book, Parsed, accepted, refused, parse}
use Rattle.book.proofs.Accepted.{accepted_declares}
use Rattle.linking.specs.Reading.{Words, Answer, answer, IsReading, HasChain, IsFirst, first_reading}
use Rattle.linking.specs.Ascending.{AllAscending}
use Rattle.linking.proofs.FirstReading.{first_reading_some, first_reading_none, first_reading_unique}
use Rattle.linking.proofs.Derivation.{unread_iff_no_chain}
use Rattle.line.specs.LineFaults.{LineCheck, passed, stopped, line_check}
use Rattle.line.proofs.Passed.{line_passing}
use Rattle.answer.specs.Answers.{LineAnswer, Outcome, line_reply, values_of, answer_length, given}
use Rattle.std.specs.Prelude.{Ok}
use Rattle.answer.proofs.GivenLaws.{read_refused, refused_number}
use Rattle.reader.specs.Outcome.{read_against, read_parsed, outcome}
use Rattle.reader.specs.Demands.{OrderOf, Readable, FirstWritten, TooShort, Promised, LineNumber}
use Rattle.reader.proofs.Refusals.{line_some, NamedParse, parse_named, NamedLine, line_named}

pub values_count : (a : Answer) → length (values_of a) ≡ answer_length (length a.entries) (length a.partners)
values_count a = let n = length-append a.entries (length a.partners ∷ a.partners) in omega arith

-- The three outcomes that `given` has.
pub data Given (buffer : List ℕ) : Option Answer → LineAnswer → List ℕ → Type 0 where
  no_answer : Given buffer none (Refused no_reading 0) buffer
  too_short : {a : Answer} → length buffer < length (values_of a) → Given buffer (some a) (Refused buffer_too_short (length (values_of a))) buffer
  enough : {a : Answer} → length (values_of a) ≤ length buffer → Given buffer (some a) (Ok (length (values_of a))) (values_of a ++ drop (length (values_of a)) buffer)

pub given_is : (buffer : List ℕ) (o : Option Answer) → Given buffer o (given o buffer).answer (given o buffer).buffer
unfolding given
given_is buffer none = no_answer
given_is buffer (some a) = go (ltb (length buffer) (length (values_of a))) refl
  where
    short : Outcome LineAnswer
    short = record { answer = Refused buffer_too_short (length (values_of a)); buffer = buffer }

    full : Outcome LineAnswer
    full = record { answer = Ok (length (values_of a)); buffer = values_of a ++ drop (length (values_of a)) buffer }

    go : (b : Bool) → ltb (length buffer) (length (values_of a)) ≡ b → Given buffer (some a) (cond b short full).answer (cond b short full).buffer
    go true q = too_short (ltb-true (length buffer) (length (values_of a)) q)
    go false q = enough (ltb-false (length buffer) (length (values_of a)) q)

pub other_number : {C : Type 0} {r : Reply} {n v : ℕ} → (r.number ≡ n → ⊥) → r ≡ refusal n v → C
other_number d e = absurd (d (ap (λ (x : Reply). x.number) e))

pub same_value : {n v w : ℕ} → refusal n v ≡ refusal n w → v ≡ w
same_value e = ap (λ (x : Reply). get_or x.values 0 0) e

given_named : {buffer : List ℕ} {o : Option Answer} {answer : LineAnswer} {after : List ℕ} → Given buffer o answer after → (number value : ℕ) → answer ≡ Refused number value
    → LineNumber number
given_named no_answer number value h = let same : no_reading ≡ number = refused_number h in inr (omega arith)
given_named (too_short l) number value h = let same : buffer_too_short ≡ number = refused_number h in inr (omega arith)
given_named (enough l) number value h = read_refused h

-- A book and a line that can be read.
module _ (book line : Bytes) (B : Book) (words : Words) (r : Readable book line B words) where
  abbrev pub types : ℕ
  types = length B.names

  abbrev pub first_of : Option Answer
  first_of = first_reading (below types B.pairs) B.targets words

  declared : DeclaredPairs types B.pairs
  declared = (accepted_declares book B r.book_accepted).pairs

  decides : Decides (below types B.pairs) (OrderOf B)
  decides = below_decides types B.pairs declared

  ascending : AllAscending words
  ascending = (line_passing B line words r.line_passed).ascending

  pub outcome_read : (buffer : List ℕ) → outcome book line buffer ≡ given first_of buffer
  unfolding read_parsed read_against
  outcome_read buffer = rw (r.book_accepted, r.line_passed)

  -- The first reading is what the definition gives.
  pub of_first : {t : ℕ} {entries partners : List ℕ} → IsFirst (OrderOf B) B.targets words t entries partners → first_of ≡ some (answer t entries partners)
  of_first f = first_reading_unique decides ascending f

  pub is_first : (a : Answer) → first_of ≡ some a → IsFirst (OrderOf B) B.targets words a.target a.entries a.partners
  is_first a e = first_reading_some decides ascending e

  first_none : first_of ≡ none → (t : ℕ) (entries partners : List ℕ) → IsReading (OrderOf B) B.targets words t entries partners → ⊥
  first_none e = (first_reading_none decides ascending).0 e

  none_iff : (first_of ≡ none) ↔ (HasChain (OrderOf B) B.targets words → ⊥)
  none_iff = unread_iff_no_chain (closed_is_order declared) B.targets (accepted_declares book B r.book_accepted).targets words decides ascending

  module _ {buffer : List ℕ} where
    untouched_of : {o : Option Answer} {answer : LineAnswer} {after : List ℕ} → Given buffer o answer after → ((line_reply answer after).number ≡ 0 → ⊥) → after ≡ buffer
    untouched_of no_answer h = refl
    untouched_of (too_short l) h = refl
    untouched_of (enough l) h = absurd (h refl)

    written_of : {o : Option Answer} {answer : LineAnswer} {after : List ℕ} → Given buffer o answer after → first_of ≡ o → (line_reply answer after).number ≡ 0
        → FirstWritten B words buffer (line_reply answer after).values after
    written_of no_answer e h = absurd (omega arith)
    written_of (too_short l) e h = absurd (omega arith)
    written_of (enough {a} l) e h =
        subst (λ (values : List ℕ). FirstWritten B words buffer values (values_of a ++ drop (length (values_of a)) buffer)) (sym (take-append_seam (values_of a) (drop (length (values_of a)) buffer)))
        (record { reading = record { reading = a; first = is_first a e; whole = refl }; room = l; behind = refl })

    counted_of : {o : Option Answer} {answer : LineAnswer} {after : List ℕ} → Given buffer o answer after → (n : ℕ) → answer ≡ Ok n → n ≡ length (line_reply answer after).values
    counted_of no_answer n h = read_refused (sym h)
    counted_of (too_short l) n h = read_refused (sym h)
    counted_of (enough {a} l) n h =
        let same : n ≡ length (values_of a) = cc in
        same ∙ sym (ap length (take-append_seam (values_of a) (drop (length (values_of a)) buffer)))

    -- A first reading that is too long is the one there is.
    count_of : {a : Answer} {v : ℕ} → first_of ≡ some a → TooShort B words buffer v → length (values_of a) ≡ v
    count_of {a} e t = values_count a ∙ ap (λ (b : Answer). answer_length (length b.entries) (length b.partners)) (some_same (sym e ∙ of_first t.first)) ∙ sym t.needed

    short_of : {o : Option Answer} {answer : LineAnswer} {after : List ℕ} → Given buffer o answer after → first_of ≡ o → (v : ℕ)
        → (line_reply answer after ≡ refusal buffer_too_short v) ↔ TooShort B words buffer v
    short_of no_answer e v = (λ h. other_number (omega arith) h, λ t. none_some (sym e ∙ of_first t.first))
    short_of (too_short {a} l) e v = (
      λ h.
          let q : length (values_of a) ≡ v = same_value h in
          subst (λ (m : ℕ). TooShort B words buffer m) q (record { reading = a; first = is_first a e; needed = values_count a; lent = l }),
      λ t. ap (refusal buffer_too_short) (count_of e t),
    )
    short_of (enough {a} l) e v = (λ h. other_number (omega arith) h, λ t. let q = count_of e t in let lent = t.lent in absurd (omega arith))

    unread_of : {o : Option Answer} {answer : LineAnswer} {after : List ℕ} → Given buffer o answer after → (line_reply answer after ≡ refusal no_reading 0) ↔ (o ≡ none)
    unread_of no_answer = (λ h. refl, λ h. refl)
    unread_of (too_short l) = (λ h. other_number (omega arith) h, λ h. none_some (sym h))
    unread_of (enough l) = (λ h. other_number (omega arith) h, λ h. none_some (sym h))

    found_of : {o : Option Answer} {answer : LineAnswer} {after : List ℕ} → Given buffer o answer after → first_of ≡ o → (o ≡ none → ⊥)
        → ((line_reply answer after).number ≡ 0) ⊎ ((v : ℕ) × TooShort B words buffer v)
    found_of no_answer e h = absurd (h refl)
    found_of (too_short {a} l) e h = inr (length (values_of a), record { reading = a; first = is_first a e; needed = values_count a; lent = l })
    found_of (enough {a} l) e h = inl refl

module _ (book line : Bytes) (buffer : List ℕ) where
  -- Either the book or the line was refused, or there is something to read.
  data Came : LineAnswer → List ℕ → Type 0 where
    refused_before : {number value : ℕ} → LineNumber number → Came (Refused number value) buffer
    came_to_read : {B : Book} {words : Words} {answer : LineAnswer} {after : List ℕ} (r : Readable book line B words)
        → Given buffer (first_of book line B words r) answer after → Came answer after

  came_by_line : (B : Book) → parse book ≡ accepted B → (c : LineCheck) → line_check B line ≡ c → NamedLine c → Came (read_against B c buffer).answer (read_against B c buffer).buffer
  unfolding read_against
  came_by_line B e (stopped number value) l named = refused_before {number = number} (inr (omega arith))
  came_by_line B e (passed words) l named = let r : Readable book line B words = record { book_accepted = e; line_passed = l } in came_to_read r (given_is buffer (first_of book line B words r))

  came_by_book : (p : Parsed) → parse book ≡ p → NamedParse p → Came (read_parsed p line buffer).answer (read_parsed p line buffer).buffer
  unfolding read_parsed
  came_by_book (refused number value) e named = refused_before {number = number} (inl named)
  came_by_book (accepted B) e named = came_by_line B e (line_check B line) refl (line_named B line)

  came : Came (outcome book line buffer).answer (outcome book line buffer).buffer
  came = came_by_book (parse book) refl (parse_named book)

  untouched_came : {answer : LineAnswer} {after : List ℕ} → Came answer after → ((line_reply answer after).number ≡ 0 → ⊥) → after ≡ buffer
  untouched_came (refused_before named) h = refl
  untouched_came (came_to_read {B} {words} r g) h = untouched_of book line B words r g h

  written_came : {answer : LineAnswer} {after : List ℕ} → Came answer after → (line_reply answer after).number ≡ 0
      → (B : Book) × (words : Words) × Readable book line B words × FirstWritten B words buffer (line_reply answer after).values after
  written_came (refused_before named) h = absurd (omega (arith, line_some named))
  written_came (came_to_read {B} {words} r g) h = (B, words, r, written_of book line B words r g refl h)

  counted_came : {answer : LineAnswer} {after : List ℕ} → Came answer after → (n : ℕ) → answer ≡ Ok n → n ≡ length (line_reply answer after).values
  counted_came (refused_before named) n h = read_refused (sym h)
  counted_came (came_to_read {B} {words} r g) n h = counted_of book line B words r g n h

  named_came : {answer : LineAnswer} {after : List ℕ} → Came answer after → (number value : ℕ) → answer ≡ Refused number value
      → LineNumber number
  named_came (refused_before {number = m} named) number value h = subst LineNumber (refused_number h) named
  named_came (came_to_read r g) number value h = given_named g number value h

  given_read : (B : Book) (words : Words) (r : Readable book line B words) → Given buffer (first_of book line B words r) (outcome book line buffer).answer (outcome book line buffer).buffer
  given_read B words r =
      subst (λ (x : Outcome LineAnswer). Given buffer (first_of book line B words r) x.answer x.buffer) (sym (outcome_read book line B words r buffer))
      (given_is buffer (first_of book line B words r))

  pub refusals_within : (number value : ℕ) → (outcome book line buffer).answer ≡ Refused number value → LineNumber number
  refusals_within = named_came came

  pub outcome_promised : Promised book line buffer (outcome book line buffer).answer (outcome book line buffer).buffer
  outcome_promised = record {
    untouched = untouched_came came;
    answered = written_came came;
    counted = counted_came came;
    found = λ B words r t entries partners reads. found_of book line B words r (given_read B words r) refl (λ z. first_none book line B words r z t entries partners reads);
    short = λ B words r v. short_of book line B words r (given_read B words r) refl v;
    unread = λ B words r. Iff.trans (unread_of book line B words r (given_read B words r)) (none_iff book line B words r);
  }
