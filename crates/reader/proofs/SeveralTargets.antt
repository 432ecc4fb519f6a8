-- What a book's targets change, and what not: with one target a line takes the reading that it takes for this target, with 0 in front; a
-- target repeated at the end changes nothing.
use Prim.Native.Nat.{ℕ, ◌+◌, ◌≤◌, ◌<◌}
use native.Mathlib.Omega.{arith}
use mathlib.Core.Path.{◌≡◌, refl, sym, ap, ◌∙◌}
use mathlib.Core.List.{List, [], ◌∷◌, ◌++◌}
use mathlib.Core.Option.{Option, some}
use lib.ListN.{length, drop}
use lib.Seq.{take-append_seam}
use Rattle.figures.specs.Limits.{max_book, max_targets}
use Rattle.pregroup.specs.Types.{Basic}
use Rattle.order.specs.Closed.{below}
use Rattle.format.specs.Records.{Bytes, record_of}
use Rattle.book.specs.Format.{Book, Parsed, accepted, parse}
use Rattle.book.proofs.Accepted.{accepted_declares}
use Rattle.book.proofs.TargetAdded.{with_target, target_added}
use Rattle.linking.specs.Reading.{Words, Answer, answer, target_at, IsFirst}
use Rattle.linking.proofs.Targets.{IsFirstFor, one_target_reads, repeated_target}
use Rattle.line.specs.LineWords.{Word, words_of}
use Rattle.line.specs.LineFaults.{LineCheck, passed, stopped, entry_fault, line_check}
use Rattle.answer.specs.Answers.{LineAnswer, outcome_reply, line_reply, values_of, given}
use Rattle.reader.specs.Outcome.{read_against, read_parsed, outcome}
use Rattle.reader.specs.Demands.{OrderOf, Readable}
use Rattle.reader.proofs.Promises.{Given, too_short, enough, given_is, values_count, of_first, outcome_read}

-- What an answer that fits comes to.
enough_reply : {a : Answer} {buffer : List ℕ} {r : LineAnswer} {after : List ℕ} → length (values_of a) ≤ length buffer → Given buffer (some a) r after
    → line_reply r after ≡ record { number = 0; values = values_of a }
enough_reply h (too_short l) = absurd (omega arith)
enough_reply {a} {buffer} h (enough l) = ap (λ (values : List ℕ). record { number = 0; values = values }) (take-append_seam (values_of a) (drop (length (values_of a)) buffer))

pub one_target_outcome : (book line : Bytes) (B : Book) (words : Words) (s : Basic) → Readable book line B words → B.targets ≡ s ∷ [] → (ns P buffer : List ℕ)
    → IsFirstFor (OrderOf B) s words ns P → 3 + length ns + length P ≤ length buffer
    → outcome_reply (outcome book line buffer) ≡ record { number = 0; values = 0 ∷ length ns ∷ (ns ++ (length P ∷ P)) }
one_target_outcome book line B words s r only ns P buffer f room =
    let first : IsFirst (OrderOf B) B.targets words 0 ns P = rw only (one_target_reads.1 (refl, f)) in
    let a = answer 0 ns P in
    ap outcome_reply (outcome_read book line B words r buffer ∙ ap (λ (o : Option Answer). given o buffer) (of_first book line B words r first))
    ∙ enough_reply {a = a} (omega (arith, values_count a)) (given_is buffer (some a))

module _ (B : Book) (t : ℕ) (there : t < length B.targets) (line : Bytes) (buffer : List ℕ) where
  repeated : Book
  repeated = with_target B (target_at B.targets t)

  against_repeated : (c : LineCheck) → read_against repeated c buffer ≡ read_against B c buffer
  unfolding read_against repeated
  against_repeated (stopped number value) = refl
  against_repeated (passed words) = ap (λ (o : Option Answer). given o buffer) (repeated_target (below (length B.names) B.pairs) words B.targets t there)

  -- The check of a line looks at the entries alone.
  faults_repeated : (words : List Word) → entry_fault repeated words ≡ entry_fault B words
  unfolding entry_fault repeated
  faults_repeated [] = refl
  faults_repeated (w ∷ words) = rw (faults_repeated words)

  checked_repeated : line_check repeated line ≡ line_check B line
  unfolding line_check repeated
  checked_repeated = rw (faults_repeated (words_of line))

  read_repeated : read_parsed (accepted repeated) line buffer ≡ read_parsed (accepted B) line buffer
  unfolding read_parsed
  read_repeated = against_repeated (line_check repeated line) ∙ ap (λ (c : LineCheck). read_against B c buffer) checked_repeated

pub repeated_target_outcome : (book : Bytes) (B : Book) (t : ℕ) → parse book ≡ accepted B → t < length B.targets → length B.targets < max_targets
    → length book + 5 ≤ max_book → (line : Bytes) (buffer : List ℕ)
    → outcome (book ++ record_of 4 (target_at B.targets t ∷ [])) line buffer ≡ outcome book line buffer
unfolding repeated
repeated_target_outcome book B t parsed there few room line buffer =
    let declared = (accepted_declares book B parsed).targets t there in
    ap (λ (p : Parsed). read_parsed p line buffer) (target_added book B (target_at B.targets t) parsed declared few room)
    ∙ read_repeated B t there line buffer ∙ ap (λ (p : Parsed). read_parsed p line buffer) (sym parsed)
