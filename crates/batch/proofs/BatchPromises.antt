-- The outcome of a batch keeps every promise of specs/BatchDemands.antt, and its refusals are the book's, 17 and 18.
use Prim.Native.Nat.{ℕ, ◌≤◌, ◌<◌}
use native.Mathlib.Omega.{arith}
use mathlib.Core.Path.{◌≡◌, refl, sym, ap, subst, ◌∙◌}
use mathlib.Core.Bool.{Bool, true, false, cond}
use mathlib.Core.Logic.{◌↔◌, ◌⊎◌, inl, inr, ⊎_elim}
use mathlib.Core.List.{List, [], ◌∷◌, ◌++◌}
use mathlib.Core.Option.{Option, none, some}
use lib.Dec.{ltb}
use lib.ListN.{length, drop, replicate}
use borrow.Author.Tests.{ltb-true, ltb-false}
use Rattle.figures.specs.Limits.{max_batch, max_lines, max_values}
use Rattle.figures.specs.Refusals.{Reply, refusal, no_reading, bad_batch, answers_too_long, Refused}
use Rattle.bits.proofs.Cases.{some_same, none_some}
use Rattle.format.specs.Records.{Bytes}
use Rattle.book.specs.Format.{Book, Parsed, accepted, refused, parse}
use Rattle.linking.specs.Reading.{Words, HasChain}
use Rattle.answer.specs.Answers.{Outcome, Gives}
use Rattle.reader.specs.Demands.{OrderOf, Readable, TooShort}
use Rattle.reader.proofs.Refusals.{book_some, NamedParse, parse_named}
use Rattle.book.specs.Check.{BookNumber}
use Rattle.reader.proofs.Promises.{outcome_promised, other_number, same_value}
use Rattle.reader.proofs.Ample.{not_short, reading_within}
use Rattle.answer.proofs.GivenLaws.{refused_number}
use Rattle.batch.specs.Batch.{BatchAnswer, batch_reply, given_parts, read_lines, read_batch, batch_outcome}
use Rattle.std.specs.Prelude.{Ok}
use Rattle.batch_lines.specs.Lines.{lines_of, up_to, batch_lines, IsLines, IsBatch, BadBatch, more_bytes, more_lines, not_closed}
use Rattle.batch_parts.specs.Parts.{alone_reply, part_of, parts_of}
use Rattle.batch.specs.BatchDemands.{LineGets, Parts, no_part, part, GoodBatch, BatchWritten, BatchTooLong, BatchPromised}
use Rattle.batch_lines.proofs.LinesLaws.{lines_found, lines_are, not_closed_none, none_not_closed}
use Rattle.batch_parts.proofs.PartLaws.{zeros_long, alone_ample, alone_is}

-- What a line alone gets where any answer fits is what a line of a batch gets.

-- A first reading is never too long for them.
never_lent : {book line : Bytes} {B : Book} {words : Words} {lent : List ℕ} {v : ℕ} → Readable book line B words → max_values ≤ length lent → TooShort B words lent v → ⊥
never_lent r h t = omega (arith, reading_within r t.first.reading, t.needed, t.lent)

pub line_gets : (book line : Bytes) → LineGets book line (alone_reply book line)
line_gets book line =
    let promised = outcome_promised book line (replicate max_values 0) in
    record {
      alone = alone_ample book line;
      never_short = not_short (alone_is book line);
      answered = λ h. let a = promised.answered h in (a.0, a.1, a.2, a.3.reading);
      found = λ B words r t entries partners reads. ⊎_elim (λ e. e) (λ s. absurd (never_lent r zeros_long s.1)) (promised.found B words r t entries partners reads);
      unread = promised.unread;
    }

-- A part tells its reply.
part_tells : {one other : Reply} → part_of one ≡ part_of other → one ≡ other
part_tells {one} {other} e =
    let numbers : one.number ≡ other.number = cc in
    let values : one.values ≡ other.values = cc in
    ap (λ (n : ℕ). record { number = n; values = one.values }) numbers ∙ ap (λ (v : List ℕ). record { number = other.number; values = v }) values

pub part_unread : (book line : Bytes) (B : Book) (words : Words) → Readable book line B words → (part_of (alone_reply book line) ≡ part_of (refusal no_reading 0)) ↔ (HasChain (OrderOf B) B.targets words → ⊥)
part_unread book line B words r = let unread = (line_gets book line).unread B words r in (λ e. unread.0 (part_tells e), λ h. ap part_of (unread.1 h))

pub parts_are : (book : Bytes) (lines : List Bytes) → Parts book lines (parts_of book lines)
unfolding parts_of
parts_are book [] = no_part
parts_are book (line ∷ lines) = part (line_gets book line) (parts_are book lines)

-- The parts of lines are determined.
pub parts_same : {book : Bytes} {lines : List Bytes} {values : List ℕ} → Parts book lines values → values ≡ parts_of book lines
unfolding parts_of
parts_same no_part = refl
parts_same {book} (part {line} {lines} {reply} {values} g p) =
    ap (λ (r : Reply). part_of r ++ values) (sym (g.alone (replicate max_values 0) zeros_long)) ∙ ap (λ (l : List ℕ). part_of (alone_reply book line) ++ l) (parts_same p)

-- A buffer is bad, or these are its lines.
data Split (batch : Bytes) : Option (List Bytes) → Type 0 where
  bad_one : BadBatch batch → Split batch none
  good_one : {lines : List Bytes} → IsBatch batch lines → Split batch (some lines)

split_few : (batch : Bytes) → length batch ≤ max_batch → (o : Option (List Bytes)) → lines_of batch ≡ o → Split batch (up_to max_lines o)
split_few batch h none e = bad_one (not_closed (none_not_closed batch e))
split_few batch h (some lines) e = go (ltb max_lines (length lines)) refl
  where
    go : (t : Bool) → ltb max_lines (length lines) ≡ t → Split batch (cond t none (some lines))
    go true q = bad_one (more_lines (lines_are batch lines e) (ltb-true _ _ q))
    go false q = good_one (record { short = h; are_lines = lines_are batch lines e; few = ltb-false _ _ q })

split_batch : (batch : Bytes) → Split batch (batch_lines batch)
unfolding batch_lines
split_batch batch = go (ltb max_batch (length batch)) refl
  where
    go : (t : Bool) → ltb max_batch (length batch) ≡ t → Split batch (cond t none (up_to max_lines (lines_of batch)))
    go true q = bad_one (more_bytes (ltb-true _ _ q))
    go false q = split_few batch (ltb-false _ _ q) (lines_of batch) refl

good_of : {batch : Bytes} {lines : List Bytes} → Split batch (some lines) → IsBatch batch lines
good_of (good_one i) = i

pub batch_is : (batch : Bytes) {lines : List Bytes} → batch_lines batch ≡ some lines → IsBatch batch lines
batch_is batch e = good_of (subst (Split batch) e (split_batch batch))

pub is_or_bad : (batch : Bytes) → ((lines : List Bytes) × IsBatch batch lines) ⊎ BadBatch batch
is_or_bad batch = of (split_batch batch)
  where
    of : {o : Option (List Bytes)} → Split batch o → ((lines : List Bytes) × IsBatch batch lines) ⊎ BadBatch batch
    of (bad_one b) = inr b
    of (good_one {lines} i) = inl (lines, i)

lines_same : {batch : Bytes} {one other : List Bytes} → IsLines batch one → IsLines batch other → one ≡ other
lines_same i j = some_same (sym (lines_found i) ∙ lines_found j)

pub not_bad : {batch : Bytes} {lines : List Bytes} → IsBatch batch lines → BadBatch batch → ⊥
not_bad i (more_bytes l) = omega (arith, i.short)
not_bad i (more_lines j l) = let same = ap length (lines_same i.are_lines j) in omega (arith, i.few)
not_bad i (not_closed n) = none_some (sym (not_closed_none n) ∙ lines_found i.are_lines)

-- No book is refused with a batch's own numbers.
book_apart : {n : ℕ} → BookNumber n → (n ≡ bad_batch) ⊎ (n ≡ answers_too_long) → ⊥
book_apart named own =
    ⊎_elim (λ low. ⊎_elim (λ q. omega (arith, low.1)) (λ q. omega (arith, low.1)) own) (λ high. ⊎_elim (λ q. omega (arith, high.0)) (λ q. omega (arith, high.0)) own) named

accepted_refused : {C : Type 0} {p : Parsed} {B : Book} {number value : ℕ} → p ≡ accepted B → p ≡ refused number value → C
accepted_refused e f = let z : ◌≡◌ {A = ℕ} 0 1 = cc in absurd (omega arith)

module _ (book batch : Bytes) (buffer : List ℕ) where
  -- What the outcome came to, with its cause.
  data BatchCame : BatchAnswer → List ℕ → Type 0 where
    refused_batch : BadBatch batch → BatchCame (Refused bad_batch 0) buffer
    refused_book : {lines : List Bytes} {number value : ℕ} → IsBatch batch lines → parse book ≡ refused number value → BookNumber number
        → BatchCame (Refused number value) buffer
    too_many : {lines : List Bytes} {values : List ℕ} → GoodBatch book batch lines values → length buffer < length values → BatchCame (Refused answers_too_long (length values)) buffer
    all_answered : {lines : List Bytes} {values : List ℕ} → GoodBatch book batch lines values → length values ≤ length buffer
        → BatchCame (Ok (length lines)) (values ++ drop (length values) buffer)

  came_given : {lines : List Bytes} (values : List ℕ) → GoodBatch book batch lines values
      → BatchCame (given_parts values (length lines) buffer).answer (given_parts values (length lines) buffer).buffer
  unfolding given_parts
  came_given {lines} values good = go (ltb (length buffer) (length values)) refl
    where
      long : Outcome BatchAnswer
      long = record { answer = Refused answers_too_long (length values); buffer = buffer }

      whole : Outcome BatchAnswer
      whole = record { answer = Ok (length lines); buffer = values ++ drop (length values) buffer }

      go : (t : Bool) → ltb (length buffer) (length values) ≡ t → BatchCame (cond t long whole).answer (cond t long whole).buffer
      go true q = too_many good (ltb-true _ _ q)
      go false q = all_answered good (ltb-false _ _ q)

  came_by_book : {lines : List Bytes} → IsBatch batch lines → (p : Parsed) → parse book ≡ p → NamedParse p
      → BatchCame (read_lines p book lines buffer).answer (read_lines p book lines buffer).buffer
  unfolding read_lines
  came_by_book i (refused number value) e named = refused_book i e named
  came_by_book {lines} i (accepted B) e named =
      came_given (parts_of book lines) (record { is_batch = i; contents = B; book_accepted = e; parts = parts_are book lines })

  came_by_batch : {o : Option (List Bytes)} → Split batch o → BatchCame (read_batch o book buffer).answer (read_batch o book buffer).buffer
  unfolding read_batch
  came_by_batch (bad_one b) = refused_batch b
  came_by_batch (good_one i) = came_by_book i (parse book) refl (parse_named book)

  came : BatchCame (batch_outcome book batch buffer).answer (batch_outcome book batch buffer).buffer
  came = came_by_batch (split_batch batch)

  good_not_bad : {lines : List Bytes} {values : List ℕ} → GoodBatch book batch lines values → BadBatch batch → ⊥
  good_not_bad g = not_bad g.is_batch

  -- The values of a batch are determined.
  good_same : {lines others : List Bytes} {values more : List ℕ} → GoodBatch book batch lines values → GoodBatch book batch others more → length values ≡ length more
  good_same g h =
      ap length (parts_same g.parts ∙ ap (parts_of book) (lines_same g.is_batch.are_lines h.is_batch.are_lines) ∙ sym (parts_same h.parts))

  untouched_of : {answer : BatchAnswer} {after : List ℕ} → BatchCame answer after → ((batch_reply answer).number ≡ 0 → ⊥) → after ≡ buffer
  untouched_of (refused_batch b) h = refl
  untouched_of (refused_book i e named) h = refl
  untouched_of (too_many g l) h = refl
  untouched_of (all_answered g l) h = absurd (h refl)

  bad_batch_of : {answer : BatchAnswer} {after : List ℕ} → BatchCame answer after → (batch_reply answer ≡ refusal bad_batch 0) ↔ BadBatch batch
  bad_batch_of (refused_batch b) = (λ h. b, λ c. refl)
  bad_batch_of (refused_book {number = n} i e named) = (λ h. other_number {r = batch_reply (Refused n _)} (λ q. book_apart named (inl q)) h, λ c. absurd (not_bad i c))
  bad_batch_of (too_many g l) = (λ h. other_number (omega arith) h, λ c. absurd (good_not_bad g c))
  bad_batch_of (all_answered g l) = (λ h. other_number (omega arith) h, λ c. absurd (good_not_bad g c))

  bad_book_of : {answer : BatchAnswer} {after : List ℕ} → BatchCame answer after → (BadBatch batch → ⊥) → (number value : ℕ) → parse book ≡ refused number value → batch_reply answer ≡ refusal number value
  bad_book_of (refused_batch b) h number value q = absurd (h b)
  bad_book_of (refused_book {number = n} {value = v} i e named) h number value q =
      let numbers : n ≡ number = cc in
      let values : v ≡ value = cc in
      cc
  bad_book_of (too_many g l) h number value q = accepted_refused g.book_accepted q
  bad_book_of (all_answered g l) h number value q = accepted_refused g.book_accepted q

  written_of : {answer : BatchAnswer} {after : List ℕ} → BatchCame answer after → (batch_reply answer).number ≡ 0 → BatchWritten book batch buffer answer after
  written_of (refused_batch b) h = absurd (omega arith)
  written_of (refused_book i e named) h = absurd (omega (arith, book_some named))
  written_of (too_many g l) h = absurd (omega arith)
  written_of (all_answered {lines} {values} g l) h = record { lines = lines; values = values; good = g; counted = refl; room = l; behind = refl }

  found_of : {answer : BatchAnswer} {after : List ℕ} → BatchCame answer after → (lines : List Bytes) (values : List ℕ) → GoodBatch book batch lines values → length values ≤ length buffer → (batch_reply answer).number ≡ 0
  found_of (refused_batch b) lines values good h = absurd (good_not_bad good b)
  found_of (refused_book i e named) lines values good h = accepted_refused good.book_accepted e
  found_of (too_many g l) lines values good h = let same = good_same g good in absurd (omega arith)
  found_of (all_answered g l) lines values good h = refl

  too_long_of : {answer : BatchAnswer} {after : List ℕ} → BatchCame answer after → (v : ℕ) → (batch_reply answer ≡ refusal answers_too_long v) ↔ BatchTooLong book batch buffer v
  too_long_of (refused_batch b) v = (λ h. other_number (omega arith) h, λ t. absurd (good_not_bad t.good b))
  too_long_of (refused_book {number = n} i e named) v = (λ h. other_number {r = batch_reply (Refused n _)} (λ q. book_apart named (inr q)) h, λ t. accepted_refused t.good.book_accepted e)
  too_long_of (too_many {lines} {values} g l) v = (
    λ h. let q : length values ≡ v = same_value h in record { lines = lines; values = values; good = g; needed = sym q; lent = omega arith },
    λ t. ap (refusal answers_too_long) (good_same g t.good ∙ sym t.needed),
  )
  too_long_of (all_answered g l) v = (
    λ h. other_number (omega arith) h,
    λ t. let same = good_same g t.good in let needed = t.needed in let lent = t.lent in absurd (omega arith),
  )

  named_of : {answer : BatchAnswer} {after : List ℕ} → BatchCame answer after → (number value : ℕ) → answer ≡ Refused number value → BookNumber number ⊎ ((number ≡ bad_batch) ⊎ (number ≡ answers_too_long))
  named_of (refused_batch b) number value h = inr (inl (sym (refused_number h)))
  named_of (refused_book {number = n} i e named) number value h = inl (subst BookNumber (refused_number h) named)
  named_of (too_many g l) number value h = inr (inr (sym (refused_number h)))
  named_of (all_answered g l) number value h = let z : ◌≡◌ {A = ℕ} 0 1 = cc in absurd (omega arith)

  pub batch_promised : BatchPromised book batch buffer (batch_outcome book batch buffer).answer (batch_outcome book batch buffer).buffer
  batch_promised = record {
    untouched = untouched_of came;
    on_bad_batch = bad_batch_of came;
    bad_book = bad_book_of came;
    answered = written_of came;
    found = found_of came;
    too_long = too_long_of came;
  }

  pub batch_refusals : (number value : ℕ) → (batch_outcome book batch buffer).answer ≡ Refused number value
      → BookNumber number ⊎ ((number ≡ bad_batch) ⊎ (number ≡ answers_too_long))
  batch_refusals = named_of came

-- Whatever gives the outcome keeps the promises.
pub gives_batch_promised : (book batch : Bytes) (before : List ℕ) {answer : BatchAnswer} {after : List ℕ} → Gives (batch_outcome book batch before) answer after
    → BatchPromised book batch before answer after
gives_batch_promised book batch before {answer} {after} g =
    subst (λ (a : BatchAnswer). BatchPromised book batch before a after) (sym g.returned)
    (subst (λ (l : List ℕ). BatchPromised book batch before (batch_outcome book batch before).answer l) (sym g.left) (batch_promised book batch before))
