-- From what the steps of reading a batch give to its outcome.
use Prim.Native.Nat.{ℕ, ◌≤◌, ◌<◌}
use native.Mathlib.Omega.{arith}
use mathlib.Core.Path.{◌≡◌, refl, sym, ap, subst, ◌∙◌}
use mathlib.Core.List.{List, ◌++◌}
use mathlib.Core.Option.{some, none}
use lib.ListN.{length, take, drop, replicate, length-replicate}
use lib.Seq.{length-take-le}
use borrow.Author.Tests.{lt-ltb, le-ltb}
use Rattle.figures.specs.Limits.{max_batch_values}
use Rattle.figures.specs.Refusals.{bad_batch, answers_too_long, Refused}
use Rattle.format.specs.Records.{Bytes}
use Rattle.book.specs.Format.{Book, accepted, refused, parse}
use Rattle.answer.specs.Answers.{Outcome, Gives}
use Rattle.batch.specs.Batch.{BatchAnswer, given_parts, read_lines, read_batch, batch_outcome}
use Rattle.std.specs.Prelude.{Ok}
use Rattle.batch_lines.specs.Lines.{batch_lines}
use Rattle.batch_parts.specs.Parts.{parts_of}
use Rattle.batch_parts.specs.Stored.{Readying, StoredParts}
use Rattle.batch_lines.proofs.LinesLaws.{lines_found}
use Rattle.batch.proofs.BatchPromises.{batch_is}

-- A bad batch.
pub gives_bad_batch : (book batch : Bytes) (before : List ℕ) → batch_lines batch ≡ none → Gives (batch_outcome book batch before) (Refused bad_batch 0) before
unfolding read_batch
gives_bad_batch book batch before e = record { returned = rw e; left = rw e }

module _ (book batch : Bytes) (before : List ℕ) (lines : List Bytes) (split : batch_lines batch ≡ some lines) where
  -- A bad book.
  pub gives_bad_book : {number value : ℕ} → parse book ≡ refused number value → Gives (batch_outcome book batch before) (Refused number value) before
  unfolding read_batch read_lines
  gives_bad_book e = record { returned = rw (split, e); left = rw (split, e) }

  -- The store has room for all parts.
  pub can_store : Readying batch (replicate max_batch_values 0)
  can_store =
      let i = batch_is batch split in
      record { short = i.short; lines = lines; split = lines_found i.are_lines; room = omega (arith, i.few, length-replicate {A = ℕ} max_batch_values 0) }

  module _ {B : Book} (parsed : parse book ≡ accepted B) (used : ℕ) (store : List ℕ) (stored : StoredParts book batch used store) where
    outcome_is : batch_outcome book batch before ≡ given_parts (parts_of book lines) (length lines) before
    unfolding read_batch read_lines
    outcome_is = rw (split, parsed)

    parts : take used store ≡ parts_of book lines
    parts = stored.stored lines (lines_found (batch_is batch split).are_lines)

    needed : length (parts_of book lines) ≡ used
    needed = ap length (sym parts) ∙ length-take-le used store stored.within

    pub gives_too_long : length before < used → Gives (batch_outcome book batch before) (Refused answers_too_long used) before
    unfolding given_parts
    gives_too_long h =
        subst (λ (o : Outcome BatchAnswer). Gives o (Refused answers_too_long used) before) (sym outcome_is)
        (rw (needed, lt-ltb (length before) used h) (record { returned = refl; left = refl }))

    pub gives_answers : (n : ℕ) → length lines ≡ n → used ≤ length before
        → Gives (batch_outcome book batch before) (Ok n) (take used store ++ drop (length (take used store)) before)
    unfolding given_parts
    gives_answers n count h =
        let so-many = length-take-le used store stored.within in
        subst (λ (o : Outcome BatchAnswer). Gives o (Ok n) (take used store ++ drop (length (take used store)) before)) (sym outcome_is)
        (rw (needed, le-ltb (length before) used h, so-many) (record { returned = ap Ok (sym count); left = ap (λ (l : List ℕ). l ++ drop used before) parts }))
