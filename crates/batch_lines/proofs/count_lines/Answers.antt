-- `batch_lines::count_lines` meets its contract: each test is one of those that `batch_lines` makes.
use native.Mathlib.Omega.{arith}
use mathlib.Core.Path.{subst, ◌∙◌}
use Rattle.batch_lines.specs.Counts.{ClosedSays}
use Rattle.batch_lines.proofs.LinesLaws.{count_breaks_is, batch_long, batch_open, batch_many, batch_counted}
use Rattle.batch_lines.proofs.count_lines.Goals as goal

pub returns-then-batch-gt-MAX_BATCH : goal.returns-then-batch-gt-MAX_BATCH
returns-then-batch-gt-MAX_BATCH c = batch_long c.args.batch.now (omega arith)

pub returns-then-not-is_closed : goal.returns-then-not-is_closed
returns-then-not-is_closed c =
    let batch = c.args.batch.now in
    batch_open batch (omega arith) (subst (ClosedSays batch) c.if-not-is_closed.true c.is_closed.ensures)

pub returns-then-count-gt-MAX_LINES : goal.returns-then-count-gt-MAX_LINES
returns-then-count-gt-MAX_LINES c =
    let batch = c.args.batch.now in
    let count = c.count_breaks-count.ensures ∙ count_breaks_is batch in
    batch_many batch (omega arith) (subst (ClosedSays batch) c.if-not-is_closed.false c.is_closed.ensures) (omega arith)

pub returns : goal.returns
returns c =
    let batch = c.args.batch.now in
    let count = c.count_breaks-count.ensures ∙ count_breaks_is batch in
    rw count (batch_counted batch (omega arith) (subst (ClosedSays batch) c.if-not-is_closed.false c.is_closed.ensures) (omega arith))
