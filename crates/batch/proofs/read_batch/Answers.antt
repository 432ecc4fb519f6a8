-- `batch::read_batch` meets its contract: a batch that is split, against a book that is open, has its parts stored, and what is copied of them is what the
-- definition answers.
use native.Mathlib.Omega.{arith}
use Prim.Native.Nat.{ℕ}
use mathlib.Core.Path.{sym}
use lib.ListN.{length-take, length-replicate}
use lib.Seq.{length-take-le}
use Rattle.figures.specs.Limits.{chart_words}
use Rattle.opening.proofs.OpeningLaws.{none_threaded}
use Rattle.batch.proofs.BatchPromises.{gives_batch_promised}
use Rattle.batch.proofs.BatchLaws.{gives_bad_batch, gives_bad_book, can_store, gives_too_long, gives_answers}
use Rattle.batch.proofs.read_batch.Goals as goal

pub returns-in_default : goal.returns-in_default
returns-in_default c =
    let a = c.args in
    let g = gives_bad_batch a.book.now a.lines.now a.answers.now (c.in_default.ensures) in
    rw c.with.ensures (record { gives = g; batch_promised = gives_batch_promised _ _ _ g })

pub read_parts-used-requires : goal.read_parts-used-requires
read_parts-used-requires c =
    let split = c.in-Some.ensures in
    let o = c.lend.ensures.fact in
    let a = c.args in
    record { fact = (o, none_threaded o.1.kept.lexicon.kept); chart_len = length-replicate {A = ℕ} chart_words 0; readying = can_store a.book.now a.lines.now a.answers.now split.0 split.1 }

pub returns-then-answers-used : goal.returns-then-answers-used
returns-then-answers-used c =
    let split = c.in-Some.ensures in
    let a = c.args in
    let parsed = rw c.lend.ensures.bytes at c.lend.ensures.fact.1.parsed in
    let stored = rw c.lend.ensures.bytes at c.read_parts-used.ensures in
    let g = gives_too_long a.book.now a.lines.now a.answers.now split.0 split.1 parsed c.read_parts-used.result _ stored (omega arith) in
    rw c.with-then-answers-used.ensures (record { gives = g; batch_promised = gives_batch_promised _ _ _ g })

pub slice_bounds-store-end : goal.slice_bounds-store-end
slice_bounds-store-end c = omega (arith, c.read_parts-used.ensures.within)

pub slice_bounds-copy_front-end : goal.slice_bounds-copy_front-end
slice_bounds-copy_front-end c = sym (length-take-le _ _ c.read_parts-used.ensures.within)

pub copy_front-requires : goal.copy_front-requires
copy_front-requires c = simp length-take (omega arith)

pub returns-in-Err : goal.returns-in-Err
returns-in-Err c =
    let split = c.in-Some.ensures in
    let a = c.args in
    let g = gives_bad_book a.book.now a.lines.now a.answers.now split.0 split.1 c.in-Err.ensures in
    record { gives = g; batch_promised = gives_batch_promised _ _ _ g }

pub returns-else-answers-used : goal.returns-else-answers-used
returns-else-answers-used c =
    let split = c.in-Some.ensures in
    let a = c.args in
    let parsed = rw c.lend.ensures.bytes at c.lend.ensures.fact.1.parsed in
    let stored = rw c.lend.ensures.bytes at c.read_parts-used.ensures in
    let g = gives_answers a.book.now a.lines.now a.answers.now split.0 split.1 parsed c.read_parts-used.result _ stored _ split.2 (omega arith) in
    record { gives = rw c.copy_front.ensures g; batch_promised = rw c.copy_front.ensures (gives_batch_promised _ _ _ g) }
