-- `book::records::scan_book` meets its contract: what is kept always stands for what the good records hold.
use native.Mathlib.Omega.{arith}
use Rattle.book.proofs.Parsing.{long_refused}
use Rattle.book.proofs.Scanning.{standing_start, standing_next, standing_bad, standing_none, standing_some}
use Rattle.book.proofs.records.scan_book.Goals as goal

pub returns-then-book-gt-MAX_BOOK : goal.returns-then-book-gt-MAX_BOOK
returns-then-book-gt-MAX_BOOK c = rw c.with.ensures (long_refused _ (omega arith))

pub loop-p-init : goal.loop-p-init
loop-p-init c = standing_start _ _ (omega arith) c.requires.0 c.requires.1

pub loop-p-preserved : goal.loop-p-preserved
loop-p-preserved c = standing_next _ _ _ c.loop-p.invariant _ _ (omega arith) c.in-Ok.ensures

pub returns-in-Err : goal.returns-in-Err
returns-in-Err c = rw c.with-in-Err.ensures (standing_bad _ _ _ c.loop-p.invariant _ (omega arith) c.in-Err.ensures)

pub returns-then-p-eq0 : goal.returns-then-p-eq0
returns-then-p-eq0 c = rw c.with-then-p-eq0.ensures (standing_none _ _ _ c.loop-p.invariant (omega arith) c.if-p-eq0.true)

pub returns : goal.returns
returns c = standing_some _ _ _ c.loop-p.invariant (omega arith) c.if-p-eq0.false
