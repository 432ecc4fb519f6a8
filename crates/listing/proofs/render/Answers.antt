-- `listing::render` meets its contract: the values are those of the answer, as far as the buffer has them, and what is rendered so keeps the promises.
use native.Mathlib.Omega.{arith}
use native.Mathlib.Nat.{sub-zero}
use lib.Seq.{take_all}
use Rattle.listing.proofs.ListingPromises.{listing_promised}
use Rattle.listing.proofs.render.Goals as goal

pub returns-then-buffer-values-clause-renders : goal.returns-then-buffer-values-clause-renders
returns-then-buffer-values-clause-renders c = rw (c.in-Ok.is, take_all c.in-Ok.values c.args.buffer.now (omega arith)) c.render_answer.ensures

pub returns-then-buffer-values-clause-listing_promised : goal.returns-then-buffer-values-clause-listing_promised
returns-then-buffer-values-clause-listing_promised c =
    listing_promised c.args.book.now c.args.line.now c.args.answer c.args.buffer.now (returns-then-buffer-values-clause-renders c)

pub returns-in-Err-clause-renders : goal.returns-in-Err-clause-renders
returns-in-Err-clause-renders c = rw c.in-Err.is c.render_refusal.ensures

pub returns-in-Err-clause-listing_promised : goal.returns-in-Err-clause-listing_promised
returns-in-Err-clause-listing_promised c =
    listing_promised c.args.book.now c.args.line.now c.args.answer c.args.buffer.now (returns-in-Err-clause-renders c)

pub returns-else-buffer-values-clause-renders : goal.returns-else-buffer-values-clause-renders
returns-else-buffer-values-clause-renders c = rw c.in-Ok.is (rw sub-zero at c.render_answer-in-Ok.ensures)

pub returns-else-buffer-values-clause-listing_promised : goal.returns-else-buffer-values-clause-listing_promised
returns-else-buffer-values-clause-listing_promised c =
    listing_promised c.args.book.now c.args.line.now c.args.answer c.args.buffer.now (returns-else-buffer-values-clause-renders c)
