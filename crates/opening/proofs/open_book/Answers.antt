-- `opening::open_book` meets its contract: the book is scanned, its entries threaded and its order closed, so that it is open, or it is refused.
use borrow.Author.Rules.{rules}
use native.Mathlib.Omega.{arith}
use Prim.Native.Nat.{◌≤◌}
use mathlib.Core.Path.{sym}
use lib.ListN.{length}
use lib.Seq.{length-take-le}
use Rattle.std.proofs.lemmas.Result.{err_from_is_err_and}
use Rattle.book.specs.Kept.{store}
use Rattle.book.proofs.Checking.{no_pairs, opened_rows}
use Rattle.lookup.proofs.EntryLaws.{opened_kept}
use Rattle.opening.proofs.OpeningLaws.{is_open, none_alike}
use Rattle.opening.proofs.open_book.Goals as goal

pub scan_book-requires : goal.scan_book-requires
scan_book-requires c = (search rules, no_pairs 64)

pub slice_bounds-entries-end : goal.slice_bounds-entries-end
slice_bounds-entries-end c = let room = c.in_ok-counts.ensures.1.entries_whole.room in omega arith

pub slice_bounds-thread_entries-end : goal.slice_bounds-thread_entries-end
slice_bounds-thread_entries-end c = sym (length-take-le _ _ c.in_ok-counts.ensures.1.entries_whole.room)

pub thread_entries-requires : goal.thread_entries-requires
thread_entries-requires c =
    let new = c.scan_book.new in
    ((opened_kept {s = store new.names new.entries new.direct new.targets} {B = c.in_ok-counts.ensures.0} c.in_ok-counts.ensures.1).lexicon.kept, none_alike)

pub close-requires : goal.close-requires
close-requires c = opened_rows _ _ _ _ _ c.in_ok-counts.ensures.0 c.in_ok-counts.ensures.1

pub returns-in_err-counts : goal.returns-in_err-counts
returns-in_err-counts c =
    let p = err_from_is_err_and c.from_residual.result c.from_residual.ensures.1 in
    rw (p.1, p.2) c.in_err-counts.ensures

pub returns : goal.returns
returns c =
    let opened = c.in_ok-counts.ensures.1 in
    let room : c.in_ok-counts.counts.types ≤ length c.close.result.rows = omega (arith, opened.named.few) in
    let is-open = is_open _ _ _ _ _ c.in_ok-counts.ensures.0 _ _ room opened c.thread_entries.ensures c.close.ensures in
    ((c.in_ok-counts.ensures.0, is-open), room, opened.entries_whole.room, omega (arith, opened.few_targets, c.scan_book.auto.targets))
