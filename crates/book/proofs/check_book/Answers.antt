-- `book::check_book` meets its contract: a refusal is passed on, and of an accepted book the closed order is counted.
use native.Mathlib.Omega.{arith}
use mathlib.Core.Path.{◌≡◌, ap, ◌∙◌}
use Rattle.std.proofs.lemmas.Result.{err_from_is_err_and}
use Rattle.figures.specs.declared.refusals.Refusal.{Refusal}
use Rattle.std.specs.Prelude.{Result}
use Rattle.figures.specs.Limits.{max_types}
use Rattle.format.specs.Records.{Bytes}
use Rattle.book.specs.Check.{Accepted, book_check, check_reply, BookPromised}
use Rattle.book.specs.declared.BookCheck.{BookCheck}
use Rattle.book.proofs.Checking.{no_pairs, opened_rows, check_accepted, check_refused}
use Rattle.book.proofs.Promises.{check_promised}
use Rattle.book.proofs.check_book.Goals as goal

-- An answer that is the book check's has what the book check promises.
promised : (bytes : Bytes) {r : Result BookCheck Refusal} → r ≡ book_check bytes → BookPromised bytes (check_reply r)
promised bytes e = rw e (check_promised bytes)

pub scan_book-requires : goal.scan_book-requires
scan_book-requires c = (omega arith, no_pairs max_types)

pub close-order-requires : goal.close-order-requires
close-order-requires c = opened_rows _ _ _ _ _ c.in_ok-counts.ensures.0 c.in_ok-counts.ensures.1

pub returns-in_err-counts-clause-book_promised : goal.returns-in_err-counts-clause-book_promised
returns-in_err-counts-clause-book_promised c =
    let p = err_from_is_err_and c.from_residual.result c.from_residual.ensures.1 in
    rw (p.1, p.2) (promised _ (check_refused _ _ _ c.in_err-counts.ensures))

pub returns-clause-value : goal.returns-clause-value
returns-clause-value c =
    let opened = c.in_ok-counts.ensures in
    ap (Accepted c.in_ok-counts.counts.types c.in_ok-counts.counts.entries) c.count_pairs-pairs.ensures ∙ check_accepted _ _ _ _ _ opened.0 opened.1 _ c.close-order.ensures

pub returns-clause-book_promised : goal.returns-clause-book_promised
returns-clause-book_promised c =
    let opened = c.in_ok-counts.ensures in
    promised _ (ap (Accepted c.in_ok-counts.counts.types c.in_ok-counts.counts.entries) c.count_pairs-pairs.ensures ∙ check_accepted _ _ _ _ _ opened.0 opened.1 _ c.close-order.ensures)
