-- `reader::read_line` meets its contract: the book is opened, and what reading with it gives is the outcome.
use Prim.Native.Nat.{ℕ}
use lib.ListN.{length-replicate}
use Rattle.figures.specs.Limits.{chart_words}
use Rattle.std.proofs.lemmas.Result.{err_from_is_err_and}
use Rattle.opening.proofs.OpeningLaws.{none_threaded}
use Rattle.reader.proofs.Given.{gives_book_refused, gives_promised}
use Rattle.reader.proofs.read_line.Goals as goal

pub read_open-requires : goal.read_open-requires
read_open-requires c =
    let o = c.lend.ensures.fact in
    record { fact = (o, none_threaded o.1.kept.lexicon.kept); chart_len = length-replicate {A = ℕ} chart_words 0 }

pub returns-in_err-opening : goal.returns-in_err-opening
returns-in_err-opening c =
    let a = c.args in
    let g = gives_book_refused a.book.now a.line.now a.answer.now c.in_err-opening.ensures in
    let p = err_from_is_err_and c.from_residual.result c.from_residual.ensures.1 in
    rw (p.1, p.2) (record { gives = g; promised = gives_promised _ _ _ g })

pub returns : goal.returns
returns c =
    let g = rw c.lend.ensures.bytes at c.read_open.ensures.gives in
    record { gives = g; promised = gives_promised _ _ _ g }
