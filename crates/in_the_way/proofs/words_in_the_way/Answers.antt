-- `in_the_way::words_in_the_way` meets its contract: the book is opened, and what reading and trying with it gives is the outcome.
use Rattle.in_the_way.proofs.WayPromises.{gives_way_promised}
use Rattle.in_the_way.proofs.StepLaws.{gives_bad_book}
use Rattle.in_the_way.proofs.words_in_the_way.Goals as goal

pub returns-in-Err : goal.returns-in-Err
returns-in-Err c =
    let e = c.in-Err.ensures in
    let a = c.args in
    let g = gives_bad_book a.book.now a.line.now a.answer.now e in
    record { gives = g; way_promised = gives_way_promised _ _ _ g }

pub returns : goal.returns
returns c =
    let g = rw c.lend.ensures.bytes at c.read_or_try.ensures in
    record { gives = g; way_promised = gives_way_promised _ _ _ g }
