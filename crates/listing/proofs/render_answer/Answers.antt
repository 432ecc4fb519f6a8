-- `listing::render_answer` meets its contract: a book is opened, or its refusal is rendered.
use Rattle.listing.proofs.Rendering.{book_refused}
use Rattle.listing.proofs.render_answer.Goals as goal

pub returns-in-Err : goal.returns-in-Err
returns-in-Err c =
    let a = c.args in
    rw (← book_refused a.book.now a.line.now a.values.now _ _ (c.in-Err.ensures)) c.render_refusal.ensures

pub returns : goal.returns
returns c = rw c.lend.ensures.bytes at c.render_line.ensures
