-- `listing::render_rows` meets its contract: the rows are counted, and put where there is room for them.
use Rattle.printing.specs.Kept.{kept_rows}
use Rattle.listing.proofs.Rendering.{renders_short, renders_written}
use Rattle.listing.proofs.render_rows.Goals as goal

pub returns-then-text-needed : goal.returns-then-text-needed
returns-then-text-needed c =
    let a = c.args in
    renders_short (kept_rows a.book.now a.names.now a.types a.line.now a.values.now a.string.now a.letters.now) a.text.now c.put_reading-needed.ensures.next c.if-text-needed.true

pub returns : goal.returns
returns c =
    let a = c.args in
    renders_written (kept_rows a.book.now a.names.now a.types a.line.now a.values.now a.string.now a.letters.now) a.text.now c.put_reading-needed.ensures.next c.if-text-needed.false c.put_reading.ensures
