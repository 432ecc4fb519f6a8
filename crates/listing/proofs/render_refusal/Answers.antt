-- `listing::render_refusal` meets its contract: the row is counted, and put where there is room for it.
use native.Mathlib.Omega.{arith}
use Rattle.printing.specs.Rows.{refusal_row}
use Rattle.listing.proofs.Bounds.{refusal_countable}
use Rattle.listing.proofs.Rendering.{renders_short, renders_written}
use Rattle.listing.proofs.render_refusal.Goals as goal

pub put_refusal_row-bytes-requires : goal.put_refusal_row-bytes-requires
put_refusal_row-bytes-requires c =
    let a = c.args in
    refusal_countable a.refusal.number a.refusal.value (omega arith) (omega arith)

pub returns-then-text-bytes : goal.returns-then-text-bytes
returns-then-text-bytes c =
    let a = c.args in
    renders_short (refusal_row a.refusal.number a.refusal.value) a.text.now c.put_refusal_row-bytes.ensures.next c.if-text-bytes.true

pub put_refusal_row-requires : goal.put_refusal_row-requires
put_refusal_row-requires c =
    let a = c.args in
    refusal_countable a.refusal.number a.refusal.value (omega arith) (omega arith)

pub returns : goal.returns
returns c =
    let a = c.args in
    renders_written (refusal_row a.refusal.number a.refusal.value) a.text.now c.put_refusal_row-bytes.ensures.next c.if-text-bytes.false c.put_refusal_row.ensures
