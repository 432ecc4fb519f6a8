-- `pregroup::contracts` meets its contract: the exponents follow each other, and the rows are asked by the earlier one's parity.
use mathlib.Core.Logic.Iff
use Rattle.pregroup.specs.Held.{InRows}
use Rattle.pregroup.proofs.HeldLaws.{held_apart, held_even, held_odd}
use Rattle.bits.proofs.Cases.{false_iff}
use Rattle.pregroup.proofs.contracts.Goals as goal

pub returns-then-y-earlier : goal.returns-then-y-earlier
returns-then-y-earlier c =
    let a = c.args in
    false_iff (held_apart (InRows a.rows.now) a.x a.y c.if-y-earlier.true)

pub returns-then-earlier-eq0 : goal.returns-then-earlier-eq0
returns-then-earlier-eq0 c =
    let a = c.args in
    Iff.trans c.stands_below.ensures (held_even (InRows a.rows.now) a.x a.y c.if-y-earlier.false c.if-earlier-eq0.true)

pub returns-else-earlier-eq0 : goal.returns-else-earlier-eq0
returns-else-earlier-eq0 c =
    let a = c.args in
    Iff.trans c.stands_below-else-earlier-eq0.ensures (held_odd (InRows a.rows.now) a.x a.y c.if-y-earlier.false c.if-earlier-eq0.false)
