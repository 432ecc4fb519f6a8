-- `order::close` meets its contract: its loop fills the rows as proofs/Filling.antt says.
use native.Mathlib.Omega.{arith}
use mathlib.Core.Path.{◌≡◌}
use Rattle.pregroup.specs.Held.{InRows}
use Rattle.order.proofs.Filling.{Filled, fill_starts, fill_one, fill_ends}
use Rattle.order.proofs.close.Goals as goal

pub loop-p-init : goal.loop-p-init
loop-p-init c = fill_starts (InRows c.args.direct.now)

pub loop-p-preserved : goal.loop-p-preserved
loop-p-preserved c =
    let l = c.loop-p in
    fill_one (InRows c.args.direct.now) l.rows l.p c.reach.result l.invariant (omega arith) c.reach.ensures

pub returns : goal.returns
returns c =
    let l = c.loop-p in
    let all : l.p ≡ c.args.types = omega arith in
    let done : Filled (InRows c.args.direct.now) l.rows c.args.types = rw all at l.invariant in
    fill_ends (InRows c.args.direct.now) l.rows c.args.types c.requires.few c.requires.within done
