-- `chart::boundary_row` meets its contract: each turn joins the part of one slot.
use native.Mathlib.Omega.{arith}
use mathlib.Core.Path.{refl}
use Rattle.bits.specs.Gathered.{Only}
use Rattle.chart.specs.Chart.{SlotPart}
use Rattle.bits.proofs.Gathering.{gather_starts, gather_one, gather_ends, part_says, alone_says}
use Rattle.chart.proofs.boundary_row.Goals as goal

pub loop-s-init : goal.loop-s-init
loop-s-init c =
    gather_starts (Only c.args.u) (SlotPart c.args.slots.now c.args.chart.now c.args.from c.args.to) _ c.args.from (alone_says _ _ refl c.empty.ensures c.put-row.ensures) (λ m v h p. omega (arith, p.from_on))

pub entered_at-requires : goal.entered_at-requires
entered_at-requires c = omega (arith, c.requires.slots_there.there)

pub unite-row-requires : goal.unite-row-requires
unite-row-requires c = rw c.entered_at.ensures (c.requires.slots_there.room c.loop-s.s (omega arith) c.loop-s-test.true)

pub loop-s-preserved : goal.loop-s-preserved
loop-s-preserved c =
    let l = c.loop-s in
    let united = rw c.entered_at.ensures at c.unite-row.ensures in
    let part = part_says c.unite-row.result.words united (λ v. (λ b. record { from_on = omega arith; before = c.loop-s-test.true; behind = b }, λ p. p.behind)) in
    gather_one (Only c.args.u) (SlotPart c.args.slots.now c.args.chart.now c.args.from c.args.to) l.row.words c.unite-row.result.words l.s l.invariant part

pub returns : goal.returns
returns c =
    let l = c.loop-s in
    gather_ends (Only c.args.u) (SlotPart c.args.slots.now c.args.chart.now c.args.from c.args.to) l.row.words l.s (λ m v p. omega (arith, p.before)) l.invariant
