-- `chart::fill` meets its contract: each turn fills one row, and those behind it stay.
use native.Mathlib.Omega.{arith}
use Rattle.pregroup.specs.Held.{InRows}
use Rattle.graph.specs.Graph.{graph}
use Rattle.chart.proofs.Filling.{turn_at, turn_row, boundary_asks, simple_asks, boundary_made, simple_made, turned}
use Rattle.chart.proofs.fill.Goals as goal
use Rattle.chart.proofs.fill.Goals.{then-next_at-eq0, else-next_at-eq0}

pub loop-u-init : goal.loop-u-init
loop-u-init c = λ w h k. absurd (omega arith)

pub boundary_row-row-requires : goal.boundary_row-row-requires
boundary_row-row-requires c =
    let a = c.args in
    let l = c.loop-u in
    let turn = turn_at (InRows a.order.now) (graph a.nodes.now a.slots.now) a.chart.now l.chart l.u c.requires c.loop-u-test.true l.auto.u l.auto.chart l.invariant in
    let asks = boundary_asks turn (rw c.next_at.ensures at c.if-next_at-eq0.true) in
    record { u_lt_row_bits = asks.0; slots_there = rw (c.from_at.ensures, c.to_at.ensures) asks.1 }

pub simple_row-row-requires : goal.simple_row-row-requires
simple_row-row-requires c =
    let a = c.args in
    let l = c.loop-u in
    let turn = turn_at (InRows a.order.now) (graph a.nodes.now a.slots.now) a.chart.now l.chart l.u c.requires c.loop-u-test.true l.auto.u l.auto.chart l.invariant in
    let asks = simple_asks turn (rw c.next_at.ensures at c.if-next_at-eq0.false) in
    record { u_lt_row_bits = asks.0; links_there = asks.1 }

pub store-requires : goal.store-requires
store-requires c =
    let a = c.args in
    let l = c.loop-u in
    turn_row (turn_at (InRows a.order.now) (graph a.nodes.now a.slots.now) a.chart.now l.chart l.u c.requires c.loop-u-test.true l.auto.u l.auto.chart l.invariant)

pub loop-u-preserved : goal.loop-u-preserved
loop-u-preserved c =
    let a = c.args in
    let l = c.loop-u in
    let turn = turn_at (InRows a.order.now) (graph a.nodes.now a.slots.now) a.chart.now l.chart l.u c.requires c.loop-u-test.true l.auto.u l.auto.chart l.invariant in
    elim c.if-next_at-eq0.branch [
      | then-next_at-eq0 w ↦
          let boundary = rw c.next_at.ensures at w.if-next_at-eq0.true in
          let says = rw (w.from_at.ensures, w.to_at.ensures) at w.boundary_row-row.ensures in
          turned turn _ _ c.store.ensures (rw w.row-is (boundary_made turn _ boundary says))
      | else-next_at-eq0 w ↦
          let simple = rw c.next_at.ensures at w.if-next_at-eq0.false in
          turned turn _ _ c.store.ensures (rw w.row-is (simple_made turn _ simple w.simple_row-row.ensures))
    ]

pub returns : goal.returns
returns c = λ w h k. c.loop-u.invariant w (omega arith) k
