-- `slots::lay_slot` meets its contract: a second empty type is passed, and any other gets the next slot.
use native.Mathlib.Omega.{arith}
use mathlib.Core.Path.{◌≡◌}
use mathlib.Core.Bool.{false}
use Rattle.graph.specs.Graph.{graph}
use Rattle.slots.proofs.EntryLaws.{slot_passed, slot_taken}
use Rattle.slots.proofs.lay_slot.Goals as goal
use Rattle.slots.proofs.lay_slot.Goals.{else-empty-via-then-empty+else-p, else-empty-via-else-empty}

pub returns-then-p : goal.returns-then-p
returns-then-p c =
    let a = c.args in
    slot_passed a.t.now a.number a.boundary a.p (graph a.nodes.now a.slots.now) c.requires c.if-empty.true c.if-p.true

pub returns : goal.returns
returns c =
    let a = c.args in
    let taken : a.t.now.count ≡ 0 → a.p.seen ≡ false =
    elim c.else-empty.branch [
      | else-empty-via-then-empty+else-p w ↦ λ e. w.if-p.false
      | else-empty-via-else-empty w ↦ λ e. absurd (w.if-empty.false e)
    ] in
    slot_taken a.t.now a.number a.boundary a.p (graph a.nodes.now a.slots.now) c.requires taken c.lay_type-first.new.nodes (omega arith) c.lay_type-first.result c.lay_type-first.ensures _ c.slot_of.ensures.0 c.slot_of.ensures.1
