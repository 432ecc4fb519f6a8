-- `order::reach` meets its contract: its loop is the walk of proofs/Walk.antt, and each turn passes one number more of 64.
use native.Mathlib.Omega.{arith}
use mathlib.Core.Path.{◌≡◌}
use mathlib.Core.Logic.Iff
use lib.ListN.{get_or}
use Rattle.bits.proofs.CountLaws.{size_at_most}
use Rattle.pregroup.specs.Held.{InRows}
use Rattle.order.proofs.Walk.{Walked, walk_starts, walk_turns, walk_grows, walk_ends}
use Rattle.order.proofs.reach.Goals as goal

pub loop-todo-init : goal.loop-todo-init
loop-todo-init c = walk_starts (InRows c.args.direct.now) c.args.p c.with-todo.result (omega arith) c.with-todo.ensures

pub loop-todo-smaller : goal.loop-todo-smaller
loop-todo-smaller c =
    let put = c.with-seen in
    omega (arith, size_at_most put.result, walk_grows put.result c.loop-todo.invariant c.lowest-q.ensures put.ensures)

pub loop-todo-preserved : goal.loop-todo-preserved
unfolding InRows
loop-todo-preserved c =
    let direct = c.args.direct.now in
    walk_turns (InRows direct) _ _ _ _ (get_or direct c.lowest-q.result 0) _ _ _ c.loop-todo.invariant c.lowest-q.ensures (λ m. Iff.rfl) c.with-seen.ensures c.union.ensures c.minus-todo.ensures

pub returns : goal.returns
returns c =
    let a = c.args in
    let l = c.loop-todo in
    let done : l.todo ≡ 0 = omega arith in
    let walked : Walked (InRows a.direct.now) a.p l.seen 0 = rw done at l.invariant in
    walk_ends (InRows a.direct.now) a.p l.seen walked
