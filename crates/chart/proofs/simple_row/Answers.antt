-- `chart::simple_row` meets its contract: each turn joins the part of one member of the row behind u.
use native.Mathlib.Omega.{arith}
use Prim.Native.Nat.{ℕ}
use mathlib.Core.Path.{refl}
use mathlib.Core.List.{List}
use Rattle.pregroup.specs.Order.{Relation}
use Rattle.graph.specs.Graph.{next_at}
use Rattle.pregroup.specs.Held.{InRows}
use Rattle.chart.specs.Chart.{LinkPart, LinksThere}
use Rattle.bits.proofs.Gathering.{part_says, alone_says}
use Rattle.bits.proofs.MemberWalks.{OfMembers, walks_behind, walks_member, walks_turn, walks_end}
use Rattle.chart.proofs.simple_row.Goals as goal

-- The parts that are gathered are those of members.
parts_of_members :
    (Le : Relation) {nodes chart : List ℕ} {u : ℕ} → LinksThere nodes chart u
    → OfMembers chart (next_at nodes u) (next_at nodes u) (LinkPart Le nodes chart u)
parts_of_members Le there = record { member = λ m v p. p.reached; from_on = λ m v p. (there.reached m p.reached).0 }

pub next_at-behind-requires : goal.next_at-behind-requires
next_at-behind-requires c = c.requires.links_there.node

pub simple_at-x-requires : goal.simple_at-x-requires
simple_at-x-requires c = c.requires.links_there.node

pub join_row-row-requires : goal.join_row-row-requires
join_row-row-requires c =
    let there = c.requires.links_there in
    let first = there.reached _ there.first in
    rw c.next_at-behind.ensures (first.1, first.2)

pub members-y-items-requires : goal.members-y-items-requires
members-y-items-requires c =
    let there = c.requires.links_there in
    rw c.next_at-behind.ensures (record { has_row = there.room; from_le_row_bits = omega (arith, there.first.small) })

-- The node behind u is taken as a turn of a walk that begins there.
pub loop-y-init : goal.loop-y-init
loop-y-init c =
    let parts = parts_of_members (InRows c.args.order.now) c.requires.links_there in
    let a = c.args in
    let made = rw c.next_at-behind.ensures at c.members-y-items.ensures in
    let first = c.requires.links_there.first in
    let joined = rw (c.simple_at-x.ensures, c.next_at-behind.ensures) at c.join_row-row.ensures in
    let part = part_says {C = LinkPart (InRows a.order.now) a.nodes.now a.chart.now a.u (next_at a.nodes.now a.u)} _ joined (λ v. (λ j. record { reached = first; joined = j }, λ p. p.joined)) in
    (c.simple_at-x.ensures, rw c.into_iter-y-iterator.ensures.into_iter_gives (walks_behind parts _ _ (alone_says _ _ refl c.empty.ensures c.put-only.ensures) part made))

pub join_row-row-requires-in-loop-y : goal.join_row-row-requires-in-loop-y
join_row-row-requires-in-loop-y c =
    let parts = parts_of_members (InRows c.args.order.now) c.requires.links_there in
    let l = c.loop-y in
    let member = walks_member parts l.row.words l.y-iterator l.invariant.1 c.in-Some.y c.next.new.self c.in-Some.ensures.steps in
    let there = c.requires.links_there.reached c.in-Some.y member.0 in
    (there.1, there.2)

pub loop-y-preserved : goal.loop-y-preserved
loop-y-preserved c =
    let parts = parts_of_members (InRows c.args.order.now) c.requires.links_there in
    let l = c.loop-y in
    let a = c.args in
    let turn = c.in-Some.ensures.steps in
    let member = walks_member parts l.row.words l.y-iterator l.invariant.1 c.in-Some.y c.next.new.self turn in
    let joined = rw l.invariant.0 at c.join_row-row-in-loop-y.ensures in
    let part = part_says {C = LinkPart (InRows a.order.now) a.nodes.now a.chart.now a.u c.in-Some.y} _ joined (λ v. (λ j. record { reached = member.0; joined = j }, λ p. p.joined)) in
    (l.invariant.0, walks_turn parts l.row.words l.y-iterator l.invariant.1 c.in-Some.y c.next.new.self turn _ part)

pub returns : goal.returns
returns c =
    let parts = parts_of_members (InRows c.args.order.now) c.requires.links_there in
    let l = c.loop-y in
    walks_end parts l.row.words l.y-iterator l.invariant.1 c.next.new.self c.in-None.ensures.steps
