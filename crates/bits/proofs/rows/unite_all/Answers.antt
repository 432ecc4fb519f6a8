-- `bits::rows::unite_all` meets its contract: a walk over the set, each turn joining one row.
use native.Mathlib.Omega.{arith}
use Prim.Native.Nat.{ℕ}
use mathlib.Core.List.{List}
use Rattle.bits.specs.Gathered.{RowPart}
use Rattle.bits.proofs.Gathering.{part_says}
use Rattle.bits.proofs.MemberWalks.{OfMembers, walks_start, walks_member, walks_turn, walks_end}
use Rattle.bits.proofs.rows.unite_all.Goals as goal

parts : (set rows : List ℕ) → OfMembers set 0 0 (RowPart set rows)
parts set rows = record { member = λ m v p. p.chosen; from_on = λ m v p. omega arith }

pub loop-u-init : goal.loop-u-init
loop-u-init c = rw c.into_iter-u-iterator.ensures.into_iter_gives (walks_start (parts _ _) _ _ (λ v. (λ h. h, λ h. h)) c.members-u-items.ensures)

pub unite-row-requires : goal.unite-row-requires
unite-row-requires c =
    let l = c.loop-u in
    c.requires c.in-Some.u (walks_member (parts _ _) l.row.words l.u-iterator l.invariant c.in-Some.u c.next.new.self c.in-Some.ensures.steps).0

pub loop-u-preserved : goal.loop-u-preserved
loop-u-preserved c =
    let l = c.loop-u in
    let turn = c.in-Some.ensures.steps in
    let chosen = (walks_member (parts _ _) l.row.words l.u-iterator l.invariant c.in-Some.u c.next.new.self turn).0 in
    let united = part_says {C = RowPart c.args.set.words c.args.rows.now c.in-Some.u} _ c.unite-row.ensures (λ v. (λ h. record { chosen = chosen; there = h }, λ p. p.there)) in
    walks_turn (parts _ _) l.row.words l.u-iterator l.invariant c.in-Some.u c.next.new.self turn _ united

pub returns : goal.returns
returns c =
    let l = c.loop-u in
    walks_end (parts _ _) l.row.words l.u-iterator l.invariant c.next.new.self c.in-None.ensures.steps
