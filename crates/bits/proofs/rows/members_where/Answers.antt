-- `bits::rows::members_where` meets its contract: each turn asks the test of one member.
use mathlib.Core.Path.{refl}
use Rattle.bits.proofs.RowLaws.{empty_says}
use Rattle.bits.proofs.Testing.{testing_starts, testing_puts, testing_passes, testing_ends}
use Rattle.bits.proofs.rows.members_where.Goals as goal

pub loop-m-init : goal.loop-m-init
loop-m-init g c = rw c.into_iter-m-iterator.ensures.into_iter_gives (testing_starts _ empty_says refl c.members-m-items.ensures)

pub loop-m-preserved-then-test : goal.loop-m-preserved-then-test
loop-m-preserved-then-test g c =
    let l = c.loop-m in
    let said = rw c.if-test.true at c.test.ensures in
    testing_puts l.m-iterator l.invariant c.requires.from_in_row.0 c.in-Some.m c.next.new.self c.in-Some.ensures.steps _ said c.put_in.auto.words c.put_in.ensures

pub loop-m-preserved : goal.loop-m-preserved
loop-m-preserved g c =
    let l = c.loop-m in
    let said = rw c.if-test.false at c.test.ensures in
    testing_passes l.m-iterator l.invariant c.requires.from_in_row.0 c.in-Some.m c.next.new.self c.in-Some.ensures.steps said

pub returns : goal.returns
returns g c =
    let l = c.loop-m in
    testing_ends l.m-iterator l.invariant c.next.new.self c.in-None.ensures.steps
