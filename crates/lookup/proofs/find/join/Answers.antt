-- `lookup::find::join` meets its contract: the entries of the word that were passed are threaded.
use native.Mathlib.Omega.{arith}
use Prim.Native.Nat.{◌+◌, ◌<◌}
use lib.ListN.{length}
use Rattle.lookup.proofs.FindLaws.{next_alike, joining_next}
use Rattle.lookup.proofs.find.join.Goals as goal

pub loop-i-smaller : goal.loop-i-smaller
loop-i-smaller c =
    let alike = next_alike _ _ _ c.requires.1 c.loop-i-test.true (c.loop-i.invariant.own c.loop-i-test.true) in
    let next = c.seek-next.ensures.by_index (c.loop-i.i + 1) (rw c.from.ensures alike) in
    omega (arith, next.forth)

pub loop-i-preserved : goal.loop-i-preserved
loop-i-preserved c =
    let inside : c.loop-i.i < length c.loop-i.same = omega arith in
    let alike = next_alike _ _ _ c.requires.1 c.loop-i-test.true (c.loop-i.invariant.own c.loop-i-test.true) in
    let next = c.seek-next.ensures.by_index (c.loop-i.i + 1) (rw c.from.ensures alike) in
    joining_next _ _ _ c.loop-i.invariant c.loop-i-test.true inside next
