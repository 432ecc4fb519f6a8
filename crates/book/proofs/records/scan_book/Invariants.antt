use Prim.Native.Nat.{◌-◌}
use lib.ListN.{length}
use Rattle.book.proofs.Scanning.{ScanStanding}
use Rattle.book.specs.Kept.{store}
use Rattle.book.proofs.records.scan_book.Given as goal

abbrev pub invariant-loop-p : goal.invariant-loop-p
invariant-loop-p l = ScanStanding l.book (store l.names l.entries l.direct l.targets) l.p

abbrev pub decreases-loop-p : goal.decreases-loop-p
decreases-loop-p l = length l.book - l.p.at
