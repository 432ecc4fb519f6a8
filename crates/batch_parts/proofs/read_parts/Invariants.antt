use Prim.Native.Nat.{◌-◌}
use mathlib.Core.Path.{◌≡◌}
use lib.ListN.{length}
use Rattle.lookup.specs.Threads.{Threaded}
use Rattle.batch_parts.proofs.StoreLaws.{Reading}
use Rattle.batch_parts.proofs.read_parts.Given as goal

abbrev pub invariant-loop-at : goal.invariant-loop-at
invariant-loop-at l =
    (length l.same ≡ length l.initial.same) × (length l.chart ≡ length l.initial.chart) × (length l.store ≡ length l.initial.store) × Threaded l.book.bytes.now l.book.entries.now l.same × Reading l.book.bytes.now l.batch l.store l.at l.used

abbrev pub decreases-loop-at : goal.decreases-loop-at
decreases-loop-at l = length l.batch - l.at
