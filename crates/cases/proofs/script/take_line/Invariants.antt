-- `take_line` ends: each turn takes at least one byte of the script.
use Rattle.std.proofs.Common.{◌≤◌, length}
use Rattle.cases.proofs.script.take_line.Given as goal

abbrev pub invariant-loop-byte : goal.invariant-loop-byte
invariant-loop-byte l = length l.rest ≤ length l.fn.script

abbrev pub decreases-loop-byte : goal.decreases-loop-byte
decreases-loop-byte l = length l.rest
