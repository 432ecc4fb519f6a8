-- `each_line_of` ends: each line takes at least one byte of the script.
use Rattle.std.proofs.Common.{length}
use Rattle.cases.proofs.script.each_line_of.Given as goal

abbrev pub decreases-loop-behind : goal.decreases-loop-behind
decreases-loop-behind g l = length l.rest
