use Prim.Native.Nat.{◌-◌}
use lib.ListN.{length}
use Rattle.answer.proofs.links.+link_from.Given as goal

abbrev pub decreases-link_from : goal.decreases-link_from
decreases-link_from l = length l.string.now - l.i
