use Prim.Native.Nat.{◌-◌}
use Rattle.answer.proofs.links.+link_within.Given as goal

abbrev pub decreases-link_within : goal.decreases-link_within
decreases-link_within l = l.j - l.i
