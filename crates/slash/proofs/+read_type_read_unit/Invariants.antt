use Prim.Native.Nat.{◌+◌, ◌*◌}
use Rattle.slash.proofs.+read_type_read_unit.Given as goal

abbrev pub decreases-read_type : goal.decreases-read_type
decreases-read_type l = 2 * l.depth + 1

abbrev pub decreases-read_unit : goal.decreases-read_unit
decreases-read_unit l = 2 * l.depth
