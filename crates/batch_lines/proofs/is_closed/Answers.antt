-- `batch_lines::is_closed` meets its contract: the last byte tells.
use native.Mathlib.Omega.{arith}
use Prim.Native.Nat.{◌-◌}
use mathlib.Core.Path.{◌≡◌}
use lib.ListN.{length}
use Rattle.std.proofs.lemmas.Grind.{common_steps}
use Rattle.batch_lines.proofs.LinesLaws.{closed_nothing, closed_by_last}
use Rattle.batch_lines.proofs.is_closed.Goals as goal

pub returns-in-Some : goal.returns-in-Some
returns-in-Some c =
    let batch = c.args.batch.now in
    let last = c.in-Some.ensures.item in
    rw (last.3.1 0) (closed_by_last batch (length batch - 1) (omega arith))

pub returns-in-None : goal.returns-in-None
returns-in-None c =
    let empty : length c.args.batch.now ≡ 0 = grind (arith, common_steps) in
    closed_nothing c.args.batch.now empty
