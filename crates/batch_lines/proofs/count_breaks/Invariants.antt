use Prim.Native.Nat.{◌≤◌}
use mathlib.Core.Path.{◌≡◌}
use lib.Dec.{eqb}
use lib.ListN.{take}
use Rattle.std.specs.List.{count_by}
use Rattle.batch_lines.specs.Lines.{line_break}
use Rattle.batch_lines.proofs.count_breaks.Given as goal

abbrev pub invariant-loop-byte : goal.invariant-loop-byte
invariant-loop-byte l =
    (l.count ≤ l.byte-index) × (l.count ≡ count_by (λ byte. eqb byte line_break) (take l.byte-index l.batch))
