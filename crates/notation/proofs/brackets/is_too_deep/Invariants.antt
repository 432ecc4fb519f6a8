use Prim.Native.Nat.{◌≤◌}
use mathlib.Core.Path.{◌≡◌}
use lib.ListN.{drop}
use Rattle.notation.specs.Brackets.{too_deep, deep_behind}
use Rattle.notation.proofs.brackets.is_too_deep.Given as goal

abbrev pub invariant-loop-byte : goal.invariant-loop-byte
invariant-loop-byte l =
    (l.opened ≤ l.byte-index) × (l.closed ≤ l.byte-index) × (too_deep l.text ≡ deep_behind l.opened l.closed (drop l.byte-index l.text))
