use Prim.Native.Nat.{ℕ}
use mathlib.Core.Path.{◌≡◌}
use lib.ListN.{get_or}
use Rattle.bytewise.proofs.Searching.{Passed}
use Rattle.bytewise.proofs.search.find_byte.Given as goal

abbrev pub invariant-loop-i : goal.invariant-loop-i
invariant-loop-i l = Passed (λ (k : ℕ). get_or {A = ℕ} l.bytes k 0 ≡ l.byte) l.from l.i
