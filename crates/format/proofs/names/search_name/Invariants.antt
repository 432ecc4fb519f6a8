use Prim.Native.Nat.{ℕ, ◌<◌}
use mathlib.Core.Path.{◌≡◌}
use lib.ListN.{get_or}
use Rattle.format.specs.Records.{body_at}
use Rattle.format.proofs.names.search_name.Given as goal

abbrev pub invariant-loop-i : goal.invariant-loop-i
invariant-loop-i l = (j : ℕ) → j < l.i → l.name ≡ body_at l.book (get_or {A = ℕ} l.names j 0) → ⊥
