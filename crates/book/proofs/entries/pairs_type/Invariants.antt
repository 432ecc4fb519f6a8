use Prim.Native.Nat.{ℕ, ◌*◌, ◌<◌}
use mathlib.Core.Path.{◌≡◌}
use lib.ListN.{length, get_or}
use Rattle.figures.specs.Limits.{max_entry_simples}
use Rattle.pregroup.specs.Held.{held}
use Rattle.rules.proofs.Simples.{simple_from}
use Rattle.book.proofs.entries.pairs_type.Given as goal

abbrev pub invariant-loop-i : goal.invariant-loop-i
invariant-loop-i l =
    (length l.simples ≡ max_entry_simples) × ((k : ℕ) → k < l.i → held (get_or {A = ℕ} l.simples k 0) ≡ simple_from l.part (2 * k))
