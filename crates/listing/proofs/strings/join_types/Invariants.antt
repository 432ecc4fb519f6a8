use Prim.Native.Nat.{◌*◌, ◌≤◌}
use mathlib.Core.Path.{◌≡◌}
use mathlib.Core.List.{◌++◌, map}
use lib.ListN.{length, take, drop}
use Rattle.figures.specs.Limits.{max_entry_simples}
use Rattle.pregroup.specs.Held.{held}
use Rattle.format.specs.Records.{bodies_at}
use Rattle.book.specs.Kept.{entry_from}
use Rattle.listing.specs.Listing.{joined}
use Rattle.listing.proofs.strings.join_types.Given as goal

abbrev pub invariant-loop-number : goal.invariant-loop-number
invariant-loop-number l =
    (length l.string ≡ length l.initial.string) × (l.end ≤ l.number-index * max_entry_simples) × (map held (take l.end l.string) ++ joined (map (entry_from l.book (bodies_at l.book l.names l.types)) l.entries) (drop l.number-index l.chosen) ≡ joined (map (entry_from l.book (bodies_at l.book l.names l.types)) l.entries) l.chosen)
