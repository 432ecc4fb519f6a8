-- What opening a book gives: a book that is open.
use Rattle.std.specs.Prelude.{Result, Ok, Err, ℕ, ◌≤◌, ◌≡◌, List, length, take}
use Rattle.figures.specs.declared.refusals.Refusal.{Refusal}
use Rattle.figures.specs.Limits.{max_targets}
use Rattle.pregroup.specs.Tests.{Decides}
use Rattle.pregroup.specs.Held.{InRows}
use Rattle.order.specs.Closed.{below}
use Rattle.format.specs.Records.{Bytes, bodies_at}
use Rattle.format.specs.Names.{Named}
use Rattle.book.specs.Format.{Book, accepted, refused, parse}
use Rattle.lookup.specs.Entries.{KeptOf}
use Rattle.lookup.specs.Threads.{Alike}
use Rattle.opening.specs.declared.Opening.{Opening}

-- The book is B, its basic types and its entries are kept at these offsets, the entries threaded by their keys, the rows of `order` hold its order, one for each basic type, and these
-- are its targets.
pub record Open (bytes : Bytes) (names entries alike order targets : List ℕ) (B : Book) : Type 0 where
  pub parsed : parse bytes ≡ accepted B
  pub named : Named bytes names (length order)
  pub type_names : B.names ≡ bodies_at bytes names (length order)
  pub kept : KeptOf bytes entries B
  pub threaded : Alike bytes entries alike
  pub decides : Decides (below (length B.names) B.pairs) (InRows order)
  pub chosen : B.targets ≡ targets
  pub few_targets : length targets ≤ max_targets

-- Some book is open.
abbrev pub IsOpen : Bytes → List ℕ → List ℕ → List ℕ → List ℕ → List ℕ → Type 0
IsOpen bytes names entries alike order targets = (B : Book) × Open bytes names entries alike order targets B

-- What is kept of a book of these bytes that is open: the book is open, with its entries, the rows of its order and its targets in front of the lists.
abbrev pub IsOpening : Bytes → Opening → Type 0
IsOpening bytes o =
    IsOpen bytes o.names (take o.counts.entries o.entries) o.alike (take o.counts.types o.order) (take o.counts.targets o.targets)
    × (o.counts.types ≤ length o.order) × (o.counts.entries ≤ length o.entries) × (o.counts.targets ≤ length o.targets)

-- What opening a book comes to: it is open, or it is refused.
abbrev pub OpeningSays : Bytes → Result Opening Refusal → Type 0
OpeningSays bytes (Ok o) = IsOpening bytes o
OpeningSays bytes (Err r) = parse bytes ≡ refused r.number r.value
