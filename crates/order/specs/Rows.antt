-- How the code holds an order: a row of 64 bits for each of the basic types, as `InRows` reads them.
use Rattle.std.specs.Prelude.{ℕ, ◌≤◌, ◌↔◌, List, get_or}
use Rattle.figures.specs.Limits.{max_types}
use Rattle.bits.specs.Bits.{size}
use Rattle.bits.specs.Totals.{total}
use Rattle.pregroup.specs.Order.{Relation}
use Rattle.pregroup.specs.Held.{InRows}
use Rattle.order.specs.Closed.{Within}

-- The rows hold R and nothing else.
abbrev pub Hold : List ℕ → Relation → Type 0
Hold rows R = (p q : ℕ) → InRows rows p q ↔ R p q

-- What is asked of the rows of a book's pairs: no more types than there are rows, and no pair of others.
pub record DeclaredRows (types : ℕ) (rows : List ℕ) : Type 0 where
  pub few : types ≤ max_types
  pub within : Within types (InRows rows)

-- How many pairs the rows hold.
unfoldable pub pairs_in : List ℕ → ℕ
pairs_in rows = total (λ p. size (get_or rows p 0)) max_types
