-- What a test finds among the members of a row.
use Rattle.std.specs.Prelude.{ℕ, ◌+◌, ◌≤◌, ◌⊎◌, Bool, true, false, List}
use Rattle.bits.specs.Rows.{InRow}

-- v is a member of row u from `from` on, lowered by `down`, and the test says yes of it.
pub record Passing (rows : List ℕ) (u from down : ℕ) (Says : ℕ → Bool → Type 0) (v : ℕ) : Type 0 where
  pub from_on : from ≤ v + down
  pub member : InRow rows u (v + down)
  pub yes : Says v true

-- The row of `words` has what passes, and of the other members the test says no.
pub record Tested (rows : List ℕ) (u from down : ℕ) (Says : ℕ → Bool → Type 0) (words : List ℕ) : Type 0 where
  pub only : (v : ℕ) → InRow words 0 v → Passing rows u from down Says v
  pub others : (v : ℕ) → from ≤ v + down → InRow rows u (v + down) → InRow words 0 v ⊎ Says v false
