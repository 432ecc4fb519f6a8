-- A search that goes on number by number: none of those passed is of the kind.
use Prim.Native.Nat.{ℕ, ◌≤◌, ◌<◌}

-- No number from `from` up to i is of the kind.
abbrev pub Passed : (ℕ → Type 0) → ℕ → ℕ → Type 0
Passed Is from i = (k : ℕ) → from ≤ k → k < i → Is k → ⊥
