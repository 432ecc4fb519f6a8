-- The first number of a kind: what a search gives that goes on from a number and stops at a bound.
use Rattle.std.specs.Prelude.{ℕ, ◌≤◌, ◌<◌}

-- `at` is the first number of the kind from `from` on and below the bound; where there is none, some number from the bound on.
pub record First (Is : ℕ → Type 0) (from bound at : ℕ) : Type 0 where
  pub forth : from ≤ at
  pub passed : (k : ℕ) → from ≤ k → k < at → k < bound → Is k → ⊥
  pub stops : at < bound → Is at
