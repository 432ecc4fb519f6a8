-- The last part of a node is below `value_bound`.
use Prim.Native.Nat.{ℕ, ◌<◌}
use native.Mathlib.Omega.{arith}
use Rattle.figures.specs.Limits.{value_bound}
use Rattle.graph.specs.Graph.{to_in}

pub to_small : (node : ℕ) → to_in node < value_bound
unfolding to_in
to_small node = omega arith
