-- The first target whose end is reached, as a number: that of the targets stands for none.
use Prim.Native.Nat.{ℕ}
use native.Mathlib.Omega.{arith}
use mathlib.Core.List.{List}
use Rattle.std.specs.Prelude.{Option, Some, None}
use Rattle.std.specs.Option.{unwrap_or}
use Rattle.reach.specs.Charted.{FirstEnd, FirstReached}

pub first_end_lem : (chart : List ℕ) (last count : ℕ) (found : Option ℕ) → FirstReached chart last count found → FirstEnd chart last count (unwrap_or found count)
first_end_lem chart last count (Some r) h = h.1
first_end_lem chart last count None none = record { within = omega arith; reached = λ l. absurd (omega arith); none = none }
