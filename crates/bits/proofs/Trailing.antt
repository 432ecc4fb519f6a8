-- Trailing zeros find the lowest set bit of a number that is not 0.
use Prim.Native.Nat.{ℕ, ◌^◌, ◌<◌}
use native.Mathlib.Omega.{arith}
use mir.Syntax.{w64}
use lib.Count.{count_trailing_zeros}
use Rattle.std.proofs.lemmas.Nat.Bits.{bit_at-trailing_zeros}
use Rattle.bits.specs.Bits.{bit, Lowest}

-- Trailing zeros of a word that is not 0.
pub trailing_lowest : (x : ℕ) → 0 < x → x < 2 ^ 64 → Lowest x (count_trailing_zeros 64 x)
unfolding bit
trailing_lowest x p h =
    let t = bit_at-trailing_zeros w64 x p h in
    record { small = t.0; member = t.1; least = λ k less has. omega (arith, t.2 k less) }
