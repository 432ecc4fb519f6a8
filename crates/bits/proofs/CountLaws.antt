-- How many members a set has: the set bits of a word are the sum of its bits, and a set with one member more has more.
use Prim.Native.Nat.{ℕ, zero, suc, ◌+◌, ◌/◌, ◌^◌, ◌≤◌, ◌<◌}
use native.Mathlib.Nat.{pow-suc}
use native.Mathlib.Omega.{arith}
use mathlib.Core.Path.{◌≡◌, sym, ap, ap₂, ◌∙◌}
use lib.Arith.{lt-one}
use lib.Count.{ones, ones_step}
use Rattle.bits.specs.Bits.{bit, Has, size}
use Rattle.bits.specs.Totals.{total}
use Rattle.bits.proofs.BitLaws.{bit_zero, bit_suc, bit_small, bit_absent, bit_le}
use Rattle.bits.proofs.TotalLaws.{total_same, total_first, total_lt, total_at_most}

pub ones_total : (k x : ℕ) → x < 2 ^ k → ones x ≡ total (bit x) k
unfolding ones total
ones_total zero x h = ap ones (lt-one h)
ones_total (suc k) x h =
    ones_step x ∙ ap₂ ◌+◌ (sym (bit_zero x)) (ones_total k (x / 2) (omega (arith, pow-suc 2 k)) ∙ total_same (bit (x / 2)) (λ q. bit x (suc q)) k (λ q h. sym (bit_suc x q)))
    ∙ sym (total_first (bit x) k)

pub size_at_most : (x : ℕ) → size x ≤ 64
size_at_most x = total_at_most (bit x) 64 (λ k. omega (arith, bit_small x k))

-- y has what x has, and q besides.
pub size_grows : (x y q : ℕ) → ((k : ℕ) → Has x k → Has y k) → q < 64 → (Has x q → ⊥) → Has y q → size x < size y
size_grows x y q more small out member =
    total_lt (bit x) (bit y) 64 q (λ k. bit_le x y k (more k)) small (omega (arith, bit_absent x q out))
