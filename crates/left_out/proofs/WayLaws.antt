-- The number for words: its bits tell for each word whether the words without it have a reading, and the steps by which it is made.
use Prim.Native.Nat.{ℕ, zero, suc, ◌+◌, ◌*◌, ◌/◌, ◌^◌, ◌≤◌, ◌<◌}
use native.Mathlib.Nat.{pow-suc}
use native.Mathlib.Omega.{arith}
use mathlib.Core.Path.{◌≡◌, refl, sym, ap, ◌∙◌}
use mathlib.Core.Logic.{◌↔◌}
use mathlib.Core.Bool.{Bool, true, false}
use mathlib.Core.List.{List}
use lib.ListN.{length}
use Rattle.bits.specs.Bits.{bit, Has}
use Rattle.bits.proofs.BitLaws.{bit_zero, bit_suc, no_bit_past}
use Rattle.pregroup.specs.Types.{Basic}
use Rattle.pregroup.specs.Tests.{Test}
use Rattle.linking.specs.Reading.{Words, reads}
use Rattle.line.specs.Remaining.{without}
use Rattle.left_out.specs.LeftOut.{bit_of, way_from, way_of}

pub bit_of_small : (b : Bool) → bit_of b < 2
bit_of_small true = omega arith
bit_of_small false = omega arith

-- The lowest bit of b + 2 n, and the others.
lowest_bit : (b : Bool) (n : ℕ) → bit (bit_of b + 2 * n) 0 ≡ bit_of b
lowest_bit b n = let h = bit_of_small b in bit_zero (bit_of b + 2 * n) ∙ omega arith

higher_bit : (b : Bool) (n q : ℕ) → bit (bit_of b + 2 * n) (suc q) ≡ bit n q
higher_bit b n q =
    let h = bit_of_small b in
    let half : (bit_of b + 2 * n) / 2 ≡ n = omega arith in
    bit_suc (bit_of b + 2 * n) q ∙ ap (λ (m : ℕ). bit m q) half

has_bit : (b : Bool) → (bit_of b ≡ 1) ↔ (b ≡ true)
has_bit true = (λ h. refl, λ h. refl)
has_bit false = (λ h. let z : ◌≡◌ {A = ℕ} 0 1 = h in absurd (omega arith), λ h. let z : ◌≡◌ {A = ℕ} 0 1 = cc in z)

module _ (le : Test) (targets : List Basic) (words : Words) where
  -- One word more, before those that the number tells of.
  pub way_step : (n k : ℕ) → way_from le targets words k (suc n) ≡ bit_of (reads le targets (without k words)) + 2 * way_from le targets words (k + 1) n
  unfolding way_from
  way_step n k = refl

  pub way_none : (k : ℕ) → way_from le targets words k 0 ≡ 0
  unfolding way_from
  way_none k = refl

  way_bit : (n k j : ℕ) → j < n → bit (way_from le targets words k n) j ≡ bit_of (reads le targets (without (k + j) words))
  way_bit zero k j h = absurd (omega arith)
  way_bit (suc n) k zero h =
      let same : k ≡ k + 0 = omega arith in
      ap (λ (m : ℕ). bit m 0) (way_step n k) ∙ lowest_bit (reads le targets (without k words)) (way_from le targets words (k + 1) n)
      ∙ ap (λ (m : ℕ). bit_of (reads le targets (without m words))) same
  way_bit (suc n) k (suc j) h =
      let same : k + 1 + j ≡ k + suc j = omega arith in
      ap (λ (m : ℕ). bit m (suc j)) (way_step n k) ∙ higher_bit (reads le targets (without k words)) (way_from le targets words (k + 1) n) j
      ∙ way_bit n (k + 1) j (omega arith) ∙ ap (λ (m : ℕ). bit_of (reads le targets (without m words))) same

  -- It has no more bits than there are words.
  pub way_small : (n k : ℕ) → way_from le targets words k n < 2 ^ n
  unfolding way_from
  way_small zero k = omega arith
  way_small (suc n) k =
      let h = bit_of_small (reads le targets (without k words)) in
      omega (arith, way_small n (k + 1), pow-suc 2 n)

  -- Bit k says whether the words without word k + 1 have a reading.
  pub way_says : (k : ℕ) → k < length words → Has (way_of le targets words) k ↔ (reads le targets (without k words) ≡ true)
  way_says k h =
      let same : 0 + k ≡ k = omega arith in
      let e = way_bit (length words) 0 k h ∙ ap (λ (m : ℕ). bit_of (reads le targets (without m words))) same in
      let b = has_bit (reads le targets (without k words)) in
      (λ s. b.0 (sym e ∙ s), λ r. e ∙ b.1 r)

  pub way_ends : (k : ℕ) → length words ≤ k → Has (way_of le targets words) k → ⊥
  way_ends k h = no_bit_past (length words) (way_of le targets words) k (way_small (length words) 0) h
