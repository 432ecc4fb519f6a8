-- Capitals made small in eight bytes at once: what the sums and bits of the number do, they do in each of its bytes.
use Prim.Native.Nat.{ℕ, zero, suc, ◌+◌, ◌*◌, ◌/◌, ◌%◌, ◌^◌, ◌≤◌, ◌<◌}
use native.Mathlib.Omega.{arith}
use native.Mathlib.Decide.{ℕ_discrete}
use native.Mathlib.Nat.{add-zero, pow-suc}
use mathlib.Core.Path.{◌≡◌, refl, ap, ap₂, ◌∙◌}
use mathlib.Core.Bool.{Bool, true, false, cond, ◌&&◌}
use lib.Bits.{bit_and, bit_xor, and_le_r, and_lt, xor_lt, and_block, xor_block}
use lib.Dec.{eqb}
use borrow.Author.Tests.{eqb-true}
use Rattle.format.proofs.Bools.{both}
use Rattle.capitals.specs.Capitals.{is_capital, small}
use Rattle.capitals.specs.Letters.{small_number}
use Rattle.capitals.proofs.CapitalLaws.{small_below}

-- A byte in each of n bytes.
abbrev pub each : ℕ → ℕ → ℕ
each b zero = 0
each b (suc n) = each b n * 256 + b

-- The top bit of each byte whose low seven bits, by two sums, are those of a capital ..
abbrev seven_bits : ℕ → ℕ → ℕ
seven_bits n x = bit_and x (each 127 n)

abbrev like : ℕ → ℕ → ℕ
like n x = bit_and (bit_xor (seven_bits n x + each 63 n) (seven_bits n x + each 37 n)) (each 128 n)

-- .. and whose own top bit is clear.
abbrev pub capital_bits : ℕ → ℕ → ℕ
capital_bits n x = bit_xor (like n x) (bit_and (like n x) x)

-- The same of one byte.
abbrev like_byte : ℕ → ℕ
like_byte r = bit_and (bit_xor (bit_and r 127 + 63) (bit_and r 127 + 37)) 128

abbrev capital_bit : ℕ → ℕ
capital_bit r = bit_xor (like_byte r) (bit_and (like_byte r) r)

like_step : (L l A B H : ℕ) → l ≤ 127 → bit_and (bit_xor (L * 256 + l + (A * 256 + 63)) (L * 256 + l + (B * 256 + 37))) (H * 256 + 128) ≡ bit_and (bit_xor (L + A) (L + B)) H * 256 + bit_and (bit_xor (l + 63) (l + 37)) 128
like_step L l A B H h =
    let a : L * 256 + l + (A * 256 + 63) ≡ (L + A) * 256 + (l + 63) = omega arith in
    let b : L * 256 + l + (B * 256 + 37) ≡ (L + B) * 256 + (l + 37) = omega arith in
    ap₂ (λ (x y : ℕ). bit_and (bit_xor x y) (H * 256 + 128)) a b
    ∙ ap (λ (x : ℕ). bit_and x (H * 256 + 128)) (xor_block 8 (L + A) (L + B) (l + 63) (l + 37) (omega arith) (omega arith))
    ∙ and_block 8 (bit_xor (L + A) (L + B)) H (bit_xor (l + 63) (l + 37)) 128 (xor_lt 8 (l + 63) (l + 37) (omega arith) (omega arith)) (omega arith)

clear_step : (C c X r : ℕ) → c < 256 → r < 256 → bit_xor (C * 256 + c) (bit_and (C * 256 + c) (X * 256 + r)) ≡ bit_xor C (bit_and C X) * 256 + bit_xor c (bit_and c r)
clear_step C c X r h k =
    ap (bit_xor (C * 256 + c)) (and_block 8 C X c r h k) ∙ xor_block 8 C (bit_and C X) c (bit_and c r) h (and_lt 8 c r h k)

bits_step : (n X r : ℕ) → r < 256 → capital_bits (suc n) (X * 256 + r) ≡ capital_bits n X * 256 + capital_bit r
bits_step n X r h = ap (λ (c : ℕ). bit_xor c (bit_and c (X * 256 + r))) likes ∙ clear_step (like n X) (like_byte r) X r below h
  where
    likes : like (suc n) (X * 256 + r) ≡ like n X * 256 + like_byte r
    likes =
        ap (λ (s : ℕ). bit_and (bit_xor (s + each 63 (suc n)) (s + each 37 (suc n))) (each 128 (suc n))) (and_block 8 X (each 127 n) r 127 h (omega arith))
        ∙ like_step (seven_bits n X) (bit_and r 127) (each 63 n) (each 37 n) (each 128 n) (and_le_r r 127)

    below : like_byte r < 256
    below = let m = and_le_r (bit_xor (bit_and r 127 + 63) (bit_and r 127 + 37)) 128 in omega (arith, m)

-- What holds of each number below n.
all_below : ℕ → (ℕ → Bool) → Bool
all_below zero test = true
all_below (suc n) test = test n && all_below n test

one_below : (n : ℕ) (test : ℕ → Bool) → all_below n test ≡ true → (k : ℕ) → k < n → test k ≡ true
unfolding all_below
one_below zero test h k l = absurd (omega arith)
one_below (suc n) test h k l = go (ℕ_discrete k n) (one_below n test (both (test n) (all_below n test) h).1 k)
  where
    go : Dec (k ≡ n) → (k < n → test k ≡ true) → test k ≡ true
    go (yes e) rest = ap test e ∙ (both (test n) (all_below n test) h).0
    go (no e) rest = rest (omega (arith, e))

-- A byte's bit, tried on all 256.
byte_bit : (r : ℕ) → r < 256 → capital_bit r ≡ 4 * cond (is_capital r) 32 0
unfolding all_below
byte_bit r h = eqb-true (capital_bit r) (4 * cond (is_capital r) 32 0) (one_below 256 (λ (b : ℕ). eqb (capital_bit b) (4 * cond (is_capital b) 32 0)) refl r h)

-- What is added to n bytes: 32 to each capital.
abbrev added : ℕ → ℕ → ℕ
added zero x = 0
added (suc n) x = added n (x / 256) * 256 + cond (is_capital (x % 256)) 32 0

-- A number of n + 1 bytes without its lowest one.
higher : (n x : ℕ) → x < 256 ^ suc n → x / 256 < 256 ^ n
higher n x h = let e : x < 256 ^ n * 256 = rw (pow-suc 256 n) at h in omega arith

bits_added : (n x : ℕ) → x < 256 ^ n → capital_bits n x ≡ 4 * added n x
bits_added zero x h = let none : x ≡ 0 = omega arith in rw none
bits_added (suc n) x h =
    let parted : x ≡ x / 256 * 256 + x % 256 = omega arith in
    let rest = bits_added n (x / 256) (higher n x h) in
    let byte = byte_bit (x % 256) (omega arith) in
    ap (capital_bits (suc n)) parted ∙ bits_step n (x / 256) (x % 256) (omega arith) ∙ ap₂ (λ (m k : ℕ). m * 256 + k) rest byte ∙ omega arith

small_added : (r : ℕ) → r + cond (is_capital r) 32 0 ≡ small r
unfolding small
small_added r = go (is_capital r)
  where
    go : (t : Bool) → r + cond t 32 0 ≡ cond t (r + 32) r
    go true = refl
    go false = add-zero r

number_added : (n x : ℕ) → x < 256 ^ n → x + added n x ≡ small_number n x
unfolding small_number
number_added zero x h = omega arith
number_added (suc n) x h =
    let rest = number_added n (x / 256) (higher n x h) in
    let byte = small_added (x % 256) in
    omega arith

-- Capitals made small, as it is computed.
pub number_small : (n x : ℕ) → x < 256 ^ n → x + capital_bits n x / 4 ≡ small_number n x
number_small n x h = let bits = bits_added n x h in let sum = number_added n x h in omega arith

pub number_below : (n x : ℕ) → small_number n x < 256 ^ n
unfolding small_number
number_below zero x = omega arith
number_below (suc n) x =
    let byte = small_below (x % 256) (omega arith) in
    let rest = number_below n (x / 256) in
    rw (pow-suc 256 n) (omega arith)
