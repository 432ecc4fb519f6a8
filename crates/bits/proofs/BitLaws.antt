-- The laws of `bit`: what a bit can be, and the members of a union, of a difference and of a power of two.
use Prim.Native.Nat.{ℕ, suc, zero, ◌+◌, ◌*◌, ◌-◌, ◌/◌, ◌%◌, ◌^◌, ◌≤◌, ◌<◌, min, max}
use native.Mathlib.Nat.{mod-lt, zero-lt-suc}
use native.Mathlib.Omega.{arith}
use mathlib.Core.Path.{◌≡◌, refl, sym, ap, ap₂, ◌∙◌}
use mathlib.Core.Logic.{◌↔◌, ◌⊎◌, inl, inr, ⊎_elim}
use lib.Arith.{digits_div, digits_mod}
use lib.Pow.{shr-shr}
use lib.Bits.{bit_and, bit_or, bit_xor, differ, and_step, or_step, xor_step}
use mir.Syntax.{w64}
use Rattle.std.specs.Int.{bit_not}
use Rattle.std.proofs.lemmas.Nat.Bits.{bit_at_lowest, bit_at-suc, bit_at-lt, bit_at-zero, bit_at_above, bit_at_or, bit_at_and, bit_at_not, bit_at-pow_same, bit_at-pow_other}
use Rattle.bits.specs.Bits.{bit, Has, Members}
use Rattle.bits.proofs.Cases.{less_or_not, same_or_not}

pub bit_zero : (x : ℕ) → bit x 0 ≡ x % 2
unfolding bit
bit_zero x = bit_at_lowest x

pub bit_suc : (x q : ℕ) → bit x (suc q) ≡ bit (x / 2) q
unfolding bit
bit_suc x q = bit_at-suc x q

pub bit_small : (x q : ℕ) → bit x q < 2
unfolding bit
bit_small x q = bit_at-lt x q

-- A number of k bits has no bit from k on.
pub no_bit_past : (k x q : ℕ) → x < 2 ^ k → k ≤ q → Has x q → ⊥
unfolding bit
no_bit_past k x q small past h = omega (arith, bit_at_above x k q small past)

-- The empty set has no member.
pub empty_has_none : (q : ℕ) → Has 0 q → ⊥
unfolding bit
empty_has_none q h = omega (arith, bit_at-zero q)

-- What holds of the four pairs of binary digits holds of any two.
on_digits : (P : ℕ → ℕ → Type 0) → P 0 0 → P 0 1 → P 1 0 → P 1 1 → (x y : ℕ) → x < 2 → y < 2 → P x y
on_digits P p q r s zero zero hx hy = p
on_digits P p q r s zero (suc zero) hx hy = q
on_digits P p q r s (suc zero) zero hx hy = r
on_digits P p q r s (suc zero) (suc zero) hx hy = s
on_digits P p q r s zero (suc (suc y)) hx hy = absurd (omega arith)
on_digits P p q r s (suc zero) (suc (suc y)) hx hy = absurd (omega arith)
on_digits P p q r s (suc (suc x)) y hx hy = absurd (omega arith)

-- A bit that is not 1 is 0.
pub bit_absent : (x q : ℕ) → (Has x q → ⊥) → bit x q ≡ 0
bit_absent x q =
    on_digits (λ i j. (i ≡ 1 → ⊥) → i ≡ 0) (λ h. refl) (λ h. refl) (λ h. absurd (h refl)) (λ h. absurd (h refl)) (bit x q) 0 (bit_small x q) (omega arith)

-- A number is a member or not.
pub has_or_not : (x q : ℕ) → Has x q ⊎ (Has x q → ⊥)
has_or_not x q =
    on_digits (λ i j. (i ≡ 1) ⊎ (i ≡ 1 → ⊥)) (inr (λ h. omega arith)) (inr (λ h. omega arith)) (inl refl) (inl refl) (bit x q) 0 (bit_small x q)
    (omega arith)

-- A word has q where another has it: the bit is no larger.
pub bit_le : (x y q : ℕ) → (Has x q → Has y q) → bit x q ≤ bit y q
bit_le x y q =
    on_digits (λ i j. (i ≡ 1 → j ≡ 1) → i ≤ j) (λ h. omega arith) (λ h. omega arith) (λ h. omega (arith, h refl)) (λ h. omega arith) (bit x q) (bit y q)
    (bit_small x q) (bit_small y q)

-- An operation that works on the digits one by one works on the bits.
module _ (op digit : ℕ → ℕ → ℕ) (step : (a b : ℕ) → op a b ≡ op (a / 2) (b / 2) * 2 + digit (a % 2) (b % 2))
    (small : (x y : ℕ) → x < 2 → y < 2 → digit x y < 2) where
  bit_of_op : (q a b : ℕ) → bit (op a b) q ≡ digit (bit a q) (bit b q)
  bit_of_op zero a b =
      let d = small (a % 2) (b % 2) (mod-lt a (zero-lt-suc 1)) (mod-lt b (zero-lt-suc 1)) in
      bit_zero (op a b) ∙ ap (λ (n : ℕ). n % 2) (step a b) ∙ digits_mod (op (a / 2) (b / 2)) d ∙ sym (ap₂ digit (bit_zero a) (bit_zero b))
  bit_of_op (suc q) a b =
      let d = small (a % 2) (b % 2) (mod-lt a (zero-lt-suc 1)) (mod-lt b (zero-lt-suc 1)) in
      bit_suc (op a b) q ∙ ap (λ (n : ℕ). bit (n / 2) q) (step a b) ∙ ap (λ (n : ℕ). bit n q) (digits_div (op (a / 2) (b / 2)) d)
      ∙ bit_of_op q (a / 2) (b / 2) ∙ sym (ap₂ digit (bit_suc a q) (bit_suc b q))

pub bit_or_lem : (q a b : ℕ) → bit (bit_or a b) q ≡ max (bit a q) (bit b q)
bit_or_lem = bit_of_op bit_or max or_step (on_digits (λ x y. max x y < 2) (omega arith) (omega arith) (omega arith) (omega arith))

pub bit_and_lem : (q a b : ℕ) → bit (bit_and a b) q ≡ min (bit a q) (bit b q)
bit_and_lem = bit_of_op bit_and min and_step (on_digits (λ x y. min x y < 2) (omega arith) (omega arith) (omega arith) (omega arith))

pub bit_xor_lem : (q a b : ℕ) → bit (bit_xor a b) q ≡ differ (bit a q) (bit b q)
bit_xor_lem = bit_of_op bit_xor differ xor_step (on_digits (λ x y. differ x y < 2) (omega arith) (omega arith) (omega arith) (omega arith))

-- The members of `a | b`.
pub or_members : (a b : ℕ) → Members (bit_or a b) (λ k. Has a k ⊎ Has b k)
unfolding bit
or_members a b k =
    rw (bit_at_or a b k)
    (on_digits (λ x y. (max x y ≡ 1) ↔ ((x ≡ 1) ⊎ (y ≡ 1)))
    (λ h. inl h, ⊎_elim (λ h. h) (λ h. h))
    (λ h. inr h, λ h. refl)
    (λ h. inl h, λ h. refl)
    (λ h. inl h, λ h. refl)
    (bit a k) (bit b k) (bit_small a k) (bit_small b k))

-- The members of `a & b`.
pub and_members : (a b : ℕ) → Members (bit_and a b) (λ k. Has a k × Has b k)
unfolding bit
and_members a b k =
    rw (bit_at_and a b k)
    (on_digits (λ x y. (min x y ≡ 1) ↔ ((x ≡ 1) × (y ≡ 1)))
    (λ h. (h, h), λ h. h.0)
    (λ h. (h, refl), λ h. h.0)
    (λ h. (refl, h), λ h. h.1)
    (λ h. (refl, refl), λ h. refl)
    (bit a k) (bit b k) (bit_small a k) (bit_small b k))

-- The members of `a & !b`.
pub difference_members : (a b : ℕ) → a < 2 ^ 64 → b < 2 ^ 64 → Members (bit_and a (bit_not w64 b)) (λ k. Has a k × (Has b k → ⊥))
unfolding bit
difference_members a b ha hb k = of (less_or_not k 64)
  where
    of : (k < 64) ⊎ (64 ≤ k) → Has (bit_and a (bit_not w64 b)) k ↔ (Has a k × (Has b k → ⊥))
    of (inl h) =
        rw (bit_at_and a (bit_not w64 b) k, bit_at_not w64 b k hb h)
        (on_digits (λ x y. (min x (1 - y) ≡ 1) ↔ ((x ≡ 1) × (y ≡ 1 → ⊥)))
        (λ h. absurd (omega arith), λ h. h.0)
        (λ h. absurd (omega arith), λ h. h.0)
        (λ h. (refl, λ e. omega arith), λ h. refl)
        (λ h. absurd (omega arith), λ h. absurd (h.1 refl))
        (bit a k) (bit b k) (bit_small a k) (bit_small b k))
    of (inr h) =
        let none : bit a k ≡ 0 = bit_at_above a 64 k ha h in
        (λ m. absurd (omega (arith, bit_at_and a (bit_not w64 b) k)), λ m. absurd (omega (arith, m.0)))

-- The one member of `2 ^ q`.
pub power_members : (q : ℕ) → Members (2 ^ q) (λ k. k ≡ q)
unfolding bit
power_members q k = (λ h. of (same_or_not k q) h, λ e. rw e (bit_at-pow_same q))
  where
    of : (k ≡ q) ⊎ (k ≡ q → ⊥) → Has (2 ^ q) k → k ≡ q
    of (inl e) h = e
    of (inr apart) h = absurd (omega (arith, bit_at-pow_other q k apart))

-- The members of `word | 2 ^ q`.
pub with_members : (word q : ℕ) → Members (bit_or word (2 ^ q)) (λ k. Has word k ⊎ (k ≡ q))
with_members word q k =
    let either = or_members word (2 ^ q) k in
    let power = power_members q k in
    (λ h. ⊎_elim inl (λ m. inr (power.0 m)) (either.0 h), ⊎_elim (λ m. either.1 (inl m)) (λ e. either.1 (inr (power.1 e))))

-- The members of `word >> q`: those from q on, lowered by q.
pub shifted_members : (word q : ℕ) → Members (word / 2 ^ q) (λ k. Has word (q + k))
unfolding bit
shifted_members word q k = let same = ap (λ (n : ℕ). n % 2) (shr-shr word q k) in (λ h. sym same ∙ h, λ h. same ∙ h)
