-- How the code's numbers say what the calculus asks: the bias keeps successors and parity, and so two held simple types could contract
-- exactly when their exponents follow each other and the rows relate them, turned round where odd.
use Prim.Native.Nat.{ℕ, zero, suc, ◌+◌, ◌-◌, ◌*◌, ◌/◌, ◌%◌, ◌≤◌, ◌<◌}
use native.Mathlib.Omega.{arith}
use native.Mathlib.Numerals.{add-one}
use mathlib.Core.Path.{◌≡◌, refl, sym, ap, ◌∙◌}
use mathlib.Core.Logic.{◌↔◌}
use mathlib.Core.Bool.{Bool, true, false}
use borrow.Author.Tests.{eq-eqb, ne_eqb}
use lib.IntN.{ℤ, pos, neg_ℤ, suc_ℤ, ◌+ℤ◌, ◌-ℤ◌, suc_ℤ-+ℤ, -ℤ-+ℤ_cancel, pred-suc}
use Rattle.pregroup.specs.Types.{even, simple_left, simple_right}
use Rattle.pregroup.specs.Order.{Relation, Turned}
use Rattle.pregroup.specs.Vanish.{Contracts}
use Rattle.pregroup.specs.Held.{bias, lowered, held}
use Rattle.pregroup.proofs.Exponents.{even_suc}

-- The bias keeps successors ..
bias_suc : (x : ℕ) → pos (suc x) -ℤ pos bias ≡ suc_ℤ (pos x -ℤ pos bias)
bias_suc x = suc_ℤ-+ℤ (pos x) (neg_ℤ (pos bias))

bias_injective : (x y : ℕ) → pos x -ℤ pos bias ≡ pos y -ℤ pos bias → x ≡ y
bias_injective x y e =
    let h : pos x ≡ pos y = sym (-ℤ-+ℤ_cancel (pos x) (pos bias)) ∙ ap (λ (z : ℤ). z +ℤ pos bias) e ∙ -ℤ-+ℤ_cancel (pos y) (pos bias) in
    cc

-- .. and, being even, parity.
bias_even : (x : ℕ) → even (pos x -ℤ pos bias) ≡ even (pos x)
unfolding even
bias_even zero = refl
bias_even (suc x) = rw (bias_suc x, even_suc (pos x -ℤ pos bias), bias_even x, even_suc (pos x))

module _ (Le : Relation) (a b x y : ℕ) where
  -- Exponents that do not follow each other do not contract.
  lowered_apart : (y ≡ x + 1 → ⊥) → Contracts Le (lowered a x) (lowered b y) → ⊥
  lowered_apart apart c = apart (bias_injective y (suc x) (c.raised ∙ sym (bias_suc x)) ∙ sym (add-one x))

  -- Where they do, what is asked of the rows goes by the parity of the earlier one.
  lowered_turned : (t : Bool) → y ≡ x + 1 → even (pos x) ≡ t → Turned Le t a b ↔ Contracts Le (lowered a x) (lowered b y)
  lowered_turned t follows parity =
      let turn : even (pos x -ℤ pos bias) ≡ t = bias_even x ∙ parity in
      let up : pos y -ℤ pos bias ≡ suc_ℤ (pos x -ℤ pos bias) = ap (λ (k : ℕ). pos k -ℤ pos bias) (follows ∙ add-one x) ∙ bias_suc x in
      (λ h. record { raised = up; fits = rw turn h }, λ c. rw turn at c.fits)

  lowered_even : y ≡ x + 1 → x % 2 ≡ 0 → Le a b ↔ Contracts Le (lowered a x) (lowered b y)
  unfolding even
  lowered_even follows h = lowered_turned true follows (eq-eqb (x % 2) 0 h)

  lowered_odd : y ≡ x + 1 → (x % 2 ≡ 0 → ⊥) → Le b a ↔ Contracts Le (lowered a x) (lowered b y)
  unfolding even
  lowered_odd follows h = lowered_turned false follows (ne_eqb (x % 2) 0 h)

-- The same for two numbers that hold simple types.
module _ (Le : Relation) (x y : ℕ) where
  pub held_apart : (y / 256 ≡ x / 256 + 1 → ⊥) → Contracts Le (held x) (held y) → ⊥
  unfolding held
  held_apart = lowered_apart Le (x % 256) (y % 256) (x / 256) (y / 256)

  pub held_even : y / 256 ≡ x / 256 + 1 → x / 256 % 2 ≡ 0 → Le (x % 256) (y % 256) ↔ Contracts Le (held x) (held y)
  unfolding held
  held_even = lowered_even Le (x % 256) (y % 256) (x / 256) (y / 256)

  pub held_odd : y / 256 ≡ x / 256 + 1 → (x / 256 % 2 ≡ 0 → ⊥) → Le (y % 256) (x % 256) ↔ Contracts Le (held x) (held y)
  unfolding held
  held_odd = lowered_odd Le (x % 256) (y % 256) (x / 256) (y / 256)

-- A held simple type is plain exactly when its raised exponent is the bias.
pub held_plain : (x : ℕ) → ((held x).exponent ≡ pos 0) ↔ (x / 256 ≡ bias)
unfolding held
held_plain x = (λ e. bias_injective (x / 256) bias e, λ e. rw e)

pub held_base : (x : ℕ) → (held x).base ≡ x % 256
unfolding held
held_base x = refl

-- A basic type and a raised exponent, held.
pub held_of : (a x : ℕ) → a < 256 → held (x * 256 + a) ≡ lowered a x
unfolding held
held_of a x small =
    let low : (x * 256 + a) % 256 ≡ a = omega arith in
    let high : (x * 256 + a) / 256 ≡ x = omega arith in
    rw (low, high)

-- 256 more, or less: the exponent moved up, or down, by one.
pub held_up : (x : ℕ) → held (x + 256) ≡ simple_right (held x)
unfolding held
held_up x =
    let low : (x + 256) % 256 ≡ x % 256 = omega arith in
    let high : (x + 256) / 256 ≡ suc (x / 256) = omega arith in
    rw (low, high, bias_suc (x / 256))

pub held_down : (x : ℕ) → 256 ≤ x → held (x - 256) ≡ simple_left (held x)
held_down x h =
    let back : x - 256 + 256 ≡ x = omega arith in
    let up : held x ≡ simple_right (held (x - 256)) = ap held (sym back) ∙ held_up (x - 256) in
    rw (up, pred-suc (held (x - 256)).exponent) refl
