-- The laws of sums: of the same terms, with the first term apart, of terms that end, and of larger terms.
use Prim.Native.Nat.{ℕ, zero, suc, ◌+◌, ◌≤◌, ◌<◌}
use native.Mathlib.Omega.{arith}
use native.Mathlib.Nat.{le-suc_iff}
use mathlib.Core.Path.{◌≡◌, refl, sym, ap, ap₂}
use mathlib.Core.Logic.{⊎_elim}
use Rattle.bits.specs.Totals.{total}

-- Sums of the same terms.
pub total_same : (f g : ℕ → ℕ) (n : ℕ) → ((k : ℕ) → k < n → f k ≡ g k) → total f n ≡ total g n
unfolding total
total_same f g zero same = refl
total_same f g (suc n) same = ap₂ ◌+◌ (total_same f g n (λ k h. same k (omega arith))) (same n (omega arith))

-- The first term apart.
pub total_first : (f : ℕ → ℕ) (n : ℕ) → total f (suc n) ≡ f 0 + total (λ k. f (suc k)) n
unfolding total
total_first f zero = omega arith
total_first f (suc n) = omega (arith, total_first f n)

-- Terms that are 0 from n on.
pub total_ends : (f : ℕ → ℕ) (m n : ℕ) → n ≤ m → ((k : ℕ) → n ≤ k → f k ≡ 0) → total f m ≡ total f n
unfolding total
total_ends f zero zero h none = refl
total_ends f zero (suc n) h none = absurd (omega arith)
total_ends f (suc m) n h none =
    ⊎_elim (λ (l : n ≤ m). omega (arith, total_ends f m n l none, none m l)) (λ (e : n ≡ suc m). sym (ap (total f) e)) (le-suc_iff.0 h)

-- Terms that are 0.
pub total_none : (f : ℕ → ℕ) (n : ℕ) → ((k : ℕ) → f k ≡ 0) → total f n ≡ 0
unfolding total
total_none f n none = total_ends f n 0 (omega arith) (λ k h. none k)

-- Larger terms, and one of them larger indeed.
pub total_le : (f g : ℕ → ℕ) (n : ℕ) → ((k : ℕ) → f k ≤ g k) → total f n ≤ total g n
unfolding total
total_le f g zero le = omega arith
total_le f g (suc n) le = omega (arith, total_le f g n le, le n)

pub total_lt : (f g : ℕ → ℕ) (n q : ℕ) → ((k : ℕ) → f k ≤ g k) → q < n → f q < g q → total f n < total g n
unfolding total
total_lt f g zero q le h lt = absurd (omega arith)
total_lt f g (suc n) q le h lt =
    ⊎_elim (λ (l : q < n). omega (arith, total_lt f g n q le l lt, le n))
    (λ (e : suc q ≡ suc n). let same : q ≡ n = omega arith in let last : f n < g n = rw same at lt in omega (arith, total_le f g n le))
    (le-suc_iff.0 h)

-- Terms of at most 1.
pub total_at_most : (f : ℕ → ℕ) (n : ℕ) → ((k : ℕ) → f k ≤ 1) → total f n ≤ n
unfolding total
total_at_most f zero le = omega arith
total_at_most f (suc n) le = omega (arith, total_at_most f n le, le n)
