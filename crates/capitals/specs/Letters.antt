-- What the comparison of two words looks at: a stretch of places at which both have the same letters, and a number in small letters.
use Rattle.std.specs.Prelude.{ℕ, zero, suc, ◌+◌, ◌*◌, ◌/◌, ◌%◌, ◌≤◌, ◌<◌, ◌≡◌, get_or}
use Rattle.format.specs.Records.{Bytes}
use Rattle.capitals.specs.Capitals.{small}

-- From a place up to another, the bytes of two words are equal with capitals made small.
pub record SameLetters (a b : Bytes) (from to : ℕ) : Type 0 where
  pub alike : (k : ℕ) → from ≤ k → k < to → small (get_or {A = ℕ} a k 0) ≡ small (get_or {A = ℕ} b k 0)

-- The number of n bytes, little-endian, with capitals made small.
unfoldable pub small_number : ℕ → ℕ → ℕ
small_number zero x = 0
small_number (suc n) x = small (x % 256) + 256 * small_number n (x / 256)
