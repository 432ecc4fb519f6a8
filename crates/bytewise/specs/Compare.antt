-- What `compare` looks at in the place of single bytes: numbers read off them, and where two lists have the first eight that differ.
use Rattle.std.specs.Prelude.{ℕ, zero, suc, ◌+◌, ◌*◌, ◌^◌, ◌≤◌, ◌<◌, ◌≡◌, List, length, get_or}

-- The little-endian number of the n bytes from an offset on.
unfoldable pub little_endian : ℕ → List ℕ → ℕ → ℕ
little_endian zero bytes at = 0
little_endian (suc n) bytes at = get_or {A = ℕ} bytes at 0 + 256 * little_endian n bytes (suc at)

-- r is that number, and each of the n is a byte.
pub record ReadsNumber (n : ℕ) (bytes : List ℕ) (at r : ℕ) : Type 0 where
  pub value : r ≡ little_endian n bytes at
  pub below : r < 256 ^ n
  pub byte : (k : ℕ) → at ≤ k → k < at + n → get_or {A = ℕ} bytes k 0 < 256

-- Two lists have the same bytes up to a place, and eight bytes from there on. These are the last eight, or they differ.
pub record FirstOther (a b : List ℕ) (at : ℕ) : Type 0 where
  pub inside : at + 8 ≤ length a
  pub equal : (k : ℕ) → k < at → get_or {A = ℕ} a k 0 ≡ get_or {A = ℕ} b k 0
  pub last : little_endian 8 a at ≡ little_endian 8 b at → at + 8 ≡ length a
