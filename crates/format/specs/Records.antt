-- Document 01, "The book's bytes": records one behind another, and where they stand in a book.
use Rattle.std.specs.Prelude.{ℕ, ◌+◌, ◌*◌, ◌/◌, ◌%◌, ◌≤◌, ◌<◌, Bool, true, false, ◌&&◌, List, [], ◌∷◌, map, leb, eqb, length, get_or, take, drop}

abbrev pub Bytes : Type 0
Bytes = List ℕ

-- Every one of a list passes the test.
unfoldable pub every {ℓ} : {A : Type ℓ} → (A → Bool) → List A → Bool
every test [] = true
every test (x ∷ xs) = test x && every test xs

abbrev pub between : ℕ → ℕ → ℕ → Bool
between low high n = leb low n && leb n high

unfoldable pub same_bytes : Bytes → Bytes → Bool
same_bytes [] [] = true
same_bytes [] (y ∷ ys) = false
same_bytes (x ∷ xs) [] = false
same_bytes (x ∷ xs) (y ∷ ys) = eqb x y && same_bytes xs ys

-- Records: a two-byte body length, a two-byte kind, the body. Two-byte numbers are little-endian.

unfoldable pub two_bytes : Bytes → ℕ → ℕ
two_bytes bytes at = get_or {A = ℕ} bytes at 0 + 256 * get_or {A = ℕ} bytes (at + 1) 0

-- The bytes of a record's head.
abbrev pub head_length : ℕ
head_length = 4

-- A record written out.
abbrev pub record_of : ℕ → Bytes → Bytes
record_of kind body = length body % 256 ∷ length body / 256 ∷ kind % 256 ∷ kind / 256 ∷ body

abbrev pub kind_at : Bytes → ℕ → ℕ
kind_at bytes at = two_bytes bytes (at + 2)

abbrev pub body_at : Bytes → ℕ → Bytes
body_at bytes at = take (two_bytes bytes at) (drop (at + head_length) bytes)

-- Where the record behind the one at this offset starts.
abbrev pub next_at : Bytes → ℕ → ℕ
next_at bytes at = at + head_length + two_bytes bytes at

-- The bodies of the first records whose offsets are kept.
abbrev pub bodies_at : Bytes → List ℕ → ℕ → List Bytes
bodies_at bytes offsets count = map (body_at bytes) (take count offsets)

-- The first offsets are those of records that are there whole.
pub record Whole (bytes : Bytes) (offsets : List ℕ) (count : ℕ) : Type 0 where
  pub room : count ≤ length offsets
  pub whole : (i : ℕ) → i < count → next_at bytes (get_or {A = ℕ} offsets i 0) ≤ length bytes
