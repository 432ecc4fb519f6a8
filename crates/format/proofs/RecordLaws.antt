-- What the code reads off two bytes, and records written out: what is read off a record that stands first, and off the record at an offset.
use Prim.Native.Nat.{ℕ, ◌+◌, ◌≤◌}
use native.Mathlib.Omega.{arith}
use native.Mathlib.Nat.{add-zero, add_assoc}
use native.Mathlib.Numerals.{add-one}
use mathlib.Core.Path.{◌≡◌, sym, ap, ◌∙◌}
use mathlib.Core.List.{◌++◌}
use lib.ListN.{length, take, drop, length-drop}
use lib.Seq.{length-take-le, get_or-drop, drop-drop, take-append_seam, drop-append_seam}
use Rattle.bytewise.specs.Compare.{little_endian, ReadsNumber}
use Rattle.format.specs.Records.{Bytes, two_bytes, kind_at, body_at, next_at, record_of, head_length}

-- The number that the code reads off two bytes is the format's.
pub two_bytes_read : {bytes : Bytes} {at r : ℕ} → ReadsNumber 2 bytes at r → r ≡ two_bytes bytes at
unfolding little_endian two_bytes
two_bytes_read {at = at} n = rw (add-one at) (omega (arith, n.value))

-- The record that stands first.
module _ (kind : ℕ) (body rest : Bytes) where
  pub size_first : two_bytes (record_of kind body ++ rest) 0 ≡ length body
  unfolding two_bytes
  size_first = omega arith

  pub kind_first : kind_at (record_of kind body ++ rest) 0 ≡ kind
  unfolding two_bytes
  kind_first = omega arith

  pub body_first : body_at (record_of kind body ++ rest) 0 ≡ body
  body_first = ap (λ (n : ℕ). take n (body ++ rest)) size_first ∙ take-append_seam body rest

  pub rest_first : drop (next_at (record_of kind body ++ rest) 0) (record_of kind body ++ rest) ≡ rest
  rest_first =
      ap (λ (n : ℕ). drop (4 + n) (record_of kind body ++ rest)) size_first ∙ sym (drop-drop (length body) 4 (record_of kind body ++ rest)) ∙ drop-append_seam body rest

-- A record is the first one of what stands from its offset on.
module _ (bytes : Bytes) (at : ℕ) where
  pub size_at : two_bytes (drop at bytes) 0 ≡ two_bytes bytes at
  unfolding two_bytes
  size_at = rw (get_or-drop at bytes 0 0, get_or-drop at bytes 1 0, add-zero at)

  pub kind_at_lem : kind_at (drop at bytes) 0 ≡ kind_at bytes at
  unfolding two_bytes
  kind_at_lem = rw (get_or-drop at bytes 2 0, get_or-drop at bytes 3 0, add_assoc at 2 1)

  pub body_at_lem : body_at (drop at bytes) 0 ≡ body_at bytes at
  body_at_lem = rw (size_at, drop-drop 4 at bytes)

  pub rest_at : (other : Bytes) → drop (next_at (drop at bytes) 0) (drop at other) ≡ drop (next_at bytes at) other
  rest_at other =
      ap (λ (n : ℕ). drop (4 + n) (drop at other)) size_at ∙ drop-drop (4 + two_bytes bytes at) at other ∙ ap (λ (n : ℕ). drop n other) (sym (add_assoc at 4 (two_bytes bytes at)))

-- The body of a whole record is as long as its head says.
pub whole_length : (bytes : Bytes) (at : ℕ) → next_at bytes at ≤ length bytes → length (body_at bytes at) ≡ two_bytes bytes at
whole_length bytes at h = length-take-le (two_bytes bytes at) (drop (at + head_length) bytes) (omega (arith, length-drop (at + head_length) bytes))
