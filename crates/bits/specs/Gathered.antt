-- What is gathered in a row: a start, and parts one after another.
use Rattle.std.specs.Prelude.{ℕ, ◌≡◌, List}
use Rattle.bits.specs.Rows.{InRow}

-- v starts, or is in one of the parts.
pub data Gathered (Start : ℕ → Type 0) (Part : ℕ → ℕ → Type 0) (v : ℕ) : Type 0 where
  itself : Start v → Gathered Start Part v
  within : (m : ℕ) → Part m v → Gathered Start Part v

-- A start of one number.
abbrev pub Only : ℕ → ℕ → Type 0
Only u v = v ≡ u

-- The part of u: where u is in the set, what row u has.
pub record RowPart (set rows : List ℕ) (u v : ℕ) : Type 0 where
  pub chosen : InRow set 0 u
  pub there : InRow rows u v
