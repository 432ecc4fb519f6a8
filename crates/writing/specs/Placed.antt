-- How bytes are put into a lent buffer piece by piece: each piece stands behind the one before it, and what has no room is left out but counted.
use Rattle.std.specs.Prelude.{ℕ, ◌+◌, ◌<◌, ◌≡◌, List, length}
use Rattle.std.proofs.lemmas.List.Edits.{sets}

-- More than places are counted up to: those of a `usize`.
abbrev pub place_bound : ℕ
place_bound = 18446744073709551616

-- The end of a piece that is put at a place can be counted.
pub record Countable (at : ℕ) (piece : List ℕ) : Type 0 where
  pub small : at + length piece < place_bound

-- A piece is put at a place; `behind` is the place behind it.
pub record Placed (text : List ℕ) (at : ℕ) (piece after : List ℕ) (behind : ℕ) : Type 0 where
  pub put : after ≡ sets text at piece
  pub next : behind ≡ at + length piece
