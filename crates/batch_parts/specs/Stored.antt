-- How the parts of a batch's lines are stored.
use Rattle.std.specs.Prelude.{ℕ, ◌*◌, ◌≤◌, ◌≡◌, List, length, take}
use Rattle.std.proofs.Math.Option.{some}
use Rattle.figures.specs.Limits.{max_batch, max_part}
use Rattle.format.specs.Records.{Bytes}
use Rattle.batch_lines.specs.Lines.{lines_of}
use Rattle.batch_parts.specs.Parts.{parts_of}

-- A part is put: it is the first values of what was lent for it, and there are so many.
pub record Put (part : List ℕ) (values : ℕ) (after : List ℕ) : Type 0 where
  pub counted : values ≡ length part
  pub short : length part ≤ max_part
  pub stored : take values after ≡ part

-- The batch has lines, and the store has room for their parts.
pub record Readying (batch : Bytes) (store : List ℕ) : Type 0 where
  pub short : length batch ≤ max_batch
  pub lines : List Bytes
  pub split : lines_of batch ≡ some lines
  pub room : length lines * max_part ≤ length store

-- The first values of the store are the parts of the batch's lines.
pub record StoredParts (book batch : Bytes) (used : ℕ) (store : List ℕ) : Type 0 where
  pub within : used ≤ length store
  pub stored : (lines : List Bytes) → lines_of batch ≡ some lines → take used store ≡ parts_of book lines
