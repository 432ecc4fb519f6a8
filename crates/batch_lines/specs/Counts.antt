-- How many lines there are, as it is counted.
use Rattle.std.specs.Prelude.{Option, Some, None, ℕ, ◌+◌, ◌≡◌, Bool, true, false, cond, List, [], ◌∷◌, eqb, length}
use Rattle.std.proofs.Math.Option.{none, some}
use Rattle.format.specs.Records.{Bytes}
use Rattle.batch_lines.specs.Lines.{line_break, lines_of, batch_lines}

-- How many bytes close a line.
unfoldable pub breaks : Bytes → ℕ
breaks [] = 0
breaks (b ∷ bytes) = let rest = breaks bytes in cond (eqb b line_break) (1 + rest) rest

-- Whether the last line is closed, if there is one.
abbrev pub ClosedSays : Bytes → Bool → Type 0
ClosedSays batch true = (lines : List Bytes) × (lines_of batch ≡ some lines)
ClosedSays batch false = lines_of batch ≡ none

-- How many lines a batch has, or 17.
abbrev pub CountSays : Bytes → Option ℕ → Type 0
CountSays batch (Some n) = (lines : List Bytes) × (batch_lines batch ≡ some lines) × (length lines ≡ n)
CountSays batch None = batch_lines batch ≡ none
