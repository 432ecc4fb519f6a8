-- Document 02, 2.2, "A morning's lines together", on what is handed over: the lines of a buffer, each closed by byte 10, and when they are no batch.
use Rattle.std.specs.Prelude.{ℕ, ◌≤◌, ◌<◌, ◌≡◌, cond, eqb, ltb, length, get_or}
use mathlib.Core.List.{List, [], ◌∷◌, ◌++◌, Memᴰ}
use Rattle.std.proofs.Math.Option.{Option, none, some}
use Rattle.figures.specs.Limits.{max_batch, max_lines}
use Rattle.format.specs.Records.{Bytes}

-- The byte that closes a line.
abbrev pub line_break : ℕ
line_break = 10

-- A line put before those behind it, if these are all closed.
abbrev pub put_line : Bytes → Option (List Bytes) → Option (List Bytes)
put_line line none = none
put_line line (some lines) = some (line ∷ lines)

-- A byte put in front of the first of the lines. Where there is none, the byte stands in a line that is not closed.
abbrev pub put_byte : ℕ → Option (List Bytes) → Option (List Bytes)
put_byte b none = none
put_byte b (some []) = none
put_byte b (some (line ∷ lines)) = some ((b ∷ line) ∷ lines)

-- The lines of a buffer, without the bytes that close them; none where the last one is not closed.
unfoldable pub lines_of : Bytes → Option (List Bytes)
lines_of [] = some []
lines_of (b ∷ bytes) = let rest = lines_of bytes in cond (eqb b line_break) (put_line [] rest) (put_byte b rest)

-- At most so many lines.
abbrev pub up_to : ℕ → Option (List Bytes) → Option (List Bytes)
up_to most none = none
up_to most (some lines) = cond (ltb most (length lines)) none (some lines)

-- The lines of a batch: at most 32 of them, in at most 65,535 bytes. None is 17.
unfoldable pub batch_lines : Bytes → Option (List Bytes)
batch_lines batch = cond (ltb max_batch (length batch)) none (up_to max_lines (lines_of batch))

-- The same in the paper's words.

-- No byte of a line closes it.
abbrev pub Unbroken : Bytes → Type 0
Unbroken line = (k : ℕ) → k < length line → get_or {A = ℕ} line k 0 ≡ line_break → ⊥

-- Lines one behind another, each closed.
abbrev pub close_each : List Bytes → Bytes
close_each [] = []
close_each (line ∷ lines) = line ++ (line_break ∷ close_each lines)

-- These are the lines of the buffer.
pub record IsLines (bytes : Bytes) (lines : List Bytes) : Type 0 where
  pub joined : bytes ≡ close_each lines
  pub unbroken : (line : Bytes) → Memᴰ line lines → Unbroken line

-- They are the lines of a batch: few enough, in few enough bytes.
pub record IsBatch (batch : Bytes) (lines : List Bytes) : Type 0 where
  pub short : length batch ≤ max_batch
  pub are_lines : IsLines batch lines
  pub few : length lines ≤ max_lines

-- The last line is not closed: the buffer ends with another byte.
pub record NotClosed (bytes : Bytes) : Type 0 where
  pub front : Bytes
  pub last : ℕ
  pub ends : bytes ≡ front ++ (last ∷ [])
  pub other : last ≡ line_break → ⊥

-- The causes of 17: more bytes, more lines, or a last line not closed.
pub data BadBatch (batch : Bytes) : Type 0 where
  more_bytes : max_batch < length batch → BadBatch batch
  more_lines : {lines : List Bytes} → IsLines batch lines → max_lines < length lines → BadBatch batch
  not_closed : NotClosed batch → BadBatch batch
