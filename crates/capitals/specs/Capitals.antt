-- Document 02, 2.1: when a line's word is a book's word. Letters A–Z count as their small letters on both sides, and no other two bytes as one.
use Rattle.std.specs.Prelude.{ℕ, ◌+◌, Bool, cond, map}
use Rattle.format.specs.Records.{Bytes, between, same_bytes}

-- A–Z are 65 to 90, and a–z stand 32 behind them.
abbrev pub is_capital : ℕ → Bool
is_capital byte = between 65 90 byte

-- A byte, and bytes, with capitals made small.
unfoldable pub small : ℕ → ℕ
small byte = cond (is_capital byte) (byte + 32) byte

abbrev pub small_bytes : Bytes → Bytes
small_bytes bytes = map small bytes

-- The same word.
unfoldable pub same_word : Bytes → Bytes → Bool
same_word a b = same_bytes (small_bytes a) (small_bytes b)
