-- The names of basic types: their form, their numbers, and how the code keeps them.
use Rattle.std.specs.Prelude.{ℕ, suc, ◌+◌, ◌-◌, ◌≤◌, ◌<◌, ◌≡◌, Bool, cond, ◌&&◌, ◌||◌, List, [], ◌∷◌, ltb, length, get_or, set, take, drop}
use Rattle.figures.specs.Limits.{max_name, max_types}
use Rattle.format.specs.Records.{Bytes, every, between, same_bytes, body_at, Whole}

-- The name of a basic type: 1 to 15 bytes, a–z and 0–9, a letter first.

unfoldable pub name_byte : ℕ → Bool
name_byte byte = between 97 122 byte || between 48 57 byte

unfoldable pub is_name : Bytes → Bool
is_name body = between 1 max_name (length body) && between 97 122 (get_or {A = ℕ} body 0 0) && every name_byte body

-- The bytes of a name at the front of a text, and what stands behind them.
unfoldable pub name_front : Bytes → Bytes
name_front [] = []
name_front (b ∷ text) = cond (name_byte b) (b ∷ name_front text) []

unfoldable pub name_behind : Bytes → Bytes
name_behind [] = []
name_behind (b ∷ text) = cond (name_byte b) (name_behind text) (b ∷ text)

-- The name that starts at an offset, and its end.
pub record NameEnds (text : Bytes) (at behind : ℕ) : Type 0 where
  pub forth : at ≤ behind
  pub inside : behind ≤ length text
  pub name : take (behind - at) (drop at text) ≡ name_front (drop at text)
  pub left : drop behind text ≡ name_behind (drop at text)

-- The number of a name among others, counted from 0. For a name that is not among them it is how many there are.
unfoldable pub number_of : List Bytes → Bytes → ℕ
number_of [] name = 0
number_of (n ∷ names) name = cond (same_bytes name n) 0 (suc (number_of names name))

abbrev pub is_among : List Bytes → Bytes → Bool
is_among names name = ltb (number_of names name) (length names)

-- How many keys names have. A list of names has a place for each basic type's offset, and behind them one for each key.
abbrev pub name_keys : ℕ
name_keys = 256

abbrev pub name_places : ℕ
name_places = max_types + name_keys

-- The first offsets are those of whole records with different bodies, no more than a book has basic types.
pub record Named (bytes : Bytes) (offsets : List ℕ) (count : ℕ) : Type 0 where
  pub whole : Whole bytes offsets count
  pub few : count ≤ max_types
  pub places : name_places ≤ length offsets
  pub different : (i j : ℕ) → i < count → j < count → body_at bytes (get_or {A = ℕ} offsets i 0) ≡ body_at bytes (get_or {A = ℕ} offsets j 0) → i ≡ j

-- A name's offset is kept as the next one, and its number at some place behind all offsets.
pub record Keeping (offsets : List ℕ) (count at : ℕ) (offsets' : List ℕ) : Type 0 where
  pub place : ℕ
  pub behind : max_types ≤ place
  pub kept : offsets' ≡ set (set offsets count at) place count
