-- How the code holds sets of nodes or places: each set is a row of nine words of 64 bits, and rows stand one behind another in a flat list.
use Rattle.std.specs.Prelude.{ℕ, ◌+◌, ◌*◌, ◌/◌, ◌%◌, ◌≤◌, ◌<◌, ◌≡◌, ◌↔◌, List, get_or, length, Option, MatchOption}
use Rattle.figures.specs.Limits.{row_words, row_bits}
use Rattle.bits.specs.Bits.{Has}

-- v is a member of row u. A row in a struct is row 0 of its words.
pub record InRow (rows : List ℕ) (u v : ℕ) : Type 0 where
  pub small : v < row_bits
  pub member : Has (get_or rows (row_words * u + v / 64) 0) (v % 64)

-- Row u is there.
abbrev pub HasRow : List ℕ → ℕ → Type 0
HasRow rows u = row_words * u + row_words ≤ length rows

-- The members of row u are the numbers of Q.
abbrev pub RowSays : List ℕ → ℕ → (ℕ → Type 0) → Type 0
RowSays rows u Q = (v : ℕ) → InRow rows u v ↔ Q v

-- r is the smallest member of row u that is not below `from`, or `row_bits` where there is none.
pub record NextMember (rows : List ℕ) (u from r : ℕ) : Type 0 where
  pub from_on : from ≤ r
  pub within : r ≤ row_bits
  pub member : r < row_bits → InRow rows u r
  pub least : (v : ℕ) → from ≤ v → v < r → InRow rows u v → ⊥

-- A walk of row u gives the smallest member from `from` on, and goes on behind it from `on`.
pub record GivenMember (rows : List ℕ) (u from v on : ℕ) : Type 0 where
  pub small : v < row_bits
  pub next : NextMember rows u from v
  pub behind : on ≡ v + 1

-- The walk gives a member, or has none left.
abbrev pub GivesMember : List ℕ → ℕ → ℕ → Option ℕ → ℕ → Type 0
GivesMember rows u from r on = MatchOption r (NextMember rows u from row_bits) (λ v. GivenMember rows u from v on)

-- Row u of `after` holds what the row of `words` held, and the other rows are those of `before`.
pub record Stored (before after words : List ℕ) (u : ℕ) : Type 0 where
  pub stored : RowSays after u (InRow words 0)
  pub others : (w : ℕ) → (w ≡ u → ⊥) → RowSays after w (InRow before w)
  pub length_kept : length after ≡ length before
