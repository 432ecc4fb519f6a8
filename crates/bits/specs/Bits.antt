-- A set of numbers below 64 in one word of 64 bits: q is a member where bit q is 1.
use Rattle.std.specs.Prelude.{ℕ, ◌/◌, ◌%◌, ◌^◌, ◌<◌, ◌≤◌, ◌≡◌, ◌↔◌}
use Rattle.bits.specs.Totals.{total}

-- Bit q of x.
unfoldable pub bit : ℕ → ℕ → ℕ
bit x q = x / 2 ^ q % 2

-- q is a member of x.
abbrev pub Has : ℕ → ℕ → Type 0
Has x q = bit x q ≡ 1

-- The members of x are the numbers of Q.
abbrev pub Members : ℕ → (ℕ → Type 0) → Type 0
Members x Q = (k : ℕ) → Has x k ↔ Q k

-- How many members x has.
abbrev pub size : ℕ → ℕ
size x = total (bit x) 64

-- q is the lowest member of a word.
pub record Lowest (word q : ℕ) : Type 0 where
  pub small : q < 64
  pub member : Has word q
  pub least : (k : ℕ) → k < q → Has word k → ⊥

-- n is the number of members of a word, which are no more than its bits.
pub record Counted (word n : ℕ) : Type 0 where
  pub number : n ≡ size word
  pub small : n ≤ 64
