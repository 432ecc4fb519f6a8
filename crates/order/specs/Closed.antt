-- Document 01: "The order is the reflexive and transitive closure of the book's pairs", and the number of pairs p ≤ q in it, p ≤ p included.
-- The closure is a relation; `below` is the same as a test that antt computes, and `below_decides` proves it right.
use Rattle.std.specs.Prelude.{ℕ, ◌<◌, ◌≡◌, ◌↔◌, Bool, true, false, cond, ◌&&◌, eqb, ltb, length}
use mathlib.Core.List.{List, [], ◌∷◌, Memᴰ, Nodup}
use Rattle.bits.specs.Totals.{total}
use Rattle.pregroup.specs.Order.{Relation}

-- The closure of R over the types with numbers below `types`.
pub data Closed (types : ℕ) (R : Relation) : ℕ → ℕ → Type 0 where
  reflexive : {p : ℕ} → p < types → Closed types R p p
  pair : {p q : ℕ} → R p q → Closed types R p q
  transitive : {p q r : ℕ} → Closed types R p q → Closed types R q r → Closed types R p r

-- R relates declared types only: numbers below `types`.
abbrev pub Within : ℕ → Relation → Type 0
Within types R = (p q : ℕ) → R p q → (p < types) × (q < types)

-- A pair of a book: lower ≤ upper.
pub record Pair : Type 0 where
  pub lower : ℕ
  pub upper : ℕ

-- The pairs of a book as a relation.
abbrev pub Listed : List Pair → Relation
Listed pairs p q = Memᴰ (record { lower = p; upper = q }) pairs

-- R has n pairs: they stand in a list of that length, each once and nothing else.
pub record HasPairs (R : Relation) (n : ℕ) : Type 0 where
  pub pairs : List Pair
  pub once : Nodup pairs
  pub all : (p q : ℕ) → Listed pairs p q ↔ R p q
  pub count : length pairs ≡ n

-- Both types of each pair are declared.
abbrev pub DeclaredPairs : ℕ → List Pair → Type 0
DeclaredPairs types pairs = Within types (Listed pairs)

-- Whether p ≤ q. With one pair a ≤ b more: p ≤ q before, or p ≤ a and b ≤ q before.
unfoldable pub below : ℕ → List Pair → ℕ → ℕ → Bool
below types [] p q = eqb p q && ltb p types
below types (x ∷ pairs) p q =
    let to = below types pairs p x.lower in
    let from = below types pairs x.upper q in
    cond (below types pairs p q) true (cond to from false)

-- How many pairs p ≤ q the closed order has.
unfoldable pub closed_count : ℕ → List Pair → ℕ
closed_count types pairs = total (λ p. total (λ q. cond (below types pairs p q) 1 0) types) types
