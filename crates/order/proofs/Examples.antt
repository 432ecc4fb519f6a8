-- The closed order at work: antt computes the number of its pairs for small books.
use Prim.Native.Nat.{ℕ}
use mathlib.Core.Path.{◌≡◌, refl}
use mathlib.Core.List.{[], ◌∷◌}
use Rattle.bits.specs.Totals.{total}
use Rattle.order.specs.Closed.{Pair, below, closed_count}

infix 80 ◌≼◌
abbrev ◌≼◌ : ℕ → ℕ → Pair
a ≼ b = record { lower = a; upper = b }

-- Document 01's book to try: o 0, p 1, w 2, u 3, and u ≤ w.
book_to_try : closed_count 4 (3 ≼ 2 ∷ []) ≡ 5
unfolding closed_count total below
book_to_try = refl

-- With a type more, which nothing is paired with.
one_type_more : closed_count 5 (3 ≼ 2 ∷ []) ≡ 6
unfolding closed_count total below
one_type_more = refl

-- Three types in a circle stand below each other, nine pairs, and a fourth apart.
circle : closed_count 4 (0 ≼ 1 ∷ 1 ≼ 2 ∷ 2 ≼ 0 ∷ []) ≡ 10
unfolding closed_count total below
circle = refl
