-- Rows that hold the closure of a book's pairs hold as many pairs as the closure has: bit by bit they are the test `below`, and past the
-- last type there is nothing.
use Prim.Native.Nat.{ℕ, ◌≤◌, ◌<◌}
use native.Mathlib.Omega.{arith}
use mathlib.Core.Path.{◌≡◌, refl, ◌∙◌}
use mathlib.Core.Logic.Iff
use mathlib.Core.Logic.{◌↔◌}
use mathlib.Core.Bool.{Bool, true, false, cond, false≢true}
use mathlib.Core.List.{List}
use lib.ListN.{get_or}
use Rattle.bits.specs.Bits.{bit, Has, size}
use Rattle.bits.specs.Totals.{total}
use Rattle.bits.proofs.BitLaws.{bit_absent}
use Rattle.bits.proofs.TotalLaws.{total_same, total_ends, total_none}
use Rattle.pregroup.specs.Held.{InRows}
use Rattle.order.specs.Closed.{Closed, Pair, Listed, DeclaredPairs, below, closed_count}
use Rattle.figures.specs.Limits.{max_types}
use Rattle.order.specs.Rows.{Hold, pairs_in}
use Rattle.order.proofs.ClosureLaws.{closed_within}
use Rattle.order.proofs.Decision.{below_decides}

-- A bit that a test says.
bit_of_test : (x q : ℕ) (t : Bool) → Has x q ↔ (t ≡ true) → bit x q ≡ cond t 1 0
bit_of_test x q true h = h.1 refl
bit_of_test x q false h = bit_absent x q (λ m. false≢true (h.0 m))

module _ (types : ℕ) (pairs : List Pair) (rows : List ℕ) (few : types ≤ max_types) (declared : DeclaredPairs types pairs)
    (hold : Hold rows (Closed types (Listed pairs))) where
  -- Past the last type there is nothing.
  lower_declared : (p q : ℕ) → Has (get_or rows p 0) q → p < types
  unfolding InRows
  lower_declared p q m = (closed_within declared p q ((hold p q).0 m)).0

  upper_declared : (p q : ℕ) → Has (get_or rows p 0) q → q < types
  unfolding InRows
  upper_declared p q m = (closed_within declared p q ((hold p q).0 m)).1

  bit_is_below : (p q : ℕ) → bit (get_or rows p 0) q ≡ cond (below types pairs p q) 1 0
  unfolding InRows
  bit_is_below p q = bit_of_test (get_or rows p 0) q (below types pairs p q) (Iff.trans (hold p q) (Iff.symm (below_decides types pairs declared p q)))

  row_count : (p : ℕ) → size (get_or rows p 0) ≡ total (λ q. cond (below types pairs p q) 1 0) types
  row_count p =
      total_ends (bit (get_or rows p 0)) 64 types few (λ q h. bit_absent (get_or rows p 0) q (λ m. omega (arith, upper_declared p q m)))
      ∙ total_same (bit (get_or rows p 0)) (λ q. cond (below types pairs p q) 1 0) types (λ q h. bit_is_below p q)

  pub pairs_in_closed : pairs_in rows ≡ closed_count types pairs
  unfolding pairs_in closed_count
  pairs_in_closed =
      total_ends (λ p. size (get_or rows p 0)) max_types types few
      (λ p h. total_none (bit (get_or rows p 0)) 64 (λ q. bit_absent (get_or rows p 0) q (λ m. omega (arith, lower_declared p q m))))
      ∙ total_same (λ p. size (get_or rows p 0)) (λ p. total (λ q. cond (below types pairs p q) 1 0) types) types (λ p h. row_count p)
