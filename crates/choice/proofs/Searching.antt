-- The search for the first slot: no slot that is passed leads to a node from which the chart reaches what is needed.
use Prim.Native.Nat.{ℕ, ◌+◌, max, ◌≤◌, ◌<◌}
use native.Mathlib.Omega.{arith}
use mathlib.Core.Path.{◌≡◌}
use mathlib.Core.Logic.{◌⊎◌, inl, inr}
use mathlib.Core.List.{List}
use Rattle.graph.specs.Graph.{entered_at}
use Rattle.bits.proofs.Cases.{less_or_not}
use Rattle.choice.specs.Sets.{Meets, FirstSlot}

-- The slots from `from` to before s are passed.
pub record Passed (slots chart needs : List ℕ) (n from s : ℕ) : Type 0 where
  pub from_on : from ≤ s
  pub none : (r : ℕ) → from ≤ r → r < s → Meets chart (entered_at slots r) needs n → ⊥

module _ (slots chart needs : List ℕ) (n from s : ℕ) (before : Passed slots chart needs n from s) where
  passed_at :
      (Meets chart (entered_at slots s) needs n → ⊥) → (r : ℕ) → from ≤ r → r < s + 1 → (r < s) ⊎ (s ≤ r) → Meets chart (entered_at slots r) needs n → ⊥
  passed_at none r l h (inl k) p = before.none r l k p
  passed_at none r l h (inr k) p = let e : r ≡ s = omega arith in none (rw e at p)

  pub pass_slot : (Meets chart (entered_at slots s) needs n → ⊥) → Passed slots chart needs n from (s + 1)
  pass_slot none = record { from_on = omega (arith, before.from_on); none = λ r l h p. passed_at none r l h (less_or_not r s) p }

  pub search_found : (to : ℕ) → Meets chart (entered_at slots s) needs n → FirstSlot slots chart needs n from to s
  search_found to p = record { from_on = before.from_on; found = λ h. p; none = before.none }

  pub search_fails : (to r : ℕ) → to ≤ s → r ≡ max from to → FirstSlot slots chart needs n from to r
  search_fails to r h e = record { from_on = omega arith; found = λ l. absurd (omega arith); none = λ q on l. before.none q on (omega arith) }
