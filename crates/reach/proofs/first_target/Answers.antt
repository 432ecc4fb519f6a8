-- `reach::first_target` meets its contract: target by target.
use borrow.Author.Rules.{rules}
use Prim.Native.Nat.{ℕ, ◌≤◌, ◌<◌}
use native.Mathlib.Omega.{arith}
use mathlib.Core.Bool.{true, false}
use mathlib.Core.List.{List}
use Rattle.std.specs.Option.{MatchOption}
use Rattle.std.specs.Prelude.{Option, Some, None}
use Rattle.std.proofs.lemmas.Iterator.{first_from_Range}
use Rattle.bits.specs.Rows.{InRow}
use Rattle.bits.proofs.Testing.{Tells, told_by, told_yes, told_no}
use Rattle.layout.specs.LineLayout.{end_at}
use Rattle.reach.specs.Charted.{FirstReached}
use Rattle.reach.proofs.first_target.Goals as goal

module _ (chart : List ℕ) (last count : ℕ) where
  abbrev Ends : ℕ → Type 0
  Ends t = InRow chart 0 (end_at last t)

  reached :
      (found : Option ℕ) → MatchOption found ((t : ℕ) → 0 ≤ t → t < count → Tells (Ends t) false)
      (λ r. (0 ≤ r) × (r < count) × Tells (Ends r) true × ((t : ℕ) → 0 ≤ t → t < r → Tells (Ends t) false))
      → FirstReached chart last count found
  reached (Some r) h = (h.1, record { within = omega arith; reached = λ l. told_yes h.2; none = λ t l. told_no (h.3 t (omega arith) l) })
  reached None h = λ t l. told_no (h t (omega arith) l)

pub returns : goal.returns
returns c =
    let a = c.args in
    let ends = Ends a.chart.now a.last a.count in
    reached a.chart.now a.last a.count c.find.result
    (first_from_Range _ _ _ c.find.result (λ t. Tells (ends t) true) (λ t. Tells (ends t) false) c.find.ensures.ran
    (λ t q met. search (rules, told_by)) (λ t q met. (search rules, search (rules, told_by))))
