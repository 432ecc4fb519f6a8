-- The three cases of `link_kind`, over a test that decides the order: which simple types they are of, and which links need the order.
use Prim.Native.Nat.{ℕ}
use native.Mathlib.Omega.{arith}
use mathlib.Core.Path.{◌≡◌, refl, sym, ◌∙◌}
use mathlib.Core.Logic.{◌↔◌, ◌⊎◌, inl, inr}
use mathlib.Core.Bool.{Bool, true, false, cond, true≢false, false≢true}
use mathlib.Core.List.{List}
use denote.Enum.Declared.{tag_of}
use lib.Dec.{eqb}
use lib.IntN.{ℤ, suc_ℤ}
use lib.ListN.{get_or}
use borrow.Author.Tests.{eqb-true, eq-eqb, ne_eqb}
use Rattle.bits.specs.Bits.{bit}
use Rattle.pregroup.specs.Types.{Basic, Simple, ◌⁽◌⁾, even}
use Rattle.pregroup.specs.Order.{Relation, Turned}
use Rattle.pregroup.specs.Vanish.{Contracts, Equality, NeedsOrder}
use Rattle.pregroup.specs.Tests.{Test, Decides, contracts, link_kind}
use Rattle.pregroup.specs.Held.{held, InRows, in_rows}
use Rattle.pregroup.specs.declared.LinkKind.{LinkKind}
use Rattle.pregroup.specs.declared.LinkKind.TheVariants.{Not, Same, Different}
use Rattle.pregroup.specs.contracts.LinkKind.{the_type}
use Rattle.pregroup.proofs.Decision.{contracts_iff}

-- Each case by the two tests that it is told by.
abbrev kind_by : Bool → Bool → LinkKind
kind_by may same = cond may (cond same Same Different) Not

by_not : (may same : Bool) → (kind_by may same ≡ Not) ↔ (may ≡ false)
by_not true true = (λ e. cc, λ e. cc)
by_not true false = (λ e. cc, λ e. cc)
by_not false same = (λ e. refl, λ e. refl)

by_same : (may same : Bool) → (kind_by may same ≡ Same) ↔ ((may ≡ true) × (same ≡ true))
by_same true true = (λ e. (refl, refl), λ e. refl)
by_same true false = (λ e. (refl, cc), λ e. cc)
by_same false same = (λ e. (cc, cc), λ e. absurd (false≢true e.0))

by_different : (may same : Bool) → (kind_by may same ≡ Different) ↔ ((may ≡ true) × (same ≡ false))
by_different true true = (λ e. (refl, cc), λ e. absurd (true≢false e.1))
by_different true false = (λ e. (refl, refl), λ e. refl)
by_different false same = (λ e. (cc, cc), λ e. absurd (false≢true e.0))

not_true : (b : Bool) → (b ≡ true → ⊥) → b ≡ false
not_true true h = absurd (h refl)
not_true false h = refl

-- The two contract by equality alone where the exponents follow each other and the basic type is the same.
turned_equal : (t : Bool) (a b : Basic) → Turned Equality t a b ↔ (a ≡ b)
turned_equal true a b = (λ e. e, λ e. e)
turned_equal false a b = (λ e. sym e, λ e. sym e)

-- The rows are asked by a test, which decides what they relate.
pub rows_decide : (rows : List ℕ) → Decides (in_rows rows) (InRows rows)
unfolding in_rows InRows
rows_decide rows p q = (λ h. eqb-true (bit (get_or {A = ℕ} rows p 0) q) 1 h, λ h. eq-eqb (bit (get_or {A = ℕ} rows p 0) q) 1 h)

module _ {le : Test} {Le : Relation} (decides : Decides le Le) (x y : Simple) where
  abbrev may : Bool
  may = contracts le x y

  abbrev same : Bool
  same = eqb x.base y.base

  -- "May contract" is "not the first case".
  pub kind_not : (link_kind le x y ≡ Not) ↔ (Contracts Le x y → ⊥)
  unfolding link_kind
  kind_not = (
    λ e c. true≢false (sym ((contracts_iff decides x y).1 c) ∙ (by_not may _).0 e),
    λ none. (by_not may _).1 (not_true (contracts le x y) (λ h. none ((contracts_iff decides x y).0 h))),
  )

  pub kind_may : (link_kind le x y ≡ Not → ⊥) ↔ Contracts Le x y
  kind_may = (λ linked. by (contracts le x y) refl linked, λ c e. kind_not.0 e c)
    where
      by : (b : Bool) → contracts le x y ≡ b → (link_kind le x y ≡ Not → ⊥) → Contracts Le x y
      by true e linked = (contracts_iff decides x y).0 e
      by false e linked = absurd (linked (kind_not.1 (λ c. true≢false (sym ((contracts_iff decides x y).1 c) ∙ e))))

  pub kind_same : (link_kind le x y ≡ Same) ↔ (Contracts Le x y × (x.base ≡ y.base))
  unfolding link_kind
  kind_same = (
    λ e. let both = (by_same may same).0 e in ((contracts_iff decides x y).0 both.0, eqb-true x.base y.base both.1),
    λ h. (by_same may same).1 ((contracts_iff decides x y).1 h.0, eq-eqb x.base y.base h.1),
  )

  pub kind_different : (link_kind le x y ≡ Different) ↔ (Contracts Le x y × (x.base ≡ y.base → ⊥))
  unfolding link_kind
  kind_different = (
    λ e. let both = (by_different may same).0 e in ((contracts_iff decides x y).0 both.0, λ q. true≢false (sym (eq-eqb x.base y.base q) ∙ both.1)),
    λ h. (by_different may same).1 ((contracts_iff decides x y).1 h.0, ne_eqb x.base y.base h.1),
  )

  -- The third case is that of the links that need the order.
  pub kind_needs_order : (link_kind le x y ≡ Different) ↔ NeedsOrder Le x y
  kind_needs_order = (
    λ e. let h = kind_different.0 e in record { contracts = h.0; unequal = λ c. h.1 ((turned_equal (even x.exponent) x.base y.base).0 c.fits) },
    λ n. kind_different.1 (n.contracts, λ q. n.unequal (record { raised = n.contracts.raised; fits = (turned_equal (even x.exponent) x.base y.base).1 q })),
  )

-- Two basic types that stand below each other are still different, at every exponent.
pub mutual_different : {le : Test} {Le : Relation} → Decides le Le → (a b : Basic) → Le a b → Le b a → (a ≡ b → ⊥) → (z : ℤ)
    → link_kind le (a ⁽ z ⁾) (b ⁽ suc_ℤ z ⁾) ≡ Different
mutual_different {le} {Le} decides a b up down other z = (kind_different decides (a ⁽ z ⁾) (b ⁽ suc_ℤ z ⁾)).1 (record { raised = refl; fits = either (even z) }, other)
  where
    either : (t : Bool) → Turned Le t a b
    either true = up
    either false = down

-- What the arms of a `match` on the test of two held simple types are told: in the arm of the first case they could not contract, in an arm for
-- the other two they could.
module _ (rows : List ℕ) (x y : ℕ) {kind : LinkKind} (asked : kind ≡ link_kind (in_rows rows) (held x) (held y)) where
  pub told_apart : kind ≡ Not → Contracts (InRows rows) (held x) (held y) → ⊥
  told_apart e = (kind_not (rows_decide rows) (held x) (held y)).0 (sym asked ∙ e)

  pub told_contracts : (tag_of the_type kind ≡ 1) ⊎ (tag_of the_type kind ≡ 2) → Contracts (InRows rows) (held x) (held y)
  told_contracts = by kind asked
    where
      by : (k : LinkKind) → k ≡ link_kind (in_rows rows) (held x) (held y) → (tag_of the_type k ≡ 1) ⊎ (tag_of the_type k ≡ 2) → Contracts (InRows rows) (held x) (held y)
      by Not e (inl t) = absurd (omega arith)
      by Not e (inr t) = absurd (omega arith)
      by Same e t = ((kind_same (rows_decide rows) (held x) (held y)).0 (sym e)).0
      by Different e t = ((kind_different (rows_decide rows) (held x) (held y)).0 (sym e)).0
