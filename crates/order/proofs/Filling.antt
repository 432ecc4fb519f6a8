-- The loop of `close` fills the rows one by one: those passed hold what stands at or above their type, the others nothing. When all
-- types are passed, the rows hold the closure.
use Prim.Native.Nat.{ℕ, ◌+◌, ◌≤◌, ◌<◌}
use native.Mathlib.Omega.{arith}
use mathlib.Core.Path.{◌≡◌, refl, ◌∙◌}
use mathlib.Core.Logic.{◌⊎◌, inl, inr, ⊎_elim}
use mathlib.Core.List.{List}
use lib.ListN.{length, get_or, set, replicate, length-set, get_or-replicate, get_or-eq_default}
use lib.Seq.{get_or-set_same, get_or-set_other}
use Rattle.bits.specs.Bits.{Has, Members}
use Rattle.bits.proofs.BitLaws.{empty_has_none}
use Rattle.bits.proofs.Cases.{less_or_not}
use Rattle.pregroup.specs.Order.{Relation}
use Rattle.pregroup.specs.Held.{InRows}
use Rattle.order.specs.Closed.{Closed, Within}
use Rattle.figures.specs.Limits.{max_types}
use Rattle.order.specs.Rows.{Hold}
use Rattle.order.proofs.ClosureLaws.{closed_within, closed_among}

-- The rows up to p are filled.
pub record Filled (R : Relation) (rows : List ℕ) (p : ℕ) : Type 0 where
  pub whole : length rows ≡ max_types
  pub filled : (k : ℕ) → k < p → Members (get_or rows k 0) (Closed max_types R k)
  pub rest : (k : ℕ) → p ≤ k → get_or rows k 0 ≡ 0

empty_row : (k : ℕ) → get_or {A = ℕ} (replicate max_types 0) k 0 ≡ 0
empty_row k = ⊎_elim (get_or-replicate max_types k 0 0) (get_or-eq_default (replicate max_types 0) 0) (less_or_not k max_types)

-- No row is filled yet.
pub fill_starts : (R : Relation) → Filled R (replicate max_types 0) 0
fill_starts R = record { whole = refl; filled = λ k h. absurd (omega arith); rest = λ k h. empty_row k }

-- Row p is stored.
module _ (R : Relation) (rows : List ℕ) (p word : ℕ) (before : Filled R rows p) (small : p < max_types) (says : Members word (Closed max_types R p)) where
  row_at : (k : ℕ) → (k < p) ⊎ (p ≤ k) → k < p + 1 → Members (get_or (set rows p word) k 0) (Closed max_types R k)
  row_at k (inl h) l = rw (get_or-set_other rows p k word 0 (λ e. omega arith)) (before.filled k h)
  row_at k (inr h) l =
      let e : k ≡ p = omega arith in
      rw (e, get_or-set_same rows p word 0 (omega (arith, before.whole))) says

  pub fill_one : Filled R (set rows p word) (p + 1)
  fill_one = record {
    whole = length-set rows p word ∙ before.whole;
    filled = λ k h. row_at k (less_or_not k p) h;
    rest = λ k h. get_or-set_other rows p k word 0 (λ e. omega arith) ∙ before.rest k (omega arith);
  }

-- All rows are filled.
module _ (R : Relation) (rows : List ℕ) (types : ℕ) (few : types ≤ max_types) (within : Within types R) (all : Filled R rows types) where
  row_says : (p q : ℕ) → (p < types) ⊎ (types ≤ p) → Has (get_or rows p 0) q → Closed types R p q
  row_says p q (inl h) m = closed_among within h ((all.filled p h q).0 m)
  row_says p q (inr h) m = absurd (empty_has_none q (rw (all.rest p h) at m))

  says_row : (p q : ℕ) → p < types → Closed types R p q → Has (get_or rows p 0) q
  says_row p q h c =
      (all.filled p h q).1 (closed_among (λ i j r. (omega (arith, (within i j r).0), omega (arith, (within i j r).1))) (omega arith) c)

  pub fill_ends : Hold rows (Closed types R)
  unfolding InRows
  fill_ends p q = (row_says p q (less_or_not p types), λ c. says_row p q (closed_within within p q c).0 c)
