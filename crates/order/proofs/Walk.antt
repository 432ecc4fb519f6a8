-- The walk that `reach` makes from p along R: the types passed and those ahead stand at or above p, and whatever R relates a type passed to
-- is passed or ahead. With nothing ahead, the types passed are all that stand at or above p.
use Prim.Native.Nat.{ℕ, ◌<◌}
use mathlib.Core.Path.{◌≡◌, refl, sym, subst}
use mathlib.Core.Logic.{◌↔◌, ◌⊎◌, inl, inr, ⊎_elim}
use Rattle.bits.specs.Bits.{Has, Members, Lowest, size}
use Rattle.bits.proofs.BitLaws.{empty_has_none, has_or_not}
use Rattle.bits.proofs.CountLaws.{size_grows}
use Rattle.pregroup.specs.Order.{Relation}
use Rattle.order.specs.Closed.{Closed, reflexive, pair, transitive}
use Rattle.figures.specs.Limits.{max_types}

-- `seen` are the types passed, `todo` those ahead.
pub record Walked (R : Relation) (p seen todo : ℕ) : Type 0 where
  pub start : Has seen p ⊎ Has todo p
  pub passed : (k : ℕ) → Has seen k → Closed max_types R p k
  pub ahead : (k : ℕ) → Has todo k → Closed max_types R p k
  pub kept : (k m : ℕ) → Has seen k → R k m → Has seen m ⊎ Has todo m
  pub apart : (k : ℕ) → Has todo k → Has seen k → ⊥

-- At the start only p is ahead.
pub walk_starts : (R : Relation) (p todo : ℕ) → p < max_types → Members todo (λ k. Has 0 k ⊎ (k ≡ p)) → Walked R p 0 todo
walk_starts R p todo h only = record {
  start = inr ((only p).1 (inr refl));
  passed = λ k m. absurd (empty_has_none k m);
  ahead = λ k m. ⊎_elim (λ z. absurd (empty_has_none k z)) (λ e. subst (λ (n : ℕ). Closed max_types R p n) (sym e) (reflexive h)) ((only k).0 m);
  kept = λ k l m r. absurd (empty_has_none k m);
  apart = λ k m z. empty_has_none k z;
}

-- One turn: q is passed, and what R relates it to is ahead.
module _ (R : Relation) (p seen todo q row joined seen' todo' : ℕ)
    (before : Walked R p seen todo)
    (lowest : Lowest todo q)
    (row_says : (m : ℕ) → R q m ↔ Has row m)
    (seen-says : Members seen' (λ k. Has seen k ⊎ (k ≡ q)))
    (joined_says : Members joined (λ k. Has todo k ⊎ Has row k))
    (todo-says : Members todo' (λ k. Has joined k × (Has seen' k → ⊥))) where
  -- What was ahead, or comes to be, is passed or ahead.
  still : (m : ℕ) → Has joined m → Has seen' m ⊎ Has todo' m
  still m j = ⊎_elim inl (λ out. inr ((todo-says m).1 (j, out))) (has_or_not seen' m)

  at_q : Closed max_types R p q
  at_q = before.ahead q lowest.member

  turned_start : Has seen p ⊎ Has todo p → Has seen' p ⊎ Has todo' p
  turned_start (inl m) = inl ((seen-says p).1 (inl m))
  turned_start (inr m) = still p ((joined_says p).1 (inl m))

  turned_kept : (k m : ℕ) → R k m → Has seen k ⊎ (k ≡ q) → Has seen' m ⊎ Has todo' m
  turned_kept k m r (inl h) = ⊎_elim (λ s. inl ((seen-says m).1 (inl s))) (λ t. still m ((joined_says m).1 (inl t))) (before.kept k m h r)
  turned_kept k m r (inr e) = still m ((joined_says m).1 (inr ((row_says m).0 (rw e at r))))

  pub walk_turns : Walked R p seen' todo'
  walk_turns = record {
    start = turned_start before.start;
    passed = λ k h. ⊎_elim (before.passed k) (λ e. subst (λ (n : ℕ). Closed max_types R p n) (sym e) at_q) ((seen-says k).0 h);
    ahead =
        λ k h. ⊎_elim (before.ahead k) (λ m. transitive at_q (pair ((row_says k).1 m))) ((joined_says k).0 ((todo-says k).0 h).0);
    kept = λ k m h r. turned_kept k m r ((seen-says k).0 h);
    apart = λ k h. ((todo-says k).0 h).1;
  }

-- Each turn passes one number more.
pub walk_grows :
    {R : Relation} {p seen todo q : ℕ} (seen' : ℕ) → Walked R p seen todo → Lowest todo q → Members seen' (λ k. Has seen k ⊎ (k ≡ q))
    → size seen < size seen'
walk_grows {seen} {q} seen' before lowest says =
    size_grows seen seen' q (λ k h. (says k).1 (inl h)) lowest.small (before.apart q lowest.member) ((says q).1 (inr refl))

-- Nothing is ahead: what was passed is closed under R, and so under its closure.
module _ (R : Relation) (p seen : ℕ) (walked : Walked R p seen 0) where
  ends_kept : {k m : ℕ} → Closed max_types R k m → Has seen k → Has seen m
  ends_kept (reflexive h) s = s
  ends_kept (pair {p = k} {q = m} r) s = ⊎_elim (λ t. t) (λ z. absurd (empty_has_none m z)) (walked.kept k m s r)
  ends_kept (transitive c d) s = ends_kept d (ends_kept c s)

  pub walk_ends : Members seen (Closed max_types R p)
  walk_ends k =
      (walked.passed k, λ c. ends_kept c (⊎_elim (λ t. t) (λ z. absurd (empty_has_none p z)) walked.start))
