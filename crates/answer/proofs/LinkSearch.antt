-- The search for the nearest partner of i walks the members of row e of `ends`, the places behind a possible partner, until one is found.
use Prim.Native.Nat.{ℕ, ◌+◌, ◌-◌, ◌≤◌, ◌<◌}
use native.Mathlib.Omega.{arith}
use mathlib.Core.Path.{◌≡◌, sym, ◌∙◌}
use mathlib.Core.Logic.{◌↔◌, ◌⊎◌, inl, inr, ⊎_elim}
use mathlib.Core.Bool.{Bool, true, false, true≢false}
use mathlib.Core.List.{List}
use Rattle.pregroup.specs.Order.{Relation}
use Rattle.figures.specs.Limits.{row_bits}
use Rattle.bits.specs.Rows.{InRow, NextMember}
use Rattle.bits.specs.declared.rows.RowMembers.{RowMembers}
use Rattle.answer.specs.Links.{Closes, MayLink, NearestLink}
use Rattle.bits.proofs.Cases.{less_or_not}

-- What is known of the walk `it`: i may be linked to nothing before it.
pub record WalkSearched (Le : Relation) (string table ends : List ℕ) (e i : ℕ) (it : RowMembers) : Type 0 where
  pub same_rows : it.rows.now ≡ ends
  pub same_row : it.u ≡ e
  pub from_on : i + 2 ≤ it.from
  pub none : (k : ℕ) → i < k → k + 1 < it.from → MayLink Le string table ends e i k → ⊥

-- The same search where it carries along what it has found.
module _ (Le : Relation) (string table ends : List ℕ) (e i : ℕ) where
  -- The walk has come to j, and i may be linked to nothing before the place before j.
  pub record Searched (j : ℕ) : Type 0 where
    pub from_on : i + 2 ≤ j
    pub near : j ≤ row_bits
    pub member : j < row_bits → InRow ends e j
    pub none : (k : ℕ) → i < k → k + 1 < j → MayLink Le string table ends e i k → ⊥

  search_turns : (j j' : ℕ) → Searched j → (Closes Le string table i (j - 1) → ⊥) → NextMember ends e (j + 1) j' → Searched j'
  search_turns j j' so_far apart next = record {
    from_on = omega (arith, so_far.from_on, next.from_on);
    near = next.within;
    member = next.member;
    none = none;
  }
    where
      none : (k : ℕ) → i < k → k + 1 < j' → MayLink Le string table ends e i k → ⊥
      none k h g m =
          ⊎_elim (λ (l : k + 1 < j). so_far.none k h l m)
          (λ (l : j ≤ k + 1).
          ⊎_elim (λ (b : j < k + 1). next.least (k + 1) (omega arith) g m.rest)
          (λ (b : k + 1 ≤ j). let same : k ≡ j - 1 = omega arith in apart (rw same at m.closing)) (less_or_not j (k + 1)))
          (less_or_not (k + 1) j)

  search_finds : (j : ℕ) → Searched j → j < row_bits → Closes Le string table i (j - 1) → NearestLink Le string table ends e i (j - 1)
  search_finds j so_far h closes =
      let from_on = so_far.from_on in
      let one : j - 1 + 1 ≡ j = omega arith in
      record {
        least = λ k l g m. so_far.none k l (omega arith) m;
        found = λ g. (omega arith, record { closing = closes; rest = rw one (so_far.member h) });
      }

  -- The search stands at j with the partner that it has found: `row_bits` as long as there is none, and then one before j.
  pub data SeekingPartner (j : ℕ) : ℕ → Type 0 where
    ahead : Searched j → SeekingPartner j row_bits
    behind : {k : ℕ} → k < j → NearestLink Le string table ends e i k → SeekingPartner j k

  pub seeking_turns :
      {j j' k k' : ℕ} {may : Bool} → SeekingPartner j k → j < k → (may ≡ true) ↔ Closes Le string table i (j - 1) → NextMember ends e (j + 1) j'
      → ((may ≡ true) × (k' ≡ j - 1)) ⊎ ((may ≡ false) × (k' ≡ k)) → SeekingPartner j' k'
  seeking_turns {j} {j'} (ahead s) h says next (inl w) =
      rw w.1 (behind {k = j - 1} (omega (arith, next.from_on)) (search_finds j s h (says.0 w.0)))
  seeking_turns {j} {j'} (ahead s) h says next (inr w) = rw w.1 (ahead (search_turns j j' s (λ c. true≢false (sym (says.1 c) ∙ w.0)) next))
  seeking_turns (behind l n) h says next w = absurd (omega arith)
