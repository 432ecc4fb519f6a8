-- The laws of rows, word by word: a member put in, a row joined to another, a row stored among others, and the walk to the next member.
use Prim.Native.Nat.{ℕ, ◌+◌, ◌-◌, ◌*◌, ◌/◌, ◌%◌, ◌^◌, ◌≤◌, ◌<◌}
use native.Mathlib.Omega.{arith}
use mathlib.Core.Path.{◌≡◌, refl, ◌∙◌}
use mathlib.Core.Logic.{◌↔◌, ◌⊎◌, inl, inr, ⊎_elim}
use mathlib.Core.List.{List}
use lib.ListN.{get_or, length, set, length-set, replicate, get_or-replicate}
use lib.Seq.{get_or-set_same, get_or-set_other}
use Rattle.std.proofs.Common.{rules}
use borrow.Rule.Slice.PartMut.{put_mid}
use Rattle.std.proofs.lemmas.List.{places}
use Rattle.bits.specs.Bits.{Has, Members, Lowest}
use Rattle.bits.proofs.Cases.{less_or_not, same_or_not}
use Rattle.bits.proofs.BitLaws.{empty_has_none, no_bit_past}
use Rattle.figures.specs.Limits.{row_words, row_bits}
use Rattle.bits.specs.Rows.{InRow, HasRow, RowSays, NextMember, Stored}

-- A row in a struct, by its own words.
zero_index : (j : ℕ) → row_words * 0 + j ≡ j
zero_index j = omega arith

pub word_of_row : (words : List ℕ) (v : ℕ) → InRow words 0 v → Has (get_or words (v / 64) 0) (v % 64)
word_of_row words v h = rw (zero_index (v / 64)) at h.member

pub row_of_word : (words : List ℕ) (v : ℕ) → v < row_bits → Has (get_or words (v / 64) 0) (v % 64) → InRow words 0 v
row_of_word words v h m = record { small = h; member = rw (zero_index (v / 64)) m }

-- No member in a row of zeros.
pub empty_says : RowSays (replicate row_words 0) 0 (λ v. ⊥)
empty_says v = (
  λ h. let zero : get_or {A = ℕ} (replicate row_words 0) (v / 64) 0 ≡ 0 = get_or-replicate row_words (v / 64) 0 0 (omega (arith, h.small)) in
      empty_has_none (v % 64) (rw zero at (word_of_row (replicate row_words 0) v h)),
  λ h. absurd h,
)

-- A member put in.
module _ (words : List ℕ) (v word : ℕ) (whole : length words ≡ row_words) (small : v < row_bits)
    (says : Members word (λ q. Has (get_or words (v / 64) 0) q ⊎ (q ≡ v % 64))) where
  put_at :
      (k : ℕ) → (k / 64 ≡ v / 64) ⊎ (k / 64 ≡ v / 64 → ⊥)
      → Has (get_or (set words (v / 64) word) (k / 64) 0) (k % 64) ↔ (Has (get_or words (k / 64) 0) (k % 64) ⊎ (k ≡ v))
  put_at k (inl e) =
      rw (e, get_or-set_same words (v / 64) word 0 (omega arith))
      (λ h. ⊎_elim inl (λ m. inr (omega arith)) ((says (k % 64)).0 h), λ h. (says (k % 64)).1 (⊎_elim inl (λ (m : k ≡ v). inr (omega arith)) h))
  put_at k (inr apart) =
      rw (get_or-set_other words (v / 64) (k / 64) word 0 apart)
      (λ h. inl h, ⊎_elim (λ h. h) (λ (m : k ≡ v). absurd (apart (omega arith))))

  pub put_says : RowSays (set words (v / 64) word) 0 (λ k. InRow words 0 k ⊎ (k ≡ v))
  put_says k =
      let here = put_at k (same_or_not (k / 64) (v / 64)) in (
        λ h. ⊎_elim (λ m. inl (row_of_word words k h.small m)) inr (here.0 (word_of_row (set words (v / 64) word) k h)),
        ⊎_elim (λ (h : InRow words 0 k). row_of_word (set words (v / 64) word) k h.small (here.1 (inl (word_of_row words k h))))
            (λ (e : k ≡ v). row_of_word (set words (v / 64) word) k (omega arith) (here.1 (inr e))),
      )

-- The first k words are joined to those of the list `rows` from `at` on.
pub record Uniting (before rows : List ℕ) (at : ℕ) (words : List ℕ) (k : ℕ) : Type 0 where
  pub whole : length words ≡ row_words
  pub united : (j : ℕ) → j < k → Members (get_or words j 0) (λ q. Has (get_or before j 0) q ⊎ Has (get_or rows (at + j) 0) q)
  pub rest : (j : ℕ) → k ≤ j → get_or words j 0 ≡ get_or before j 0

pub unite_starts : (words rows : List ℕ) (at : ℕ) → length words ≡ row_words → Uniting words rows at words 0
unite_starts words rows at whole = record { whole = whole; united = λ j h. absurd (omega arith); rest = λ j h. refl }

module _ (start rows : List ℕ) (at : ℕ) (words : List ℕ) (k word : ℕ) (before : Uniting start rows at words k) (small : k < row_words)
    (says : Members word (λ q. Has (get_or words k 0) q ⊎ Has (get_or rows (at + k) 0) q)) where
  unite_at : (j : ℕ) → j < k + 1 → (j < k) ⊎ (k ≤ j) → Members (get_or (set words k word) j 0) (λ q. Has (get_or start j 0) q ⊎ Has (get_or rows (at + j) 0) q)
  unite_at j l (inl h) = rw (get_or-set_other words k j word 0 (λ e. omega arith)) (before.united j h)
  unite_at j l (inr h) =
      let e : j ≡ k = omega arith in
      let kept : get_or words k 0 ≡ get_or start k 0 = before.rest k (omega arith) in
      rw (e, get_or-set_same words k word 0 (omega (arith, before.whole)), ← kept) says

  pub unite_one : Uniting start rows at (set words k word) (k + 1)
  unite_one = record {
    whole = length-set words k word ∙ before.whole;
    united = λ j h. unite_at j h (less_or_not j k);
    rest = λ j h. get_or-set_other words k j word 0 (λ e. omega arith) ∙ before.rest j (omega arith);
  }

pub unite_ends :
    (start rows words : List ℕ) (u : ℕ) → Uniting start rows (row_words * u) words row_words
    → RowSays words 0 (λ v. InRow start 0 v ⊎ InRow rows u v)
unite_ends start rows words u all v = (
  λ h. ⊎_elim (λ m. inl (row_of_word start v h.small m)) (λ m. inr (record { small = h.small; member = m }))
      ((all.united (v / 64) (omega (arith, h.small)) (v % 64)).0 (word_of_row words v h)),
  ⊎_elim
      (λ (h : InRow start 0 v). row_of_word words v h.small ((all.united (v / 64) (omega arith) (v % 64)).1 (inl (word_of_row start v h))))
      (λ (h : InRow rows u v). row_of_word words v h.small ((all.united (v / 64) (omega arith) (v % 64)).1 (inr h.member))),
)

-- Row u is overwritten by the nine words of `words`.
module _ (before words : List ℕ) (u : ℕ) (room : HasRow before u) (nine : length words ≡ row_words) where
  abbrev overwritten : List ℕ
  overwritten = put_mid (row_words * u) (row_words * u + row_words - row_words * u) before words

  same_in_row : (j : ℕ) → j < row_words → get_or overwritten (row_words * u + j) 0 ≡ get_or words j 0
  same_in_row j h = search (rules, places)

  outside : (i : ℕ) → (i < row_words * u) ⊎ (row_words * u + row_words ≤ i) → get_or overwritten i 0 ≡ get_or before i 0
  outside i (inl h) = search (rules, places)
  outside i (inr h) = search (rules, places)

  elsewhere : (w v : ℕ) → v < row_bits → (w < u) ⊎ (u ≤ w) → (w ≡ u → ⊥) → (row_words * w + v / 64 < row_words * u) ⊎ (row_words * u + row_words ≤ row_words * w + v / 64)
  elsewhere w v h (inl l) apart = inl (omega arith)
  elsewhere w v h (inr l) apart = ⊎_elim (λ (e : w ≡ u). absurd (apart e)) (λ (n : w ≡ u → ⊥). inr (omega arith)) (same_or_not w u)

  word_elsewhere : (w v : ℕ) → v < row_bits → (w ≡ u → ⊥) → get_or overwritten (row_words * w + v / 64) 0 ≡ get_or before (row_words * w + v / 64) 0
  word_elsewhere w v h apart = outside (row_words * w + v / 64) (elsewhere w v h (less_or_not w u) apart)

  pub store_says : Stored before overwritten words u
  store_says = record {
    stored = λ v. (
      λ h. row_of_word words v h.small (rw (same_in_row (v / 64) (omega (arith, h.small))) at h.member),
      λ h. record { small = h.small; member = rw (same_in_row (v / 64) (omega (arith, h.small))) (word_of_row words v h) },
    );
    others = λ w apart v. (
      λ h. record { small = h.small; member = rw (word_elsewhere w v h.small apart) at h.member },
      λ h. record { small = h.small; member = rw (word_elsewhere w v h.small apart) h.member },
    );
    length_kept = search (rules, places);
  }

-- The walk of row u from `from` on has come to `at`, and met no member.
pub record Walked (rows : List ℕ) (u from at : ℕ) : Type 0 where
  pub from_on : from ≤ at
  pub within : at ≤ row_bits
  pub none : (v : ℕ) → from ≤ v → v < at → InRow rows u v → ⊥

pub walk_starts : (rows : List ℕ) (u from : ℕ) → from ≤ row_bits → Walked rows u from from
walk_starts rows u from h = record { from_on = omega arith; within = h; none = λ v l k. absurd (omega arith) }

pub walk_ends : {rows : List ℕ} {u from : ℕ} → Walked rows u from row_bits → NextMember rows u from row_bits
walk_ends w = record { from_on = w.from_on; within = omega arith; member = λ h. absurd (omega arith); least = w.none }

module _ (rows : List ℕ) (u from at word : ℕ) (before : Walked rows u from at) (small : at < row_bits)
    (says : Members word (λ q. Has (get_or rows (row_words * u + at / 64) 0) (at % 64 + q))) where
  -- What row u has from `at` on in the same word.
  in_word : (v q : ℕ) → v ≡ at + q → v / 64 ≡ at / 64 → InRow rows u v → Has word q
  in_word v q e same h =
      let digit : v % 64 ≡ at % 64 + q = omega arith in
      (says q).1 (rw (digit, same) at h.member)

  -- Where the word has nothing before `end`, the row has nothing there.
  none_to :
      (end v : ℕ) → end ≤ (at / 64 + 1) * 64 → ((q : ℕ) → at + q < end → Has word q → ⊥) → from ≤ v → v < end → (v < at) ⊎ (at ≤ v)
      → InRow rows u v → ⊥
  none_to end v near none l h (inl k) m = before.none v l k m
  none_to end v near none l h (inr k) m = none (v - at) (omega arith) (in_word v (v - at) (omega arith) (omega arith) m)

  pub walk_on : word ≡ 0 → Walked rows u from ((at / 64 + 1) * 64)
  walk_on e = record {
    from_on = omega (arith, before.from_on);
    within = omega arith;
    none = λ v l h m. none_to ((at / 64 + 1) * 64) v (omega arith) (λ q k s. empty_has_none q (rw e at s)) l h (less_or_not v at) m;
  }

  pub walk_finds : (q : ℕ) → get_or rows (row_words * u + at / 64) 0 < 2 ^ 64 → Lowest word q → NextMember rows u from (at + q)
  walk_finds q fits lowest =
      let found = (says q).0 lowest.member in
      let near : at % 64 + q < 64 =
      ⊎_elim (λ h. h) (λ h. absurd (no_bit_past 64 (get_or rows (row_words * u + at / 64) 0) (at % 64 + q) fits h found)) (less_or_not (at % 64 + q) 64) in
      let word_same : (at + q) / 64 ≡ at / 64 = omega arith in
      let digit-same : (at + q) % 64 ≡ at % 64 + q = omega arith in
      record {
        from_on = omega (arith, before.from_on);
        within = omega arith;
        member = λ h. record { small = h; member = rw (word_same, digit-same) found };
        least = λ v l h m. none_to (at + q) v (omega arith) (λ k less s. lowest.least k (omega arith) s) l h (less_or_not v at) m;
      }
