-- Two rows that meet, word by word: what the word of both tells, and the words that are passed.
use Prim.Native.Nat.{ℕ, ◌+◌, ◌*◌, ◌/◌, ◌%◌, ◌^◌, ◌≤◌, ◌<◌}
use native.Mathlib.Omega.{arith}
use mathlib.Core.Path.{◌≡◌, refl, ap, ◌∙◌}
use mathlib.Core.Logic.{◌↔◌, ◌⊎◌, inl, inr}
use mathlib.Core.Bool.{Bool, true, false, not}
use mathlib.Core.List.{List}
use lib.Dec.{eqb}
use lib.ListN.{get_or}
use lib.Count.{count_trailing_zeros}
use borrow.Author.Tests.{eqb-false, not-true, ne_eqb}
use Rattle.figures.specs.Limits.{row_words}
use Rattle.bits.specs.Bits.{Has, Members}
use Rattle.bits.specs.Rows.{InRow}
use Rattle.bits.proofs.BitLaws.{empty_has_none}
use Rattle.bits.proofs.Trailing.{trailing_lowest}
use Rattle.bits.proofs.Cases.{less_or_not, false_iff}
use Rattle.bits.proofs.Testing.{Tells, told_yes, told_no}
use Rattle.std.specs.Bool.{MatchBool}
use Rattle.std.specs.List.{range_with_len, AllWithin, HoldsAt}
use Rattle.std.proofs.lemmas.List.FromFn.{get_or-range_with_len}
use Rattle.choice.specs.Sets.{Meets, meets, MeetsIn, meets_in}

module _ (chart : List ℕ) (u : ℕ) (needs : List ℕ) (n : ℕ) where
  -- They have no member in common in the first k words.
  abbrev pub Apart : ℕ → Type 0
  Apart k = (v : ℕ) → v / 64 < k → InRow chart u v → InRow needs n v → ⊥

  pub apart_one : (k : ℕ) → Apart k → (MeetsIn chart u needs n k → ⊥) → Apart (k + 1)
  apart_one k before out v h a b = at (less_or_not (v / 64) k)
    where
      at : (v / 64 < k) ⊎ (k ≤ v / 64) → ⊥
      at (inl l) = before v l a b
      at (inr l) = out (meets_in v (omega arith) a b)

  pub apart_all : Apart row_words → Meets chart u needs n → ⊥
  apart_all apart (meets v a b) = apart v (omega (arith, a.small)) a b

  pub meets_whole : {k : ℕ} → MeetsIn chart u needs n k → Meets chart u needs n
  meets_whole (meets_in v e a b) = meets v a b

  -- The words, asked one after another.
  pub meets_any :
      (r : Bool) → MatchBool r ((k : ℕ) × (k < row_words) × HoldsAt (λ w. Tells (MeetsIn chart u needs n w) true) (range_with_len 0 row_words) k)
      (AllWithin (λ w. Tells (MeetsIn chart u needs n w) false) (range_with_len 0 row_words) 0 row_words)
      → (r ≡ true) ↔ Meets chart u needs n
  meets_any true met = (λ e. meets_whole (told_yes (met.2 0)), λ m. refl)
  meets_any false apart = false_iff none
    where
      none : Meets chart u needs n → ⊥
      none (meets v a b) =
          let small : v / 64 < row_words = omega (arith, a.small) in
          let here : get_or (range_with_len 0 row_words) (v / 64) 0 ≡ v / 64 = get_or-range_with_len 0 row_words (v / 64) 0 small ∙ omega arith in
          told_no (rw here at (apart (v / 64) 0 (omega arith) small)) (meets_in v refl a b)

  -- The rows meet in word k exactly where the word of both has a member.
  module _ (k word : ℕ) (small : k < row_words) (fits : word < 2 ^ 64)
      (says : Members word (λ q. Has (get_or chart (row_words * u + k) 0) q × Has (get_or needs (row_words * n + k) 0) q)) where
    meets_of_word : 0 < word → MeetsIn chart u needs n k
    meets_of_word positive =
        let low = trailing_lowest word positive fits in
        let q = count_trailing_zeros 64 word in
        let both = (says q).0 low.member in
        let v = 64 * k + q in
        let word_same : v / 64 ≡ k = omega (arith, low.small) in
        let digit-same : v % 64 ≡ q = omega (arith, low.small) in
        meets_in v word_same (record { small = omega (arith, low.small); member = rw (word_same, digit-same) both.0 })
        (record { small = omega (arith, low.small); member = rw (word_same, digit-same) both.1 })

    word_of_meets : MeetsIn chart u needs n k → word ≡ 0 → ⊥
    word_of_meets (meets_in v e a b) none = empty_has_none (v % 64) (rw none at ((says (v % 64)).1 (rw e at a.member, rw e at b.member)))

    pub word_tells : (not (eqb word 0) ≡ true) ↔ MeetsIn chart u needs n k
    word_tells = (
      λ h. let some = eqb-false word 0 (not-true (eqb word 0) h) in meets_of_word (omega (arith, some)),
      λ m. ap not (ne_eqb word 0 (word_of_meets m)),
    )
