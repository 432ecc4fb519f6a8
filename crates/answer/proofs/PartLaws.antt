-- The parts of values: those of an answer's own values, and how wide they are.
use Prim.Native.Nat.{ℕ, suc, ◌+◌, ◌-◌, ◌≤◌, ◌<◌}
use native.Mathlib.Numerals.{add-one}
use native.Mathlib.Omega.{arith}
use mathlib.Core.Path.{◌≡◌, sym, ap, ◌∙◌}
use mathlib.Core.Logic.{◌⊎◌, inl, inr}
use mathlib.Core.List.{List, ◌∷◌, ◌++◌}
use lib.ListN.{length, get_or, take, drop, length-take, get_or-eq_default}
use lib.Seq.{take-length, take-append_seam, drop-append-add, get_or-append_seam, get_or-take, get_or-drop}
use Rattle.bits.proofs.Cases.{less_or_not}
use Rattle.figures.specs.Limits.{answer_head, value_bound}
use Rattle.linking.specs.Reading.{Answer}
use Rattle.answer.specs.Answers.{values_of}
use Rattle.answer.specs.Parts.{target_part, counted, entries_part, partners_part}

-- The parts of an answer's values are its entry numbers and its partners.
module _ (a : Answer) where
  pub entries_of_answer : entries_part (values_of a) ≡ a.entries
  entries_of_answer = take-append_seam a.entries (length a.partners ∷ a.partners)

  pub partners_of_answer : partners_part (values_of a) ≡ a.partners
  partners_of_answer =
      let rest = length a.partners ∷ a.partners in
      let place : length a.entries + 2 ≡ suc (suc (length a.entries)) = omega arith in
      let behind = ap (λ (n : ℕ). drop n (a.entries ++ rest)) (sym (add-one (length a.entries))) ∙ drop-append-add a.entries rest 1 in
      rw (entries_of_answer, place, get_or-append_seam a.entries (length a.partners) a.partners 0)
      (ap (take (length a.partners)) behind ∙ take-length a.partners)

-- Values of 16 bits.
abbrev pub Narrow : List ℕ → Type 0
Narrow values = (i : ℕ) → get_or {A = ℕ} values i 0 < value_bound

-- The values behind a count are as narrow as all, and no more than it says.
module _ (values : List ℕ) (narrow : Narrow values) where
  narrow_counted : (at : ℕ) → Narrow (counted values at)
  narrow_counted at i = by (less_or_not i (get_or {A = ℕ} values at 0))
    where
      by : (i < get_or {A = ℕ} values at 0) ⊎ (get_or {A = ℕ} values at 0 ≤ i) → get_or {A = ℕ} (counted values at) i 0 < value_bound
      by (inl h) = rw (get_or-take (get_or {A = ℕ} values at 0) (drop (suc at) values) i 0 h, get_or-drop (suc at) values i 0) (narrow (suc at + i))
      by (inr h) = rw (get_or-eq_default (counted values at) 0 {n = i} (omega (arith, length-take (get_or {A = ℕ} values at 0) (drop (suc at) values)))) (omega arith)

  few_counted : (at : ℕ) → length (counted values at) < value_bound
  few_counted at = omega (arith, length-take (get_or {A = ℕ} values at 0) (drop (suc at) values), narrow at)

  pub target_narrow : target_part values < value_bound
  target_narrow = narrow (answer_head - 3)

  pub entries_narrow : Narrow (entries_part values) × (length (entries_part values) < value_bound)
  entries_narrow = (narrow_counted (answer_head - 2), few_counted (answer_head - 2))

  pub partners_narrow : Narrow (partners_part values) × (length (partners_part values) < value_bound)
  partners_narrow = let at = length (entries_part values) + (answer_head - 1) in (narrow_counted at, few_counted at)
