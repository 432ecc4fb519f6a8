-- `max_listing` bytes are enough for the listing of whatever `read_line` answers: a row's fields are as short as the limits of books and lines make
-- them.
use Prim.Native.Nat.{ℕ, suc, ◌-◌, ◌≤◌, ◌<◌}
use native.Mathlib.Omega.{arith}
use mathlib.Core.Path.{◌≡◌, ap}
use mathlib.Core.Logic.{◌⊎◌, inl, inr}
use mathlib.Core.List.{List}
use lib.ListN.{length, get_or, get_or-eq_default}
use Rattle.figures.specs.Limits.{max_entries, max_words, max_string}
use Rattle.bits.proofs.Cases.{less_or_not}
use Rattle.pregroup.specs.Types.{Basic, PregroupType}
use Rattle.pregroup.specs.Order.{Relation}
use Rattle.linking.specs.Linking.{IsLinking}
use Rattle.format.specs.Records.{Bytes}
use Rattle.book.specs.Format.{Book, accepted, parse}
use Rattle.line.specs.LineWords.{words_of}
use Rattle.line.proofs.Passed.{Passing, line_passing}
use Rattle.std.specs.Prelude.{Ok}
use Rattle.reader.specs.Demands.{Promised}
use Rattle.writing.specs.Decimal.{decimal}
use Rattle.printing.specs.Rows.{yes, first_row, refusal_row}
use Rattle.listing.specs.ListingDemands.{ListsReading}
use Rattle.listing.specs.Listing.{listing, max_listing}
use Rattle.writing.specs.Placed.{place_bound}
use Rattle.writing.proofs.Decimals.{decimal_length}
use Rattle.listing.proofs.Bounds.{refusal_row_short, at_each, declares, few_words, few_simples, shown_within}
use Rattle.listing.proofs.Lengths.{row_of_four}
use Rattle.listing.proofs.Answers.{choice_joined, answer_listed}

-- A partner is a position.
partner_within : {Le : Relation} {s : Basic} {X : PregroupType} {P : List ℕ} → IsLinking Le s X P → (i : ℕ) → get_or {A = ℕ} P i 0 ≤ length P
partner_within {X} {P} l i = by (less_or_not i (length P))
  where
    by : (i < length P) ⊎ (length P ≤ i) → get_or {A = ℕ} P i 0 ≤ length P
    by (inl h) =
        let place : suc i - 1 ≡ i = omega arith in
        let inside : get_or {A = ℕ} P i 0 ≤ length X = rw place at (l.within (suc i) (omega arith, omega arith)).1 in
        omega arith
    by (inr h) = omega (arith, get_or-eq_default P 0 {n = i} h)

module _ (book line text : Bytes) (r : ListsReading book line text) where
  abbrev B : Book
  B = r.contents

  parsed : parse book ≡ accepted B
  parsed = r.readable.book_accepted

  passes : Passing B line r.words
  passes = line_passing B line r.words r.readable.line_passed

  few : length (words_of line) ≤ max_words
  few = few_words book B parsed (words_of line) passes.words_fine r.entries

  simples : length r.type ≤ max_string
  simples = omega (arith, few_simples book B parsed (words_of line) passes.words_fine r.entries, ap length r.joins)

  entry_small : (i : ℕ) → get_or {A = ℕ} r.entries i 0 < max_entries
  entry_small =
      at_each (λ (number : ℕ). number < max_entries) r.entries 0 (omega arith)
      (λ number m. omega (arith, (choice_joined B r.chosen (words_of line) passes.words_are).2 number m, (declares book B parsed).few))

  first_row_short : length (first_row (length r.entries) (length r.partners) r.target) ≤ 13
  first_row_short =
      omega (
        arith,
        row_of_four yes (decimal (length r.entries)) (decimal (length r.partners)) (decimal r.target),
        decimal_length 1 (length r.entries) (omega (arith, r.entry_each, few)),
        decimal_length 2 (length r.partners) (omega (arith, r.partner_each, simples)),
        decimal_length 0 r.target (omega (arith, r.first.reading.target_there, (declares book B parsed).few_targets)),
      )

  -- The listing of a reading.
  reading_short : length text ≤ max_listing
  reading_short =
      omega (
        arith,
        rw (← r.joins) at (ap length r.rows),
        shown_within book B parsed (words_of line) passes.words_fine r.entries r.target r.letters r.partners 4 3
            (λ i. decimal_length 3 (get_or {A = ℕ} r.entries i 0) (omega (arith, entry_small i)))
            (λ i. decimal_length 2 (get_or {A = ℕ} r.partners i 0) (omega (arith, partner_within r.first.reading.linking i, r.partner_each, simples))),
        first_row_short,
      )

pub answer_short : (book line : Bytes) (buffer after : List ℕ) (n : ℕ) → Promised book line buffer (Ok n) after
    → length (listing book line (Ok n) after) ≤ max_listing
answer_short book line buffer after n p = reading_short book line (listing book line (Ok n) after) (answer_listed book line buffer after n p)

pub refusal_short : (number value : ℕ) → number < place_bound → value < place_bound → length (refusal_row number value) ≤ max_listing
refusal_short number value h i = omega (arith, refusal_row_short number value h i)
