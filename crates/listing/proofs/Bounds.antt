-- The places of a whole listing can be counted: numbers of 64 bits have few digits, names and words are short, and there are not many rows.
use Prim.Native.Nat.{ℕ, zero, suc, ◌+◌, ◌*◌, ◌≤◌, ◌<◌}
use native.Mathlib.Nat.{mul-le-mul_right}
use native.Mathlib.Omega.{arith}
use mathlib.Core.Path.{◌≡◌, refl}
use mathlib.Core.List.{List, [], ◌∷◌, Memᴰ}
use mathlib.Core.Option.{none}
use lib.ListN.{length, get_or, take, length-take}
use Rattle.figures.specs.Limits.{max_name, max_words, max_string, value_bound}
use Rattle.pregroup.specs.Types.{Simple}
use Rattle.format.specs.Records.{Bytes}
use Rattle.book.specs.Format.{Entry, Book, accepted, parse}
use Rattle.book.proofs.Accepted.{BookDeclares, accepted_declares}
use Rattle.line.specs.LineWords.{Word}
use Rattle.line.specs.LineFaults.{word_fault}
use Rattle.line.proofs.Passed.{words_few}
use Rattle.writing.specs.Decimal.{decimal}
use Rattle.printing.specs.Text.{signed}
use Rattle.answer.proofs.PartLaws.{Narrow}
use Rattle.printing.specs.Rows.{yes, no, first_row, refusal_row, type_row, shown_rows}
use Rattle.listing.specs.Listing.{type_of, listed_type}
use Rattle.writing.specs.Placed.{place_bound, Countable}
use Rattle.writing.proofs.Decimals.{decimal_length}
use Rattle.listing.proofs.Lengths.{row_of_three, row_of_four, row_of_five, word_rows_within, type_rows_within, TypeShort, empty_short, listed_type_short, joined_within, shown_length}

-- A number of 64 bits has at most 20 digits.
decimal_short : (n : ℕ) → n < place_bound → length (decimal n) ≤ 20
decimal_short n h = decimal_length 19 n (omega arith)

-- The row of a refusal, whatever numbers of 64 bits it has.
pub refusal_row_short : (number value : ℕ) → number < place_bound → value < place_bound → length (refusal_row number value) ≤ 45
refusal_row_short number value h i = omega (arith, row_of_three no (decimal number) (decimal value), decimal_short number h, decimal_short value i)

pub refusal_countable : (number value : ℕ) → number < place_bound → value < place_bound → Countable 0 (refusal_row number value)
refusal_countable number value h i = record { small = omega (arith, refusal_row_short number value h i) }

-- What holds of all of a list, and of what counts where nothing is there, holds at every place.
pub at_each : {A : Type 0} (P : A → Type 0) (l : List A) (d : A) → P d → ((x : A) → Memᴰ x l → P x) → (i : ℕ) → P (get_or l i d)
at_each P [] d default all i = default
at_each P (x ∷ l) d default all zero = all x (Memᴰ.head refl)
at_each P (x ∷ l) d default all (suc i) = at_each P l d default (λ y m. all y (Memᴰ.tail m)) i

-- The names and types of an accepted book, and the simple types that are listed for words that break no rule.
module _ (book : Bytes) (B : Book) (parsed : parse book ≡ accepted B) where
  pub declares : BookDeclares B
  declares = accepted_declares book B parsed

  pub name_short : (i : ℕ) → length (get_or {A = Bytes} B.names i []) ≤ max_name
  name_short = at_each (λ (name : Bytes). length name ≤ max_name) B.names [] (omega arith) declares.names_short

  type_short : (number : ℕ) → TypeShort 2 (type_of B.entries number)
  type_short =
      at_each (λ (x : Entry). TypeShort 2 x.type) B.entries (record { word = []; type = [] })
      (empty_short 2)
      (λ x m. listed_type_short x.type (declares.short x m) (declares.exponents_listed x m))

  module _ (words : List Word) (fine : word_fault 0 words ≡ none) (chosen : List ℕ) where
    pub few_words : length words ≤ max_words
    few_words = omega (arith, words_few 0 words (omega arith) fine)

    pub few_simples : length (listed_type B words chosen) ≤ max_string
    few_simples = omega (arith, (joined_within 2 B.entries type_short (take (length words) chosen)).0, length-take (length words) chosen, few_words)

    exponent_short : (x : Simple) → Memᴰ x (listed_type B words chosen) → length (signed x.exponent) ≤ 2
    exponent_short = (joined_within 2 B.entries type_short (take (length words) chosen)).1

    module _ (target : ℕ) (letters partners : List ℕ) where
      -- With so many digits at most in an entry and in a partner: a word's row has 36 bytes more, a simple type's row 26.
      module _ (entry-digits partner-digits : ℕ) (c : (i : ℕ) → length (decimal (get_or {A = ℕ} chosen i 0)) ≤ entry-digits)
          (p : (i : ℕ) → length (decimal (get_or {A = ℕ} partners i 0)) ≤ partner-digits) where
        type_row_within : (j letter : ℕ) (x : Simple) → j < length (listed_type B words chosen) → Memᴰ x (listed_type B words chosen)
            → length (type_row (suc j) (get_or {A = Bytes} B.names x.base []) x.exponent (get_or {A = ℕ} partners j 0) letter) ≤ 26 + partner-digits
        type_row_within j letter x h m =
            omega (
              arith,
              row_of_five (decimal (suc j)) (get_or {A = Bytes} B.names x.base []) (signed x.exponent) (decimal (get_or {A = ℕ} partners j 0)) (letter ∷ []),
              decimal_length 2 (suc j) (omega (arith, few_simples)),
              name_short x.base,
              exponent_short x m,
              p j,
            )

        pub shown_within : length (shown_rows B.names words target chosen (listed_type B words chosen) letters partners)
            ≤ length (first_row (length chosen) (length partners) target) + max_words * (36 + entry-digits) + max_string * (26 + partner-digits)
        shown_within =
            omega (
              arith,
              shown_length B.names words target chosen (listed_type B words chosen) letters partners,
              word_rows_within (36 + entry-digits) chosen (λ i. omega (arith, c i)) 0 words fine,
              mul-le-mul_right (36 + entry-digits) few_words,
              type_rows_within (26 + partner-digits) B.names letters partners 0 (listed_type B words chosen) (λ j l x h m. type_row_within j l x (omega arith) m),
              mul-le-mul_right (26 + partner-digits) few_simples,
            )

      -- The rows of values that are any numbers of 16 bits.
      pub shown_countable : target < value_bound → Narrow chosen → Narrow partners → length chosen < place_bound → length partners < place_bound
          → Countable 0 (shown_rows B.names words target chosen (listed_type B words chosen) letters partners)
      shown_countable small c p many more =
          record {
            small = omega (
              arith,
              shown_within 5 5 (λ i. decimal_length 4 (get_or {A = ℕ} chosen i 0) (omega (arith, c i))) (λ i. decimal_length 4 (get_or {A = ℕ} partners i 0) (omega (arith, p i))),
              row_of_four yes (decimal (length chosen)) (decimal (length partners)) (decimal target),
              decimal_short (length chosen) many,
              decimal_short (length partners) more,
              decimal_short target (omega arith),
            );
          }
