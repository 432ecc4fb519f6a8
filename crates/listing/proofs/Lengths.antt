-- How many bytes rows take, from bounds on their fields. The same laws bound the listing of any values, for its places to be counted, and that of an
-- answer.
use Prim.Native.Nat.{ℕ, suc, ◌+◌, ◌*◌, ◌≤◌, ◌<◌}
use native.Mathlib.Nat.{suc-mul}
use native.Mathlib.Numerals.{add-one}
use native.Mathlib.Omega.{arith}
use mathlib.Core.Path.{◌≡◌, refl}
use mathlib.Core.Logic.{⊎_elim}
use mathlib.Core.Bool.{true}
use mathlib.Core.List.Memᴰ
use mathlib.Core.List.{List, [], ◌∷◌, ◌++◌, Memᴰ}
use mathlib.Core.Option.{none}
use lib.IntN.{ℤ, pos, negsuc}
use lib.ListN.{length, get_or, length-append}
use borrow.Author.Tests.{leb-true, ltb-true}
use Rattle.figures.specs.Limits.{max_entry_simples}
use Rattle.pregroup.specs.Types.{Simple, PregroupType}
use Rattle.format.specs.Records.{Bytes, every}
use Rattle.format.proofs.Bools.{both}
use Rattle.rules.specs.Rules.{exponents, exponent_listed}
use Rattle.book.specs.Format.{Entry}
use Rattle.line.specs.LineWords.{Word}
use Rattle.line.specs.LineFaults.{word_fault}
use Rattle.line.proofs.Passed.{word_fine}
use Rattle.letters.specs.Letters.{t}
use Rattle.writing.specs.Decimal.{decimal}
use Rattle.printing.specs.Text.{signed, row}
use Rattle.printing.specs.Rows.{first_row, word_row, type_row, word_rows, type_rows, shown_rows}
use Rattle.listing.specs.Listing.{type_of, joined}
use Rattle.writing.proofs.Decimals.{decimal_length}

-- A byte behind each field.
pub row_of_three : (a b c : Bytes) → length (row (a ∷ b ∷ c ∷ [])) ≡ length a + length b + length c + 3
unfolding row
row_of_three a b c = omega (arith, length-append a (32 ∷ row (b ∷ c ∷ [])), length-append b (32 ∷ row (c ∷ [])), length-append c (10 ∷ []))

pub row_of_four : (a b c d : Bytes) → length (row (a ∷ b ∷ c ∷ d ∷ [])) ≡ length a + length b + length c + length d + 4
unfolding row
row_of_four a b c d = omega (arith, length-append a (32 ∷ row (b ∷ c ∷ d ∷ [])), row_of_three b c d)

pub row_of_five : (a b c d f : Bytes) → length (row (a ∷ b ∷ c ∷ d ∷ f ∷ [])) ≡ length a + length b + length c + length d + length f + 5
unfolding row
row_of_five a b c d f = omega (arith, length-append a (32 ∷ row (b ∷ c ∷ d ∷ f ∷ [])), row_of_four b c d f)

-- Rows of at most so many bytes each. The number of a word takes at most 2, the word 31.
module _ (most : ℕ) where
  pub word_rows_within : (chosen : List ℕ) → ((i : ℕ) → length (decimal (get_or {A = ℕ} chosen i 0)) + 36 ≤ most)
      → (k : ℕ) (words : List Word) → word_fault k words ≡ none → length (word_rows chosen k words) ≤ length words * most
  unfolding word_rows
  word_rows_within chosen short k [] h = omega arith
  word_rows_within chosen short k (w ∷ words) h =
      let fine = word_fine k w words h in
      let entry = get_or {A = ℕ} chosen k 0 in
      omega (
        arith,
        suc-mul (length words) most,
        length-append (word_row (suc k) w.bytes entry) (word_rows chosen (suc k) words),
        row_of_three (decimal (suc k)) w.bytes (decimal entry),
        decimal_length 1 (suc k) (omega (arith, fine.1)),
        fine.0,
        short k,
        word_rows_within chosen short (suc k) words (rw add-one at fine.2),
      )

  pub type_rows_within : (names : List Bytes) (letters partners : List ℕ) (k : ℕ) (X : PregroupType)
      → ((j letter : ℕ) (x : Simple) → j < k + length X → Memᴰ x X
      → length (type_row (suc j) (get_or {A = Bytes} names x.base []) x.exponent (get_or {A = ℕ} partners j 0) letter) ≤ most)
      → length (type_rows names letters partners k X) ≤ length X * most
  unfolding type_rows
  type_rows_within names letters partners k [] short = omega arith
  type_rows_within names letters partners k (x ∷ X) short =
      let letter = get_or {A = ℕ} letters (suc k) t in
      let here = type_row (suc k) (get_or {A = Bytes} names x.base []) x.exponent (get_or {A = ℕ} partners k 0) letter in
      omega (
        arith,
        suc-mul (length X) most,
        length-append here (type_rows names letters partners (suc k) X),
        short k letter x (omega arith) (Memᴰ.head refl),
        type_rows_within names letters partners (suc k) X (λ j c y h m. short j c y (omega arith) (Memᴰ.tail m)),
      )

-- The type of an entry, with exponents of at most so many bytes.
pub record TypeShort (most : ℕ) (X : PregroupType) : Type 0 where
  pub simples : length X ≤ max_entry_simples
  pub signs : (x : Simple) → Memᴰ x X → length (signed x.exponent) ≤ most

pub empty_short : (most : ℕ) → TypeShort most []
empty_short most = record { simples = omega arith; signs = λ x m. absurd (Memᴰ.not-nil m) }

-- An exponent from −8 to 8 takes at most 2 bytes.
listed_short : (z : ℤ) → exponent_listed z ≡ true → length (signed z) ≤ 2
unfolding exponent_listed
listed_short (pos n) h = omega (arith, decimal_length 0 n (omega (arith, leb-true n _ h)))
listed_short (negsuc n) h = omega (arith, decimal_length 0 (suc n) (omega (arith, ltb-true n _ h)))

signs_short : (X : PregroupType) → every exponent_listed (exponents X) ≡ true → (x : Simple) → Memᴰ x X → length (signed x.exponent) ≤ 2
unfolding every
signs_short [] h x m = absurd (Memᴰ.not-nil m)
signs_short (y ∷ X) h x m =
    let parts = both (exponent_listed y.exponent) (every exponent_listed (exponents X)) h in
    ⊎_elim (λ e. rw e (listed_short y.exponent parts.0)) (λ k. signs_short X parts.1 x k) (Memᴰ.cases_cons m)

pub listed_type_short : (X : PregroupType) → length X ≤ max_entry_simples → every exponent_listed (exponents X) ≡ true → TypeShort 2 X
listed_type_short X short listed = record { simples = short; signs = signs_short X listed }

pub joined_within : (most : ℕ) (entries : List Entry) → ((number : ℕ) → TypeShort most (type_of entries number)) → (chosen : List ℕ)
    → (length (joined entries chosen) ≤ length chosen * max_entry_simples)
    × ((x : Simple) → Memᴰ x (joined entries chosen) → length (signed x.exponent) ≤ most)
unfolding joined
joined_within most entries short [] = (omega arith, λ x m. absurd (Memᴰ.not-nil m))
joined_within most entries short (number ∷ chosen) =
    let rest = joined_within most entries short chosen in (
      omega (arith, length-append (type_of entries number) (joined entries chosen), (short number).simples, rest.0),
      λ x m. ⊎_elim (λ k. (short number).signs x k) (λ k. rest.1 x k) (Memᴰ.append_cases (type_of entries number) m),
    )

pub shown_length : (names : List Bytes) (words : List Word) (target : ℕ) (chosen : List ℕ) (string : PregroupType) (letters partners : List ℕ)
    → length (shown_rows names words target chosen string letters partners)
    ≡ length (first_row (length chosen) (length partners) target) + length (word_rows chosen 0 words) + length (type_rows names letters partners 0 string)
shown_length names words target chosen string letters partners =
    let of_words = word_rows chosen 0 words in
    let of_types = type_rows names letters partners 0 string in
    omega (arith, length-append (first_row (length chosen) (length partners) target) (of_words ++ of_types), length-append of_words of_types)
