-- Comparing words: eight bytes with the same letters are equal as numbers but for the bit of case in each byte, and equal where capitals are
-- made small; and words of one length are the same where they have the same letters at every place.
use Prim.Native.Nat.{ℕ, zero, suc, ◌+◌, ◌*◌, ◌-◌, ◌/◌, ◌%◌, ◌≤◌, ◌<◌}
use native.Mathlib.Omega.{arith}
use native.Mathlib.Decide.{dec_lt}
use mathlib.Core.Path.{◌≡◌, refl, sym, ap, ap₂, ◌∙◌}
use mathlib.Core.Bool.{Bool, true, false, false≢true}
use mathlib.Core.Logic.{◌↔◌, ◌⊎◌, inl, inr}
use lib.Bits.{bit_or, or_block}
use lib.ListN.{length, get_or, length-map, get_or-map}
use lib.Seq.{ext_get_or}
use Rattle.format.specs.Records.{Bytes}
use Rattle.bytewise.specs.Compare.{little_endian, ReadsNumber, FirstOther}
use Rattle.bytewise.proofs.Comparing.{Bytewise, equal_stretch, same_number}
use Rattle.format.proofs.NameLaws.{same_test}
use Rattle.capitals.specs.Capitals.{small, small_bytes, same_word}
use Rattle.capitals.specs.Letters.{SameLetters, small_number}
use Rattle.capitals.proofs.CapitalLaws.{CapitalOf, alike_exactly, small_below, same_length}
use Rattle.capitals.proofs.EightLaws.{each, number_below}

-- A capital and its small letter are equal but for the bit of case ..
or_capital : (x : ℕ) → 65 ≤ x → x ≤ 90 → bit_or x 32 ≡ bit_or (x + 32) 32
or_capital x l h =
    let low : x ≡ 2 * 32 + (x - 64) = omega arith in
    let high : x + 32 ≡ 3 * 32 + (x - 64) = omega arith in
    ap (λ (n : ℕ). bit_or n 32) low ∙ or_block 5 2 1 (x - 64) 0 (omega arith) (omega arith)
    ∙ sym (ap (λ (n : ℕ). bit_or n 32) high ∙ or_block 5 3 1 (x - 64) 0 (omega arith) (omega arith))

or_letter : (x y : ℕ) → CapitalOf x y → bit_or x 32 ≡ bit_or y 32
or_letter x y c = or_capital x c.0 c.1 ∙ ap (λ (n : ℕ). bit_or n 32) (sym c.2)

-- .. so all bytes are that count as one ..
pub or_byte : (x y : ℕ) → small x ≡ small y → bit_or x 32 ≡ bit_or y 32
or_byte x y e = go ((alike_exactly x y).0 e)
  where
    go : (x ≡ y) ⊎ (CapitalOf x y ⊎ CapitalOf y x) → bit_or x 32 ≡ bit_or y 32
    go (inl e) = ap (λ (n : ℕ). bit_or n 32) e
    go (inr (inl c)) = or_letter x y c
    go (inr (inr c)) = sym (or_letter y x c)

-- .. and so are numbers of several.
module _ (a b : Bytes) where
  or_numbers : (n i : ℕ) → Bytewise n a i → Bytewise n b i → SameLetters a b i (i + n) → bit_or (little_endian n a i) (each 32 n) ≡ bit_or (little_endian n b i) (each 32 n)
  unfolding little_endian
  or_numbers zero i f g s = refl
  or_numbers (suc n) i f g s =
      joined a (f i (omega arith) (omega arith))
      ∙ ap₂ (λ (h l : ℕ). h * 256 + l)
      (or_numbers n (suc i) (λ k p q. f k (omega arith) (omega arith)) (λ k p q. g k (omega arith) (omega arith)) (record { alike = λ k p q. s.alike k (omega arith) (omega arith) }))
      (or_byte (get_or {A = ℕ} a i 0) (get_or {A = ℕ} b i 0) (s.alike i (omega arith) (omega arith)))
      ∙ sym (joined b (g i (omega arith) (omega arith)))
    where
      joined : (l : Bytes) → get_or {A = ℕ} l i 0 < 256 → bit_or (get_or {A = ℕ} l i 0 + 256 * little_endian n l (suc i)) (each 32 n * 256 + 32) ≡ bit_or (little_endian n l (suc i)) (each 32 n) * 256 + bit_or (get_or {A = ℕ} l i 0) 32
      joined l h =
          let turned : get_or {A = ℕ} l i 0 + 256 * little_endian n l (suc i) ≡ little_endian n l (suc i) * 256 + get_or {A = ℕ} l i 0 = omega arith in
          ap (λ (m : ℕ). bit_or m (each 32 n * 256 + 32)) turned ∙ or_block 8 (little_endian n l (suc i)) (each 32 n) (get_or {A = ℕ} l i 0) 32 h (omega arith)

module _ {a b : Bytes} {i x y : ℕ} (first : ReadsNumber 8 a i x) (second : ReadsNumber 8 b i y) where
  -- Eight bytes that differ in more than case are not the same letters ..
  pub other_letters : (bit_or x (each 32 8) ≡ bit_or y (each 32 8) → ⊥) → SameLetters a b i (i + 8) → ⊥
  other_letters h s =
      h (ap (λ (m : ℕ). bit_or m (each 32 8)) first.value ∙ or_numbers a b 8 i first.byte second.byte s ∙ sym (ap (λ (m : ℕ). bit_or m (each 32 8)) second.value))

  -- .. and eight equal ones are.
  pub equal_letters : x ≡ y → SameLetters a b i (i + 8)
  equal_letters e = record { alike = λ k h l. ap small (equal_stretch first second e k h l) }

small_at : (l : Bytes) (k : ℕ) → get_or {A = ℕ} (small_bytes l) k 0 ≡ small (get_or {A = ℕ} l k 0)
unfolding small
small_at l k = get_or-map small l k 0

-- The number of a word's bytes in small letters.
small_bytes_lem : (n : ℕ) (a : Bytes) (i : ℕ) → Bytewise n a i → small_number n (little_endian n a i) ≡ little_endian n (small_bytes a) i
unfolding small_number little_endian
small_bytes_lem zero a i f = refl
small_bytes_lem (suc n) a i f =
    let here = f i (omega arith) (omega arith) in
    let low : (get_or {A = ℕ} a i 0 + 256 * little_endian n a (suc i)) % 256 ≡ get_or {A = ℕ} a i 0 = omega arith in
    let high : (get_or {A = ℕ} a i 0 + 256 * little_endian n a (suc i)) / 256 ≡ little_endian n a (suc i) = omega arith in
    rw (low, high, small_bytes_lem n a (suc i) (λ k p q. f k (omega arith) (omega arith)), small_at a i)

reads_small : {n i x : ℕ} {a : Bytes} → ReadsNumber n a i x → ReadsNumber n (small_bytes a) i (small_number n x)
reads_small {n} {i} {x} {a} r = record {
  value = ap (small_number n) r.value ∙ small_bytes_lem n a i r.byte;
  below = number_below n x;
  byte = λ k h l. rw (small_at a k) (small_below (get_or {A = ℕ} a k 0) (r.byte k h l));
}

-- They tell whether the letters are the same.
module _ {i x y r s : ℕ} {a b : Bytes} (first : ReadsNumber 8 a i x) (second : ReadsNumber 8 b i y) (e : r ≡ small_number 8 x) (f : s ≡ small_number 8 y) where
  pub small_eights_tell : (r ≡ s) ↔ SameLetters a b i (i + 8)
  small_eights_tell = (
    λ h. record {
      alike = λ k p q. sym (small_at a k) ∙ equal_stretch (reads_small first) (reads_small second) (sym e ∙ h ∙ f) k p q ∙ small_at b k;
    },
    λ t. e ∙ (reads_small first).value ∙ same_number 8 i (small_bytes a) (small_bytes b) (λ k p q. small_at a k ∙ t.alike k p q ∙ sym (small_at b k)) ∙ sym (reads_small second).value ∙ sym f,
  )

-- A part of a stretch, and a stretch more.
pub letters_within : {a b : Bytes} {from i j to : ℕ} → SameLetters a b from to → from ≤ i → j ≤ to → SameLetters a b i j
letters_within s h l = record { alike = λ k p q. s.alike k (omega arith) (omega arith) }

pub letters_more : {a b : Bytes} {from i j to : ℕ} → SameLetters a b from i → SameLetters a b j to → j ≤ i → SameLetters a b from to
letters_more {a} {b} {from} {i} {j} {to} s t m = record { alike = λ k h l. go k h l (dec_lt k i) }
  where
    go : (k : ℕ) → from ≤ k → k < to → Dec (k < i) → small (get_or {A = ℕ} a k 0) ≡ small (get_or {A = ℕ} b k 0)
    go k h l (yes n) = s.alike k h n
    go k h l (no n) = t.alike k (omega (arith, n)) l

-- Equal bytes are the same letters.
pub letters_before : {a b : Bytes} {at : ℕ} → FirstOther a b at → SameLetters a b 0 at
letters_before f = record { alike = λ k h l. ap small (f.equal k l) }

module _ (a b : Bytes) where
  pub letter_of : small_bytes a ≡ small_bytes b → (k : ℕ) → small (get_or {A = ℕ} a k 0) ≡ small (get_or {A = ℕ} b k 0)
  letter_of e k = sym (small_at a k) ∙ ap (λ (w : Bytes). get_or {A = ℕ} w k 0) e ∙ small_at b k

  letters_of : (from to : ℕ) → small_bytes a ≡ small_bytes b → SameLetters a b from to
  letters_of from to e = record { alike = λ k h l. letter_of e k }

  word_of : {to : ℕ} → length a ≡ length b → length a ≤ to → SameLetters a b 0 to → small_bytes a ≡ small_bytes b
  word_of e f s =
      ext_get_or 0 (small_bytes a) (small_bytes b) (length-map a small ∙ e ∙ sym (length-map b small))
      (λ k l. small_at a k ∙ s.alike k (omega arith) (omega (arith, length-map a small)) ∙ sym (small_at b k))

  told : (t : Bool) → (t ≡ true → small_bytes a ≡ small_bytes b) × (small_bytes a ≡ small_bytes b → t ≡ true) → t ≡ same_word a b
  unfolding same_word
  told t h = sym (same_test (small_bytes a) (small_bytes b) t h)

  other_word : (small_bytes a ≡ small_bytes b → ⊥) → false ≡ same_word a b
  other_word h = told false (λ e. absurd (false≢true e), λ e. absurd (h e))

  -- Words of two lengths are not the same ..
  pub other_length : (length a ≡ length b → ⊥) → false ≡ same_word a b
  other_length h = other_word (λ e. h (same_length a b e))

  -- .. nor are words with other letters somewhere ..
  pub other_somewhere : {from to : ℕ} → (SameLetters a b from to → ⊥) → false ≡ same_word a b
  other_somewhere {from} {to} h = other_word (λ e. h (letters_of from to e))

  -- .. at one place say ..
  pub other_letter : (k : ℕ) → (small (get_or {A = ℕ} a k 0) ≡ small (get_or {A = ℕ} b k 0) → ⊥) → false ≡ same_word a b
  other_letter k h = other_word (λ e. h (letter_of e k))

  -- .. and words of one length with the same letters are.
  pub all_letters : {to : ℕ} → length a ≡ length b → length a ≤ to → SameLetters a b 0 to → true ≡ same_word a b
  all_letters e f s = told true (λ h. word_of e f s, λ h. refl)

  -- Where the letters up to a place are the same, the rest decides.
  pub rest_tells : {from i to : ℕ} {t : Bool} → length a ≡ length b → SameLetters a b 0 i → from ≤ i → length a ≤ to → (t ≡ true) ↔ SameLetters a b from to → t ≡ same_word a b
  rest_tells {from} {i} {to} {t} e s h f d =
      told t (λ u. word_of e f (letters_more s (d.0 u) h), λ u. d.1 (letters_of from to u))
