-- The laws of 2.1's sameness: which bytes count as one, that it is an equivalence, that equal bytes are the same word, and that without
-- capitals nothing else is.
use Prim.Native.Nat.{ℕ, ◌+◌, ◌≤◌, ◌<◌}
use native.Mathlib.Omega.{arith}
use native.Mathlib.Decide.{dec_le}
use mathlib.Core.Path.{◌≡◌, refl, sym, ap, ap₂, ◌∙◌}
use mathlib.Core.Bool.{true, not, false≢true}
use mathlib.Core.Logic.{◌↔◌, ◌⊎◌, inl, inr}
use mathlib.Core.List.{[], ◌∷◌}
use lib.Dec.{eqb}
use lib.ListN.{length, length-map}
use borrow.Author.Tests.{ne_eqb}
use Rattle.format.specs.Records.{Bytes, between, every, same_bytes}
use Rattle.format.proofs.Bools.{both, inside, outside}
use Rattle.format.proofs.NameLaws.{same_equal, equal_same}
use Rattle.capitals.specs.Capitals.{is_capital, small, small_bytes, same_word}

pub small_capital : (b : ℕ) → 65 ≤ b → b ≤ 90 → small b ≡ b + 32
unfolding small
small_capital b l h = rw (inside 65 90 b (l, h))

pub small_other : (b : ℕ) → (65 ≤ b → b ≤ 90 → ⊥) → small b ≡ b
unfolding small
small_other b h = rw (outside 65 90 b h)

-- What a byte is with capitals made small.
data Lowered (b : ℕ) : ℕ → Type 0 where
  lowered : 65 ≤ b → b ≤ 90 → Lowered b (b + 32)
  kept : (65 ≤ b → b ≤ 90 → ⊥) → Lowered b b

lower : (b : ℕ) → Lowered b (small b)
lower b = go (dec_le 65 b) (dec_le b 90)
  where
    stays : (65 ≤ b → b ≤ 90 → ⊥) → Lowered b (small b)
    stays h = rw (small_other b h) (kept h)

    go : Dec (65 ≤ b) → Dec (b ≤ 90) → Lowered b (small b)
    go (yes l) (yes h) = rw (small_capital b l h) (lowered l h)
    go (no l) d = stays (λ k m. l k)
    go (yes l) (no h) = stays (λ k m. h m)

small_twice : (b : ℕ) → small (small b) ≡ small b
small_twice b = go (lower b)
  where
    go : {n : ℕ} → Lowered b n → small n ≡ n
    go (lowered l h) = small_other (b + 32) (omega arith)
    go (kept h) = small_other b h

-- A range that holds all letters keeps its bytes and gets no other.
pub small_between : (low high b : ℕ) → low ≤ 65 → 122 ≤ high → between low high (small b) ≡ between low high b
small_between low high b l h = go (lower b)
  where
    go : {n : ℕ} → Lowered b n → between low high n ≡ between low high b
    go (lowered m k) = inside low high (b + 32) (omega arith, omega arith) ∙ sym (inside low high b (omega arith, omega arith))
    go (kept m) = refl

-- A byte stays a byte.
pub small_below : (b : ℕ) → b < 256 → small b < 256
small_below b h = go (lower b)
  where
    go : {n : ℕ} → Lowered b n → n < 256
    go (lowered m k) = omega arith
    go (kept m) = h

pub small_space : (b : ℕ) → eqb (small b) 32 ≡ eqb b 32
small_space b = go (lower b)
  where
    go : {n : ℕ} → Lowered b n → eqb n 32 ≡ eqb b 32
    go (lowered l h) = ne_eqb (b + 32) 32 (omega arith) ∙ sym (ne_eqb b 32 (omega arith))
    go (kept h) = refl

-- A capital and its small letter.
abbrev pub CapitalOf : ℕ → ℕ → Type 0
CapitalOf x y = (65 ≤ x) × (x ≤ 90) × (y ≡ x + 32)

-- The bytes that count as one: equal ones, and a capital and its small letter.
pub alike_exactly : (x y : ℕ) → (small x ≡ small y) ↔ ((x ≡ y) ⊎ (CapitalOf x y ⊎ CapitalOf y x))
alike_exactly x y = (forth (lower x) (lower y), back)
  where
    forth : {m n : ℕ} → Lowered x m → Lowered y n → m ≡ n → (x ≡ y) ⊎ (CapitalOf x y ⊎ CapitalOf y x)
    forth (lowered l h) (lowered k g) e = inl (omega arith)
    forth (lowered l h) (kept n) e = inr (inl (l, h, sym e))
    forth (kept n) (lowered l h) e = inr (inr (l, h, e))
    forth (kept m) (kept n) e = inl e

    small_letter : (a b : ℕ) → CapitalOf a b → small a ≡ small b
    small_letter a b c = small_capital a c.0 c.1 ∙ sym c.2 ∙ sym (small_other b (omega (arith, c.0, c.1, c.2)))

    back : (x ≡ y) ⊎ (CapitalOf x y ⊎ CapitalOf y x) → small x ≡ small y
    back (inl e) = ap small e
    back (inr (inl c)) = small_letter x y c
    back (inr (inr c)) = sym (small_letter y x c)

pub small_bytes_twice : (a : Bytes) → small_bytes (small_bytes a) ≡ small_bytes a
small_bytes_twice [] = refl
small_bytes_twice (x ∷ xs) = ap₂ (λ (b : ℕ) (bs : Bytes). b ∷ bs) (small_twice x) (small_bytes_twice xs)

pub small_every : (low high : ℕ) (a : Bytes) → low ≤ 65 → 122 ≤ high → every (between low high) (small_bytes a) ≡ every (between low high) a
unfolding every
small_every low high [] l h = refl
small_every low high (x ∷ xs) l h = rw (small_between low high x l h, small_every low high xs l h)

-- Two words are the same exactly when they are equal with capitals made small.
pub same_exactly : (a b : Bytes) → (same_word a b ≡ true) ↔ (small_bytes a ≡ small_bytes b)
unfolding same_word
same_exactly a b = (same_equal (small_bytes a) (small_bytes b), equal_same (small_bytes a) (small_bytes b))

-- How words are spelt does not matter to the test.
pub same_respelt : (a b c d : Bytes) → small_bytes a ≡ small_bytes c → small_bytes b ≡ small_bytes d → same_word a b ≡ same_word c d
unfolding same_word
same_respelt a b c d e f = ap₂ same_bytes e f

pub same_length : (a b : Bytes) → small_bytes a ≡ small_bytes b → length a ≡ length b
same_length a b e = sym (length-map a small) ∙ ap length e ∙ length-map b small

-- Equal bytes are the same word ..
pub equal_words : (a b : Bytes) → a ≡ b → same_word a b ≡ true
equal_words a b e = (same_exactly a b).1 (ap small_bytes e)

-- .. and sameness is an equivalence.
pub same_reflexive : (a : Bytes) → same_word a a ≡ true
same_reflexive a = equal_words a a refl

pub same_symmetric : (a b : Bytes) → same_word a b ≡ true → same_word b a ≡ true
same_symmetric a b h = (same_exactly b a).1 (sym ((same_exactly a b).0 h))

pub same_transitive : (a b c : Bytes) → same_word a b ≡ true → same_word b c ≡ true → same_word a c ≡ true
same_transitive a b c h k = (same_exactly a c).1 ((same_exactly a b).0 h ∙ (same_exactly b c).0 k)

-- Words without capitals.
abbrev pub NoCapital : Bytes → Type 0
NoCapital a = every (λ (b : ℕ). not (is_capital b)) a ≡ true

small_already : (a : Bytes) → NoCapital a → small_bytes a ≡ a
unfolding every
small_already [] h = refl
small_already (x ∷ xs) h =
    let t = both (not (is_capital x)) (every (λ (b : ℕ). not (is_capital b)) xs) h in
    ap₂ (λ (b : ℕ) (bs : Bytes). b ∷ bs)
    (small_other x (λ l m. false≢true (ap not (sym (inside 65 90 x (l, m))) ∙ t.0)))
    (small_already xs t.1)

-- Where neither word has a capital, only equal bytes are the same word.
pub same_without_capitals : (a b : Bytes) → NoCapital a → NoCapital b → same_word a b ≡ true → a ≡ b
same_without_capitals a b m n h = sym (small_already a m) ∙ (same_exactly a b).0 h ∙ small_already b n
