-- Comparing bytes by little-endian numbers: a number is written out, equal numbers have equal bytes, and lists of one length are told
-- apart by the first eight bytes that differ.
use Prim.Native.Nat.{ℕ, zero, suc, ◌+◌, ◌*◌, ◌≤◌, ◌<◌}
use native.Mathlib.Numerals.{add-one}
use native.Mathlib.Omega.{arith}
use native.Mathlib.Decide.{dec_lt}
use mathlib.Core.Path.{◌≡◌, refl, sym, ap, ap₂, ◌∙◌}
use mathlib.Core.Bool.{Bool, true, false, false≢true}
use mathlib.Core.List.{List}
use lib.Dec.{eqb}
use lib.ListN.{length, get_or}
use lib.Seq.{ext_get_or}
use borrow.Author.Tests.{eqb-true, eq-eqb}
use Rattle.bytewise.specs.Compare.{little_endian, ReadsNumber, FirstOther}

-- The number of two bytes, and that of eight, written out.
pub number_of_two : (bytes : List ℕ) (at : ℕ) → little_endian 2 bytes at ≡ get_or {A = ℕ} bytes at 0 + get_or {A = ℕ} bytes (at + 1) 0 * 256
unfolding little_endian
number_of_two bytes at = rw (add-one at) (omega arith)

pub number_of_eight :
    (bytes : List ℕ) (at : ℕ) → little_endian 8 bytes at ≡ get_or {A = ℕ} bytes at 0 + get_or {A = ℕ} bytes (at + 1) 0 * 256 + get_or {A = ℕ} bytes (at + 2) 0 * 65536 + get_or {A = ℕ} bytes (at + 3) 0 * 16777216 + get_or {A = ℕ} bytes (at + 4) 0 * 4294967296 + get_or {A = ℕ} bytes (at + 5) 0 * 1099511627776 + get_or {A = ℕ} bytes (at + 6) 0 * 281474976710656 + get_or {A = ℕ} bytes (at + 7) 0 * 72057594037927936
unfolding little_endian
number_of_eight bytes at =
    let e1 : at + 1 ≡ suc at = omega arith in
    let e2 : at + 2 ≡ suc (suc at) = omega arith in
    let e3 : at + 3 ≡ suc (suc (suc at)) = omega arith in
    let e4 : at + 4 ≡ suc (suc (suc (suc at))) = omega arith in
    let e5 : at + 5 ≡ suc (suc (suc (suc (suc at)))) = omega arith in
    let e6 : at + 6 ≡ suc (suc (suc (suc (suc (suc at))))) = omega arith in
    let e7 : at + 7 ≡ suc (suc (suc (suc (suc (suc (suc at)))))) = omega arith in
    rw (e1, e2, e3, e4, e5, e6, e7) (omega arith)

-- The n numbers of a list from i on are bytes.
abbrev pub Bytewise : ℕ → List ℕ → ℕ → Type 0
Bytewise n l i = (k : ℕ) → i ≤ k → k < i + n → get_or {A = ℕ} l k 0 < 256

-- Equal numbers have equal bytes: the first is the remainder by 256, and the others make up the quotient.
equal_bytes : (n : ℕ) (a b : List ℕ) (i : ℕ) → Bytewise n a i → Bytewise n b i →
    little_endian n a i ≡ little_endian n b i → (k : ℕ) → i ≤ k → k < i + n → get_or {A = ℕ} a k 0 ≡ get_or {A = ℕ} b k 0
unfolding little_endian
equal_bytes zero a b i f g e k h l = omega arith
equal_bytes (suc n) a b i f g e k h l =
    go (dec_lt i k)
    (λ t. equal_bytes n a b (suc i) (λ j p q. f j (omega arith) (omega arith)) (λ j p q. g j (omega arith) (omega arith)) (omega (arith, here, there)) k t (omega arith))
  where
    here : get_or {A = ℕ} a i 0 < 256
    here = f i (omega arith) (omega arith)

    there : get_or {A = ℕ} b i 0 < 256
    there = g i (omega arith) (omega arith)

    go : Dec (i < k) → (i < k → get_or {A = ℕ} a k 0 ≡ get_or {A = ℕ} b k 0) → get_or {A = ℕ} a k 0 ≡ get_or {A = ℕ} b k 0
    go (yes t) later = later t
    go (no t) later = let same : k ≡ i = omega (arith, t) in rw same (omega (arith, here, there))

-- Equal bytes have equal numbers.
pub same_number : (n i : ℕ) (a b : List ℕ) → ((k : ℕ) → i ≤ k → k < i + n → get_or {A = ℕ} a k 0 ≡ get_or {A = ℕ} b k 0) → little_endian n a i ≡ little_endian n b i
unfolding little_endian
same_number zero i a b h = refl
same_number (suc n) i a b h =
    ap₂ (λ (low high : ℕ). low + 256 * high) (h i (omega arith) (omega arith)) (same_number n (suc i) a b (λ k p q. h k (omega arith) (omega arith)))

-- Two lists agree at the places below i.
abbrev pub Agree : List ℕ → List ℕ → ℕ → Type 0
Agree a b i = (k : ℕ) → k < i → get_or {A = ℕ} a k 0 ≡ get_or {A = ℕ} b k 0

-- What a comparison promises.
abbrev pub Tells : List ℕ → List ℕ → Bool → Type 0
Tells a b t = (t ≡ true → a ≡ b) × (a ≡ b → t ≡ true)

module _ {n i r s : ℕ} {a b : List ℕ} (first : ReadsNumber n a i r) (second : ReadsNumber n b i s) where
  pub equal_stretch : r ≡ s → (k : ℕ) → i ≤ k → k < i + n → get_or {A = ℕ} a k 0 ≡ get_or {A = ℕ} b k 0
  equal_stretch e = equal_bytes n a b i first.byte second.byte (sym first.value ∙ e ∙ second.value)

  pub agree_more : Agree a b i → r ≡ s → Agree a b (i + n)
  agree_more below e k l = go (dec_lt k i)
    where
      go : Dec (k < i) → get_or {A = ℕ} a k 0 ≡ get_or {A = ℕ} b k 0
      go (yes t) = below k t
      go (no t) = equal_stretch e k (omega (arith, t)) l

-- The first eight bytes that are not equal tell, or the last eight.
pub first_other_tells : {i r s : ℕ} {a b : List ℕ} → ReadsNumber 8 a i r → ReadsNumber 8 b i s → FirstOther a b i → length a ≡ length b → Tells a b (eqb r s)
first_other_tells {i} {r} {s} {a} {b} first second f e = (
  λ t. let same = eqb-true r s t in
      let end = f.last (sym first.value ∙ same ∙ second.value) in
      ext_get_or 0 a b e (λ k l. agree_more first second f.equal same k (omega arith)),
  λ t. eq-eqb r s (first.value ∙ ap (λ (l : List ℕ). little_endian 8 l i) t ∙ sym second.value),
)

module _ {a b : List ℕ} where
  -- Lists of two lengths differ.
  pub other_length : (length a ≡ length b → ⊥) → Tells a b false
  other_length h = (λ e. absurd (false≢true e), λ e. absurd (h (ap length e)))

  -- Lists with another byte at some place differ ..
  pub other_byte : (k : ℕ) → (get_or {A = ℕ} a k 0 ≡ get_or {A = ℕ} b k 0 → ⊥) → Tells a b false
  other_byte k h = (λ e. absurd (false≢true e), λ e. absurd (h (ap (λ (l : List ℕ). get_or {A = ℕ} l k 0) e)))

  -- .. and lists of one length that agree at all places are the same.
  pub all_bytes : {to : ℕ} → length a ≡ length b → length a ≤ to → Agree a b to → Tells a b true
  all_bytes e f agree = (λ t. ext_get_or 0 a b e (λ k l. agree k (omega arith)), λ t. refl)
