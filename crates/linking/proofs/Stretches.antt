-- Stretches of a string, from a position up to another: their first simple type, their parts, and the whole. And reading a list from a
-- position on, which places a list in a longer one without a word about where it is cut.
use Prim.Native.Nat.{ℕ, zero, suc, ◌+◌, ◌-◌, ◌≤◌, ◌<◌}
use mathlib.Core.Path.{◌≡◌, refl, sym, ◌∙◌, ap}
use mathlib.Core.List.{List, [], ◌∷◌, ◌++◌, append_assoc}
use native.Mathlib.Omega.{arith}
use lib.ListN.{length, get_or, take, drop, length-append, take-append-drop}
use lib.Seq.{slice, slice_empty, slice-cons, length-slice, take-take, drop-append-le, length-take-le, take-length, get_or_at}
use Rattle.pregroup.specs.Types.{PregroupType, plain}
use Rattle.linking.specs.Linking.{simple_at, stretch}

pub slice_append : (X : PregroupType) (f k t : ℕ) → f ≤ k → k ≤ t → t ≤ length X → slice f t X ≡ slice f k X ++ slice k t X
slice_append X f k t h g b =
    let front : f ≤ length (take k X) = rw (length-take-le k X (omega arith)) h in
    ap (drop f) (sym (rw (take-take k t X g) at (take-append-drop k (take t X)))) ∙ drop-append-le f (take k X) (slice k t X) front

module _ (X : PregroupType) where
  pub stretch_empty : (i : ℕ) → stretch X i i ≡ []
  stretch_empty i = slice_empty (i - 1) X

  pub stretch_cons : (i j : ℕ) → 1 ≤ i → i < j → j ≤ suc (length X) → stretch X i j ≡ simple_at X i ∷ stretch X (suc i) j
  stretch_cons i j p h b =
      let e : suc i - 1 ≡ suc (i - 1) = omega arith in
      rw e (slice-cons (i - 1) (j - 1) X (plain 0) (omega arith) (omega arith))

  pub stretch_append : (i k j : ℕ) → i ≤ k → k ≤ j → j ≤ suc (length X) → stretch X i j ≡ stretch X i k ++ stretch X k j
  stretch_append i k j h g b = slice_append X (i - 1) (k - 1) (j - 1) (omega arith) (omega arith) (omega arith)

  pub stretch_all : stretch X 1 (suc (length X)) ≡ X
  stretch_all = let e : suc (length X) - 1 ≡ length X = omega arith in rw e (take-length X)

  pub length_stretch : (i j : ℕ) → 1 ≤ i → i ≤ j → j ≤ suc (length X) → i + length (stretch X i j) ≡ j
  length_stretch i j p h b = rw (length-slice (i - 1) (j - 1) X (omega arith)) (omega arith)

-- Reads d Q i L: from position i on, Q reads L.
pub data Reads {A : Type 0} (d : A) (Q : List A) : ℕ → List A → Type 0 where
  nil : {i : ℕ} → Reads d Q i []
  cell : {i : ℕ} {a : A} {L : List A} → get_or Q (i - 1) d ≡ a → Reads d Q (suc i) L → Reads d Q i (a ∷ L)

module _ {A : Type 0} {d : A} {Q : List A} where
  pub reads_head : {i : ℕ} {a : A} {L : List A} → Reads d Q i (a ∷ L) → get_or Q (i - 1) d ≡ a
  reads_head (cell e r) = e

  pub reads_tail : {i : ℕ} {a : A} {L : List A} → Reads d Q i (a ∷ L) → Reads d Q (suc i) L
  reads_tail (cell e r) = r

  pub reads_front : {i : ℕ} (L M : List A) → Reads d Q i (L ++ M) → Reads d Q i L
  reads_front [] M r = nil
  reads_front (a ∷ L) M (cell e r) = cell e (reads_front L M r)

  pub reads_back : {i : ℕ} (L M : List A) (j : ℕ) → i + length L ≡ j → Reads d Q i (L ++ M) → Reads d Q j M
  reads_back {i} [] M j e r = let k : i ≡ j = omega arith in rw k at r
  reads_back (a ∷ L) M j e (cell h r) = reads_back L M j (omega arith) r

  reads_from : (B L : List A) (i : ℕ) → suc (length B) ≡ i → Q ≡ B ++ L → Reads d Q i L
  reads_from B [] i e q = nil
  reads_from B (a ∷ L) i e q =
      let n : length B ≡ i - 1 = omega arith in
      let h : get_or Q (i - 1) d ≡ a = rw q (get_or_at B a L d (i - 1) n) in
      cell h (reads_from (B ++ (a ∷ [])) L (suc i) (simp length-append (omega arith)) (q ∙ sym (append_assoc B (a ∷ []) L)))

-- Behind B, the list B ++ L reads L.
pub reads_behind : {A : Type 0} {d : A} (B L : List A) → Reads d (B ++ L) (suc (length B)) L
reads_behind B L = reads_from B L (suc (length B)) refl refl

pub reads_self : {A : Type 0} {d : A} (L : List A) → Reads d L 1 L
reads_self L = reads_behind [] L

-- A string reads its stretches.
pub reads_stretch : (X : PregroupType) (n i j : ℕ) → i + n ≡ j → 1 ≤ i → j ≤ suc (length X) → Reads (plain 0) X i (stretch X i j)
reads_stretch X zero i j e p b = let k : i ≡ j = omega arith in rw (← k, stretch_empty X i) nil
reads_stretch X (suc n) i j e p b =
    rw (stretch_cons X i j p (omega arith) b) (cell refl (reads_stretch X n (suc i) j (omega arith) (omega arith) b))
