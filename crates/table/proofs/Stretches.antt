-- The string of the first simple types, index by index, and its stretches.
use Prim.Native.Nat.{ℕ, zero, suc, ◌+◌, ◌-◌, ◌≤◌, ◌<◌}
use native.Mathlib.Numerals.{add-one}
use native.Mathlib.Omega.{arith}
use native.Mathlib.Nat.{le-suc_iff}
use mathlib.Core.Path.{◌≡◌, refl, sym, ap, ◌∙◌}
use mathlib.Core.Logic.{⊎_elim}
use mathlib.Core.List.{List, [], ◌∷◌, ◌++◌, append_assoc}
use lib.ListN.{get_or, length, take, drop, set, length-append}
use lib.Seq.{slice, slice_empty, slice-cons, length-slice, take_all, take-append-le, take_at, drop_at, get_or_at, get_or-take, get_or-set_same, get_or-set_other}
use Rattle.pregroup.specs.Types.{Simple, PregroupType, plain}
use Rattle.pregroup.specs.Order.{Relation}
use Rattle.pregroup.specs.Vanish.{Contracts, Vanish, empty, link}
use Rattle.pregroup.proofs.Machine.{vanish_append}
use Rattle.pregroup.proofs.VanishLaws.{Decomposed, at, vanish_last}
use Rattle.pregroup.specs.Held.{held}
use Rattle.linking.proofs.Stretches.{slice_append}
use Rattle.table.specs.Table.{at_place, held_at, string_of, Stretch, Closable}

module _ (string : List ℕ) where
  pub length_string : (n : ℕ) → length (string_of string n) ≡ n
  unfolding string_of
  length_string zero = refl
  length_string (suc n) = length-append (string_of string n) (held_at string n ∷ []) ∙ omega (arith, length_string n)

  front_of_string :
      (k n : ℕ) → k ≤ n → take k (string_of string n) ≡ string_of string k
      → take k (string_of string (suc n)) ≡ string_of string k
  unfolding string_of
  front_of_string k n h e =
      take-append-le k (string_of string n) (held_at string n ∷ []) (omega (arith, length_string n)) ∙ e

  whole_string : (k n : ℕ) → k ≡ n → take k (string_of string n) ≡ string_of string k
  whole_string k n e = rw e (take_all n (string_of string n) (omega (arith, length_string n)))

  -- The string so far is the front of the string.
  pub take_string : (k n : ℕ) → k ≤ n → take k (string_of string n) ≡ string_of string k
  take_string k zero h = whole_string k zero (omega arith)
  take_string k (suc n) h =
      ⊎_elim (λ (l : k ≤ n). front_of_string k n l (take_string k n l)) (λ (e : k ≡ suc n). whole_string k (suc n) e) (le-suc_iff.0 h)

  pub string_at : (i n : ℕ) (d : Simple) → i < n → get_or (string_of string n) i d ≡ held_at string i
  unfolding string_of
  string_at i n d h =
      sym (get_or-take (suc i) (string_of string n) i d (omega arith))
      ∙ ap (λ (l : PregroupType). get_or l i d) (take_string (suc i) n h)
      ∙ get_or_at (string_of string i) (held_at string i) [] d i (length_string i)

-- The string goes by its own simple types only: those behind it may change.
string_agrees : (string string' : List ℕ) (n : ℕ) → ((i : ℕ) → i < n → held_at string i ≡ held_at string' i) → string_of string n ≡ string_of string' n
unfolding string_of
string_agrees string string' zero same = refl
string_agrees string string' (suc n) same = rw (string_agrees string string' n (λ i h. same i (omega arith)), same n (omega arith))

-- The front of a list has the same string.
pub string_front : (string : List ℕ) (n : ℕ) → string_of (take n string) n ≡ string_of string n
string_front string n = string_agrees (take n string) string n (λ i h. ap held (get_or-take n string i 0 h))

-- A simple type stored behind the string, and the string with it.
module _ (string : List ℕ) (n x : ℕ) where
  pub string_kept : string_of (set string n x) n ≡ string_of string n
  string_kept = string_agrees (set string n x) string n (λ i h. ap held (get_or-set_other string n i x 0 (λ e. omega arith)))

  pub string_more : n < length string → string_of (set string n x) (n + 1) ≡ string_of string n ++ (held x ∷ [])
  unfolding string_of
  string_more room = rw (add-one n, string_kept, get_or-set_same string n x 0 room)

-- The last simple type of a stretch that vanishes, at k, closes the one at i, and what stands before i vanishes.
pub data LastLink (Le : Relation) (X : PregroupType) (v k : ℕ) : Type 0 where
  closes : (i : ℕ) → Closable Le X k i → Stretch Le X v i → LastLink Le X v k

module _ (X : PregroupType) where
  -- A stretch parted at i, with the simple type there.
  pub slice_at : (v i k : ℕ) → v ≤ i → i < k → k ≤ length X → slice v k X ≡ slice v i X ++ (at_place X i ∷ slice (suc i) k X)
  slice_at v i k h g b = slice_append X v i k h (omega arith) b ∙ ap (λ (Z : PregroupType). slice v i X ++ Z) (slice-cons i k X (plain 0) g b)

  slice_last : (v k : ℕ) → v ≤ k → k < length X → slice v (suc k) X ≡ slice v k X ++ (at_place X k ∷ [])
  slice_last v k h b = slice_at v k (suc k) h (omega arith) b ∙ rw (slice_empty (suc k) X)

  -- A stretch of the form L c R: its place, and what stands there.
  pub record CutAt (i j : ℕ) (L : PregroupType) (c : Simple) (R : PregroupType) : Type 0 where
    pub place : ℕ
    pub from_on : i ≤ place
    pub before : place < j
    pub left : slice i place X ≡ L
    pub there : at_place X place ≡ c
    pub right : slice (suc place) j X ≡ R

  pub cut_at : (i j : ℕ) (L : PregroupType) (c : Simple) (R : PregroupType) → j ≤ length X → slice i j X ≡ L ++ (c ∷ R) → CutAt i j L c R
  cut_at i j L c R b e =
      let sizes : j - i ≡ length L + suc (length R) = sym (length-slice i j X b) ∙ ap length e ∙ length-append L (c ∷ R) in
      let k = i + length L in
      let part = sym (slice_at i k j (omega arith) (omega arith) b) ∙ e in
      let long : length (slice i k X) ≡ length L = omega (arith, length-slice i k X (omega arith)) in
      let left : slice i k X ≡ L = sym (take_at (slice i k X) (at_place X k ∷ slice (suc k) j X) (length L) long) ∙ ap (take (length L)) part ∙ take_at L (c ∷ R) (length L) refl in
      let rest : (at_place X k ∷ slice (suc k) j X) ≡ (c ∷ R) =
      sym (drop_at (slice i k X) (at_place X k ∷ slice (suc k) j X) (length L) long) ∙ ap (drop (length L)) part ∙ drop_at L (c ∷ R) (length L) refl in
      record { place = k; from_on = omega arith; before = omega arith; left = left; there = (cc); right = (cc) }

  link_at : {Le : Relation} {L R : PregroupType} {c : Simple} (v k : ℕ) → CutAt v k L c R → Vanish Le L → Contracts Le c (at_place X k) → Vanish Le R → LastLink Le X v k
  link_at v k t l m r =
      closes t.place (record { before = t.before; contracts = rw t.there m; between = rw t.right r })
      (record { ordered = t.from_on; vanishes = rw t.left l })

  decomposed_at : {Le : Relation} {Z : PregroupType} (v k : ℕ) → k < length X → Decomposed Le (at_place X k) Z → slice v k X ≡ Z → LastLink Le X v k
  decomposed_at v k b (at {L} {R} {c} l m r) e = link_at v k (cut_at v k L c R (omega arith) e) l m r

  pub last_link : {Le : Relation} (v k : ℕ) → v ≤ k → k < length X → Vanish Le (slice v (suc k) X) → LastLink Le X v k
  last_link v k h b t =
      decomposed_at v k b (vanish_last (slice v k X) (rw (slice_last v k h b) at t)) refl

  pub last_closed : {Le : Relation} (v k : ℕ) → k < length X → LastLink Le X v k → Vanish Le (slice v (suc k) X)
  last_closed v k b (closes i c s) =
      rw (slice_last v k (omega (arith, c.before, s.ordered)) b, slice_at v i k s.ordered c.before (omega arith), append_assoc)
      (vanish_append s.vanishes (link c.contracts c.between empty))
