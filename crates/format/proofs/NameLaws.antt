-- The laws of names: their form, and the search for one among those of earlier records, whose bodies stand in the book at the kept offsets.
use Prim.Native.Nat.{ℕ, zero, suc, ◌≤◌, ◌<◌}
use native.Mathlib.Omega.{arith}
use mathlib.Core.Path.{◌≡◌, refl, sym, ap, ◌∙◌}
use mathlib.Core.Bool.{Bool, true, false, cond, ◌&&◌, false≢true}
use lib.Dec.{leb}
use mathlib.Core.List.{List, [], ◌∷◌, ◌++◌}
use lib.ListN.{length, get_or, take, length-map, get_or-map}
use lib.Seq.{length-take-le, get_or-take}
use borrow.Author.Tests.{leb-true}
use Rattle.std.specs.Bool.{Decides}
use Rattle.std.proofs.lemmas.Bool.Decides.{same_from_decides}
use Rattle.std.proofs.lemmas.Slice.Eq.{compares_Decides}
use Rattle.figures.specs.Limits.{max_name}
use Rattle.format.specs.Names.{name_byte, is_name, number_of}
use Rattle.format.specs.Records.{between, Bytes, every, same_bytes, body_at, bodies_at}
use Rattle.format.proofs.Bools.{inside, outside, and_false, both}

-- A test of two lists of bytes that says when they are equal is `same_bytes`.
same_decides : (xs ys : Bytes) → Decides (same_bytes xs ys) (xs ≡ ys)
unfolding same_bytes
same_decides = compares_Decides same_bytes (record { empty = refl; shorter = λ y ys. refl; longer = λ x xs. refl; heads = λ x y xs ys. refl })

pub same_equal : (xs ys : Bytes) → same_bytes xs ys ≡ true → xs ≡ ys
same_equal xs ys = (same_decides xs ys).0

pub equal_same : (xs ys : Bytes) → xs ≡ ys → same_bytes xs ys ≡ true
equal_same xs ys = (same_decides xs ys).1

pub same_test : (xs ys : Bytes) (t : Bool) → (t ≡ true → xs ≡ ys) × (xs ≡ ys → t ≡ true) → same_bytes xs ys ≡ t
same_test xs ys t h = same_from_decides (same_bytes xs ys) t (same_decides xs ys) h

-- A name's number is the first place where it stands, or the length where it does not.
pub number_first :
    (d : Bytes) (names : List Bytes) (name : Bytes) (i : ℕ) → i ≤ length names → ((j : ℕ) → j < i → name ≡ get_or names j d → ⊥)
    → (i < length names → name ≡ get_or names i d) → number_of names name ≡ i
unfolding number_of
number_first d [] name i h before there = omega arith
number_first d (n ∷ names) name i h before there = go i h before there (λ k. number_first d names name k) (same_bytes name n) refl
  where
    go :
        (i : ℕ) → i ≤ length (n ∷ names) → ((j : ℕ) → j < i → name ≡ get_or (n ∷ names) j d → ⊥) → (i < length (n ∷ names) → name ≡ get_or (n ∷ names) i d)
        → ((k : ℕ) → k ≤ length names → ((j : ℕ) → j < k → name ≡ get_or names j d → ⊥) → (k < length names → name ≡ get_or names k d) → number_of names name ≡ k)
        → (t : Bool) → same_bytes name n ≡ t → cond t 0 (suc (number_of names name)) ≡ i
    go zero h before there rest true e = refl
    go zero h before there rest false e = absurd (false≢true (sym e ∙ equal_same name n (there (omega arith))))
    go (suc i) h before there rest true e = absurd (before 0 (omega arith) (same_equal name n e))
    go (suc i) h before there rest false e = ap suc (rest i (omega arith) (λ j l. before (suc j) (omega arith)) (λ l. there (omega arith)))

module _ (bytes : Bytes) (offsets : List ℕ) (count : ℕ) where
  pub bodies_length : count ≤ length offsets → length (bodies_at bytes offsets count) ≡ count
  bodies_length h = length-map (take count offsets) (body_at bytes) ∙ length-take-le count offsets h

  pub bodies_at_lem : (i : ℕ) → i < count → get_or (bodies_at bytes offsets count) i (body_at bytes 0) ≡ body_at bytes (get_or {A = ℕ} offsets i 0)
  bodies_at_lem i h = get_or-map (body_at bytes) (take count offsets) i 0 ∙ ap (body_at bytes) (get_or-take count offsets i 0 h)

  pub number_kept :
      count ≤ length offsets → (name : Bytes) (i : ℕ) → i ≤ count → ((j : ℕ) → j < i → name ≡ body_at bytes (get_or {A = ℕ} offsets j 0) → ⊥)
      → (i < count → name ≡ body_at bytes (get_or {A = ℕ} offsets i 0)) → number_of (bodies_at bytes offsets count) name ≡ i
  number_kept room name i h before there =
      let all = bodies_length room in
      number_first (body_at bytes 0) (bodies_at bytes offsets count) name i (omega arith) (λ j l e. before j l (e ∙ bodies_at_lem j (omega arith)))
      (λ l. let k : i < count = omega arith in there k ∙ sym (bodies_at_lem i k))

-- From the first letter on, a byte of a name goes up to the last.
pub name_letter : (byte : ℕ) → (97 ≤ byte) × (byte ≤ 122) → true ≡ name_byte byte
unfolding name_byte
name_letter byte h = rw (inside 97 122 byte h)

pub name_byte_no : (byte : ℕ) → (97 ≤ byte → byte ≤ 122 → ⊥) → (48 ≤ byte → byte ≤ 57 → ⊥) → false ≡ name_byte byte
unfolding name_byte
name_byte_no byte h k = rw (outside 97 122 byte h, outside 48 57 byte k)

-- Below the letters a byte of a name is a digit.
pub name_below : (byte : ℕ) → byte < 97 → name_byte byte ≡ between 48 57 byte
unfolding name_byte
name_below byte h = rw (outside 97 122 byte (omega arith))

-- The form of a name, by the tests in their order: the first that fails decides, and the last is the answer.
module _ (body : Bytes) where
  pub name_length_no : (1 ≤ length body → length body ≤ max_name → ⊥) → false ≡ is_name body
  unfolding is_name
  name_length_no h = rw (outside 1 max_name (length body) h)

  pub name_first_no : between 97 122 (get_or {A = ℕ} body 0 0) ≡ false → false ≡ is_name body
  unfolding is_name
  name_first_no e = rw (e, and_false (between 1 max_name (length body)))

  pub name_rest : (1 ≤ length body) × (length body ≤ max_name) → between 97 122 (get_or {A = ℕ} body 0 0) ≡ true → every name_byte body ≡ is_name body
  unfolding is_name
  name_rest h e = rw (inside 1 max_name (length body) h, e)

  pub name_short : is_name body ≡ true → length body ≤ max_name
  unfolding is_name
  name_short h =
      let front = both (between 1 max_name (length body) && between 97 122 (get_or {A = ℕ} body 0 0)) (every name_byte body) h in
      let size = both (between 1 max_name (length body)) (between 97 122 (get_or {A = ℕ} body 0 0)) front.0 in
      leb-true _ _ (both (leb 1 (length body)) (leb (length body) max_name) size.0).1

-- Names behind leave the number of one that is declared.
pub number_more : (names more : List Bytes) (name : Bytes) → number_of names name < length names → number_of (names ++ more) name ≡ number_of names name
unfolding number_of
number_more [] more name h = absurd (omega arith)
number_more (n ∷ names) more name h = go (same_bytes name n) h (number_more names more name)
  where
    go : (t : Bool) → cond t 0 (suc (number_of names name)) < suc (length names)
        → (number_of names name < length names → number_of (names ++ more) name ≡ number_of names name)
        → cond t 0 (suc (number_of (names ++ more) name)) ≡ cond t 0 (suc (number_of names name))
    go true l rest = refl
    go false l rest = ap suc (rest (omega arith))

pub number_bound : (names : List Bytes) (name : Bytes) → number_of names name ≤ length names
unfolding number_of
number_bound [] name = omega arith
number_bound (n ∷ names) name = go (same_bytes name n) (number_bound names name)
  where
    go : (t : Bool) → number_of names name ≤ length names → cond t 0 (suc (number_of names name)) ≤ suc (length names)
    go true h = omega arith
    go false h = omega arith
