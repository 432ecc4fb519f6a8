-- Bytes counted: over joined texts and over names; texts whose brackets are no deeper than a number; the brackets of types and units balance.
use Prim.Native.Nat.{ℕ, zero, suc, ◌+◌, ◌-◌, ◌≤◌}
use native.Mathlib.Omega.{arith}
use native.Mathlib.Decide.{dec_le}
use mathlib.Core.Path.{◌≡◌, refl, sym, ap, ◌∙◌}
use mathlib.Core.Bool.{Bool, true, false, cond, ◌&&◌, false≢true}
use mathlib.Core.List.{[], ◌∷◌, ◌++◌}
use lib.Dec.{eqb, leb}
use lib.ListN.{length, get_or, take, drop, length-take, take-append-drop}
use lib.Seq.{take-append-le, take-append-add}
use borrow.Author.Tests.{eqb-true, leb-true}
use Rattle.figures.specs.Limits.{max_depth, max_name}
use Rattle.format.specs.Records.{Bytes, every, between}
use Rattle.format.specs.Names.{name_byte, is_name}
use Rattle.format.proofs.Bools.{both}
use Rattle.notation.specs.Grammar.{opening, closing, slash, backslash, Tree, IsType, IsUnit}
use Rattle.notation.specs.Brackets.{one_if, times, too_deep}
use Rattle.notation.proofs.BracketLaws.{not_deep}
use Rattle.notation.proofs.Induction.{Inductive, all_units, all_types}

pub times_append : (byte : ℕ) (a b : Bytes) → times byte (a ++ b) ≡ times byte a + times byte b
unfolding times
times_append byte [] b = omega arith
times_append byte (x ∷ a) b = omega (arith, times_append byte a b)

one_most : (byte b : ℕ) → one_if byte b ≤ 1
one_most byte b = go (eqb b byte)
  where
    go : (t : Bool) → cond {A = ℕ} t 1 0 ≤ 1
    go true = omega arith
    go false = omega arith

-- A byte stands in a text no oftener than the text has bytes.
times_most : (byte : ℕ) (text : Bytes) → times byte text ≤ length text
unfolding times
times_most byte [] = omega arith
times_most byte (b ∷ text) = omega (arith, one_most byte b, times_most byte text)

-- A name has a byte, its first is a letter, and all are bytes of names.
pub record NameForm (name : Bytes) : Type 0 where
  pub some_bytes : 1 ≤ length name
  pub letter : between 97 122 (get_or {A = ℕ} name 0 0) ≡ true
  pub bytes : every name_byte name ≡ true

pub name_form : (name : Bytes) → is_name name ≡ true → NameForm name
unfolding is_name
name_form name h =
    let all = both (between 1 max_name (length name) && between 97 122 (get_or {A = ℕ} name 0 0)) (every name_byte name) h in
    let front = both (between 1 max_name (length name)) (between 97 122 (get_or {A = ℕ} name 0 0)) all.0 in
    record { some_bytes = leb-true 1 (length name) (both (leb 1 (length name)) (leb (length name) max_name) front.0).0; letter = front.1; bytes = all.1 }

-- What is no byte of a name stands in no name.
without : (byte : ℕ) (text : Bytes) → name_byte byte ≡ false → every name_byte text ≡ true → times byte text ≡ 0
unfolding times every
without byte [] other h = refl
without byte (b ∷ text) other h = go (eqb b byte) refl (without byte text other t.1)
  where
    t : (name_byte b ≡ true) × (every name_byte text ≡ true)
    t = both (name_byte b) (every name_byte text) h

    go : (s : Bool) → eqb b byte ≡ s → times byte text ≡ 0 → cond {A = ℕ} s 1 0 + times byte text ≡ 0
    go true e k = absurd (false≢true (sym other ∙ ap name_byte (sym (eqb-true b byte e)) ∙ t.0))
    go false e k = omega arith

pub name_without : (byte : ℕ) (name : Bytes) → name_byte byte ≡ false → is_name name ≡ true → times byte name ≡ 0
name_without byte name other h = without byte name other (name_form name h).bytes

-- Opening and closing brackets are as many.
abbrev pub Balanced : Bytes → Type 0
Balanced text = times opening text ≡ times closing text

balanced_append : (a b : Bytes) → Balanced a → Balanced b → Balanced (a ++ b)
balanced_append a b h k = omega (arith, times_append opening a b, times_append closing a b)

balanced_parts : Inductive (λ text T. Balanced text) (λ text T. Balanced text)
unfolding times name_byte
balanced_parts = record {
  of_name = λ name h. omega (arith, name_without opening name refl h, name_without closing name refl h);
  of_brackets = λ text T h. omega (arith, times_append opening text (closing ∷ []), times_append closing text (closing ∷ []));
  of_unit = λ text T h. h;
  of_slash = λ a b A B u v h k. balanced_append a (slash ∷ b) h (omega arith);
  of_backslash = λ b a B A u v h k. balanced_append b (backslash ∷ a) h (omega arith);
}

pub unit_balanced : {text : Bytes} {T : Tree} → IsUnit text T → Balanced text
unit_balanced u = all_units balanced_parts u

pub type_balanced : {text : Bytes} {T : Tree} → IsType text T → Balanced text
type_balanced t = all_types balanced_parts t

-- Brackets no deeper than d: no front of the text has over d opening brackets more than closing ones.
pub record Shallow (d : ℕ) (text : Bytes) : Type 0 where
  pub fronts : (n : ℕ) → times opening (take n text) ≤ times closing (take n text) + d

pub not_deep_shallow : (text : Bytes) → too_deep text ≡ false → Shallow max_depth text
not_deep_shallow text h = record { fronts = not_deep text h }

-- No text has deeper brackets than bytes.
pub shallow_length : (text : Bytes) → Shallow (length text) text
shallow_length text = record { fronts = λ n. omega (arith, times_most opening (take n text), length-take n text) }

-- A front has a byte no oftener than the text.
times_front : (byte n : ℕ) (text : Bytes) → times byte (take n text) ≤ times byte text
times_front byte n text = omega (arith, ap (times byte) (take-append-drop n text), times_append byte (take n text) (drop n text))

-- No name has brackets.
pub shallow_name : (d : ℕ) (name : Bytes) → is_name name ≡ true → Shallow d name
unfolding name_byte
shallow_name d name h = record { fronts = λ n. omega (arith, times_front opening n name, name_without opening name refl h) }

-- Two parts, of which the first leaves no bracket open.
pub shallow_append : (d : ℕ) (a b : Bytes) → Balanced a → Shallow d a → Shallow d b → Shallow d (a ++ b)
shallow_append d a b h s t = record { fronts = λ n. go n (dec_le n (length a)) }
  where
    go : (n : ℕ) → Dec (n ≤ length a) → times opening (take n (a ++ b)) ≤ times closing (take n (a ++ b)) + d
    go n (yes l) = rw (take-append-le n a b l) (s.fronts n)
    go n (no l) =
        let m = n - length a in
        let sum : n ≡ length a + m = omega (arith, l) in
        let is : take n (a ++ b) ≡ a ++ take m b = ap (λ (k : ℕ). take k (a ++ b)) sum ∙ take-append-add a b m in
        rw is (omega (arith, t.fronts m, times_append opening a (take m b), times_append closing a (take m b)))

-- With a byte before it that is no opening bracket.
pub shallow_next : (d b : ℕ) (text : Bytes) → one_if opening b ≡ 0 → Shallow d text → Shallow d (b ∷ text)
unfolding times
shallow_next d b text o s = record { fronts = go }
  where
    go : (n : ℕ) → times opening (take n (b ∷ text)) ≤ times closing (take n (b ∷ text)) + d
    go zero = omega arith
    go (suc n) = let k = s.fronts n in omega arith

-- Put into brackets.
pub shallow_around : (d : ℕ) (text : Bytes) → Balanced text → Shallow d text → Shallow (suc d) (opening ∷ (text ++ (closing ∷ [])))
unfolding times
shallow_around d text h s = record { fronts = go }
  where
    closed : Shallow d (text ++ (closing ∷ []))
    closed = shallow_append d text (closing ∷ []) h s (shallow_next d closing [] refl (record { fronts = λ n. omega (arith, times_front opening n []) }))

    go : (n : ℕ) → times opening (take n (opening ∷ (text ++ (closing ∷ [])))) ≤ times closing (take n (opening ∷ (text ++ (closing ∷ [])))) + suc d
    go zero = omega arith
    go (suc n) = let k = closed.fronts n in omega arith

-- A front of a first part is a front of the whole.
front_of_part : (n : ℕ) (a b : Bytes) → (m : ℕ) × (take m (a ++ b) ≡ take n a)
front_of_part zero a b = (0, refl)
front_of_part (suc n) [] b = (0, refl)
front_of_part (suc n) (x ∷ a) b =
    let t = front_of_part n a b in
    (suc t.0, ap (λ (rest : Bytes). x ∷ rest) t.1)

pub shallow_first : (d : ℕ) (a b : Bytes) → Shallow d (a ++ b) → Shallow d a
shallow_first d a b s = record { fronts = λ n. let t = front_of_part n a b in rw t.1 at (s.fronts t.0) }

pub shallow_second : (d : ℕ) (a b : Bytes) → Balanced a → Shallow d (a ++ b) → Shallow d b
shallow_second d a b h s = record {
  fronts = λ n. let k = rw (take-append-add a b n) at (s.fronts (length a + n)) in omega (arith, times_append opening a (take n b), times_append closing a (take n b));
}

-- Behind a byte that is no bracket.
pub shallow_behind : (d b : ℕ) (text : Bytes) → one_if opening b ≡ 0 → one_if closing b ≡ 0 → Shallow d (b ∷ text) → Shallow d text
unfolding times
shallow_behind d b text o c s = record { fronts = λ n. let k = s.fronts (suc n) in omega arith }

-- In brackets.
pub shallow_inside : (d : ℕ) (text : Bytes) → Shallow (suc d) (opening ∷ (text ++ (closing ∷ []))) → Shallow d text
unfolding times
shallow_inside d text s =
    shallow_first d text (closing ∷ []) (record { fronts = λ n. let k = s.fronts (suc n) in omega arith })

pub not_shallow : (text : Bytes) → Shallow 0 (opening ∷ text) → ⊥
unfolding times
not_shallow text s = let k = s.fronts 1 in omega arith
