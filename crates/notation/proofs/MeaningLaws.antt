-- The type of a text: its exponents are small, it has one simple type more than the text has slashes, and names declared later leave it as it is.
use Prim.Native.Nat.{ℕ, zero, suc, ◌≤◌, ◌<◌}
use native.Mathlib.Omega.{arith}
use mathlib.Core.Path.{◌≡◌, refl, sym, ap, ap₂, subst}
use mathlib.Core.Bool.{false}
use mathlib.Core.Logic.{⊎_elim}
use mathlib.Core.List.{List, [], ◌∷◌, ◌++◌, Memᴰ}
use lib.ListN.{length, length-append}
use lib.IntN.{ℤ, pos, negsuc, suc_ℤ, pred_ℤ}
use Rattle.figures.specs.Limits.{max_depth}
use Rattle.pregroup.specs.Types.{Simple, PregroupType, plain, simple_left, simple_right, adjoint_by, left_adjoint, right_adjoint}
use Rattle.format.specs.Records.{Bytes}
use Rattle.format.specs.Names.{number_of, name_byte}
use Rattle.format.proofs.NameLaws.{number_more}
use Rattle.notation.specs.Grammar.{opening, closing, slash, backslash, Tree, named, over, under, IsType, meaning}
use Rattle.notation.specs.Brackets.{times, too_deep}
use Rattle.notation.specs.Trees.{slashes}
use Rattle.notation.proofs.Induction.{Inductive, all_types}
use Rattle.notation.proofs.Counting.{times_append, name_without, unit_balanced, Shallow, not_deep_shallow, shallow_first, shallow_second, shallow_behind, shallow_inside, not_shallow}

-- A whole number from −n to n.
abbrev pub ExponentWithin : ℕ → ℤ → Type 0
ExponentWithin n (pos k) = k ≤ n
ExponentWithin n (negsuc k) = k < n

within_more : (n : ℕ) (z : ℤ) → ExponentWithin n z → ExponentWithin (suc n) z
within_more n (pos k) h = omega arith
within_more n (negsuc k) h = omega arith

within_down : (n : ℕ) (z : ℤ) → ExponentWithin n z → ExponentWithin (suc n) (pred_ℤ z)
within_down n (pos zero) h = omega arith
within_down n (pos (suc k)) h = omega arith
within_down n (negsuc k) h = omega arith

within_up : (n : ℕ) (z : ℤ) → ExponentWithin n z → ExponentWithin (suc n) (suc_ℤ z)
within_up n (pos k) h = omega arith
within_up n (negsuc zero) h = omega arith
within_up n (negsuc (suc k)) h = omega arith

-- P holds of every simple type of a type.
abbrev Each : (Simple → Type 0) → PregroupType → Type 0
Each P X = (x : Simple) → Memᴰ x X → P x

each_append : (P : Simple → Type 0) (X Y : PregroupType) → Each P X → Each P Y → Each P (X ++ Y)
each_append P X Y h k x m = ⊎_elim (λ (l : Memᴰ x X). h x l) (λ (l : Memᴰ x Y). k x l) (mathlib.Core.List.Memᴰ.append_cases X m)

each_adjoint : (P Q : Simple → Type 0) (f : Simple → Simple) → ((x : Simple) → P x → Q (f x)) → (X : PregroupType) → Each P X → Each Q (adjoint_by f X)
unfolding adjoint_by
each_adjoint P Q f step [] h = λ x m. absurd (mathlib.Core.List.Memᴰ.not-nil m)
each_adjoint P Q f step (y ∷ X) h =
    each_append Q (adjoint_by f X) (f y ∷ []) (each_adjoint P Q f step X (λ x m. h x (mathlib.Core.List.Memᴰ.tail m)))
    (λ x m. subst Q (sym (mathlib.Core.List.Memᴰ.eq_of_singleton m)) (step y (h y (mathlib.Core.List.Memᴰ.head refl))))

-- The exponents of a type, from −n to n.
abbrev Bounded : ℕ → PregroupType → Type 0
Bounded n X = Each (λ x. ExponentWithin n x.exponent) X

bounded_left : (n : ℕ) (X : PregroupType) → Bounded n X → Bounded (suc n) (left_adjoint X)
bounded_left n X h =
    each_adjoint (λ x. ExponentWithin n x.exponent) (λ x. ExponentWithin (suc n) x.exponent) simple_left (λ x k. within_down n x.exponent k) X h

bounded_right : (n : ℕ) (X : PregroupType) → Bounded n X → Bounded (suc n) (right_adjoint X)
bounded_right n X h =
    each_adjoint (λ x. ExponentWithin n x.exponent) (λ x. ExponentWithin (suc n) x.exponent) simple_right (λ x k. within_up n x.exponent k) X h

bounded_more : (n : ℕ) (X : PregroupType) → Bounded n X → Bounded (suc n) X
bounded_more n X h x m = within_more n x.exponent (h x m)

module _ (names : List Bytes) where
  -- A unit with brackets no deeper than d has exponents from −d to d, a type one more.
  abbrev UnitBounded : Bytes → Tree → Type 0
  UnitBounded text T = (d : ℕ) → Shallow d text → Bounded d (meaning names T)

  abbrev TypeBounded : Bytes → Tree → Type 0
  TypeBounded text T = (d : ℕ) → Shallow d text → Bounded (suc d) (meaning names T)

  brackets_bounded : (text : Bytes) (T : Tree) → TypeBounded text T → UnitBounded (opening ∷ (text ++ (closing ∷ []))) T
  brackets_bounded text T h zero s = absurd (not_shallow (text ++ (closing ∷ [])) s)
  brackets_bounded text T h (suc d) s = h d (shallow_inside d text s)

  all_bounded : Inductive UnitBounded TypeBounded
  unfolding meaning
  all_bounded = record {
    of_name = λ name h d s x m. subst (λ (y : Simple). ExponentWithin d y.exponent) (sym (mathlib.Core.List.Memᴰ.eq_of_singleton m)) (omega arith);
    of_brackets = brackets_bounded;
    of_unit = λ text T h d s. bounded_more d (meaning names T) (h d s);
    of_slash = λ a b A B u v h k d s.
        each_append (λ x. ExponentWithin (suc d) x.exponent) (meaning names A) (left_adjoint (meaning names B))
        (bounded_more d (meaning names A) (h d (shallow_first d a (slash ∷ b) s)))
        (bounded_left d (meaning names B) (k d (shallow_behind d slash b refl refl (shallow_second d a (slash ∷ b) (unit_balanced u) s))));
    of_backslash = λ b a B A u v h k d s.
        each_append (λ x. ExponentWithin (suc d) x.exponent) (right_adjoint (meaning names B)) (meaning names A)
        (bounded_right d (meaning names B) (h d (shallow_first d b (backslash ∷ a) s)))
        (bounded_more d (meaning names A) (k d (shallow_behind d backslash a refl refl (shallow_second d b (backslash ∷ a) (unit_balanced u) s))));
  }

-- The exponents of a text that is not too deep go from −7 to 7.
pub exponents_within :
    (names : List Bytes) (text : Bytes) (T : Tree) → IsType text T → too_deep text ≡ false → (x : Simple) → Memᴰ x (meaning names T) → ExponentWithin 7 x.exponent
exponents_within names text T t h = all_types (all_bounded names) t max_depth (not_deep_shallow text h)

length_adjoint : (f : Simple → Simple) (X : PregroupType) → length (adjoint_by f X) ≡ length X
unfolding adjoint_by
length_adjoint f [] = refl
length_adjoint f (x ∷ X) = omega (arith, length-append (adjoint_by f X) (f x ∷ []), length_adjoint f X)

module _ (names : List Bytes) where
  abbrev Counted : Bytes → Tree → Type 0
  Counted text T = length (meaning names T) ≡ suc (slashes text)

  all_counted : Inductive Counted Counted
  unfolding meaning times name_byte
  all_counted = record {
    of_name = λ name h. omega (arith, name_without slash name refl h, name_without backslash name refl h);
    of_brackets = λ text T h. omega (arith, times_append slash text (closing ∷ []), times_append backslash text (closing ∷ []));
    of_unit = λ text T h. h;
    of_slash = λ a b A B u v h k.
        omega (arith, length-append (meaning names A) (left_adjoint (meaning names B)), length_adjoint simple_left (meaning names B), times_append slash a (slash ∷ b), times_append backslash a (slash ∷ b));
    of_backslash = λ b a B A u v h k.
        omega (arith, length-append (right_adjoint (meaning names B)) (meaning names A), length_adjoint simple_right (meaning names B), times_append slash b (backslash ∷ a), times_append backslash b (backslash ∷ a));
  }

-- One simple type more than slashes.
pub simples_count : (names : List Bytes) {text : Bytes} {T : Tree} → IsType text T → length (meaning names T) ≡ suc (slashes text)
simples_count names t = all_types (all_counted names) t

-- What holds of every simple type of an adjoint, said of those of the type.
each_of_adjoint : (P Q : Simple → Type 0) (f : Simple → Simple) → ((x : Simple) → Q (f x) → P x) → (X : PregroupType) → Each Q (adjoint_by f X) → Each P X
unfolding adjoint_by
each_of_adjoint P Q f back [] h x m = absurd (mathlib.Core.List.Memᴰ.not-nil m)
each_of_adjoint P Q f back (y ∷ X) h x m =
    let rest : Memᴰ x X → P x = λ l. each_of_adjoint P Q f back X (λ z k. h z (mathlib.Core.List.Memᴰ.append_left (f y ∷ []) k)) x l in
    ⊎_elim (λ (e : x ≡ y). subst P (sym e) (back y (h (f y) (mathlib.Core.List.Memᴰ.append_right (adjoint_by f X) (mathlib.Core.List.Memᴰ.head refl))))) rest (mathlib.Core.List.Memᴰ.cases_cons m)

module _ (names more : List Bytes) where
  -- The basic types of a type are declared.
  abbrev AllNamed : PregroupType → Type 0
  AllNamed X = Each (λ x. x.base < length names) X

  same_behind : (f : Simple → Simple) → ((x : Simple) → (f x).base ≡ x.base) → (A : PregroupType) → AllNamed (adjoint_by f A) → AllNamed A
  same_behind f same A h =
      each_of_adjoint (λ x. x.base < length names) (λ x. x.base < length names) f (λ x k. omega (arith, same x)) A h

  pub meaning_more : (T : Tree) → ((x : Simple) → Memᴰ x (meaning names T) → x.base < length names) → meaning (names ++ more) T ≡ meaning names T
  unfolding meaning
  meaning_more (named name) h =
      ap (λ (n : ℕ). plain n ∷ []) (number_more names more name (h (plain (number_of names name)) (mathlib.Core.List.Memᴰ.head refl)))
  meaning_more (over A B) h =
      ap₂ (λ (X Y : PregroupType). X ++ left_adjoint Y) (meaning_more A (λ x m. h x (mathlib.Core.List.Memᴰ.append_left (left_adjoint (meaning names B)) m)))
      (meaning_more B (same_behind simple_left (λ x. refl) (meaning names B) (λ x m. h x (mathlib.Core.List.Memᴰ.append_right (meaning names A) m))))
  meaning_more (under B A) h =
      ap₂ (λ (X Y : PregroupType). right_adjoint X ++ Y)
      (meaning_more B (same_behind simple_right (λ x. refl) (meaning names B) (λ x m. h x (mathlib.Core.List.Memᴰ.append_left (meaning names A) m))))
      (meaning_more A (λ x m. h x (mathlib.Core.List.Memᴰ.append_right (right_adjoint (meaning names B)) m)))
