-- What is read at the front of a text is there: the text begins with a unit, or a type, of the tree that was read, with brackets no deeper than it was
-- read for.
use Prim.Native.Nat.{ℕ, zero, suc}
use mathlib.Core.Path.{◌≡◌, refl, sym, ap, subst, ◌∙◌}
use mathlib.Core.Bool.{Bool, true, false, cond}
use mathlib.Core.Option.{Option, none, some}
use mathlib.Core.List.{[], ◌∷◌, ◌++◌, append_assoc}
use lib.Dec.{eqb}
use borrow.Author.Tests.{eqb-true}
use Rattle.format.specs.Records.{Bytes}
use Rattle.format.specs.Names.{name_byte, is_name, name_front, name_behind}
use Rattle.notation.specs.Grammar.{opening, closing, slash, backslash, Tree, named, over, under, IsType, IsUnit, alone, with_slash, with_backslash, a_name, in_brackets}
use Rattle.notation.specs.Brackets.{one_if}
use Rattle.notation.specs.Trees.{Front, front, name_at, closed_by, closed, unit_by, joined, second_by, behind_first, type_by, unit_at, type_at}
use Rattle.notation.proofs.Counting.{unit_balanced, type_balanced, Shallow, shallow_name, shallow_append, shallow_next, shallow_around}

-- What was read, if anything, is there: the text is one of that tree, with brackets no deeper than d, and then what stands behind.
abbrev pub Found : (Bytes → Tree → Type 0) → ℕ → Bytes → Option Front → Type 0
Found Is d text none = Unit {0}
Found Is d text (some f) = (p : Bytes) × Is p f.tree × Shallow d p × (text ≡ p ++ f.behind)

name_parts : (text : Bytes) → text ≡ name_front text ++ name_behind text
unfolding name_front name_behind
name_parts [] = refl
name_parts (b ∷ text) = go (name_byte b) (name_parts text)
  where
    go : (t : Bool) → text ≡ name_front text ++ name_behind text
        → b ∷ text ≡ cond t (b ∷ name_front text) [] ++ cond t (name_behind text) (b ∷ text)
    go true e = ap (λ (rest : Bytes). b ∷ rest) e
    go false e = refl

name_found : (d : ℕ) (text : Bytes) → Found IsUnit d text (name_at text)
unfolding name_at
name_found d text = go (is_name (name_front text)) refl
  where
    go : (t : Bool) → is_name (name_front text) ≡ t → Found IsUnit d text (cond t (some (front (named (name_front text)) (name_behind text))) none)
    go true e = (name_front text, a_name e, shallow_name d (name_front text) e, name_parts text)
    go false e = tt

module _ (d : ℕ) (text : Bytes) (T : Tree) (p : Bytes) (t : IsType p T) (shallow : Shallow d p) where
  closed_by_found : (behind : Bytes) → text ≡ p ++ behind → Found IsUnit (suc d) (opening ∷ text) (closed_by T behind)
  unfolding closed_by
  closed_by_found [] e = tt
  closed_by_found (b ∷ rest) e = go (eqb b closing) refl
    where
      go : (s : Bool) → eqb b closing ≡ s → Found IsUnit (suc d) (opening ∷ text) (cond s (some (front T rest)) none)
      go true k = (
        opening ∷ (p ++ (closing ∷ [])),
        in_brackets t,
        shallow_around d p (type_balanced t) shallow,
        ap (λ (all : Bytes). opening ∷ all) (e ∙ ap (λ (c : ℕ). p ++ (c ∷ rest)) (eqb-true b closing k) ∙ sym (append_assoc p (closing ∷ []) rest)),
      )
      go false k = tt

closed_found : (d : ℕ) (text : Bytes) (o : Option Front) → Found IsType d text o → Found IsUnit (suc d) (opening ∷ text) (closed o)
unfolding closed
closed_found d text none h = tt
closed_found d text (some f) h = closed_by_found d text f.tree h.0 h.1 h.2 f.behind h.3

unit_by_found :
    (d : ℕ) (type : Bytes → Option Front) → ((text : Bytes) → Found IsUnit d (opening ∷ text) (closed (type text))) → (text : Bytes)
    → Found IsUnit d text (unit_by type text)
unfolding unit_by
unit_by_found d type h [] = tt
unit_by_found d type h (b ∷ text) = go (eqb b opening) refl
  where
    go : (s : Bool) → eqb b opening ≡ s → Found IsUnit d (b ∷ text) (elim s [ true ↦ closed (type text) | false ↦ name_at (b ∷ text) ])
    go true k = rw (eqb-true b opening k) (h text)
    go false k = name_found d (b ∷ text)

module _ (d : ℕ) (a : Bytes) (A : Tree) (u : IsUnit a A) (shallow : Shallow d a) where
  -- The first unit, a slash of either kind and a second unit.
  both_shallow : (sign : ℕ) (b : Bytes) → one_if opening sign ≡ 0 → Shallow d b → Shallow d (a ++ (sign ∷ b))
  both_shallow sign b o s = shallow_append d a (sign ∷ b) (unit_balanced u) shallow (shallow_next d sign b o s)

  over_found : (text : Bytes) (o : Option Front) → Found IsUnit d text o → Found IsType d (a ++ (slash ∷ text)) (joined (λ B. over A B) o)
  unfolding joined
  over_found text none h = tt
  over_found text (some f) h = (
    a ++ (slash ∷ h.0),
    with_slash u h.1,
    both_shallow slash h.0 refl h.2,
    ap (λ (rest : Bytes). a ++ (slash ∷ rest)) h.3 ∙ sym (append_assoc a (slash ∷ h.0) f.behind),
  )

  under_found : (text : Bytes) (o : Option Front) → Found IsUnit d text o → Found IsType d (a ++ (backslash ∷ text)) (joined (λ B. under A B) o)
  unfolding joined
  under_found text none h = tt
  under_found text (some f) h = (
    a ++ (backslash ∷ h.0),
    with_backslash u h.1,
    both_shallow backslash h.0 refl h.2,
    ap (λ (rest : Bytes). a ++ (backslash ∷ rest)) h.3 ∙ sym (append_assoc a (backslash ∷ h.0) f.behind),
  )

  module _ (unit : Bytes → Option Front) (h : (text : Bytes) → Found IsUnit d text (unit text)) where
    second_found : (behind : Bytes) → Found IsType d (a ++ behind) (second_by unit A behind)
    unfolding second_by
    second_found [] = (a, alone u, shallow, refl)
    second_found (b ∷ text) = go (eqb b slash) refl
      where
        other : (s : Bool) → eqb b backslash ≡ s
            → Found IsType d (a ++ (b ∷ text)) (elim s [ true ↦ joined (λ B. under A B) (unit text) | false ↦ some (front A (b ∷ text)) ])
        other true k = rw (eqb-true b backslash k) (under_found text (unit text) (h text))
        other false k = (a, alone u, shallow, refl)

        go : (s : Bool) → eqb b slash ≡ s → Found IsType d (a ++ (b ∷ text)) (elim s [
          | true ↦ joined (λ B. over A B) (unit text)
          | false ↦ elim (eqb b backslash) [ true ↦ joined (λ B. under A B) (unit text) | false ↦ some (front A (b ∷ text)) ]
        ])
        go true k = rw (eqb-true b slash k) (over_found text (unit text) (h text))
        go false k = other (eqb b backslash) refl

module _ (d : ℕ) (unit : Bytes → Option Front) (h : (text : Bytes) → Found IsUnit d text (unit text)) where
  behind_first_found : (text : Bytes) (o : Option Front) → Found IsUnit d text o → Found IsType d text (behind_first unit o)
  unfolding behind_first
  behind_first_found text none k = tt
  behind_first_found text (some f) k = rw k.3 (second_found d k.0 f.tree k.1 k.2 unit h f.behind)

  type_by_found : (text : Bytes) → Found IsType d text (type_by unit text)
  type_by_found text = behind_first_found text (unit text) (h text)

unit_found : (d : ℕ) (text : Bytes) → Found IsUnit d text (unit_at d text)
unfolding unit_at closed
unit_found zero text = unit_by_found 0 (λ text. none) (λ text. tt) text
unit_found (suc d) text =
    unit_by_found (suc d) (type_by (unit_at d)) (λ t. closed_found d t (type_by (unit_at d) t) (type_by_found d (unit_at d) (unit_found d) t)) text

-- A type that was read stands at the front of the text, with brackets no deeper than it was read for.
pub type_sound :
    (d : ℕ) (text : Bytes) (T : Tree) (rest : Bytes) → type_at d text ≡ some (front T rest) → (p : Bytes) × IsType p T × Shallow d p × (text ≡ p ++ rest)
type_sound d text T rest e = subst (Found IsType d text) e (type_by_found d (unit_at d) (unit_found d) text)
