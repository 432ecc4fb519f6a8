-- What each step of the parsers says of the front of a text: units, types and names as they are defined, read off a text at an offset.
use Prim.Native.Nat.{ℕ, zero, suc, ◌+◌, ◌≤◌, ◌<◌}
use native.Mathlib.Omega.{arith}
use native.Mathlib.Numerals.{add-one}
use mathlib.Core.Path.{◌≡◌, refl, sym, ap, ◌∙◌}
use mathlib.Core.Option.{Option as Maybe, none, some}
use Rattle.std.proofs.Common.{None, Some}
use Rattle.std.specs.Slice.{IsItemAt}
use denote.Ref.{Bor}
use mathlib.Core.List.{List, ◌∷◌}
use borrow.Author.Tests.{eq-eqb, ne_eqb}
use lib.ListN.{length, get_or, drop, drop_of_length-le}
use lib.Seq.{drop-cons}
use Rattle.pregroup.specs.Types.{PregroupType}
use Rattle.format.specs.Records.{Bytes}
use Rattle.notation.specs.Grammar.{opening, closing, slash, backslash, Tree, over, under}
use Rattle.notation.specs.Trees.{Front, front, name_at, closed_by, closed, unit_by, joined, second_by, behind_first, unit_at, type_at}
use Rattle.slash.specs.Parsing.{FrontWritten, Says, neither, written}
use Rattle.slash.specs.declared.Found.{Found}

-- What a parser says, by what stands at the front.
module _ {sense : Tree → PregroupType} {text : Bytes} {o : Maybe Front} {n m from : ℕ} {places places' : List ℕ} where
  pub says_nothing : o ≡ none → Says sense text o n m from places places' None
  says_nothing e = rw e neither

  pub says_front : {f : Front} {r : Found} → o ≡ some f → FrontWritten sense text f n m from places places' r.behind r.end
      → Says sense text o n m from places places' (Some r)
  says_front e w = rw e (written w)

pub said_nothing :
    {sense : Tree → PregroupType} {text : Bytes} {o : Maybe Front} {n m from : ℕ} {places places' : List ℕ}
    → Says sense text o n m from places places' None → o ≡ none
said_nothing neither = refl

-- What stands at the front, and how it is written.
pub record Read (sense : Tree → PregroupType) (text : Bytes) (o : Maybe Front) (n m from : ℕ) (places places' : List ℕ) (r : Found) : Type 0 where
  pub front : Front
  pub is : o ≡ some front
  pub how : FrontWritten sense text front n m from places places' r.behind r.end

pub said_front :
    {sense : Tree → PregroupType} {text : Bytes} {o : Maybe Front} {n m from : ℕ} {places places' : List ℕ} {r : Found}
    → Says sense text o n m from places places' (Some r) → Read sense text o n m from places places' r
said_front (written {f} w) = record { front = f; is = refl; how = w }

-- A byte that is looked up.
pub byte_got : (text : Bytes) (at : ℕ) (b : Bor ℕ) → IsItemAt text at (Some b) → (at < length text) × (b.now ≡ get_or {A = ℕ} text at 0)
byte_got text at b i = (i.3.0, i.4 (omega arith) 0)

-- The first byte of a unit, and the byte behind its first unit in a type.
module _ (b : ℕ) (text : Bytes) where
  byte_name : (type : Bytes → Maybe Front) → (b ≡ opening → ⊥) → unit_by type (b ∷ text) ≡ name_at (b ∷ text)
  unfolding unit_by
  byte_name type other = rw (ne_eqb b opening other, unit_by)

  byte_opens : (type : Bytes → Maybe Front) → b ≡ opening → unit_by type (b ∷ text) ≡ closed (type text)
  unfolding unit_by
  byte_opens type e = rw e

  module _ (unit : Bytes → Maybe Front) (A : Tree) where
    byte_over : b ≡ slash → second_by unit A (b ∷ text) ≡ joined (λ B. over A B) (unit text)
    unfolding second_by
    byte_over e = rw e

    byte_under : b ≡ backslash → second_by unit A (b ∷ text) ≡ joined (λ B. under A B) (unit text)
    unfolding second_by
    byte_under e = rw e

    byte_other : (b ≡ slash → ⊥) → (b ≡ backslash → ⊥) → second_by unit A (b ∷ text) ≡ some (front A (b ∷ text))
    unfolding second_by
    byte_other s t = rw (ne_eqb b slash s, second_by, ne_eqb b backslash t)

-- The byte at an offset of a text, and what stands behind it.
module _ (text : Bytes) (at : ℕ) where
  abbrev byte_at : ℕ
  byte_at = get_or {A = ℕ} text at 0

  abbrev rest_at : Bytes
  rest_at = drop (at + 1) text

  split : at < length text → drop at text ≡ byte_at ∷ rest_at
  split h = rw (add-one at) (drop-cons text at 0 h)

  -- Units.
  pub unit_empty : (d : ℕ) → length text ≤ at → unit_at d (drop at text) ≡ none
  unfolding unit_at unit_by
  unit_empty zero h = rw (drop_of_length-le text h)
  unit_empty (suc d) h = rw (drop_of_length-le text h)

  pub unit_name : (d : ℕ) → at < length text → (byte_at ≡ opening → ⊥) → unit_at d (drop at text) ≡ name_at (drop at text)
  unfolding unit_at
  unit_name zero h other = ap (unit_at zero) (split h) ∙ byte_name byte_at rest_at (λ rest. none) other ∙ ap name_at (sym (split h))
  unit_name (suc d) h other = ap (unit_at (suc d)) (split h) ∙ byte_name byte_at rest_at (type_at d) other ∙ ap name_at (sym (split h))

  pub unit_zero : (d : ℕ) → d ≡ 0 → at < length text → byte_at ≡ opening → unit_at d (drop at text) ≡ none
  unfolding unit_at closed
  unit_zero zero z h bracket = ap (unit_at zero) (split h) ∙ byte_opens byte_at rest_at (λ rest. none) bracket
  unit_zero (suc d) z h bracket = absurd (omega arith)

  pub unit_inside : (d : ℕ) → at < length text → byte_at ≡ opening → unit_at (suc d) (drop at text) ≡ closed (type_at d rest_at)
  unfolding unit_at
  unit_inside d h bracket = ap (unit_at (suc d)) (split h) ∙ byte_opens byte_at rest_at (type_at d) bracket

  module _ (T : Tree) where
    pub closed_empty : length text ≤ at → closed (some (front T (drop at text))) ≡ none
    unfolding closed closed_by
    closed_empty h = rw (drop_of_length-le text h)

    pub closed_other : at < length text → (byte_at ≡ closing → ⊥) → closed (some (front T (drop at text))) ≡ none
    unfolding closed closed_by
    closed_other h other = rw (split h, ne_eqb byte_at closing other)

    pub closed_there : at < length text → byte_at ≡ closing → closed (some (front T (drop at text))) ≡ some (front T rest_at)
    unfolding closed closed_by
    closed_there h bracket = rw (split h, eq-eqb byte_at closing bracket)

  -- Types, behind their first unit.
  module _ (unit : Bytes → Maybe Front) (A : Tree) where
    pub second_empty : length text ≤ at → behind_first unit (some (front A (drop at text))) ≡ some (front A (drop at text))
    unfolding behind_first second_by
    second_empty h = rw (drop_of_length-le text h)

    pub second_over : at < length text → byte_at ≡ slash → behind_first unit (some (front A (drop at text))) ≡ joined (λ B. over A B) (unit rest_at)
    unfolding behind_first
    second_over h sign = ap (second_by unit A) (split h) ∙ byte_over byte_at rest_at unit A sign

    pub second_under : at < length text → byte_at ≡ backslash → behind_first unit (some (front A (drop at text))) ≡ joined (λ B. under A B) (unit rest_at)
    unfolding behind_first
    second_under h sign = ap (second_by unit A) (split h) ∙ byte_under byte_at rest_at unit A sign

    pub second_none : at < length text → (byte_at ≡ slash → ⊥) → (byte_at ≡ backslash → ⊥) → behind_first unit (some (front A (drop at text))) ≡ some (front A (drop at text))
    unfolding behind_first
    second_none h s t = ap (second_by unit A) (split h) ∙ byte_other byte_at rest_at unit A s t ∙ ap (λ (l : Bytes). some (front A l)) (sym (split h))
