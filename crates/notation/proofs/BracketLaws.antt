-- The depth of brackets: the test is exact, and a loop over a text can make it place by place.
use Prim.Native.Nat.{ℕ, zero, suc, ◌+◌, ◌≤◌, ◌<◌}
use native.Mathlib.Numerals.{add-one}
use native.Mathlib.Omega.{arith}
use native.Mathlib.Decide.{ℕ_discrete, dec_le}
use mathlib.Core.Path.{◌≡◌, refl, sym, ◌∙◌}
use mathlib.Core.Logic.{◌↔◌}
use mathlib.Core.Bool.{Bool, true, false, cond, ◌||◌, false≢true}
use mathlib.Core.List.{[], ◌∷◌}
use lib.Dec.{ltb, eqb}
use lib.ListN.{length, get_or, take, drop, drop_of_length-le}
use lib.Seq.{drop-cons}
use borrow.Author.Tests.{ltb-true, ltb-false, lt-ltb, le-ltb, ne_eqb}
use Rattle.std.proofs.lemmas.List.Recursion.{is_count_by}
use Rattle.std.proofs.Common.{◌==◌, count_by}
use Rattle.std.specs.Int.{from_bool}
use Rattle.figures.specs.Limits.{max_depth}
use Rattle.format.specs.Records.{Bytes}
use Rattle.notation.specs.Grammar.{opening, closing, slash, backslash}
use Rattle.notation.specs.Brackets.{one_if, times, TooDeep, deep_behind, too_deep}
use Rattle.notation.specs.Trees.{slashes}

-- The opening and the closing brackets when one more byte is counted.
abbrev pub opened_with : ℕ → ℕ → ℕ
opened_with opened b = opened + one_if opening b

abbrev pub closed_with : ℕ → ℕ → ℕ
closed_with closed b = closed + one_if closing b

-- Whether the byte counted last is too deep.
abbrev pub deep_now : ℕ → ℕ → ℕ → Bool
deep_now opened closed b = ltb (closed_with closed b + max_depth) (opened_with opened b)

-- What the code counts for a byte.
one_counted : (byte b : ℕ) → from_bool (eqb b byte) ≡ one_if byte b
one_counted byte b = go (eqb b byte)
  where
    go : (t : Bool) → from_bool t ≡ cond t 1 0
    go true = refl
    go false = refl

pub one_most : (byte b : ℕ) → from_bool (eqb b byte) ≤ 1
one_most byte b = go (eqb b byte)
  where
    go : (t : Bool) → from_bool t ≤ 1
    go true = omega arith
    go false = omega arith

module _ (opened closed : ℕ) (text : Bytes) (i : ℕ) where
  abbrev byte : ℕ
  byte = get_or {A = ℕ} text i 0

  -- At the end no byte was too deep ..
  pub deep_end : length text ≤ i → deep_behind opened closed (drop i text) ≡ false
  unfolding deep_behind
  deep_end h = rw (drop_of_length-le text h)

  -- .. before it one that is decides, and any other leaves what follows.
  module _ (opens closes : ℕ) (there : i < length text) (o : opens ≡ from_bool (eqb byte opening)) (c : closes ≡ from_bool (eqb byte closing)) where
    deep_at : deep_behind opened closed (drop i text)
        ≡ ltb (closed + closes + max_depth) (opened + opens)
        || deep_behind (opened + opens) (closed + closes) (drop (i + 1) text)
    unfolding deep_behind
    deep_at = rw (add-one i, drop-cons text i 0 there, o ∙ one_counted opening byte, c ∙ one_counted closing byte)

    pub deep_stop : closed + closes + max_depth < opened + opens → deep_behind opened closed (drop i text) ≡ true
    deep_stop h = rw (deep_at, lt-ltb _ _ h)

    pub deep_pass : opened + opens ≤ closed + closes + max_depth
        → deep_behind opened closed (drop i text) ≡ deep_behind (opened + opens) (closed + closes) (drop (i + 1) text)
    deep_pass h = rw (deep_at, le-ltb _ _ h)

-- Some front has too many opening brackets, behind so many opening and closing ones.
record DeepFrom (opened closed : ℕ) (text : Bytes) : Type 0 where
  up_to : ℕ
  outnumber : closed + times closing (take up_to text) + max_depth < opened + times opening (take up_to text)

deep_now_lem : (opened closed b : ℕ) (text : Bytes) → closed_with closed b + max_depth < opened_with opened b → DeepFrom opened closed (b ∷ text)
unfolding times
deep_now_lem opened closed b text h = record { up_to = 1; outnumber = omega arith }

deep_later : (opened closed b : ℕ) (text : Bytes) → DeepFrom (opened_with opened b) (closed_with closed b) text → DeepFrom opened closed (b ∷ text)
unfolding times
deep_later opened closed b text d = record { up_to = suc d.up_to; outnumber = omega (arith, d.outnumber) }

deep_from : (opened closed : ℕ) (text : Bytes) → deep_behind opened closed text ≡ true → DeepFrom opened closed text
unfolding deep_behind
deep_from opened closed [] h = absurd (false≢true h)
deep_from opened closed (b ∷ text) h =
    go (deep_now opened closed b) refl h (λ k. deep_from (opened_with opened b) (closed_with closed b) text k)
  where
    go : (t : Bool) → deep_now opened closed b ≡ t → t || deep_behind (opened_with opened b) (closed_with closed b) text ≡ true
        → (deep_behind (opened_with opened b) (closed_with closed b) text ≡ true → DeepFrom (opened_with opened b) (closed_with closed b) text)
        → DeepFrom opened closed (b ∷ text)
    go true e h more = deep_now_lem opened closed b text (ltb-true _ _ e)
    go false e h more = deep_later opened closed b text (more h)

from_deep : (opened closed : ℕ) (text : Bytes) (n : ℕ) → opened ≤ closed + max_depth
    → closed + times closing (take n text) + max_depth < opened + times opening (take n text) → deep_behind opened closed text ≡ true
unfolding times deep_behind
from_deep opened closed [] zero fine h = absurd (omega arith)
from_deep opened closed [] (suc n) fine h = absurd (omega arith)
from_deep opened closed (b ∷ text) zero fine h = absurd (omega arith)
from_deep opened closed (b ∷ text) (suc n) fine h =
    go (deep_now opened closed b) refl
    (λ k. from_deep (opened_with opened b) (closed_with closed b) text n k (omega arith))
  where
    go : (t : Bool) → deep_now opened closed b ≡ t
        → (opened_with opened b ≤ closed_with closed b + max_depth → deep_behind (opened_with opened b) (closed_with closed b) text ≡ true)
        → t || deep_behind (opened_with opened b) (closed_with closed b) text ≡ true
    go true e more = refl
    go false e more = more (ltb-false _ _ e)

-- The test is exact.
pub deep_exactly : (text : Bytes) → (too_deep text ≡ true) ↔ TooDeep text
deep_exactly text = (there, λ d. from_deep 0 0 text d.up_to (omega arith) (omega (arith, d.outnumber)))
  where
    there : too_deep text ≡ true → TooDeep text
    there h = let d = deep_from 0 0 text h in record { up_to = d.up_to; outnumber = omega (arith, d.outnumber) }

-- A text that is not too deep: no front of it has too many opening brackets.
pub not_deep : (text : Bytes) → too_deep text ≡ false → (n : ℕ) → times opening (take n text) ≤ times closing (take n text) + max_depth
not_deep text h n = go (dec_le (times opening (take n text)) (times closing (take n text) + max_depth))
  where
    go : Dec (times opening (take n text) ≤ times closing (take n text) + max_depth) → times opening (take n text) ≤ times closing (take n text) + max_depth
    go (yes l) = l
    go (no m) = absurd (false≢true (sym h ∙ (deep_exactly text).1 (record { up_to = n; outnumber = omega (arith, m) })))

-- How many slashes a text has, counted in one pass.
abbrev pub is_slash : ℕ → Bool
is_slash b = (b == slash) || (b == backslash)

slashes_next : (b : ℕ) (text : Bytes) → slashes (b ∷ text) ≡ cond (is_slash b) (1 + slashes text) (slashes text)
unfolding times
slashes_next b text = go (ℕ_discrete b slash)
  where
    tail : (t : Bool) → 0 + times slash text + (cond t 1 0 + times backslash text) ≡ cond t (1 + slashes text) (slashes text)
    tail true = omega arith
    tail false = omega arith

    go : Dec (b ≡ slash) → slashes (b ∷ text) ≡ cond (is_slash b) (1 + slashes text) (slashes text)
    go (yes e) = rw e (omega arith)
    go (no n) = rw (ne_eqb b slash n) (tail (eqb b backslash))

pub slashes_counted : (text : Bytes) → slashes text ≡ count_by is_slash text
unfolding times
slashes_counted text = is_count_by slashes is_slash refl slashes_next text
