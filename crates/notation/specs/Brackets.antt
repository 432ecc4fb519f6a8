-- Document 02, 2.5, refusal 19: a text in which, up to some byte, opening brackets outnumber closing ones by more than six.
use Rattle.std.specs.Prelude.{ℕ, ◌+◌, ◌<◌, Bool, false, cond, ◌||◌, [], ◌∷◌, ltb, eqb, take}
use Rattle.figures.specs.Limits.{max_depth}
use Rattle.format.specs.Records.{Bytes}
use Rattle.notation.specs.Grammar.{opening, closing}

-- 1 for this byte, 0 for any other.
abbrev pub one_if : ℕ → ℕ → ℕ
one_if byte b = cond (eqb b byte) 1 0

-- How often a byte stands in a text.
unfoldable pub times : ℕ → Bytes → ℕ
times byte [] = 0
times byte (b ∷ text) = one_if byte b + times byte text

-- Some front of the text has over six opening brackets more than closing ones.
pub record TooDeep (text : Bytes) : Type 0 where
  pub up_to : ℕ
  pub outnumber : times closing (take up_to text) + max_depth < times opening (take up_to text)

-- The same as a test, behind so many opening and closing brackets.
unfoldable pub deep_behind : ℕ → ℕ → Bytes → Bool
deep_behind opened closed [] = false
deep_behind opened closed (b ∷ text) =
    ltb (closed + one_if closing b + max_depth) (opened + one_if opening b) || deep_behind (opened + one_if opening b) (closed + one_if closing b) text

abbrev pub too_deep : Bytes → Bool
too_deep text = deep_behind 0 0 text
