-- Document 02, 2.6, on a line without one of its words.
use Rattle.std.specs.Prelude.{ℕ, zero, suc, ◌≡◌, List, [], ◌∷◌, map}
use Rattle.format.specs.Records.{Bytes}
use Rattle.line.specs.LineWords.{Word, words_of}

-- The list without its element k, counted from 0. Where it has no such element it is whole.
unfoldable pub without : {A : Type 0} → ℕ → List A → List A
without k [] = []
without zero (x ∷ l) = l
without (suc k) (x ∷ l) = x ∷ without k l

-- The bytes of a line's words, in their order.
abbrev pub word_bytes : Bytes → List Bytes
word_bytes line = map (λ (w : Word). w.bytes) (words_of line)

-- The words of `other` are those of `line` without word k + 1, in their order, however they are spaced.
abbrev pub IsWithout : ℕ → Bytes → Bytes → Type 0
IsWithout k line other = word_bytes other ≡ without k (word_bytes line)
