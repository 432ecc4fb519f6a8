-- Whether a line breaks none of 11 to 14 goes by the bytes of its words alone, however they are spaced: a space is a byte that a line may have.
use Prim.Native.Nat.{ℕ, ◌+◌, ◌≤◌}
use native.Mathlib.Omega.{arith}
use mathlib.Core.Path.{◌≡◌, refl, sym, ap, subst, ◌∙◌}
use mathlib.Core.Bool.{Bool, true, false, cond}
use mathlib.Core.List.{List, [], ◌∷◌, map, map-map}
use mathlib.Core.Option.{none, some}
use lib.Dec.{eqb}
use lib.ListN.{length, length-map}
use borrow.Author.Tests.{eqb-true, le-ltb, lt-leb}
use Rattle.figures.specs.Limits.{max_word, max_words, max_line_simples}
use Rattle.linking.specs.Reading.{Words}
use Rattle.format.specs.Records.{Bytes, between}
use Rattle.book.specs.Format.{Book}
use Rattle.lookup.specs.Entries.{entries_from, simples_of_words}
use Rattle.line.specs.LineWords.{Word, put_before, words_from, words_of}
use Rattle.line.specs.LineFaults.{entries_of_line, byte_fault, word_fault, passed, line_check}
use Rattle.line.specs.Passing.{AllKnown}
use Rattle.line.specs.Remaining.{word_bytes}
use Rattle.line.proofs.Passed.{word_fine, words_few, line_passing}
use Rattle.line.proofs.LineLaws.{check_passed}
use Rattle.line.proofs.PromiseLaws.{known_none}

-- Every element of a list is so.
pub data Every {A : Type 0} (P : A → Type 0) : List A → Type 0 where
  no_element : Every P []
  element : {x : A} {l : List A} → P x → Every P l → Every P (x ∷ l)

-- A byte that a line may have, and a word of such bytes.
abbrev pub Allowed : ℕ → Type 0
Allowed b = between 32 126 b ≡ true

abbrev pub Legal : Bytes → Type 0
Legal word = Every Allowed word

-- A word that is not too long.
abbrev pub Short : Bytes → Type 0
Short word = length word ≤ max_word

-- The entries of words by their bytes.
abbrev pub entries_of_all : Book → List Bytes → Words
entries_of_all B words = map (entries_from 0 B.entries) words

-- What 11 to 14 ask of the words of a line.
pub record PassesWords (B : Book) (words : List Bytes) : Type 0 where
  pub legal : Every Legal words
  pub short : Every Short words
  pub few : length words ≤ max_words
  pub known_words : AllKnown (entries_of_all B words)
  pub small : simples_of_words (entries_of_all B words) ≤ max_line_simples

-- The bytes of words.
abbrev spelling : List Word → List Bytes
spelling words = map (λ (w : Word). w.bytes) words

-- 11: words with a byte put before them are legal exactly when the byte is allowed and they are legal ..
put_legal : (at b : ℕ) (words : List Word) → Allowed b → Every Legal (spelling words) → Every Legal (spelling (put_before at b words))
put_legal at b [] a rest = element (element a no_element) rest
put_legal at b (w ∷ words) a (element h rest) = go (eqb w.at (at + 1))
  where
    go : (t : Bool) → Every Legal (spelling (cond t (record { at = at; bytes = b ∷ w.bytes } ∷ words) (record { at = at; bytes = b ∷ [] } ∷ w ∷ words)))
    go true = element (element a h) rest
    go false = element (element a no_element) (element h rest)

legal_put : (at b : ℕ) (words : List Word) → Every Legal (spelling (put_before at b words)) → Allowed b × Every Legal (spelling words)
legal_put at b [] (element (element a h) rest) = (a, rest)
legal_put at b (w ∷ words) l = go (eqb w.at (at + 1)) l
  where
    go : (t : Bool) → Every Legal (spelling (cond t (record { at = at; bytes = b ∷ w.bytes } ∷ words) (record { at = at; bytes = b ∷ [] } ∷ w ∷ words)))
        → Allowed b × Every Legal (w.bytes ∷ spelling words)
    go true (element (element a h) rest) = (a, element h rest)
    go false (element (element a h) rest) = (a, rest)

-- .. so that the words of bytes are legal exactly when no byte is a fault.
words_legal : (at : ℕ) (bytes : Bytes) → byte_fault at bytes ≡ none → Every Legal (spelling (words_from at bytes))
unfolding byte_fault words_from
words_legal at [] h = no_element
words_legal at (b ∷ bytes) h = go (between 32 126 b) (eqb b 32) refl (words_legal (at + 1) bytes) h
  where
    rest : List Word
    rest = words_from (at + 1) bytes

    go : (fine space : Bool) → between 32 126 b ≡ fine → (byte_fault (at + 1) bytes ≡ none → Every Legal (spelling rest))
        → cond fine (byte_fault (at + 1) bytes) (some at) ≡ none → Every Legal (spelling (cond space rest (put_before at b rest)))
    go true true a later k = later k
    go true false a later k = put_legal at b rest a (later k)
    go false space a later k = let z : ◌≡◌ {A = ℕ} 0 1 = cc in absurd (omega arith)

legal_words : (at : ℕ) (bytes : Bytes) → Every Legal (spelling (words_from at bytes)) → byte_fault at bytes ≡ none
unfolding byte_fault words_from
legal_words at [] h = refl
legal_words at (b ∷ bytes) h = go (eqb b 32) refl (legal_words (at + 1) bytes) h
  where
    rest : List Word
    rest = words_from (at + 1) bytes

    go : (space : Bool) → eqb b 32 ≡ space → (Every Legal (spelling rest) → byte_fault (at + 1) bytes ≡ none)
        → Every Legal (spelling (cond space rest (put_before at b rest))) → cond (between 32 126 b) (byte_fault (at + 1) bytes) (some at) ≡ none
    go true e later k = let a : Allowed b = ap (between 32 126) (eqb-true b 32 e) in rw a (later k)
    go false e later k = let p = legal_put at b rest k in rw p.0 (later p.1)

-- 12: words are no fault exactly when they are short and few.
words_short : (n : ℕ) (words : List Word) → word_fault n words ≡ none → Every Short (spelling words)
words_short n [] h = no_element
words_short n (w ∷ words) h = let fine = word_fine n w words h in element fine.0 (words_short (n + 1) words fine.2)

short_words : (n : ℕ) (words : List Word) → Every Short (spelling words) → n + length words ≤ max_words → word_fault n words ≡ none
unfolding word_fault
short_words n [] s h = refl
short_words n (w ∷ words) (element s rest) h =
    rw (le-ltb max_word (length w.bytes) s, lt-leb max_words n (omega arith)) (short_words (n + 1) words rest (omega arith))

module _ (B : Book) (line : Bytes) where
  pub entries_by_bytes : entries_of_all B (word_bytes line) ≡ entries_of_line B line
  entries_by_bytes = map-map (entries_from 0 B.entries) (λ (w : Word). w.bytes) (words_of line)

  bytes_length : length (word_bytes line) ≡ length (words_of line)
  bytes_length = length-map (words_of line) (λ (w : Word). w.bytes)

  -- The words of a line that passes are as 11 to 14 ask ..
  pub line_passes_words : (words : Words) → line_check B line ≡ passed words → PassesWords B (word_bytes line)
  line_passes_words words h =
      let p = line_passing B line words h in
      let found : words ≡ entries_of_all B (word_bytes line) = p.words_are ∙ sym entries_by_bytes in
      record {
        legal = words_legal 0 line p.bytes_fine;
        short = words_short 0 (words_of line) p.words_fine;
        few = omega (arith, words_few 0 (words_of line) (omega arith) p.words_fine, bytes_length);
        known_words = subst AllKnown found p.known_words;
        small = subst (λ (ws : Words). simples_of_words ws ≤ max_line_simples) found p.few;
      }

  -- .. and a line with such words passes.
  pub words_pass_line : PassesWords B (word_bytes line) → line_check B line ≡ passed (entries_of_line B line)
  words_pass_line p =
      check_passed B line (legal_words 0 line p.legal) (short_words 0 (words_of line) p.short (omega (arith, p.few, bytes_length)))
      (known_none B (words_of line) (subst AllKnown entries_by_bytes p.known_words))
      (subst (λ (ws : Words). simples_of_words ws ≤ max_line_simples) entries_by_bytes p.small)
