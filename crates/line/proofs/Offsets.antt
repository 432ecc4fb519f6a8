-- What comes back with 11 to 14 is at most the line's length: the offset of one of its bytes or words, or 0.
use Prim.Native.Nat.{ℕ, suc, ◌+◌, ◌≤◌}
use native.Mathlib.Omega.{arith}
use mathlib.Core.Path.{◌≡◌, refl, ap}
use mathlib.Core.Bool.{Bool, true, false, cond, ◌||◌}
use mathlib.Core.Logic.{⊎_elim}
use mathlib.Core.List.Memᴰ
use mathlib.Core.List.{List, [], ◌∷◌, Memᴰ}
use mathlib.Core.Option.{Option, none, some}
use lib.Dec.{eqb, leb, ltb}
use lib.ListN.{length}
use Rattle.figures.specs.Limits.{max_word, max_words, max_line_simples}
use Rattle.figures.specs.Refusals.{bad_line_byte, bad_word, unknown_word, too_many_simples}
use Rattle.format.specs.Records.{Bytes, between}
use Rattle.book.specs.Format.{Book}
use Rattle.line.specs.LineWords.{Word, put_before, words_from, words_of}
use Rattle.line.specs.LineFaults.{entries_of, entries_of_line, byte_fault, word_fault, entry_fault, LineCheck, passed, stopped, or_else, line_check}
use Rattle.lookup.specs.Entries.{simples_of_words}

-- What is found, if anything, is at most that.
abbrev Within : ℕ → Option ℕ → Type 0
Within most found = (v : ℕ) → found ≡ some v → v ≤ most

none_within : (most : ℕ) → Within most none
none_within most v h = let z : ◌≡◌ {A = ℕ} 0 1 = cc in absurd (omega arith)

some_within : (most n : ℕ) → n ≤ most → Within most (some n)
some_within most n h v e = let same : n ≡ v = cc in omega arith

either_within : (most : ℕ) (b : Bool) (x y : Option ℕ) → Within most x → Within most y → Within most (cond b x y)
either_within most true x y p q = p
either_within most false x y p q = q

byte_within : (at : ℕ) (bytes : Bytes) → Within (at + length bytes) (byte_fault at bytes)
unfolding byte_fault
byte_within at [] = none_within (at + 0)
byte_within at (b ∷ bytes) =
    either_within (at + suc (length bytes)) (between 32 126 b) (byte_fault (at + 1) bytes) (some at)
    (λ v e. omega (arith, byte_within (at + 1) bytes v e)) (some_within (at + suc (length bytes)) at (omega arith))

-- Every word starts at most there.
abbrev StartWithin : ℕ → List Word → Type 0
StartWithin most words = (w : Word) → Memᴰ w words → w.at ≤ most

start_cons : (most : ℕ) (w : Word) (words : List Word) → w.at ≤ most → StartWithin most words → StartWithin most (w ∷ words)
start_cons most w words h rest v m = ⊎_elim (λ e. let same = ap (λ (x : Word). x.at) e in omega arith) (λ k. rest v k) (Memᴰ.cases_cons m)

put_within : (most at b : ℕ) (words : List Word) → at ≤ most → StartWithin most words → StartWithin most (put_before at b words)
put_within most at b [] h rest = start_cons most (record { at = at; bytes = b ∷ [] }) [] h rest
put_within most at b (w ∷ words) h rest = go (eqb w.at (at + 1))
  where
    go : (t : Bool) → StartWithin most (cond t (record { at = at; bytes = b ∷ w.bytes } ∷ words) (record { at = at; bytes = b ∷ [] } ∷ w ∷ words))
    go true = start_cons most (record { at = at; bytes = b ∷ w.bytes }) words h (λ v m. rest v (Memᴰ.tail m))
    go false = start_cons most (record { at = at; bytes = b ∷ [] }) (w ∷ words) h rest

words_within : (at : ℕ) (bytes : Bytes) → StartWithin (at + length bytes) (words_from at bytes)
unfolding words_from
words_within at [] = λ w m. absurd (Memᴰ.not-nil m)
words_within at (b ∷ bytes) = go (eqb b 32) (λ w m. omega (arith, words_within (at + 1) bytes w m))
  where
    most : ℕ
    most = at + suc (length bytes)

    rest : List Word
    rest = words_from (at + 1) bytes

    go : (t : Bool) → StartWithin most rest → StartWithin most (cond t rest (put_before at b rest))
    go true later = later
    go false later = put_within most at b rest (omega arith) later

word_fault_within : (most n : ℕ) (words : List Word) → StartWithin most words → Within most (word_fault n words)
unfolding word_fault
word_fault_within most n [] s = none_within most
word_fault_within most n (w ∷ words) s =
    either_within most (ltb max_word (length w.bytes) || leb max_words n) (some w.at) (word_fault (n + 1) words)
    (some_within most w.at (s w (Memᴰ.head refl))) (word_fault_within most (n + 1) words (λ v m. s v (Memᴰ.tail m)))

entry_fault_within : (most : ℕ) (B : Book) (words : List Word) → StartWithin most words → Within most (entry_fault B words)
unfolding entry_fault
entry_fault_within most B [] s = none_within most
entry_fault_within most B (w ∷ words) s =
    either_within most (eqb (length (entries_of B w)) 0) (some w.at) (entry_fault B words)
    (some_within most w.at (s w (Memᴰ.head refl))) (entry_fault_within most B words (λ v m. s v (Memᴰ.tail m)))

-- The value that a check stops with, if it does.
abbrev StopsWithin : ℕ → LineCheck → Type 0
StopsWithin most (passed words) = Unit {0}
StopsWithin most (stopped number value) = value ≤ most

or_else_within : (most number : ℕ) (found : Option ℕ) (next : LineCheck) → Within most found → StopsWithin most next → StopsWithin most (or_else number found next)
or_else_within most number none next h k = k
or_else_within most number (some value) next h k = h value refl

last_within : (most : ℕ) (over : Bool) (c : LineCheck) → StopsWithin most c → StopsWithin most (cond over (stopped too_many_simples 0) c)
last_within most true c h = omega arith
last_within most false c h = h

check_within : (B : Book) (line : Bytes) → StopsWithin (length line) (line_check B line)
unfolding line_check
check_within B line =
    let starts : StartWithin (length line) (words_of line) = λ w m. omega (arith, words_within 0 line w m) in
    or_else_within (length line) bad_line_byte (byte_fault 0 line) _ (λ v e. omega (arith, byte_within 0 line v e))
    (or_else_within (length line) bad_word (word_fault 0 (words_of line)) _ (word_fault_within (length line) 0 (words_of line) starts)
    (or_else_within (length line) unknown_word (entry_fault B (words_of line)) _ (entry_fault_within (length line) B (words_of line) starts)
    (last_within (length line) (ltb max_line_simples (simples_of_words (entries_of_line B line))) (passed (entries_of_line B line)) tt)))

pub stopped_within : (B : Book) (line : Bytes) {number value : ℕ} → line_check B line ≡ stopped number value → value ≤ length line
stopped_within B line {number} {value} e = rw e at (check_within B line)
