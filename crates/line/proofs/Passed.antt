-- What holds of every line that breaks none of 11 to 14: its words are those of the definition, each has an entry, and the numbers of a
-- word's entries ascend.
use Prim.Native.Nat.{ℕ, ◌+◌, ◌*◌, ◌≤◌, ◌<◌}
use native.Mathlib.Omega.{arith}
use mathlib.Core.Path.{◌≡◌, refl, sym, ap, subst}
use mathlib.Core.Bool.{Bool, true, false, cond, ◌||◌}
use mathlib.Core.List.Memᴰ
use mathlib.Core.List.{List, [], ◌∷◌, map}
use mathlib.Core.Logic.{⊎_elim}
use mathlib.Core.Option.{Option, none, some}
use lib.Dec.{eqb, leb, ltb}
use lib.ListN.{length, length-append}
use borrow.Author.Tests.{ne_eqb, leb-false, ltb-false}
use Rattle.pregroup.specs.Types.{PregroupType}
use Rattle.figures.specs.Limits.{max_word, max_words, max_entry_simples, max_line_simples}
use Rattle.figures.specs.Refusals.{bad_line_byte, bad_word, unknown_word, too_many_simples}
use Rattle.linking.specs.Reading.{NumberedEntry, Words, Choice, take, empty as empty-choice}
use Rattle.linking.specs.Ascending.{empty, more, AllAscending}
use Rattle.format.specs.Records.{Bytes}
use Rattle.book.specs.Format.{Book, Entry}
use Rattle.book.proofs.Accepted.{AllShort}
use Rattle.line.specs.Passing.{AllKnown, no_word, known, Brief, AllBrief, no_words, brief}
use Rattle.line.specs.LineWords.{Word, words_of}
use Rattle.line.specs.LineFaults.{entries_of, entries_of_line, byte_fault, word_fault, entry_fault, LineCheck, passed, stopped, or_else, line_check}
use Rattle.lookup.specs.Entries.{entries_from, simples_of_words}
use Rattle.capitals.specs.Capitals.{same_word}
use Rattle.lookup.proofs.ExactLaws.{entries_ascend}

words_ascend : (B : Book) (words : List Word) → AllAscending (map (entries_of B) words)
words_ascend B [] = empty
words_ascend B (w ∷ words) = more (entries_ascend 0 B.entries w.bytes) (words_ascend B words)

pub words_known : (B : Book) (words : List Word) → entry_fault B words ≡ none → AllKnown (map (entries_of B) words)
unfolding entry_fault
words_known B [] h = no_word
words_known B (w ∷ words) h = go (entries_of B w) (λ k. words_known B words k) h
  where
    go : (es : List NumberedEntry) → (entry_fault B words ≡ none → AllKnown (map (entries_of B) words)) → cond (eqb (length es) 0) (some w.at) (entry_fault B words) ≡ none
        → AllKnown (es ∷ map (entries_of B) words)
    go [] rest k = let z : ◌≡◌ {A = ℕ} 0 1 = cc in absurd (omega arith)
    go (e ∷ es) rest k = known (rest (rw (ne_eqb (length (e ∷ es)) 0 (omega arith)) at k))

-- Words that do not break 12: none is too long, and the first of them is not one too many ..
pub word_fine : (n : ℕ) (w : Word) (words : List Word) → word_fault n (w ∷ words) ≡ none
    → (length w.bytes ≤ max_word) × (n < max_words) × (word_fault (n + 1) words ≡ none)
unfolding word_fault
word_fine n w words h = go (ltb max_word (length w.bytes)) (leb max_words n) refl refl h
  where
    go : (long many : Bool) → ltb max_word (length w.bytes) ≡ long → leb max_words n ≡ many
        → cond (long || many) (some w.at) (word_fault (n + 1) words) ≡ none
        → (length w.bytes ≤ max_word) × (n < max_words) × (word_fault (n + 1) words ≡ none)
    go true many p q k = let z : ◌≡◌ {A = ℕ} 0 1 = cc in absurd (omega arith)
    go false true p q k = let z : ◌≡◌ {A = ℕ} 0 1 = cc in absurd (omega arith)
    go false false p q k = (ltb-false _ _ p, leb-false _ _ q, k)

-- .. so that they are few.
pub words_few : (n : ℕ) (words : List Word) → n ≤ max_words → word_fault n words ≡ none → n + length words ≤ max_words
words_few n [] h k = omega arith
words_few n (w ∷ words) h k =
    let fine = word_fine n w words k in
    omega (arith, words_few (n + 1) words (omega (arith, fine.1)) fine.2)

-- What a line that passes comes to.
pub record Passing (B : Book) (line : Bytes) (words : Words) : Type 0 where
  pub bytes_fine : byte_fault 0 line ≡ none
  pub words_fine : word_fault 0 (words_of line) ≡ none
  pub words_are : words ≡ entries_of_line B line
  pub known_words : AllKnown words
  pub ascending : AllAscending words
  pub few : simples_of_words words ≤ max_line_simples

-- Passing an `or_else` is passing the test and what comes next.
past : (number : ℕ) (o : Option ℕ) (next : LineCheck) {words : Words} → or_else number o next ≡ passed words → (o ≡ none) × (next ≡ passed words)
past number none next h = (refl, h)
past number (some v) next h = let z : ◌≡◌ {A = ℕ} 0 1 = cc in absurd (omega arith)

last_test : (over : Bool) (ws words : Words) → cond over (stopped too_many_simples 0) (passed ws) ≡ passed words → (over ≡ false) × (words ≡ ws)
last_test true ws words h = let z : ◌≡◌ {A = ℕ} 0 1 = cc in absurd (omega arith)
last_test false ws words h = (refl, cc)

pub line_passing : (B : Book) (line : Bytes) (words : Words) → line_check B line ≡ passed words → Passing B line words
unfolding line_check
line_passing B line words h =
    let ws = entries_of_line B line in
    let full = cond (ltb max_line_simples (simples_of_words ws)) (stopped too_many_simples 0) (passed ws) in
    let in-range = past bad_line_byte (byte_fault 0 line) (or_else bad_word (word_fault 0 (words_of line)) (or_else unknown_word (entry_fault B (words_of line)) full)) h in
    let cut = past bad_word (word_fault 0 (words_of line)) (or_else unknown_word (entry_fault B (words_of line)) full) in-range.1 in
    let each = past unknown_word (entry_fault B (words_of line)) full cut.1 in
    let fits = last_test (ltb max_line_simples (simples_of_words ws)) ws words each.1 in
    record {
      bytes_fine = in-range.0;
      words_fine = cut.0;
      words_are = fits.1;
      known_words = subst AllKnown (sym fits.1) (words_known B (words_of line) each.0);
      ascending = subst AllAscending (sym fits.1) (words_ascend B (words_of line));
      few = subst (λ (w : Words). simples_of_words w ≤ max_line_simples) (sym fits.1) (ltb-false _ _ fits.0);
    }

pub brief_cons : (e : NumberedEntry) (es : List NumberedEntry) → length e.type ≤ max_entry_simples → Brief es → Brief (e ∷ es)
brief_cons e es h k f m = ⊎_elim (λ q. let same = ap (λ (x : NumberedEntry). length x.type) q in omega arith) (λ l. k f l) (Memᴰ.cases_cons m)

entries_brief : (n : ℕ) (entries : List Entry) (word : Bytes) → AllShort entries → Brief (entries_from n entries word)
unfolding entries_from
entries_brief n [] word short = λ f m. absurd (Memᴰ.not-nil m)
entries_brief n (e ∷ entries) word short =
    go (same_word e.word word) (entries_brief (n + 1) entries word (λ f m. short f (Memᴰ.tail m)))
  where
    rest : List NumberedEntry
    rest = entries_from (n + 1) entries word

    go : (b : Bool) → Brief rest → Brief (cond b (record { number = n; type = e.type } ∷ rest) rest)
    go true later = brief_cons (record { number = n; type = e.type }) rest (short e (Memᴰ.head refl)) later
    go false later = later

words_brief : (B : Book) → AllShort B.entries → (words : List Word) → AllBrief (map (entries_of B) words)
words_brief B short [] = no_words
words_brief B short (w ∷ words) = brief (entries_brief 0 B.entries w.bytes short) (words_brief B short words)

-- The words of a line are brief, where the book's entries are short.
pub line_brief : (B : Book) (line : Bytes) (words : Words) → AllShort B.entries → Passing B line words → AllBrief words
line_brief B line words short p = subst AllBrief (sym p.words_are) (words_brief B short (words_of line))

-- So a choice has at most max_entry_simples simple types a word.
pub choice_brief : {words : Words} {ns : List ℕ} {X : PregroupType} → AllBrief words → Choice words ns X → length X ≤ max_entry_simples * length words
choice_brief no_words empty-choice = omega arith
choice_brief (brief b rest) (take {e} {X} m c) = let h = choice_brief rest c in let k = b e m in let n = length-append e.type X in omega arith
