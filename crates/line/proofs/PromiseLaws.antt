-- The look-up of a line's words keeps its promise: what is found is exactly each word's entries, and 13, 14 and the choice go by it.
use Prim.Native.Nat.{ℕ, ◌<◌}
use native.Mathlib.Omega.{arith}
use mathlib.Core.Path.{◌≡◌, refl, ap₂, sym}
use mathlib.Core.Bool.{Bool, true, false, cond}
use mathlib.Core.Logic.{◌↔◌, ◌⊎◌, inl, inr}
use mathlib.Core.List.{List, [], ◌∷◌, map}
use mathlib.Core.Option.{Option, none, some}
use lib.Dec.{eqb, ltb}
use lib.ListN.{length}
use borrow.Author.Tests.{ne_eqb, lt-ltb, ltb-true}
use Rattle.bits.proofs.Cases.{some_same}
use Rattle.figures.specs.Limits.{max_line_simples}
use Rattle.figures.specs.Refusals.{bad_line_byte, bad_word, unknown_word, too_many_simples}
use Rattle.linking.specs.Reading.{NumberedEntry, Words}
use Rattle.format.specs.Records.{Bytes}
use Rattle.book.specs.Format.{Book}
use Rattle.lookup.specs.Entries.{simples_of_words}
use Rattle.lookup.proofs.ExactLaws.{finds_all, finds_one}
use Rattle.line.specs.LineWords.{Word, words_of}
use Rattle.line.specs.LineFaults.{entries_of, entries_of_line, byte_fault, word_fault, entry_fault, LineCheck, passed, stopped, or_else, line_check}
use Rattle.line.specs.Passing.{AllKnown, known}
use Rattle.line.specs.Promise.{FindsEach, no_word as no-word-found, each, FirstUnknown, here, behind, Legible, LookUpPromised}
use Rattle.line.proofs.Passed.{words_known, line_passing}

-- Each word's entries are found, and nothing else can be.
each_found : (B : Book) (words : List Word) → FindsEach B words (map (entries_of B) words)
each_found B [] = no-word-found
each_found B (w ∷ words) = each (finds_all B.entries w.bytes) (each_found B words)

only_found : (B : Book) (words : List Word) (other : Words) → FindsEach B words other → other ≡ map (entries_of B) words
only_found B [] (es ∷ found) x'' = elim x'' [ ]
only_found B (w ∷ words) [] x3 = elim x3 [ ]
only_found B [] [] no-word-found = refl
only_found B (w ∷ words) (es ∷ found) (each f rest) = ap₂ (λ (es : List NumberedEntry) (ws : Words). es ∷ ws) (finds_one B.entries w.bytes es f) (only_found B words found rest)

-- The first unknown word is that of the definition ..
unknown_first : (B : Book) (words : List Word) (value : ℕ) → entry_fault B words ≡ some value → FirstUnknown words (map (entries_of B) words) value
unfolding entry_fault
unknown_first B [] value h = let z : ◌≡◌ {A = ℕ} 0 1 = cc in absurd (omega arith)
unknown_first B (w ∷ words) value h = go (entries_of B w) (unknown_first B words value) h
  where
    go : (es : List NumberedEntry) → (entry_fault B words ≡ some value → FirstUnknown words (map (entries_of B) words) value)
        → cond (eqb (length es) 0) (some w.at) (entry_fault B words) ≡ some value → FirstUnknown (w ∷ words) (es ∷ map (entries_of B) words) value
    go [] rest k = rw (sym (some_same k)) here
    go (e ∷ es) rest k = behind (rest (rw (ne_eqb (length (e ∷ es)) 0 (omega arith)) at k))

fault_here : (w : Word) (words : List Word) (es : List NumberedEntry) (found : Words) (value : ℕ) (fault : Option ℕ)
    → (FirstUnknown words found value → fault ≡ some value) → FirstUnknown (w ∷ words) (es ∷ found) value → cond (eqb (length es) 0) (some w.at) fault ≡ some value
fault_here w words [] found value fault rest here = refl
fault_here w words (e ∷ es) found value fault rest (behind f) = rw (ne_eqb (length (e ∷ es)) 0 (omega arith)) (rest f)

first_unknown : (B : Book) (words : List Word) (value : ℕ) → FirstUnknown words (map (entries_of B) words) value → entry_fault B words ≡ some value
unfolding entry_fault
first_unknown B [] value f = elim f [ ]
first_unknown B (w ∷ words) value f = fault_here w words (entries_of B w) (map (entries_of B) words) value (entry_fault B words) (first_unknown B words value) f

-- .. and where all are known there is none.
pub known_none : (B : Book) (words : List Word) → AllKnown (map (entries_of B) words) → entry_fault B words ≡ none
unfolding entry_fault
known_none B [] h = refl
known_none B (w ∷ words) h = go (entries_of B w) (known_none B words) h
  where
    go : (es : List NumberedEntry) → (AllKnown (map (entries_of B) words) → entry_fault B words ≡ none) → AllKnown (es ∷ map (entries_of B) words)
        → cond (eqb (length es) 0) (some w.at) (entry_fault B words) ≡ none
    go [] rest x3 = elim x3 [ ]
    go (e ∷ es) rest (known k) = rw (ne_eqb (length (e ∷ es)) 0 (omega arith)) (rest k)

-- A line that is stopped is stopped by a test or by what comes next.
halted : (number : ℕ) (o : Option ℕ) (next : LineCheck) {n v : ℕ} → or_else number o next ≡ stopped n v → ((n ≡ number) × (o ≡ some v)) ⊎ ((o ≡ none) × (next ≡ stopped n v))
halted number none next h = inr (refl, h)
halted number (some w) next h = inl (cc, cc)

halted_last : (over : Bool) (ws : Words) {n v : ℕ} → cond over (stopped too_many_simples 0) (passed ws) ≡ stopped n v → (n ≡ too_many_simples) × (over ≡ true)
halted_last true ws h = (cc, refl)
halted_last false ws h = let z : ◌≡◌ {A = ℕ} 0 1 = cc in absurd (omega arith)

module _ (B : Book) (line : Bytes) where
  abbrev found : Words
  found = entries_of_line B line

  abbrev fourteen : LineCheck
  fourteen = cond (ltb max_line_simples (simples_of_words found)) (stopped too_many_simples 0) (passed found)

  abbrev thirteen : LineCheck
  thirteen = or_else unknown_word (entry_fault B (words_of line)) fourteen

  -- 13 and 14 come after 11 and 12.
  past_words : {n v : ℕ} → bad_word < n → line_check B line ≡ stopped n v → Legible line × (thirteen ≡ stopped n v)
  unfolding line_check
  past_words {n} {v} later h = go (halted bad_line_byte (byte_fault 0 line) (or_else bad_word (word_fault 0 (words_of line)) thirteen) h)
    where
      two : byte_fault 0 line ≡ none → ((n ≡ bad_word) × (word_fault 0 (words_of line) ≡ some v)) ⊎ ((word_fault 0 (words_of line) ≡ none) × (thirteen ≡ stopped n v))
          → Legible line × (thirteen ≡ stopped n v)
      two e (inl f) = absurd (omega (arith, f.0))
      two e (inr f) = ((e, f.0), f.1)

      go : ((n ≡ bad_line_byte) × (byte_fault 0 line ≡ some v)) ⊎ ((byte_fault 0 line ≡ none) × (or_else bad_word (word_fault 0 (words_of line)) thirteen ≡ stopped n v))
          → Legible line × (thirteen ≡ stopped n v)
      go (inl e) = absurd (omega (arith, e.0))
      go (inr e) = two e.0 (halted bad_word (word_fault 0 (words_of line)) thirteen e.1)

  no_entry_is : (value : ℕ) → (line_check B line ≡ stopped unknown_word value) ↔ (Legible line × FirstUnknown (words_of line) found value)
  unfolding line_check
  no_entry_is value = (
    λ h. let p = past_words (omega arith) h in (p.0, go (halted unknown_word (entry_fault B (words_of line)) fourteen p.1)),
    λ t. rw (t.0.0, t.0.1, first_unknown B (words_of line) value t.1),
  )
    where
      go : ((unknown_word ≡ unknown_word) × (entry_fault B (words_of line) ≡ some value)) ⊎ ((entry_fault B (words_of line) ≡ none) × (fourteen ≡ stopped unknown_word value))
          → FirstUnknown (words_of line) found value
      go (inl e) = unknown_first B (words_of line) value e.1
      go (inr e) = absurd (omega (arith, (halted_last (ltb max_line_simples (simples_of_words found)) found e.1).0))

  too_many_is : (line_check B line ≡ stopped too_many_simples 0) ↔ (Legible line × AllKnown found × (max_line_simples < simples_of_words found))
  unfolding line_check
  too_many_is = (
    λ h. let p = past_words (omega arith) h in let t = go (halted unknown_word (entry_fault B (words_of line)) fourteen p.1) in (p.0, t.0, t.1),
    λ t. rw (t.0.0, t.0.1, known_none B (words_of line) t.1, lt-ltb max_line_simples (simples_of_words found) t.2),
  )
    where
      go : ((too_many_simples ≡ unknown_word) × (entry_fault B (words_of line) ≡ some 0)) ⊎ ((entry_fault B (words_of line) ≡ none) × (fourteen ≡ stopped too_many_simples 0))
          → AllKnown found × (max_line_simples < simples_of_words found)
      go (inl e) = absurd (omega (arith, e.0))
      go (inr e) = (words_known B (words_of line) e.0, ltb-true _ _ (halted_last (ltb max_line_simples (simples_of_words found)) found e.1).1)

  pub look_up_kept : LookUpPromised B line (entries_of_line B line)
  look_up_kept =
      record {
        exactly = each_found B (words_of line);
        only = only_found B (words_of line);
        no_entry = no_entry_is;
        too_many = too_many_is;
        choice = λ words h. (line_passing B line words h).words_are;
      }
