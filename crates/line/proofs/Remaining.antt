-- A list without one of its elements, and what a line without one of its words keeps: its words stay known, brief and ascending, their entries
-- stay threaded, and it breaks none of 11 to 14 where the whole line breaks none.
use Prim.Native.Nat.{ℕ, zero, suc, ◌+◌, ◌≤◌, ◌<◌}
use native.Mathlib.Omega.{arith}
use mathlib.Core.Path.{◌≡◌, refl, sym, ap, subst, ◌∙◌}
use mathlib.Core.List.{List, [], ◌∷◌, map}
use lib.ListN.{length, get_or}
use Rattle.figures.specs.Limits.{max_line_simples}
use Rattle.linking.specs.Reading.{Words}
use Rattle.linking.specs.Ascending.{AllAscending, empty, more}
use Rattle.format.specs.Records.{Bytes}
use Rattle.book.specs.Format.{Book}
use Rattle.lookup.specs.Entries.{entries_from, simples_of_words}
use Rattle.lookup.specs.Threads.{Thread, Threads, none as none_threaded, word as next-thread}
use Rattle.lookup.proofs.ThreadLaws.{simples_cons}
use Rattle.line.specs.LineFaults.{entries_of_line, passed, line_check}
use Rattle.line.specs.Passing.{AllKnown, no_word, known, AllBrief, no_words, brief}
use Rattle.line.specs.Remaining.{without, word_bytes, IsWithout}
use Rattle.line.proofs.Passed.{line_passing}
use Rattle.line.proofs.ByWords.{Every, no_element, element, entries_of_all, PassesWords, entries_by_bytes, line_passes_words, words_pass_line}

-- A list without its element k is shorter by one, and in no case longer.
pub without_length : {A : Type 0} (k : ℕ) (l : List A) → k < length l → length (without k l) + 1 ≡ length l
unfolding without
without_length k [] h = absurd (omega arith)
without_length zero (x ∷ l) h = omega arith
without_length (suc k) (x ∷ l) h = omega (arith, without_length k l (omega arith))

without_no_longer : {A : Type 0} (k : ℕ) (l : List A) → length (without k l) ≤ length l
unfolding without
without_no_longer k [] = omega arith
without_no_longer zero (x ∷ l) = omega arith
without_no_longer (suc k) (x ∷ l) = omega (arith, without_no_longer k l)

pub without_map : {A C : Type 0} (f : A → C) (k : ℕ) (l : List A) → map f (without k l) ≡ without k (map f l)
unfolding without
without_map f k [] = refl
without_map f zero (x ∷ l) = refl
without_map f (suc k) (x ∷ l) = ap (λ (m : List _). f x ∷ m) (without_map f k l)

-- What holds of every element still does.
without_every : {A : Type 0} {P : A → Type 0} (k : ℕ) {l : List A} → Every P l → Every P (without k l)
unfolding without
without_every k no_element = no_element
without_every zero (element h rest) = rest
without_every (suc k) (element h rest) = element h (without_every k rest)

pub without_known : (k : ℕ) {words : Words} → AllKnown words → AllKnown (without k words)
unfolding without
without_known k no_word = no_word
without_known zero (known rest) = rest
without_known (suc k) (known rest) = known (without_known k rest)

pub without_brief : (k : ℕ) {words : Words} → AllBrief words → AllBrief (without k words)
unfolding without
without_brief k no_words = no_words
without_brief zero (brief b rest) = rest
without_brief (suc k) (brief b rest) = brief b (without_brief k rest)

pub without_ascending : (k : ℕ) {words : Words} → AllAscending words → AllAscending (without k words)
unfolding without
without_ascending k empty = empty
without_ascending zero (more a rest) = rest
without_ascending (suc k) (more a rest) = more a (without_ascending k rest)

-- Fewer words have no more simple types.
pub without_simples : (k : ℕ) (words : Words) → simples_of_words (without k words) ≤ simples_of_words words
unfolding without
without_simples k [] = omega arith
without_simples zero (es ∷ words) = omega (arith, simples_cons es words)
without_simples (suc k) (es ∷ words) = omega (arith, simples_cons es words, simples_cons es (without k words), without_simples k words)

-- Where `rest` has the first entries of words without one of them, the others are threaded by it.
module _ {bytes : Bytes} {names : List Bytes} {entries same firsts rest : List ℕ} where
  -- Behind the one left out each first entry stands one place earlier.
  moved_threads : {i : ℕ} {words : Words} (m : ℕ) → Threads bytes names entries same firsts i words → m + 1 ≡ i
      → ((j : ℕ) → m ≤ j → j < m + length words → get_or {A = ℕ} rest j 0 ≡ get_or {A = ℕ} firsts (j + 1) 0) → Threads bytes names entries same rest m words
  moved_threads m none_threaded e h = none_threaded
  moved_threads m (next-thread {es} t ts) e h =
      let here = h m (omega arith) (omega arith) ∙ ap (λ (n : ℕ). get_or {A = ℕ} firsts n 0) e in
      next-thread (subst (λ (n : ℕ). Thread bytes names entries same n es) (sym here) t)
      (moved_threads (m + 1) ts (omega arith) (λ j a b. h j (omega arith) (omega arith)))

  -- The same for the words from the i-th on.
  threads_from : {i : ℕ} {words : Words} (k : ℕ) → Threads bytes names entries same firsts i words
      → ((j : ℕ) → i ≤ j → j < i + k → get_or {A = ℕ} rest j 0 ≡ get_or {A = ℕ} firsts j 0)
      → ((j : ℕ) → i + k ≤ j → j + 1 < i + length words → get_or {A = ℕ} rest j 0 ≡ get_or {A = ℕ} firsts (j + 1) 0)
      → Threads bytes names entries same rest i (without k words)
  unfolding without
  threads_from k none_threaded before behind = none_threaded
  threads_from zero (next-thread {k = i} t ts) before behind = moved_threads i ts refl (λ j a b. behind j (omega arith) (omega arith))
  threads_from (suc k) (next-thread {k = i} {es} t ts) before behind =
      next-thread (subst (λ (n : ℕ). Thread bytes names entries same n es) (sym (before i (omega arith) (omega arith))) t)
      (threads_from k ts (λ j a b. before j (omega arith) (omega arith)) (λ j a b. behind j (omega arith) (omega arith)))

  pub without_threads : {words : Words} (k : ℕ) → Threads bytes names entries same firsts 0 words
      → ((j : ℕ) → j < k → get_or {A = ℕ} rest j 0 ≡ get_or {A = ℕ} firsts j 0)
      → ((j : ℕ) → k ≤ j → j + 1 < length words → get_or {A = ℕ} rest j 0 ≡ get_or {A = ℕ} firsts (j + 1) 0)
      → Threads bytes names entries same rest 0 (without k words)
  without_threads k t before behind = threads_from k t (λ j a b. before j (omega arith)) (λ j a b. behind j (omega arith) (omega arith))

-- Words that are as 11 to 14 ask stay so.
passes_without : (B : Book) (k : ℕ) (words : List Bytes) → PassesWords B words → PassesWords B (without k words)
passes_without B k words p =
    let found : without k (entries_of_all B words) ≡ entries_of_all B (without k words) = sym (without_map (entries_from 0 B.entries) k words) in
    let fewer = without_simples k (entries_of_all B words) in
    record {
      legal = without_every k p.legal;
      short = without_every k p.short;
      few = omega (arith, p.few, without_no_longer k words);
      known_words = subst AllKnown found (without_known k p.known_words);
      small = subst (λ (ws : Words). simples_of_words ws ≤ max_line_simples) found (omega (arith, p.small, fewer));
    }

-- The entries of a line without a word are those of its other words.
entries_without : (B : Book) (line other : Bytes) (k : ℕ) → IsWithout k line other → entries_of_line B other ≡ without k (entries_of_line B line)
entries_without B line other k e =
    sym (entries_by_bytes B other) ∙ ap (entries_of_all B) e ∙ without_map (entries_from 0 B.entries) k (word_bytes line)
    ∙ ap (without k) (entries_by_bytes B line)

-- A line that passes still does without one of its words.
pub without_passes : (B : Book) (line other : Bytes) (k : ℕ) (words : Words) → line_check B line ≡ passed words → IsWithout k line other
    → line_check B other ≡ passed (without k words)
without_passes B line other k words h e =
    let kept = subst (PassesWords B) (sym e) (passes_without B k (word_bytes line) (line_passes_words B line words h)) in
    let others = entries_without B line other k e ∙ ap (without k) (sym (line_passing B line words h).words_are) in
    words_pass_line B other kept ∙ ap passed others
