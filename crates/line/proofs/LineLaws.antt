-- The look-up of a line's words one by one, and the check of a whole line from its parts.
use Prim.Native.Nat.{ℕ, zero, suc, ◌+◌, ◌*◌, ◌-◌, ◌≤◌, ◌<◌}
use native.Mathlib.Numerals.{add-one}
use native.Mathlib.Omega.{arith}
use native.Mathlib.Decide.{ℕ_discrete}
use native.Mathlib.Nat.{add_assoc}
use mathlib.Core.Path.{◌≡◌, refl, sym, ap, ◌∙◌}
use mathlib.Core.Bool.{Bool, cond}
use mathlib.Core.List.{List, [], ◌∷◌, map}
use mathlib.Core.Option.{none, some}
use lib.Dec.{eqb}
use lib.ListN.{length, get_or, take, drop, set, length-map, length-drop, drop_of_length-le}
use lib.Seq.{drop-cons, get_or-take, get_or-set_same, get_or-set_other, length-take-le}
use borrow.Author.Tests.{eq-eqb, ne_eqb, lt-ltb, le-ltb}
use Rattle.figures.specs.Limits.{max_word, max_entries, max_entry_simples, max_line_simples}
use Rattle.figures.specs.Refusals.{unknown_word, too_many_simples}
use Rattle.linking.specs.Reading.{Words}
use Rattle.format.specs.Records.{Bytes}
use Rattle.book.specs.Format.{Book}
use Rattle.lookup.specs.Entries.{KeptOf, simples_in, simples_of_words}
use Rattle.lookup.specs.Threads.{Threaded, Found as FoundWord, Finds, Thread, Threads, none as none_threaded, word as next-thread, Tallied}
use Rattle.lookup.proofs.ThreadLaws.{simples_cons, thread_next, thread_end}
use Rattle.lookup.proofs.FindLaws.{found_thread}
use Rattle.line.specs.LineWords.{Word, words_of}
use Rattle.line.specs.LineFaults.{entries_of, entries_of_line, byte_fault, word_fault, entry_fault, passed, stopped, line_check}
use Rattle.line.specs.Split.{word_at, words_kept, SplitInto, Stopped, at_byte, at_word}
use Rattle.line.specs.LookUp.{Missing, no_entry, too_many, Known, LookedUp, LineSays}
use Rattle.figures.specs.declared.refusals.Refusal.{Refusal}
use Rattle.std.specs.Prelude.{Result, Ok, Err}

kept_length : (line : Bytes) (starts ends : List ℕ) → length ends ≡ length starts → length (words_kept line starts ends) ≡ length starts
unfolding words_kept
kept_length line [] ends h = refl
kept_length line (s ∷ starts) [] h = absurd (omega arith)
kept_length line (s ∷ starts) (e ∷ ends) h = ap suc (kept_length line starts ends (omega arith))

kept_at :
    (line : Bytes) (starts ends : List ℕ) (k : ℕ) (d : Word) → length ends ≡ length starts → k < length starts
    → get_or (words_kept line starts ends) k d ≡ word_at line (get_or {A = ℕ} starts k 0) (get_or {A = ℕ} ends k 0)
unfolding words_kept
kept_at line [] ends k d h l = absurd (omega arith)
kept_at line (s ∷ starts) [] k d h l = absurd (omega arith)
kept_at line (s ∷ starts) (e ∷ ends) zero d h l = refl
kept_at line (s ∷ starts) (e ∷ ends) (suc k) d h l = kept_at line starts ends k d (omega arith) (omega arith)

-- The words that are split off, one by one.
module _ (line : Bytes) (starts ends : List ℕ) (s : SplitInto line starts ends) where
  -- The k-th word.
  abbrev pub word : ℕ → Word
  word k = word_at line (get_or {A = ℕ} starts k 0) (get_or {A = ℕ} ends k 0)

  pub words_length : length (words_of line) ≡ length starts
  words_length = ap length s.words ∙ kept_length line starts ends s.as_many

  word_at_lem : (k : ℕ) → k < length starts → get_or (words_of line) k (word_at line 0 0) ≡ word k
  word_at_lem k h = ap (λ (l : List Word). get_or l k (word_at line 0 0)) s.words ∙ kept_at line starts ends k (word_at line 0 0) s.as_many h

  -- The words from the k-th on.
  pub words_at : (k : ℕ) → k < length starts → drop k (words_of line) ≡ word k ∷ drop (k + 1) (words_of line)
  words_at k h = rw (drop-cons (words_of line) k (word_at line 0 0) (omega (arith, words_length)), word_at_lem k h, add-one k)

  pub none_left : (k : ℕ) → length starts ≤ k → drop k (words_of line) ≡ []
  none_left k h = drop_of_length-le (words_of line) {i = k} (omega (arith, words_length))

  -- It has 1 to 31 bytes.
  pub word_range : (k : ℕ) → k < length starts → (1 ≤ length (word k).bytes) × (length (word k).bytes ≤ max_word)
  word_range k h =
      let at = get_or {A = ℕ} starts k 0 in
      let end = get_or {A = ℕ} ends k 0 in
      let lies = s.lying k h in
      let long = length-take-le (end - at) (drop at line) (omega (arith, length-drop at line, lies.0, lies.1)) in
      (omega (arith, long, lies.0), omega (arith, long, lies.2))

  -- The first words are found, each with its first entry.
  abbrev pub AllFound : Bytes → List ℕ → List ℕ → List ℕ → ℕ → Type 0
  AllFound bytes entries same firsts n = (j : ℕ) → j < n → FoundWord bytes entries (word j).bytes same (get_or {A = ℕ} firsts j 0)

  pub found_more : (bytes : Bytes) (entries same same' firsts : List ℕ) (k first : ℕ) → AllFound bytes entries same firsts k
      → k < length firsts → Finds bytes entries (word k).bytes same same' first → AllFound bytes entries same' (set firsts k first) (k + 1)
  found_more bytes entries same same' firsts k first f room t j h = go (ℕ_discrete j k)
    where
      go : Dec (j ≡ k) → FoundWord bytes entries (word j).bytes same' (get_or {A = ℕ} (set firsts k first) j 0)
      go (yes e) = rw (e, get_or-set_same firsts k first 0 room) t.found
      go (no e) =
          let before = f j (omega (arith, e)) in
          rw (get_or-set_other firsts k j first 0 e) (record { begins = before.begins; known = λ i l o. t.kept i (before.known i l o) })

  module _ (B : Book) where
    abbrev left_words : ℕ → Words
    left_words k = map (entries_of B) (drop k (words_of line))

    -- How the look-up stands before the k-th word.
    pub record Looking (sum k : ℕ) : Type 0 where
      pub inside : k ≤ length starts
      pub found : entry_fault B (words_of line) ≡ entry_fault B (drop k (words_of line))
      pub simples : simples_of_words (entries_of_line B line) ≡ sum + simples_of_words (map (entries_of B) (drop k (words_of line)))
      pub small : sum ≤ max_entries * max_entry_simples * k

    pub looking_start : Looking 0 0
    looking_start = record { inside = omega arith; found = refl; simples = omega arith; small = omega arith }

    module _ {bytes : Bytes} {entries same : List ℕ} {sum k first : ℕ} (l : Looking sum k) (h : k < length starts)
        (t : Thread bytes B.names entries same first (entries_of B (word k))) where
      unfolded : entry_fault B (drop k (words_of line)) ≡ cond (eqb (length (entries_of B (word k))) 0) (some (word k).at) (entry_fault B (drop (k + 1) (words_of line)))
      unfolding entry_fault
      unfolded = rw (words_at k h)

      pub looking_none : length entries ≤ first → Missing B line unknown_word (word k).at
      looking_none e =
          no_entry (l.found ∙ unfolded ∙ ap (λ (b : Bool). cond b (some (word k).at) (entry_fault B (drop (k + 1) (words_of line)))) (eq-eqb _ 0 (ap length (thread_end t e))))

      pub looking_next : first < length entries → {simples : ℕ} → Tallied (entries_of B (word k)) simples → Looking (sum + simples) (k + 1)
      looking_next any {simples} tallied =
          record {
            inside = omega arith;
            found = l.found ∙ unfolded ∙ ap (λ (b : Bool). cond b (some (word k).at) (entry_fault B (drop (k + 1) (words_of line)))) (ne_eqb (length (entries_of B (word k))) 0 (λ z. omega (arith, z, ap length (thread_next t any).is)));
            simples = l.simples ∙ ap (λ (m : ℕ). sum + m) more ∙ sym (add_assoc sum simples (simples_of_words (left_words (k + 1))));
            small = omega (arith, l.small, tallied.small);
          }
        where
          added : simples_of_words (left_words k) ≡ simples_in (entries_of B (word k)) + simples_of_words (left_words (k + 1))
          added = ap (λ (ws : List Word). simples_of_words (map (entries_of B) ws)) (words_at k h) ∙ simples_cons (entries_of B (word k)) (left_words (k + 1))

          more : simples_of_words (left_words k) ≡ simples + simples_of_words (left_words (k + 1))
          more = added ∙ ap (λ (m : ℕ). m + simples_of_words (left_words (k + 1))) (sym tallied.total)

    all_found : (sum k : ℕ) → Looking sum k → length starts ≤ k → entry_fault B (words_of line) ≡ none
    unfolding entry_fault
    all_found sum k l h = l.found ∙ ap (entry_fault B) (none_left k h)

    all_counted : (sum k : ℕ) → Looking sum k → length starts ≤ k → simples_of_words (entries_of_line B line) ≡ sum
    unfolding simples_of_words
    all_counted sum k l h =
        let e : simples_of_words (left_words k) ≡ 0 = ap (λ (ws : List Word). simples_of_words (map (entries_of B) ws)) (none_left k h) in
        omega (arith, l.simples)

    pub looking_full : (sum k : ℕ) → Looking sum k → length starts ≤ k → max_line_simples < sum → Missing B line too_many_simples 0
    looking_full sum k l h m = too_many (all_found sum k l h) (omega (arith, all_counted sum k l h))

    module _ {bytes : Bytes} {entries same : List ℕ} (kept : KeptOf bytes entries B) where
      -- The thread of a word that is found has the entries of the definition.
      pub word_thread : (k : ℕ) {first : ℕ} → FoundWord bytes entries (word k).bytes same first → Thread bytes B.names entries same first (entries_of B (word k))
      word_thread k f = rw kept.all (found_thread bytes entries (word k).bytes B.names f)

      threads_from : (firsts : List ℕ) (n k : ℕ) → k + n ≡ length starts → AllFound bytes entries same firsts (length starts)
          → Threads bytes B.names entries same (take (length starts) firsts) k (left_words k)
      threads_from firsts zero k e f = rw (none_left k (omega arith)) none_threaded
      threads_from firsts (suc n) k e f =
          let here = get_or-take (length starts) firsts k 0 (omega arith) in
          rw (words_at k (omega arith)) (next-thread {k = k} {es = entries_of B (word k)} (rw here (word_thread k (f k (omega arith)))) (threads_from firsts n (k + 1) (omega arith) f))

      pub looking_end : (firsts : List ℕ) (sum k : ℕ) → length starts ≤ length firsts → Looking sum k → length starts ≤ k → sum ≤ max_line_simples → AllFound bytes entries same firsts (length starts)
          → Known bytes entries B line (take (length starts) firsts) same
      looking_end firsts sum k room l h m f =
          let so-many = length-take-le (length starts) firsts room in
          record {
            found = all_found sum k l h;
            small = omega (arith, all_counted sum k l h);
            as_many = length-map (words_of line) (entries_of B) ∙ words_length ∙ sym so-many;
            few = omega (arith, so-many, s.few);
            threads = threads_from firsts (length starts) 0 (omega arith) f;
          }

-- How the loop over the words stands before the k-th.
pub record LookingUp (bytes : Bytes) (entries : List ℕ) (line : Bytes) (starts ends firsts₀ same₀ firsts same : List ℕ) (sum k : ℕ) : Type 0 where
  pub inside : k ≤ length starts
  pub small : sum ≤ max_entries * max_entry_simples * k
  pub firsts_length : length firsts ≡ length firsts₀
  pub same_length : length same ≡ length same₀
  pub threaded : Threaded bytes entries same
  pub found : (s : SplitInto line starts ends) → AllFound line starts ends s bytes entries same firsts k
  pub looking : (B : Book) → KeptOf bytes entries B → (s : SplitInto line starts ends) → Looking line starts ends s B sum k

-- The check of a line, from what its parts found.
module _ (B : Book) (line : Bytes) where
  pub check_stopped : {number value : ℕ} → Stopped line number value → line_check B line ≡ stopped number value
  unfolding line_check
  check_stopped (at_byte e) = rw e
  check_stopped (at_word e f) = rw (e, f)

  check_missing : {number value : ℕ} → byte_fault 0 line ≡ none → word_fault 0 (words_of line) ≡ none → Missing B line number value → line_check B line ≡ stopped number value
  unfolding line_check
  check_missing e f (no_entry g) = rw (e, f, g)
  check_missing e f (too_many g h) = rw (e, f, g, lt-ltb max_line_simples (simples_of_words (entries_of_line B line)) h)

  pub check_passed : byte_fault 0 line ≡ none → word_fault 0 (words_of line) ≡ none → entry_fault B (words_of line) ≡ none → simples_of_words (entries_of_line B line) ≤ max_line_simples → line_check B line ≡ passed (entries_of_line B line)
  unfolding line_check
  check_passed e f g h = rw (e, f, g, le-ltb max_line_simples (simples_of_words (entries_of_line B line)) h)

  -- What the look-up found says what the line is.
  pub looked_up : (bytes : Bytes) (entries starts ends firsts same : List ℕ) → SplitInto line starts ends
      → (r : Result ℕ Refusal) → LookedUp bytes entries B line firsts same r → LineSays bytes entries B line firsts same r
  looked_up bytes entries starts ends firsts same s (Ok words) t = (check_passed s.bytes_fine s.words_fine t.1.found t.1.small, t.0, t.1)
  looked_up bytes entries starts ends firsts same s (Err r) m = check_missing s.bytes_fine s.words_fine m
