-- The splitting of a line: the words kept so far and those that the rest holds are the line's words, and none kept is a fault.
use Prim.Native.Nat.{ℕ, ◌+◌, ◌-◌, ◌≤◌, ◌<◌}
use native.Mathlib.Numerals.{add-one}
use native.Mathlib.Omega.{arith}
use native.Mathlib.Decide.{ℕ_discrete}
use mathlib.Core.Path.{◌≡◌, refl, sym, ap, ◌∙◌}
use mathlib.Core.List.{List, [], ◌∷◌, ◌++◌, append-nil, append_assoc}
use mathlib.Core.Option.{none}
use lib.ListN.{length, get_or, take, drop, set, length-set, length-drop}
use lib.Seq.{get_or-set_same, get_or-set_other, length-take-le, get_or-take, take-suc-set}
use borrow.Author.Tests.{lt-ltb, le-ltb, le-leb, lt-leb}
use Rattle.figures.specs.Limits.{max_word, max_words}
use Rattle.figures.specs.Refusals.{bad_word}
use Rattle.format.specs.Records.{Bytes}
use Rattle.line.specs.LineWords.{Word, words_of}
use Rattle.line.specs.LineFaults.{byte_fault, word_fault}
use Rattle.line.specs.Split.{word_at, words_kept, Skipped, Lies, SplitInto, Stopped, at_word}
use Rattle.line.proofs.WordLaws.{words_here, words_end, Spelt}

-- One more word is kept.
kept_append :
    (line : Bytes) (starts ends : List ℕ) (at end : ℕ) → length ends ≡ length starts
    → words_kept line (starts ++ (at ∷ [])) (ends ++ (end ∷ [])) ≡ words_kept line starts ends ++ (word_at line at end ∷ [])
unfolding words_kept
kept_append line [] [] at end h = refl
kept_append line [] (e ∷ ends) at end h = absurd (omega arith)
kept_append line (s ∷ starts) [] at end h = absurd (omega arith)
kept_append line (s ∷ starts) (e ∷ ends) at end h = ap (λ (words : List Word). word_at line s e ∷ words) (kept_append line starts ends at end (omega arith))

kept_more :
    (line : Bytes) (starts ends : List ℕ) (n at end : ℕ) → n < length starts → n < length ends
    → words_kept line (take (n + 1) (set starts n at)) (take (n + 1) (set ends n end)) ≡ words_kept line (take n starts) (take n ends) ++ (word_at line at end ∷ [])
kept_more line starts ends n at end h k =
    rw (add-one n, take-suc-set starts n at h, take-suc-set ends n end k)
    (kept_append line (take n starts) (take n ends) at end (length-take-le n ends (omega arith) ∙ sym (length-take-le n starts (omega arith))))

-- How the splitting stands: the words before `at` are kept.
pub record Splitting (line : Bytes) (starts₀ ends₀ starts ends : List ℕ) (count at : ℕ) : Type 0 where
  pub bytes_fine : byte_fault 0 line ≡ none
  pub starts_length : length starts ≡ length starts₀
  pub ends_length : length ends ≡ length ends₀
  pub few : count ≤ max_words
  pub inside : at ≤ length line
  pub stops : at < length line → get_or {A = ℕ} line at 0 ≡ 32 → ⊥
  pub words : words_of line ≡ words_kept line (take count starts) (take count ends) ++ words_here line at
  pub faults : word_fault 0 (words_of line) ≡ word_fault count (words_here line at)
  pub lying : (i : ℕ) → i < count → Lies line (get_or {A = ℕ} starts i 0) (get_or {A = ℕ} ends i 0)

pub splitting_start :
    (line : Bytes) (starts ends : List ℕ) (at : ℕ) → byte_fault 0 line ≡ none → Skipped line 0 at → Splitting line starts ends starts ends 0 at
unfolding words_kept
splitting_start line starts ends at fine s =
    record {
      bytes_fine = fine;
      starts_length = refl;
      ends_length = refl;
      few = omega arith;
      inside = s.inside;
      stops = s.stops;
      words = s.same;
      faults = ap (word_fault 0) s.same;
      lying = λ i h. absurd (omega arith);
    }

word_length : (line : Bytes) (at end : ℕ) → at < end → end ≤ length line → length (word_at line at end).bytes ≡ end - at
word_length line at end h k = length-take-le (end - at) (drop at line) (omega (arith, length-drop at line))

module _ (line : Bytes) (starts₀ ends₀ starts ends : List ℕ) (count at : ℕ) (w : Splitting line starts₀ ends₀ starts ends count at) (end : ℕ) (s : Spelt line at end) where
  here : word_fault 0 (words_of line) ≡ word_fault count (word_at line at end ∷ words_here line end)
  here = w.faults ∙ ap (word_fault count) s.same

  pub splitting_long : max_word < end - at → Stopped line bad_word at
  unfolding word_fault
  splitting_long h =
      at_word {value = at} w.bytes_fine (here ∙ (rw (word_length line at end s.some_bytes s.inside, lt-ltb max_word (end - at) h)))

  pub splitting_many : end - at ≤ max_word → max_words ≤ count → Stopped line bad_word at
  unfolding word_fault
  splitting_many h k =
      at_word {value = at} w.bytes_fine (here ∙ (rw (word_length line at end s.some_bytes s.inside, le-ltb max_word (end - at) h, le-leb max_words count k)))

  module _ (short : end - at ≤ max_word) (room : count < max_words) (next : ℕ) (skip : Skipped line end next) where
    fine : word_fault count (word_at line at end ∷ words_here line end) ≡ word_fault (count + 1) (words_here line end)
    unfolding word_fault
    fine = rw (word_length line at end s.some_bytes s.inside, le-ltb max_word (end - at) short, lt-leb max_words count room)

    pub splitting_next : max_words ≤ length starts → max_words ≤ length ends → Splitting line starts₀ ends₀ (set starts count at) (set ends count end) (count + 1) next
    splitting_next h k =
        record {
          bytes_fine = w.bytes_fine;
          starts_length = length-set starts count at ∙ w.starts_length;
          ends_length = length-set ends count end ∙ w.ends_length;
          few = omega arith;
          inside = skip.inside;
          stops = skip.stops;
          words =
              w.words ∙ ap (λ (rest : List Word). words_kept line (take count starts) (take count ends) ++ rest) (s.same ∙ ap (λ (rest : List Word). word_at line at end ∷ rest) skip.same)
              ∙ sym (append_assoc (words_kept line (take count starts) (take count ends)) (word_at line at end ∷ []) (words_here line next))
              ∙ ap (λ (kept : List Word). kept ++ words_here line next) (sym (kept_more line starts ends count at end (omega arith) (omega arith)));
          faults = here ∙ fine ∙ ap (word_fault (count + 1)) skip.same;
          lying = each;
        }
      where
        each : (i : ℕ) → i < count + 1 → Lies line (get_or {A = ℕ} (set starts count at) i 0) (get_or {A = ℕ} (set ends count end) i 0)
        each i g = go (ℕ_discrete i count)
          where
            go : Dec (i ≡ count) → Lies line (get_or {A = ℕ} (set starts count at) i 0) (get_or {A = ℕ} (set ends count end) i 0)
            go (yes e) =
                rw (e, get_or-set_same starts count at 0 (omega arith), get_or-set_same ends count end 0 (omega arith)) (s.some_bytes, s.inside, short)
            go (no d) = rw (get_or-set_other starts count i at 0 d, get_or-set_other ends count i end 0 d) (w.lying i (omega (arith, d)))

pub splitting_end :
    (line : Bytes) (starts₀ ends₀ starts ends : List ℕ) (count at : ℕ) → Splitting line starts₀ ends₀ starts ends count at → max_words ≤ length starts → max_words ≤ length ends
    → length line ≤ at → SplitInto line (take count starts) (take count ends)
unfolding word_fault
splitting_end line starts₀ ends₀ starts ends count at w room room' h =
    let none_left = words_end line at h in
    let so-many : length (take count starts) ≡ count = length-take-le count starts (omega (arith, w.few)) in
    record {
      bytes_fine = w.bytes_fine;
      words_fine = w.faults ∙ ap (word_fault count) none_left;
      words = w.words ∙ ap (λ (rest : List Word). words_kept line (take count starts) (take count ends) ++ rest) none_left ∙ append-nil _;
      as_many = length-take-le count ends (omega (arith, w.few)) ∙ sym so-many;
      few = omega (arith, so-many, w.few);
      lying = λ i l. rw (get_or-take count starts i 0 (omega (arith, so-many)), get_or-take count ends i 0 (omega (arith, so-many))) (w.lying i (omega (arith, so-many)));
    }
