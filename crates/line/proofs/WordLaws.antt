-- How the bytes of a line, taken one by one, part into words, and where the first byte stands that no line may have.
use Prim.Native.Nat.{ℕ, zero, suc, ◌+◌, ◌-◌, ◌≤◌, ◌<◌}
use native.Mathlib.Numerals.{add-one}
use native.Mathlib.Omega.{arith}
use native.Mathlib.Decide.{dec_lt}
use mathlib.Core.Path.{◌≡◌, refl, sym, ap, subst, ◌∙◌}
use mathlib.Core.Bool.{Bool, true, false, cond}
use mathlib.Core.List.{List, [], ◌∷◌}
use mathlib.Core.Option.{none, some}
use lib.Dec.{eqb}
use lib.ListN.{length, get_or, take, drop, drop_of_length-le}
use lib.Seq.{drop-cons}
use borrow.Author.Tests.{eq-eqb, ne_eqb, ltb-true, ltb-false}
use Rattle.std.specs.Prelude.{Option, Some, None, not, nat_lt, position}
use Rattle.std.specs.List.{prefix_len}
use Rattle.bytewise.specs.First.{First}
use Rattle.bytewise.proofs.Searching.{Passed}
use Rattle.format.specs.Records.{Bytes, between}
use Rattle.line.specs.LineWords.{Word, put_before, words_from}
use Rattle.line.specs.LineFaults.{byte_fault}
use Rattle.line.specs.Split.{word_at}

-- No word starts before n.
data StartFrom (n : ℕ) : List Word → Type 0 where
  no_word : StartFrom n []
  starts : {w : Word} {words : List Word} → n ≤ w.at → StartFrom n (w ∷ words)

-- Words start where their bytes do, or later.
start_from : (n : ℕ) (bytes : Bytes) → StartFrom n (words_from n bytes)
unfolding words_from
start_from n [] = no_word
start_from n (b ∷ bytes) = go (eqb b 32) (start_from (n + 1) bytes)
  where
    later : {words : List Word} → StartFrom (n + 1) words → StartFrom n words
    later no_word = no_word
    later (starts {w} h) = starts {w = w} (omega arith)

    put : {words : List Word} → StartFrom (n + 1) words → StartFrom n (put_before n b words)
    put no_word = starts {w = record { at = n; bytes = b ∷ [] }} (omega arith)
    put (starts {w} {words} h) = begun (eqb w.at (n + 1)) words
      where
        begun : (t : Bool) (words : List Word) → StartFrom n (cond t (record { at = n; bytes = b ∷ w.bytes } ∷ words) (record { at = n; bytes = b ∷ [] } ∷ w ∷ words))
        begun true words = starts {w = record { at = n; bytes = b ∷ w.bytes }} (omega arith)
        begun false words = starts {w = record { at = n; bytes = b ∷ [] }} (omega arith)

    go : {words : List Word} (t : Bool) → StartFrom (n + 1) words → StartFrom n (cond t words (put_before n b words))
    go true h = later h
    go false h = put h

-- A byte stands alone where no word starts right behind it.
put_alone : (at b i : ℕ) {words : List Word} → at + 1 ≡ i → StartFrom (i + 1) words → put_before at b words ≡ record { at = at; bytes = b ∷ [] } ∷ words
put_alone at b i e no_word = refl
put_alone at b i e (starts {w} h) = rw (ne_eqb w.at (at + 1) (omega arith))

module _ (line : Bytes) where
  -- The words from i on.
  abbrev pub words_here : ℕ → List Word
  words_here i = words_from i (drop i line)

  unfolded : (i : ℕ) → i < length line → words_here i ≡ cond (eqb (get_or {A = ℕ} line i 0) 32) (words_here (i + 1)) (put_before i (get_or {A = ℕ} line i 0) (words_here (i + 1)))
  unfolding words_from
  unfolded i h = rw (drop-cons line i 0 h, add-one i)

  -- A space is passed.
  pub words_space : (i : ℕ) → i < length line → get_or {A = ℕ} line i 0 ≡ 32 → words_here i ≡ words_here (i + 1)
  words_space i h e =
      unfolded i h ∙ ap (λ (t : Bool). cond t (words_here (i + 1)) (put_before i (get_or {A = ℕ} line i 0) (words_here (i + 1)))) (eq-eqb (get_or {A = ℕ} line i 0) 32 e)

  words_byte : (i : ℕ) → i < length line → (get_or {A = ℕ} line i 0 ≡ 32 → ⊥) → words_here i ≡ put_before i (get_or {A = ℕ} line i 0) (words_here (i + 1))
  words_byte i h n =
      unfolded i h ∙ ap (λ (t : Bool). cond t (words_here (i + 1)) (put_before i (get_or {A = ℕ} line i 0) (words_here (i + 1)))) (ne_eqb (get_or {A = ℕ} line i 0) 32 n)

  -- There is no word at the end.
  pub words_end : (i : ℕ) → length line ≤ i → words_here i ≡ []
  unfolding words_from
  words_end i h = rw (drop_of_length-le line h)

  word_cons : (at i : ℕ) → at < i → at < length line → word_at line at i ≡ record { at = at; bytes = get_or {A = ℕ} line at 0 ∷ (word_at line (at + 1) i).bytes }
  word_cons at i h k = let one : i - at ≡ suc (i - (at + 1)) = omega arith in rw (one, drop-cons line at 0 k, add-one at)

  -- A word is spelt: no space stands in it, and no word starts right behind it.
  word_spelt : (n at i : ℕ) → at + suc n ≡ i → i ≤ length line → StartFrom (i + 1) (words_here i) → Passed (λ (k : ℕ). get_or {A = ℕ} line k 0 ≡ 32) at i → words_here at ≡ word_at line at i ∷ words_here i
  word_spelt zero at i e h behind s =
      let one : at + 1 ≡ i = omega arith in
      let none_left : i - (at + 1) ≡ 0 = omega arith in
      let empty : (word_at line (at + 1) i).bytes ≡ [] = ap (λ (n : ℕ). take n (drop (at + 1) line)) none_left in
      words_byte at (omega arith) (s at (omega arith) (omega arith)) ∙ ap (λ (m : ℕ). put_before at (get_or {A = ℕ} line at 0) (words_here m)) one
      ∙ put_alone at (get_or {A = ℕ} line at 0) i one behind
      ∙ sym (ap (λ (w : Word). w ∷ words_here i) (word_cons at i (omega arith) (omega arith) ∙ ap (λ (bytes : Bytes). record { at = at; bytes = get_or {A = ℕ} line at 0 ∷ bytes }) empty))
  word_spelt (suc n) at i e h behind s =
      words_byte at (omega arith) (s at (omega arith) (omega arith))
      ∙ ap (put_before at (get_or {A = ℕ} line at 0)) (word_spelt n (at + 1) i (omega arith) h behind (λ k a b. s k (omega arith) b))
      ∙ (rw (eq-eqb (at + 1) (at + 1) refl))
      ∙ sym (ap (λ (w : Word). w ∷ words_here i) (word_cons at i (omega arith) (omega arith)))

  -- A word stands from `at` up to `end`.
  pub record Spelt (at end : ℕ) : Type 0 where
    pub some_bytes : at < end
    pub inside : end ≤ length line
    pub same : words_here at ≡ word_at line at end ∷ words_here end

  -- It ends at the next space, or with the line.
  pub word_found : (at end : ℕ) → at < length line → (get_or {A = ℕ} line at 0 ≡ 32 → ⊥)
      → (end ≤ length line) × First (λ (k : ℕ). get_or {A = ℕ} line k 0 ≡ 32) at (length line) end → Spelt at end
  word_found at end h n found = record {
    some_bytes = some;
    inside = found.0;
    same = word_spelt (end - suc at) at end (omega (arith, some)) found.0 (behind (dec_lt end (length line))) (λ k a b. found.1.passed k a b (omega (arith, found.0)));
  }
    where
      moved : end ≡ at → ⊥
      moved e = n (subst (λ (k : ℕ). get_or {A = ℕ} line k 0 ≡ 32) e (found.1.stops (omega arith)))

      some : at < end
      some = omega (arith, moved, found.1.forth)

      behind : Dec (end < length line) → StartFrom (end + 1) (words_here end)
      behind (yes l) = subst (StartFrom (end + 1)) (sym (words_space end l (found.1.stops l))) (start_from (end + 1) (drop (end + 1) line))
      behind (no l) = subst (StartFrom (end + 1)) (sym (words_end end (omega (arith, l)))) no_word

-- 11: bytes that a line may have are passed, and the first other one is found.

abbrev fine : ℕ → Bool
fine b = not (not (between 32 126 b))

abbrev Placed : ℕ → Bytes → Type 0
Placed at line = (prefix_len fine line < length line → byte_fault at line ≡ some (at + prefix_len fine line)) × (length line ≤ prefix_len fine line → byte_fault at line ≡ none)

placed : (at : ℕ) (line : Bytes) → Placed at line
unfolding byte_fault
placed at [] = (λ h. absurd (omega arith), λ h. refl)
placed at (b ∷ line) = go (between 32 126 b) (placed (at + 1) line)
  where
    n : ℕ
    n = prefix_len fine line

    go : (t : Bool) → Placed (at + 1) line
        → (cond (not (not t)) (1 + n) 0 < suc (length line) → cond t (byte_fault (at + 1) line) (some at) ≡ some (at + cond (not (not t)) (1 + n) 0))
        × (suc (length line) ≤ cond (not (not t)) (1 + n) 0 → cond t (byte_fault (at + 1) line) (some at) ≡ none)
    go true rest =
        let next : at + 1 + n ≡ at + (1 + n) = omega arith in
        (λ h. rest.0 (omega arith) ∙ ap (λ (k : ℕ). some k) next, λ h. rest.1 (omega arith))
    go false rest =
        let here : at ≡ at + 0 = omega arith in
        (λ h. ap (λ (k : ℕ). some k) here, λ h. absurd (omega arith))

pub bad_found : (line : Bytes) (at : ℕ) → Some at ≡ position (λ (b : ℕ). not (between 32 126 b)) line → byte_fault 0 line ≡ some at
bad_found line at h = go (nat_lt (prefix_len fine line) (length line)) refl h
  where
    n : ℕ
    n = prefix_len fine line

    value : Option ℕ → ℕ
    value (Some k) = k
    value None = suc at

    go : (t : Bool) → nat_lt n (length line) ≡ t → Some at ≡ cond t (Some n) None → byte_fault 0 line ≡ some at
    go true e k =
        let same : at ≡ n = ap value k in
        let from : 0 + n ≡ at = omega arith in
        (placed 0 line).0 (ltb-true _ _ e) ∙ ap (λ (m : ℕ). some m) from
    go false e k = let never : at ≡ suc at = ap value k in absurd (omega arith)

pub none_bad : (line : Bytes) → None ≡ position (λ (b : ℕ). not (between 32 126 b)) line → byte_fault 0 line ≡ none
none_bad line h = go (nat_lt (prefix_len fine line) (length line)) refl h
  where
    n : ℕ
    n = prefix_len fine line

    value : Option ℕ → ℕ
    value (Some k) = suc k
    value None = 0

    go : (t : Bool) → nat_lt n (length line) ≡ t → None ≡ cond t (Some n) None → byte_fault 0 line ≡ none
    go true e k = let never : 0 ≡ suc n = ap value k in absurd (omega arith)
    go false e k = (placed 0 line).1 (ltb-false _ _ e)
