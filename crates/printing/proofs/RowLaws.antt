-- The rows of words and of simple types, from one on and then the rest, as the loops put them.
use Prim.Native.Nat.{ℕ, ◌+◌, ◌/◌, ◌%◌, ◌≤◌, ◌<◌}
use native.Mathlib.Numerals.{add-one}
use native.Mathlib.Omega.{arith}
use mathlib.Core.Path.{◌≡◌, ap, ◌∙◌}
use Rattle.std.specs.List.{zip, enumerate_from}
use Rattle.std.proofs.lemmas.List.{get_or_default}
use Rattle.std.proofs.lemmas.List.FromFn.{length-enumerate_from, get_or-enumerate_from}
use Rattle.std.proofs.lemmas.Slice.Zip.{length-zip, get_or-zip}
use mathlib.Core.List.{List, [], ◌++◌, map}
use lib.IntN.{pos, ◌-ℤ◌}
use lib.ListN.{length, get_or, take, drop, drop_of_length-le}
use lib.Seq.{drop-cons, take_all}
use Rattle.pregroup.specs.Held.{bias, held}
use Rattle.letters.specs.Letters.{t}
use Rattle.format.specs.Records.{Bytes, Whole, body_at, bodies_at}
use Rattle.line.specs.LineWords.{words_of}
use Rattle.line.specs.Split.{word_at, SplitInto}
use Rattle.line.proofs.LineLaws.{words_at, none_left}
use Rattle.printing.specs.Rows.{word_row, type_row, word_rows, type_rows}
use Rattle.writing.specs.Placed.{Countable, Placed}
use Rattle.writing.proofs.Placing.{Going, going_next, going_on, going_done}

-- The item of a turn over the numbered pairs of two lists.
pub numbered_pair :
    (starts ends : List ℕ) (n k start end : ℕ) → length ends ≡ length starts → n < length (enumerate_from 0 (zip starts ends))
    → (k, (start, end)) ≡ get_or (enumerate_from 0 (zip starts ends)) n (k, (start, end))
    → (n < length starts) × (k ≡ n) × (start ≡ get_or starts n 0) × (end ≡ get_or ends n 0)
numbered_pair starts ends n k start end same h e =
    let inside : n < length starts = omega (arith, length-enumerate_from 0 (zip starts ends), length-zip starts ends) in
    let item =
    e ∙ get_or-enumerate_from 0 (zip starts ends) n (k, (start, end)) (omega (arith, length-zip starts ends))
    ∙ ap (λ (p : ℕ × ℕ). (0 + n, p)) (get_or-zip starts ends n (start, end) inside (omega arith)) in
    (inside, ap (λ (p : ℕ × (ℕ × ℕ)). p.0) item ∙ omega arith, ap (λ (p : ℕ × (ℕ × ℕ)). p.1.0) item ∙ get_or_default starts n start 0 inside, ap (λ (p : ℕ × (ℕ × ℕ)). p.1.1) item ∙ get_or_default ends n end 0 (omega arith))

-- The words from the k-th on: the next row can be put, and once it is, the rest is left.
module _ (entries : List ℕ) {line : Bytes} {starts ends : List ℕ} (split : SplitInto line starts ends) where
  -- The row of the k-th word.
  abbrev here : ℕ → Bytes
  here k = word_row (k + 1) (word_at line (get_or {A = ℕ} starts k 0) (get_or {A = ℕ} ends k 0)).bytes (get_or {A = ℕ} entries k 0)

  abbrev from : ℕ → Bytes
  from k = word_rows entries k (drop k (words_of line))

  word_rows_at : (k : ℕ) → k < length starts → from k ≡ here k ++ from (k + 1)
  unfolding word_rows
  word_rows_at k h = rw (words_at line starts ends split k h, add-one k)

  module _ {text : Bytes} {at : ℕ} {whole now : Bytes} {place : ℕ} (k : ℕ) (g : Going text at whole now place (word_rows entries k (drop k (words_of line)))) where
    pub word_countable : k < length starts → Countable place (here k)
    word_countable h = going_next (from (k + 1)) (rw (word_rows_at k h) at g)

    pub word_put : {after : Bytes} {behind : ℕ} → k < length starts → Placed now place (here k) after behind → Going text at whole after behind (from (k + 1))
    word_put h p = going_on (rw (word_rows_at k h) at g) p

    pub words_put : length starts ≤ k → Placed text at whole now place
    unfolding word_rows
    words_put h = going_done (rw (none_left line starts ends split k h) at g)

-- The simple types from the k-th on.
module _ (names : List Bytes) (letters partners string : List ℕ) where
  abbrev simple : ℕ → Bytes
  simple k =
      let x = get_or {A = ℕ} string k 0 in
      type_row (k + 1) (get_or {A = Bytes} names (x % 256) []) (pos (x / 256) -ℤ pos bias) (get_or {A = ℕ} partners k 0) (get_or {A = ℕ} letters (k + 1) t)

  abbrev simples_from : ℕ → Bytes
  simples_from k = type_rows names letters partners k (map held (drop k string))

  simples_at : (k : ℕ) → k < length string → simples_from k ≡ simple k ++ simples_from (k + 1)
  unfolding type_rows held
  simples_at k h = rw (drop-cons string k 0 h, add-one k)

  module _ {text : Bytes} {at : ℕ} {whole now : Bytes} {place : ℕ} (k : ℕ) (g : Going text at whole now place (type_rows names letters partners k (map held (drop k string)))) where
    pub simple_countable : k < length string → Countable place (simple k)
    simple_countable h = going_next (simples_from (k + 1)) (rw (simples_at k h) at g)

    pub simple_put : {after : Bytes} {behind : ℕ} → k < length string → Placed now place (simple k) after behind → Going text at whole after behind (simples_from (k + 1))
    simple_put h p = going_on (rw (simples_at k h) at g) p

    pub simples_put : length string ≤ k → Placed text at whole now place
    unfolding type_rows
    simples_put h = going_done (rw (drop_of_length-le string {i = k} h) at g)

-- The names of the first offsets alone.
pub same_names : {book : Bytes} {names : List ℕ} {types : ℕ} → Whole book names types → bodies_at book (take types names) (length (take types names)) ≡ bodies_at book names types
same_names {book} {names} {types} named = ap (map (body_at book)) (take_all (length (take types names)) (take types names) (omega arith))
