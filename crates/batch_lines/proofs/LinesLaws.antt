-- The lines of a buffer: `lines_of` gives those that the paper means, as many as there are bytes 10, and none exactly where the last is not closed.
use Prim.Native.Nat.{ℕ, zero, suc, ◌+◌, ◌≤◌, ◌<◌}
use native.Mathlib.Omega.{arith}
use mathlib.Core.Path.{◌≡◌, refl, sym, ap, subst, ◌∙◌}
use mathlib.Core.Bool.{Bool, true, false, cond}
use mathlib.Core.Logic.{⊎_elim}
use mathlib.Core.List.Memᴰ
use mathlib.Core.List.{List, [], ◌∷◌, ◌++◌, Memᴰ}
use mathlib.Core.Option.{Option, none, some}
use lib.Dec.{eqb}
use lib.ListN.{length, get_or, take, drop_of_length-le}
use lib.Seq.{split_at}
use borrow.Author.Tests.{eqb-true, eqb-false, ne_eqb, lt-ltb, le-ltb}
use Rattle.std.specs.Prelude.{Some, ◌==◌, count_by}
use Rattle.std.proofs.lemmas.List.Sums.{sum_by-cons}
use Rattle.figures.specs.Limits.{max_batch, max_lines}
use Rattle.bits.proofs.Cases.{some_same, none_some}
use Rattle.format.specs.Records.{Bytes}
use Rattle.batch_lines.specs.Lines.{line_break, put_line, put_byte, lines_of, up_to, batch_lines, Unbroken, close_each, IsLines, NotClosed}
use Rattle.batch_lines.specs.Counts.{breaks, ClosedSays, CountSays}

-- One more byte in front.

first_unbroken : (b : ℕ) (line : Bytes) → Unbroken (b ∷ line) → eqb b line_break ≡ false
first_unbroken b line u = ne_eqb b line_break (u 0 (omega arith))

rest_unbroken : (b : ℕ) (line : Bytes) → Unbroken (b ∷ line) → Unbroken line
rest_unbroken b line u k h = u (suc k) (omega arith)

cons_unbroken : (b : ℕ) (line : Bytes) → (b ≡ line_break → ⊥) → Unbroken line → Unbroken (b ∷ line)
cons_unbroken b line other u zero h = other
cons_unbroken b line other u (suc k) h = u k (omega arith)

put_longer : (b : ℕ) (line : Bytes) (o : Option (List Bytes)) → put_byte b (put_line line o) ≡ put_line (b ∷ line) o
put_longer b line none = refl
put_longer b line (some lines) = refl

-- A closed line before others.
pub lines_first : (line rest : Bytes) → Unbroken line → lines_of (line ++ (line_break ∷ rest)) ≡ put_line line (lines_of rest)
unfolding lines_of
lines_first [] rest u = refl
lines_first (b ∷ line) rest u = rw (first_unbroken b line u, lines_first line rest (rest_unbroken b line u)) (put_longer b line (lines_of rest))

-- Bytes behind the last line.
pub lines_open : (line : Bytes) → 0 < length line → Unbroken line → lines_of line ≡ none
unfolding lines_of
lines_open [] h u = absurd (omega arith)
lines_open (b ∷ []) h u = rw (first_unbroken b [] u)
lines_open (b ∷ c ∷ line) h u = rw (first_unbroken b (c ∷ line) u) (ap (put_byte b) (lines_open (c ∷ line) (omega arith) (rest_unbroken b (c ∷ line) u)))

-- The paper's lines are those of `lines_of` ..
lines_given : (lines : List Bytes) → ((line : Bytes) → Memᴰ line lines → Unbroken line) → lines_of (close_each lines) ≡ some lines
unfolding lines_of
lines_given [] u = refl
lines_given (line ∷ lines) u =
    lines_first line (close_each lines) (u line (Memᴰ.head refl)) ∙ ap (put_line line) (lines_given lines (λ l m. u l (Memᴰ.tail m)))

pub lines_found : {bytes : Bytes} {lines : List Bytes} → IsLines bytes lines → lines_of bytes ≡ some lines
lines_found {bytes} {lines} i = ap lines_of i.joined ∙ lines_given lines i.unbroken

-- .. and those of `lines_of` are the paper's.
no_lines : IsLines [] []
no_lines = record { joined = refl; unbroken = λ line m. absurd (Memᴰ.not-nil m) }

empty_first : {bytes : Bytes} {lines : List Bytes} → IsLines bytes lines → IsLines (line_break ∷ bytes) ([] ∷ lines)
empty_first i = record {
  joined = ap (λ (l : Bytes). line_break ∷ l) i.joined;
  unbroken = λ line m. ⊎_elim (λ e. rw e (λ k h. absurd (omega arith))) (λ n. i.unbroken line n) (Memᴰ.cases_cons m);
}

longer_first : (b : ℕ) {bytes line : Bytes} {lines : List Bytes} → (b ≡ line_break → ⊥) → IsLines bytes (line ∷ lines) → IsLines (b ∷ bytes) ((b ∷ line) ∷ lines)
longer_first b {line = line} other i = record {
  joined = ap (λ (l : Bytes). b ∷ l) i.joined;
  unbroken =
      λ l m. ⊎_elim (λ e. rw e (cons_unbroken b line other (i.unbroken line (Memᴰ.head refl)))) (λ n. i.unbroken l (Memᴰ.tail n))
      (Memᴰ.cases_cons m);
}

line_put : {bytes : Bytes} (o : Option (List Bytes)) (lines : List Bytes) → ((ls : List Bytes) → o ≡ some ls → IsLines bytes ls) → put_line [] o ≡ some lines
    → IsLines (line_break ∷ bytes) lines
line_put none lines rest h = none_some h
line_put {bytes} (some ls) lines rest h = subst (IsLines (line_break ∷ bytes)) (some_same h) (empty_first (rest ls refl))

byte_put : {bytes : Bytes} (b : ℕ) (o : Option (List Bytes)) (lines : List Bytes) → (b ≡ line_break → ⊥) → ((ls : List Bytes) → o ≡ some ls → IsLines bytes ls)
    → put_byte b o ≡ some lines → IsLines (b ∷ bytes) lines
byte_put b none lines other rest h = none_some h
byte_put b (some []) lines other rest h = none_some h
byte_put {bytes} b (some (l ∷ ls)) lines other rest h = subst (IsLines (b ∷ bytes)) (some_same h) (longer_first b other (rest (l ∷ ls) refl))

pub lines_are : (bytes : Bytes) (lines : List Bytes) → lines_of bytes ≡ some lines → IsLines bytes lines
unfolding lines_of
lines_are [] lines h = subst (IsLines []) (some_same h) no_lines
lines_are (b ∷ bytes) lines h = go (eqb b line_break) refl (λ ls e. lines_are bytes ls e) h
  where
    go : (t : Bool) → eqb b line_break ≡ t → ((ls : List Bytes) → lines_of bytes ≡ some ls → IsLines bytes ls)
        → cond t (put_line [] (lines_of bytes)) (put_byte b (lines_of bytes)) ≡ some lines → IsLines (b ∷ bytes) lines
    go true q rest k = subst (λ (x : ℕ). IsLines (x ∷ bytes) lines) (sym (eqb-true b line_break q)) (line_put (lines_of bytes) lines rest k)
    go false q rest k = byte_put b (lines_of bytes) lines (eqb-false b line_break q) rest k

-- As many lines as bytes that close one.

count_put : (o : Option (List Bytes)) (lines : List Bytes) (n : ℕ) → ((ls : List Bytes) → o ≡ some ls → length ls ≡ n) → put_line [] o ≡ some lines → length lines ≡ 1 + n
count_put none lines n rest h = none_some h
count_put (some ls) lines n rest h = let same = ap length (some_same h) in omega (arith, rest ls refl)

count_kept : (b : ℕ) (o : Option (List Bytes)) (lines : List Bytes) (n : ℕ) → ((ls : List Bytes) → o ≡ some ls → length ls ≡ n) → put_byte b o ≡ some lines → length lines ≡ n
count_kept b none lines n rest h = none_some h
count_kept b (some []) lines n rest h = none_some h
count_kept b (some (l ∷ ls)) lines n rest h = let same = ap length (some_same h) in omega (arith, rest (l ∷ ls) refl)

pub lines_counted : (bytes : Bytes) (lines : List Bytes) → lines_of bytes ≡ some lines → length lines ≡ breaks bytes
unfolding lines_of breaks
lines_counted [] lines h = ap length (sym (some_same h))
lines_counted (b ∷ bytes) lines h = go (eqb b line_break) (λ ls e. lines_counted bytes ls e) h
  where
    go : (t : Bool) → ((ls : List Bytes) → lines_of bytes ≡ some ls → length ls ≡ breaks bytes)
        → cond t (put_line [] (lines_of bytes)) (put_byte b (lines_of bytes)) ≡ some lines → length lines ≡ cond t (1 + breaks bytes) (breaks bytes)
    go true rest k = count_put (lines_of bytes) lines (breaks bytes) rest k
    go false rest k = count_kept b (lines_of bytes) lines (breaks bytes) rest k

-- The count of the bytes 10 is that of the specifications.
pub count_breaks_is : (bytes : Bytes) → count_by (λ (byte : ℕ). byte == line_break) bytes ≡ breaks bytes
unfolding breaks
count_breaks_is [] = refl
count_breaks_is (b ∷ bytes) = sum_by-cons (λ (byte : ℕ). cond (byte == line_break) 1 0) b bytes ∙ go (eqb b line_break) (count_breaks_is bytes)
  where
    go : (t : Bool) → count_by (λ (byte : ℕ). byte == line_break) bytes ≡ breaks bytes
        → cond t 1 0 + count_by (λ (byte : ℕ). byte == line_break) bytes ≡ cond t (1 + breaks bytes) (breaks bytes)
    go true e = omega arith
    go false e = omega arith

-- A buffer that ends with a byte 10, and one that does not.

ends_closed : (front : Bytes) → (line : Bytes) × (lines : List Bytes) × (lines_of (front ++ (line_break ∷ [])) ≡ some (line ∷ lines))
unfolding lines_of
ends_closed [] = ([], [], refl)
ends_closed (b ∷ front) = let r = ends_closed front in go (eqb b line_break) r.0 r.1 r.2
  where
    rest : Option (List Bytes)
    rest = lines_of (front ++ (line_break ∷ []))

    go : (t : Bool) (l : Bytes) (ls : List Bytes) → rest ≡ some (l ∷ ls) → (line : Bytes) × (lines : List Bytes) × (cond t (put_line [] rest) (put_byte b rest) ≡ some (line ∷ lines))
    go true l ls e = ([], l ∷ ls, ap (put_line []) e)
    go false l ls e = (b ∷ l, ls, ap (put_byte b) e)

ends_open : (front : Bytes) (last : ℕ) → (last ≡ line_break → ⊥) → lines_of (front ++ (last ∷ [])) ≡ none
unfolding lines_of
ends_open [] last other = rw (ne_eqb last line_break other)
ends_open (b ∷ front) last other = go (eqb b line_break) (ends_open front last other)
  where
    rest : Option (List Bytes)
    rest = lines_of (front ++ (last ∷ []))

    go : (t : Bool) → rest ≡ none → cond t (put_line [] rest) (put_byte b rest) ≡ none
    go true e = ap (put_line []) e
    go false e = ap (put_byte b) e

-- A buffer by its last byte.
ends_with : (bytes : Bytes) (last : ℕ) → last + 1 ≡ length bytes → bytes ≡ take last bytes ++ (get_or {A = ℕ} bytes last 0 ∷ [])
ends_with bytes last h =
    split_at bytes last 0 (omega arith) ∙ ap (λ (l : Bytes). take last bytes ++ (get_or {A = ℕ} bytes last 0 ∷ l)) (drop_of_length-le bytes {i = suc last} (omega arith))

pub closed_nothing : (bytes : Bytes) → length bytes ≡ 0 → ClosedSays bytes true
unfolding lines_of
closed_nothing [] h = ([], refl)
closed_nothing (b ∷ bytes) h = absurd (omega arith)

pub closed_by_last : (bytes : Bytes) (last : ℕ) → last + 1 ≡ length bytes → ClosedSays bytes (eqb (get_or {A = ℕ} bytes last 0) line_break)
closed_by_last bytes last h = go (eqb (get_or {A = ℕ} bytes last 0) line_break) refl
  where
    go : (t : Bool) → eqb (get_or {A = ℕ} bytes last 0) line_break ≡ t → ClosedSays bytes t
    go true q =
        let c = ends_closed (take last bytes) in
        (c.0 ∷ c.1, ap lines_of (ends_with bytes last h ∙ ap (λ (b : ℕ). take last bytes ++ (b ∷ [])) (eqb-true _ _ q)) ∙ c.2)
    go false q = ap lines_of (ends_with bytes last h) ∙ ends_open (take last bytes) (get_or {A = ℕ} bytes last 0) (eqb-false _ _ q)

-- None is given exactly where the last line is not closed.
pub not_closed_none : {bytes : Bytes} → NotClosed bytes → lines_of bytes ≡ none
not_closed_none n = ap lines_of n.ends ∙ ends_open n.front n.last n.other

pub none_not_closed : (bytes : Bytes) → lines_of bytes ≡ none → NotClosed bytes
unfolding lines_of
none_not_closed [] h = none_some (sym h)
none_not_closed (b ∷ bytes) h =
    let last = get_or {A = ℕ} (b ∷ bytes) (length bytes) 0 in
    let ends = ends_with (b ∷ bytes) (length bytes) (omega arith) in
    record {
      front = take (length bytes) (b ∷ bytes);
      last = last;
      ends = ends;
      other = λ q.
          let c = ends_closed (take (length bytes) (b ∷ bytes)) in
          none_some (sym h ∙ ap lines_of (ends ∙ ap (λ (x : ℕ). take (length bytes) (b ∷ bytes) ++ (x ∷ [])) q) ∙ c.2);
    }

-- The lines of a batch, by the tests in their order.
module _ (batch : Bytes) where
  pub batch_long : max_batch < length batch → batch_lines batch ≡ none
  unfolding batch_lines
  batch_long h = rw (lt-ltb max_batch (length batch) h)

  module _ (short : length batch ≤ max_batch) where
    pub batch_short : batch_lines batch ≡ up_to max_lines (lines_of batch)
    unfolding batch_lines
    batch_short = rw (le-ltb max_batch (length batch) short)

    pub batch_open : ClosedSays batch false → batch_lines batch ≡ none
    batch_open e = batch_short ∙ ap (up_to max_lines) e

    pub batch_many : ClosedSays batch true → max_lines < breaks batch → batch_lines batch ≡ none
    batch_many c h =
        let count = lines_counted batch c.0 c.1 in
        batch_short ∙ ap (up_to max_lines) c.1 ∙ ap (λ (t : Bool). cond t none (some c.0)) (lt-ltb max_lines (length c.0) (omega arith))

    pub batch_counted : ClosedSays batch true → breaks batch ≤ max_lines → CountSays batch (Some (breaks batch))
    batch_counted c h =
        let count = lines_counted batch c.0 c.1 in
        (c.0, batch_short ∙ ap (up_to max_lines) c.1 ∙ ap (λ (t : Bool). cond t none (some c.0)) (le-ltb max_lines (length c.0) (omega arith)), count)
