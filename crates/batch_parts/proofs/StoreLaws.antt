-- Reading the lines of a batch one after another: what is stored are the parts of the lines passed, and there is room for those ahead.
use Prim.Native.Nat.{ℕ, ◌+◌, ◌-◌, ◌*◌, ◌≤◌, ◌<◌}
use native.Mathlib.Omega.{arith}
use native.Mathlib.Numerals.{add-one}
use mathlib.Core.Path.{◌≡◌, refl, sym, ap, subst, ◌∙◌}
use mathlib.Core.Logic.{◌⊎◌, inl, inr}
use mathlib.Core.List.{List, [], ◌∷◌, ◌++◌, append_assoc, append-nil}
use mathlib.Core.Option.{Option, none, some}
use lib.ListN.{length, get_or, take, drop, length-drop, length-take, take-append-drop, drop_of_length-le}
use lib.Seq.{drop-cons, drop-drop, get_or-take, get_or-drop, take_all, take-append-add, take-append-le, length-take-le}
use Rattle.figures.specs.Limits.{max_part}
use Rattle.bits.proofs.Cases.{less_or_not, some_same, none_some}
use Rattle.bytewise.specs.First.{First}
use Rattle.format.specs.Records.{Bytes}
use Rattle.batch_lines.specs.Lines.{line_break, put_line, lines_of, Unbroken}
use Rattle.batch_parts.specs.Parts.{alone_reply, part_of, parts_of}
use Rattle.batch_parts.specs.Stored.{Put, Readying, StoredParts}
use Rattle.batch_lines.proofs.LinesLaws.{lines_first, lines_open}

-- The bytes from one place up to another.
abbrev pub between : Bytes → ℕ → ℕ → Bytes
between batch at end = take (end - at) (drop at batch)

-- The line that starts at a place ends there: at the next byte that closes one, or with the batch.
abbrev pub EndsAt : Bytes → ℕ → ℕ → Type 0
EndsAt batch at end = (end ≤ length batch) × First (λ (k : ℕ). get_or {A = ℕ} batch k 0 ≡ line_break) at (length batch) end

-- The line from a place to its end, and the lines behind it.
pub record FirstLine (batch : Bytes) (at end : ℕ) (rest : List Bytes) : Type 0 where
  pub lines : List Bytes
  pub closed : end < length batch
  pub first : rest ≡ between batch at end ∷ lines
  pub behind : lines_of (drop (end + 1) batch) ≡ some lines

module _ (batch : Bytes) (at end : ℕ) (e : EndsAt batch at end) where
  first_unbroken : Unbroken (between batch at end)
  first_unbroken k h =
      let inside : k < end - at = omega (arith, length-take (end - at) (drop at batch)) in
      rw (get_or-take (end - at) (drop at batch) k 0 inside, get_or-drop at batch k 0) (e.1.passed (at + k) (omega arith) (omega (arith, e.1.forth)) (omega (arith, e.0, e.1.forth)))

  bytes_behind : drop (end - at) (drop at batch) ≡ drop end batch
  bytes_behind = let place : at + (end - at) ≡ end = omega (arith, e.1.forth) in drop-drop (end - at) at batch ∙ ap (λ (n : ℕ). drop n batch) place

  split_first : end < length batch → drop at batch ≡ between batch at end ++ (line_break ∷ drop (end + 1) batch)
  split_first h =
      sym (take-append-drop (end - at) (drop at batch))
      ∙ ap (λ (l : Bytes). between batch at end ++ l)
      (bytes_behind ∙ drop-cons batch end 0 h ∙ ap (λ (n : ℕ). get_or {A = ℕ} batch end 0 ∷ drop n batch) (sym (add-one end)) ∙ ap (λ (b : ℕ). b ∷ drop (end + 1) batch) (e.1.stops h))

  first_put : (o : Option (List Bytes)) (rest : List Bytes) → end < length batch → lines_of (drop (end + 1) batch) ≡ o → put_line (between batch at end) o ≡ some rest
      → FirstLine batch at end rest
  first_put none rest h q p = none_some p
  first_put (some lines) rest h q p = record { lines = lines; closed = h; first = sym (some_same p); behind = q }

  pub first_line : (rest : List Bytes) → at < length batch → lines_of (drop at batch) ≡ some rest → FirstLine batch at end rest
  first_line rest more split = by (less_or_not end (length batch))
    where
      by : (end < length batch) ⊎ (length batch ≤ end) → FirstLine batch at end rest
      by (inl h) =
          first_put (lines_of (drop (end + 1) batch)) rest h refl
          (sym (lines_first (between batch at end) (drop (end + 1) batch) first_unbroken) ∙ sym (ap lines_of (split_first h)) ∙ split)
      by (inr h) =
          let long = length-drop at batch in
          let whole : between batch at end ≡ drop at batch = take_all (end - at) (drop at batch) (omega arith) in
          let left : lines_of (drop at batch) ≡ none = lines_open (drop at batch) (omega arith) (subst Unbroken whole first_unbroken) in
          none_some (sym left ∙ split)

-- How far the lines of a batch have been read.
pub record Reading (book batch store : List ℕ) (at used : ℕ) : Type 0 where
  pub reached : at ≤ length batch
  pub rest : List Bytes
  pub split : lines_of (drop at batch) ≡ some rest
  pub room : used + length rest * max_part ≤ length store
  pub stored : (lines : List Bytes) → lines_of batch ≡ some lines → parts_of book lines ≡ take used store ++ parts_of book rest

pub reading_starts : (book batch store : List ℕ) → Readying batch store → Reading book batch store 0 0
reading_starts book batch store r = record {
  reached = omega arith;
  rest = r.lines;
  split = r.split;
  room = omega (arith, r.room);
  stored = λ lines e. ap (parts_of book) (some_same (sym e ∙ r.split));
}

module _ (book batch store : List ℕ) (at used end : ℕ) (more : at < length batch) (r : Reading book batch store at used) (e : EndsAt batch at end) where
  here : FirstLine batch at end r.rest
  here = first_line batch at end e r.rest more r.split

  pub part_room : used + max_part ≤ length store
  part_room = omega (arith, r.room, ap length here.first)

  -- What was lent behind the parts has the line's part in front.
  module _ (next : ℕ) (after post : List ℕ) (p : Put (part_of (alone_reply book (between batch at end))) next after) where
    stored_more : take (used + next) (take used store ++ (after ++ post)) ≡ take used store ++ part_of (alone_reply book (between batch at end))
    stored_more =
        let front : length (take used store) ≡ used = length-take-le used store (omega (arith, r.room)) in
        ap (λ (n : ℕ). take (n + next) (take used store ++ (after ++ post))) (sym front)
        ∙ take-append-add (take used store) (after ++ post) next
        ∙ ap (λ (l : List ℕ). take used store ++ l) (take-append-le next after post (omega (arith, p.counted, ap length p.stored, length-take next after)) ∙ p.stored)

    pub reading_turns : length (take used store ++ (after ++ post)) ≡ length store → Reading book batch (take used store ++ (after ++ post)) (end + 1) (used + next)
    unfolding parts_of
    reading_turns same = record {
      reached = omega (arith, here.closed);
      rest = here.lines;
      split = here.behind;
      room = omega (arith, r.room, ap length here.first, p.counted, p.short);
      stored = λ lines q.
          r.stored lines q
          ∙ ap (λ (ls : List Bytes). take used store ++ parts_of book ls) here.first
          ∙ sym (append_assoc (take used store) (part_of (alone_reply book (between batch at end))) (parts_of book here.lines))
          ∙ ap (λ (l : List ℕ). l ++ parts_of book here.lines) (sym stored_more);
    }

-- Nothing is left.
pub reading_ends : (book batch store : List ℕ) (at used : ℕ) → length batch ≤ at → Reading book batch store at used → StoredParts book batch used store
unfolding lines_of parts_of
reading_ends book batch store at used h r =
    let none_left : r.rest ≡ [] = some_same (sym r.split ∙ ap lines_of (drop_of_length-le batch {i = at} h)) in
    record {
      within = omega (arith, r.room);
      stored = λ lines q. sym (r.stored lines q ∙ ap (λ (ls : List Bytes). take used store ++ parts_of book ls) none_left ∙ append-nil (take used store));
    }
