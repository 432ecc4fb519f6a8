-- A line's part as it is stored: what `read_open` gives with an ample rest of the store, with the two values in front of it.
use Prim.Native.Nat.{ℕ, ◌+◌, ◌-◌, ◌≤◌, ◌<◌}
use native.Mathlib.Omega.{arith}
use mathlib.Core.Path.{◌≡◌, refl, sym, ap, subst, ◌∙◌}
use mathlib.Core.List.{List, [], ◌∷◌, ◌++◌}
use lib.ListN.{length, get_or, take, drop, replicate, length-append, length-take, length-drop, length-replicate}
use lib.Seq.{sets, sets-eq, take_at, drop_at, take-append-le, take-append-add, length-take-le}
use Rattle.figures.specs.Limits.{max_values, max_batch, max_part, value_bound}
use Rattle.figures.specs.Refusals.{Reply, refusal, Refused}
use Rattle.format.specs.Records.{Bytes}
use Rattle.book.specs.Format.{Book, accepted, parse}
use Rattle.answer.specs.Answers.{LineAnswer, line_reply, outcome_reply, Gives}
use Rattle.std.specs.Prelude.{Ok}
use Rattle.reader.specs.Outcome.{outcome}
use Rattle.reader.proofs.Promises.{refusals_within}
use Rattle.reader.proofs.Refusals.{line_some, line_small}
use Rattle.reader.proofs.Given.{gives_promised}
use Rattle.reader.proofs.Ample.{Ample, of_book, of_line, of_reading, ample, ample_reply_lem}
use Rattle.batch_parts.specs.Parts.{alone_reply, part_of}
use Rattle.batch_parts.specs.Stored.{Put}

-- The zeros that are lent for a line alone are ample.
pub zeros_long : max_values ≤ length (replicate {A = ℕ} max_values 0)
zeros_long = omega (arith, length-replicate {A = ℕ} max_values 0)

module _ (book line : Bytes) where
  -- A line alone gets the same with every ample buffer.
  pub alone_ample : (lent : List ℕ) → max_values ≤ length lent → outcome_reply (outcome book line lent) ≡ alone_reply book line
  alone_ample lent h = ample_reply_lem book line lent h ∙ sym (ample_reply_lem book line (replicate max_values 0) zeros_long)

  -- What it gets is a reply where any answer fits.
  pub alone_is : Ample book line (alone_reply book line)
  alone_is = subst (Ample book line) (sym (ample_reply_lem book line (replicate max_values 0) zeros_long)) (ample book line)

-- It has few values, and one that comes with a refusal of the line is within the line.
values_of : {book line : Bytes} {reply : Reply} → Ample book line reply → length reply.values ≤ max_values
values_of (of_book e h) = omega arith
values_of (of_line h k) = omega arith
values_of (of_reading h) = h

value_of : {book line : Bytes} {reply : Reply} {B : Book} → parse book ≡ accepted B → Ample book line reply → (number value : ℕ) → reply ≡ refusal number value
    → (number ≡ 0 → ⊥) → value ≤ length line
value_of e (of_book f h) number value q some = let z : ◌≡◌ {A = ℕ} 0 1 = cc in absurd (omega arith)
value_of e (of_line {value = v} h k) number value q some = let same : v ≡ value = ap (λ (x : Reply). get_or x.values 0 0) q in omega arith
value_of e (of_reading h) number value q some = absurd (some (sym (ap (λ (x : Reply). x.number) q)))

pub alone_few : (book line : Bytes) → length (part_of (alone_reply book line)) ≤ max_part
alone_few book line = omega (arith, values_of (alone_is book line))

-- What is left behind the place of an answer is ample.
pub lent_room : (part : List ℕ) → max_part ≤ length part → max_values ≤ length (take (length part - 2) (drop 2 part))
lent_room part h = omega (arith, length-take (length part - 2) (drop 2 part), length-drop 2 part)

-- Values that are stored from the first place on stand in front.
take_sets : (vs l : List ℕ) → length vs ≤ length l → take (length vs) (sets l 0 vs) ≡ vs
take_sets vs l h = ap (take (length vs)) (sets-eq vs l 0 (omega arith)) ∙ take_at vs (drop (0 + length vs) l) (length vs) refl

module _ (book line : Bytes) (lent : List ℕ) (enough : max_values ≤ length lent) where
  -- What is given with such a buffer is that.
  gives_alone : {answer : LineAnswer} {after : List ℕ} → Gives (outcome book line lent) answer after → alone_reply book line ≡ line_reply answer after
  gives_alone {answer} {after} g =
      sym (alone_ample book line lent enough)
      ∙ sym (ap (λ (a : LineAnswer). line_reply a (outcome book line lent).buffer) g.returned)
      ∙ sym (ap (line_reply answer) g.left)

  -- The values of a refusal have 16 bits.
  pub refusal_small : {B : Book} → parse book ≡ accepted B → length line ≤ max_batch → (number value : ℕ) {after : List ℕ}
      → Gives (outcome book line lent) (Refused number value) after → (number < value_bound) × (value < value_bound)
  refusal_small e short number value g =
      let named = refusals_within book line lent number value (sym g.returned) in
      (omega (arith, line_small named), omega (arith, value_of e (alone_is book line) number value (gives_alone g) (λ z. omega (arith, line_some named))))

  -- A refused line.
  pub put_refused : (before post : List ℕ) (number value : ℕ) {after : List ℕ} → Gives (outcome book line lent) (Refused number value) after
      → 3 ≤ length (take 2 before ++ (after ++ post)) → Put (part_of (alone_reply book line)) 3 (sets (take 2 before ++ (after ++ post)) 0 (2 ∷ number ∷ value ∷ []))
  put_refused before post number value {after} g room =
      subst (λ (reply : Reply). Put (part_of reply) 3 (sets (take 2 before ++ (after ++ post)) 0 (2 ∷ number ∷ value ∷ []))) (sym (gives_alone g))
      (record { counted = refl; short = omega arith; stored = take_sets (2 ∷ number ∷ value ∷ []) (take 2 before ++ (after ++ post)) room })

  -- An answered line: it has at most so many values, and they are there.
  pub read_counted : (n : ℕ) {after : List ℕ} → Gives (outcome book line lent) (Ok n) after → (n ≤ max_values) × (n ≡ length (take n after))
  read_counted n g =
      let counted = (gives_promised book line lent g).counted n refl in
      (omega (arith, counted, ap (λ (r : Reply). length r.values) (gives_alone g), values_of (alone_is book line)), counted)

  pub put_read : (before post : List ℕ) (n : ℕ) {after : List ℕ} → 2 ≤ length before → Gives (outcome book line lent) (Ok n) after
      → Put (part_of (alone_reply book line)) (2 + n) (sets (take 2 before ++ (after ++ post)) 0 ((1 + n) ∷ 0 ∷ []))
  put_read before post n {after} h g =
      let l : List ℕ = take 2 before ++ (after ++ post) in
      let head : List ℕ = (1 + n) ∷ 0 ∷ [] in
      let room : 2 ≤ length l = omega (arith, length-append (take 2 before) (after ++ post), length-take-le 2 before h) in
      let counted = (read_counted n g).1 in
      let behind : drop 2 l ≡ after ++ post = drop_at (take 2 before) (after ++ post) 2 (length-take-le 2 before h) in
      let alone = gives_alone g in
      record {
        counted = omega (arith, counted, ap (λ (r : Reply). length (part_of r)) alone);
        short = alone_few book line;
        stored =
            ap (take (2 + n)) (sets-eq head l 0 room ∙ ap (λ (t : List ℕ). head ++ t) behind)
            ∙ take-append-add head (after ++ post) n
            ∙ ap (λ (t : List ℕ). head ++ t) (take-append-le n after post (omega (arith, counted, length-take n after)))
            ∙ ap (λ (k : ℕ). (1 + k) ∷ 0 ∷ take n after) counted
            ∙ ap part_of (sym alone);
      }
