-- What is promised leaves one answer: a number is known by its bits, and these by the readings of the line without each of its words.
use Prim.Native.Nat.{ℕ, zero, suc, ◌+◌, ◌/◌, ◌%◌, ◌≤◌, ◌<◌}
use native.Mathlib.Omega.{arith}
use mathlib.Core.Path.{◌≡◌, refl, sym, ap, ◌∙◌}
use mathlib.Core.Logic.Iff
use mathlib.Core.Logic.{◌↔◌, ◌⊎◌, inl, inr, ⊎_elim}
use mathlib.Core.List.{List}
use lib.ListN.{length}
use Rattle.figures.specs.Refusals.{no_reading, Refused}
use Rattle.bits.specs.Bits.{bit, Has}
use Rattle.bits.proofs.BitLaws.{bit_zero, bit_suc, bit_absent, has_or_not}
use Rattle.bits.proofs.Cases.{less_or_not, same_or_not}
use Rattle.format.specs.Records.{Bytes}
use Rattle.book.specs.Format.{Book, parse}
use Rattle.linking.specs.Reading.{Words}
use Rattle.answer.specs.Answers.{Gives, LineAnswer}
use Rattle.reader.specs.Outcome.{outcome}
use Rattle.std.specs.Prelude.{Ok, Err}
use Rattle.reader.proofs.Unread.{unread_line}
use Rattle.in_the_way.specs.declared.WayAnswer.{WayAnswer}
use Rattle.in_the_way.specs.declared.WayAnswer.TheVariants.{Ordinary, NoReading}
use Rattle.in_the_way.specs.Way.{way_parsed, told, way_outcome}
use Rattle.in_the_way.specs.WayDemands.{InTheWay, WayPromised}
use Rattle.in_the_way.proofs.WayPromises.{in_the_way, number_is, told_fifteen, told_other, told_read, other_way}

-- Numbers with the same bits are the same.
same_bits : (n x y : ℕ) → x ≤ n → y ≤ n → ((q : ℕ) → bit x q ≡ bit y q) → x ≡ y
same_bits zero x y hx hy e = omega arith
same_bits (suc n) x y hx hy e =
    let low : x % 2 ≡ y % 2 = sym (bit_zero x) ∙ e 0 ∙ bit_zero y in
    let high : x / 2 ≡ y / 2 = same_bits n (x / 2) (y / 2) (omega arith) (omega arith) (λ q. sym (bit_suc x q) ∙ e (suc q) ∙ bit_suc y q) in
    omega arith

bit_same : (x y q : ℕ) → Has x q ↔ Has y q → bit x q ≡ bit y q
bit_same x y q h = ⊎_elim (λ s. s ∙ sym (h.0 s)) (λ n. bit_absent x q n ∙ sym (bit_absent y q (λ s. n (h.1 s)))) (has_or_not x q)

-- One number tells of the words of a line.
pub one_number : {book line : Bytes} {B : Book} {words : Words} {n m : ℕ} → InTheWay book line B words n → InTheWay book line B words m → n ≡ m
one_number {words = words} {n} {m} a b = same_bits (n + m) n m (omega arith) (omega arith) (λ q. bit_same n m q (go q (less_or_not q (length words))))
  where
    go : (q : ℕ) → (q < length words) ⊎ (length words ≤ q) → Has n q ↔ Has m q
    go q (inl h) = Iff.trans (a.reading q h) (Iff.symm (b.reading q h))
    go q (inr h) = (λ s. absurd (a.no_more q h s), λ s. absurd (b.no_more q h s))

module _ (book line : Bytes) (buffer : List ℕ) where
  abbrev way : ℕ
  way = way_parsed (parse book) line

  -- An ordinary answer is one that is not told with the number.
  keeps : (a : LineAnswer) → a ≡ (outcome book line buffer).answer → ((a ≡ Refused no_reading 0) ↔ ((n : ℕ) × (Ordinary a ≡ NoReading n))) → told way a ≡ Ordinary a
  keeps (Ok n) e h = told_read way n
  keeps (Err r) e h = ⊎_elim unread (λ d. told_other way r.number r.value d) (same_or_not r.number no_reading)
    where
      unread : r.number ≡ no_reading → told way (Err r) ≡ Ordinary (Err r)
      unread s =
          let fifteen : Err r ≡ Refused no_reading r.value = ap (λ (n : ℕ). Refused n r.value) s in
          let nothing = (unread_line book line buffer r.value (sym e ∙ fifteen)).no_value in
          other_way way (h.0 (fifteen ∙ ap (Refused no_reading) nothing)).1

  told_as : (answer : WayAnswer) {after : List ℕ} → WayPromised book line buffer answer after → answer ≡ told way (outcome book line buffer).answer
  told_as (Ordinary a) p = sym (keeps a p.as_read.returned p.with_fifteen) ∙ ap (told way) p.as_read.returned
  told_as (NoReading n) p =
      let t = p.tells n refl in
      let same : n ≡ way = one_number t.3 (in_the_way book line t.0 t.1 t.2) ∙ sym (number_is book line t.0 t.1 t.2) in
      ap NoReading same ∙ sym (told_fifteen way 0) ∙ ap (told way) p.as_read.returned

  -- What keeps the promises is the outcome.
  pub only_answer : {answer : WayAnswer} {after : List ℕ} → WayPromised book line buffer answer after → Gives (way_outcome book line buffer) answer after
  only_answer {answer} p = record { returned = told_as answer p; left = p.as_read.left }
