-- Two books that differ only in the notation of types come to the same: both are accepted and hold the same, or both are refused with the same number.
-- Record by record both have the same fault and hold the same with it; only their offsets part.
use Prim.Native.Nat.{ℕ, zero, suc, ◌+◌, ◌*◌, ◌%◌, ◌≤◌, ◌<◌}
use native.Mathlib.Omega.{arith}
use native.Mathlib.Decide.{dec_lt}
use native.Mathlib.Nat.{add_assoc}
use mathlib.Core.Path.{◌≡◌, refl, sym, ap, ap₂, ◌∙◌}
use mathlib.Core.Logic.{◌↔◌}
use mathlib.Core.Bool.{Bool, true, false, cond, ◌||◌}
use mathlib.Core.List.{List, ◌++◌}
use lib.Dec.{ltb, eqb}
use lib.ListN.{length, drop, length-append, length-drop}
use borrow.Author.Tests.{eq-eqb, le-leb, lt-ltb, le-ltb}
use Rattle.figures.specs.Limits.{max_book, max_entry_simples}
use Rattle.figures.specs.Refusals.{no_target}
use Rattle.pregroup.specs.Types.{PregroupType}
use Rattle.format.specs.Records.{Bytes, every, head_length, two_bytes, next_at, record_of}
use Rattle.notation.specs.Brackets.{too_deep}
use Rattle.notation.specs.Trees.{has_tree, text_type}
use Rattle.rules.specs.Layouts.{entry, slashed_entry, kind_number, slashed, of_simples, of_text, entry_body, is_worded, is_entry, simples_of, type_part}
use Rattle.rules.specs.Rules.{bases, exponents, declared_among, exponent_listed, body_rules, record_rules, first_broken}
use Rattle.book.specs.Format.{Book, Parsed, accepted, refused, entry_of, with_entry, add, with_next, ended, records_from, parse, nothing_yet}
use Rattle.book.specs.Kept.{next_fault}
use Rattle.book.specs.Notation.{DifferInNotation, same_rest, same_record, in_slashes, AlikeParsed, both_accepted, both_refused}
use Rattle.format.proofs.Bools.{and_true}
use Rattle.format.proofs.RecordLaws.{size_first, kind_first, body_first, rest_first, size_at, kind_at_lem, body_at_lem, rest_at}
use Rattle.rules.proofs.KindLaws.{kind_rules_lem}
use Rattle.rules.proofs.EntryLaws.{word_part, type_part_lem}
use Rattle.rules.proofs.WholeRecords.{is_cut, record_whole}
use Rattle.rules.proofs.Faults.{entry_faults, slashed_faults}
use Rattle.rules.proofs.Texts.{text_exponents_listed}
use Rattle.book.proofs.GoodEntries.{simples_few, add_entry}
use Rattle.book.proofs.Parsing.{records_end, records_next, records_bad, parse_short}

-- An entry in both notations: the same fault ..
module _ (word part text : Bytes) where
  worded_alike : is_worded (entry_body word part) ≡ is_worded (entry_body word text)
  unfolding is_worded
  worded_alike =
      rw (word_part word part, word_part word text, lt-ltb (length word) (length (entry_body word part)) (omega (arith, length-append word part)), lt-ltb (length word) (length (entry_body word text)) (omega (arith, length-append word text)))

  layout_alike : length part % 2 ≡ 0 → length part ≤ 2 * max_entry_simples → is_entry (entry_body word part) ≡ is_worded (entry_body word text)
  unfolding is_entry
  layout_alike pairs few =
      rw (type_part_lem word part, eq-eqb (length part % 2) 0 pairs, le-leb (length part) (2 * max_entry_simples) few, and_true (is_worded (entry_body word part)), and_true (is_worded (entry_body word part))) worded_alike

  module _ (names : List Bytes) (same : simples_of part ≡ text_type names text) where
    pairs_type : simples_of (type_part (entry_body word part)) ≡ text_type names text
    pairs_type = ap simples_of (type_part_lem word part) ∙ same

    slashed_type : text_type names (type_part (entry_body word text)) ≡ text_type names text
    slashed_type = ap (λ (x : Bytes). text_type names x) (type_part_lem word text)

    abbrev declared_all : PregroupType → Bool
    declared_all X = every (declared_among (length names)) (bases X)

    abbrev listed_all : PregroupType → Bool
    listed_all X = every exponent_listed (exponents X)

    fault_alike :
        (entries targets : ℕ) → length part % 2 ≡ 0 → length part ≤ 2 * max_entry_simples → too_deep text ≡ false → has_tree text ≡ true
        → first_broken (body_rules (kind_number entry) (entry_body word part) names entries targets) ≡ first_broken (body_rules slashed (entry_body word text) names entries targets)
    fault_alike entries targets pairs few shallow tree =
        ap first_broken (kind_rules_lem entry (entry_body word part) names entries targets)
        ∙ entry_faults (entry_body word part) names entries targets (layout_alike pairs few) (ap declared_all pairs_type) (ap listed_all pairs_type ∙ exponents_listed) refl
        ∙ sym (slashed_faults (entry_body word text) names entries targets refl
        (ap (λ (x : Bytes). too_deep x) (type_part_lem word text) ∙ shallow) (ap (λ (x : Bytes). has_tree x) (type_part_lem word text) ∙ tree)
        (ap declared_all slashed_type) (ap listed_all slashed_type ∙ exponents_listed) (ap (λ (X : PregroupType). ltb max_entry_simples (length X)) slashed_type ∙ not_long) refl)
        ∙ ap first_broken (sym (kind_rules_lem slashed_entry (entry_body word text) names entries targets))
      where
        exponents_listed : listed_all (text_type names text) ≡ true
        exponents_listed = text_exponents_listed names text shallow

        not_long : ltb max_entry_simples (length (text_type names text)) ≡ false
        not_long = le-ltb max_entry_simples (length (text_type names text)) (omega (arith, few, simples_few part, ap (λ (X : PregroupType). length X) same))

  -- .. and the same book with it.
  held_alike : (B : Book) → simples_of part ≡ text_type B.names text → add (kind_number entry) (entry_body word part) B ≡ add slashed (entry_body word text) B
  held_alike B same =
      add_entry of_simples (entry_body word part) B ∙ ap (with_entry B) entry_alike ∙ sym (add_entry of_text (entry_body word text) B)
    where
      entry_alike : entry_of (kind_number entry) B.names (entry_body word part) ≡ entry_of slashed B.names (entry_body word text)
      entry_alike =
          ap₂ (λ (w : Bytes) (X : PregroupType). record { word = w; type = X }) (word_part word part ∙ sym (word_part word text)) (pairs_type B.names same ∙ sym (slashed_type B.names same))

-- What two books that differ only in notation have first, behind records that hold B.
record Step (B : Book) (x y : Bytes) : Type 0 where
  some_more : (0 < length x) ↔ (0 < length y)
  fault : next_fault x 0 B ≡ next_fault y 0 B
  held : with_next x 0 B ≡ with_next y 0 B
  rest : DifferInNotation (with_next x 0 B) (drop (next_at x 0) x) (drop (next_at y 0) y)

module _ (B : Book) (kind : ℕ) (body rest : Bytes) where
  fault_of : next_fault (record_of kind body ++ rest) 0 B ≡ first_broken (body_rules kind body B.names (length B.entries) (length B.targets))
  fault_of =
      sym (record_whole (record_of kind body ++ rest) 0 B.names (length B.entries) (length B.targets) (omega (arith, size_first kind body rest, length-append body rest)) (kind_first kind body rest))
      ∙ ap (λ (x : Bytes). first_broken (body_rules kind x B.names (length B.entries) (length B.targets))) (body_first kind body rest)

  held_of : with_next (record_of kind body ++ rest) 0 B ≡ add kind body B
  held_of = ap₂ (λ (k : ℕ) (x : Bytes). add k x B) (kind_first kind body rest) (body_first kind body rest)

first_step :
    (B : Book) (k l : ℕ) (p q : Bytes) {a b : Bytes}
    → first_broken (body_rules k p B.names (length B.entries) (length B.targets)) ≡ first_broken (body_rules l q B.names (length B.entries) (length B.targets))
    → add k p B ≡ add l q B → DifferInNotation (add k p B) a b → Step B (record_of k p ++ a) (record_of l q ++ b)
first_step B k l p q {a} {b} fault held r = record {
  some_more = (λ h. omega arith, λ h. omega arith);
  fault = fault_of B k p a ∙ fault ∙ sym (fault_of B l q b);
  held = held_of B k p a ∙ held ∙ sym (held_of B l q b);
  rest = rw (held_of B k p a, rest_first k p a, rest_first l q b) r;
}

step_first : {B : Book} {x y : Bytes} → DifferInNotation B x y → Step B x y
step_first same_rest = record { some_more = (λ h. h, λ h. h); fault = refl; held = refl; rest = same_rest }
step_first (same_record {B} kind body r) = first_step B kind kind body body refl refl r
step_first (in_slashes {B} word part text pairs few shallow tree same r) =
    first_step B (kind_number entry) slashed (entry_body word part) (entry_body word text)
    (fault_alike word part text B.names same (length B.entries) (length B.targets) pairs few shallow tree) (held_alike word part text B same) r

-- What is read off a record at an offset is what is read off the rest from there on.
module _ (bytes : Bytes) (at : ℕ) where
  below_at : (k : ℕ) → 0 < k → ltb (length (drop at bytes)) k ≡ ltb (length bytes) (at + k)
  below_at k h = go (dec_lt (length bytes) (at + k))
    where
      go : Dec (length bytes < at + k) → ltb (length (drop at bytes)) k ≡ ltb (length bytes) (at + k)
      go (yes l) = lt-ltb (length (drop at bytes)) k (omega (arith, length-drop at bytes)) ∙ sym (lt-ltb (length bytes) (at + k) l)
      go (no n) = le-ltb (length (drop at bytes)) k (omega (arith, length-drop at bytes, n)) ∙ sym (le-ltb (length bytes) (at + k) (omega (arith, n)))

  cut_at : is_cut (drop at bytes) 0 ≡ is_cut bytes at
  unfolding is_cut
  cut_at =
      ap₂ (λ (s t : Bool). s || t) (below_at head_length (omega arith))
      (ap (λ (n : ℕ). ltb (length (drop at bytes)) (head_length + n)) (size_at bytes at) ∙ below_at (head_length + two_bytes bytes at) (omega arith) ∙ ap (ltb (length bytes)) (sym (add_assoc at head_length (two_bytes bytes at))))

  fault_at : (B : Book) → next_fault (drop at bytes) 0 B ≡ next_fault bytes at B
  unfolding record_rules first_broken is_cut
  fault_at B = rw (← cut_at, ← kind_at_lem bytes at, ← body_at_lem bytes at)

  held_at : (B : Book) → with_next (drop at bytes) 0 B ≡ with_next bytes at B
  held_at B = ap₂ (λ (k : ℕ) (x : Bytes). add k x B) (kind_at_lem bytes at) (body_at_lem bytes at)

ended_alike : (a b : Bytes) (B : Book) → AlikeParsed (ended a B) (ended b B)
unfolding ended
ended_alike a b B = go (eqb (length B.targets) 0)
  where
    go : (none : Bool) → AlikeParsed (cond none (refused no_target (length a)) (accepted B)) (cond none (refused no_target (length b)) (accepted B))
    go true = both_refused
    go false = both_accepted

-- One record more in both leaves the rest to smaller bounds.
module _ (a b : Bytes) (at at' : ℕ) (B : Book) (s : Step B (drop at a) (drop at' b)) where
  there_alike : at < length a → at' < length b
  there_alike l = let m : 0 < length (drop at' b) = s.some_more.0 (omega (arith, length-drop at a)) in omega (arith, length-drop at' b)

  gone_alike : length a ≤ at → length b ≤ at'
  gone_alike h = by (dec_lt at' (length b))
    where
      by : Dec (at' < length b) → length b ≤ at'
      by (yes l) = let m : 0 < length (drop at a) = s.some_more.1 (omega (arith, length-drop at' b)) in absurd (omega (arith, length-drop at a))
      by (no l) = omega (arith, l)

  fault_same : next_fault a at B ≡ next_fault b at' B
  fault_same = sym (fault_at a at B) ∙ s.fault ∙ fault_at b at' B

  held_same : with_next a at B ≡ with_next b at' B
  held_same = sym (held_at a at B) ∙ s.held ∙ held_at b at' B

  rest_same : DifferInNotation (with_next a at B) (drop (next_at a at) a) (drop (next_at b at') b)
  rest_same = rw (held_at a at B, rest_at a at a, rest_at b at' b) at s.rest

  end_alike : (m n : ℕ) → length a ≤ at → AlikeParsed (records_from m a at B) (records_from n b at' B)
  end_alike m n h = rw (records_end a m at B h, records_end b n at' B (gone_alike h)) (ended_alike a b B)

  step_alike :
      (m : ℕ) → ((n : ℕ) → length b ≤ next_at b at' + n → AlikeParsed (records_from m a (next_at a at) (with_next a at B)) (records_from n b (next_at b at') (with_next a at B)))
      → (n : ℕ) → length b ≤ at' + n → Dec (at < length a) → (fault : ℕ) → next_fault a at B ≡ fault → AlikeParsed (records_from (suc m) a at B) (records_from n b at' B)
  step_alike m rest n h (no l) fault f = end_alike (suc m) n (omega (arith, l))
  step_alike m rest zero h (yes l) fault f = absurd (omega (arith, there_alike l))
  step_alike m rest (suc n) h (yes l) zero f =
      rw (records_next a m at B l f, records_next b n at' B (there_alike l) (sym fault_same ∙ f), ← held_same) (rest n (omega arith))
  step_alike m rest (suc n) h (yes l) (suc fault) f =
      rw (records_bad a m at B (suc fault) l f (omega arith), records_bad b n at' B (suc fault) (there_alike l) (sym fault_same ∙ f) (omega arith)) both_refused

records_alike :
    (m : ℕ) (a b : Bytes) (at at' : ℕ) (B : Book) → DifferInNotation B (drop at a) (drop at' b) → length a ≤ at + m → (n : ℕ) → length b ≤ at' + n
    → AlikeParsed (records_from m a at B) (records_from n b at' B)
records_alike zero a b at at' B r h n k = end_alike a b at at' B (step_first r) zero n (omega arith)
records_alike (suc m) a b at at' B r h n k =
    let s = step_first r in
    step_alike a b at at' B s m (λ n k. records_alike m a b (next_at a at) (next_at b at') (with_next a at B) (rest_same a b at at' B s) (omega arith) n k) n k (dec_lt at (length a)) (next_fault a at B) refl

-- The theorem, for books that are not too long.
pub notation_alike : (a b : Bytes) → DifferInNotation nothing_yet a b → length a ≤ max_book → length b ≤ max_book → AlikeParsed (parse a) (parse b)
notation_alike a b r h k =
    rw (parse_short a h, parse_short b k) (records_alike (length a) a b 0 0 nothing_yet r (omega arith) (length b) (omega arith))

-- So the same books are accepted, and hold the same.
pub notation_accepted : (a b : Bytes) → DifferInNotation nothing_yet a b → length a ≤ max_book → length b ≤ max_book → (B : Book) → (parse a ≡ accepted B) ↔ (parse b ≡ accepted B)
notation_accepted a b r h k B = (forth (notation_alike a b r h k), back (notation_alike a b r h k))
  where
    forth : {p q : Parsed} → AlikeParsed p q → p ≡ accepted B → q ≡ accepted B
    forth both_accepted e = e
    forth both_refused e = let z : ◌≡◌ {A = ℕ} 0 1 = cc in absurd (omega arith)

    back : {p q : Parsed} → AlikeParsed p q → q ≡ accepted B → p ≡ accepted B
    back both_accepted e = e
    back both_refused e = let z : ◌≡◌ {A = ℕ} 0 1 = cc in absurd (omega arith)
