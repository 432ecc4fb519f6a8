-- What `read_line` answers is listed whole: the target's number in the first row, a row for each word, with its entry, and a row for each simple
-- type of the reading's choice, with its partner. Nothing of what `listing` says of other values is needed for it.
use Prim.Native.Nat.{ℕ, suc, ◌+◌, ◌-◌, ◌≤◌, ◌<◌}
use native.Mathlib.Omega.{arith}
use mathlib.Core.Path.{◌≡◌, refl, sym, ap, ◌∙◌}
use mathlib.Core.Logic.{⊎_elim}
use mathlib.Core.Bool.{Bool, true, false, cond}
use mathlib.Core.List.Memᴰ
use mathlib.Core.List.{List, [], ◌∷◌, map, Memᴰ}
use lib.ListN.{length}
use lib.Seq.{take_all}
use Rattle.pregroup.specs.Types.{PregroupType}
use Rattle.linking.specs.Reading.{NumberedEntry, Words, Choice, empty, Answer, take as chosen-entry}
use Rattle.order.proofs.Decision.{below_decides}
use Rattle.format.specs.Records.{Bytes}
use Rattle.book.specs.Format.{Entry, Book}
use Rattle.book.proofs.Accepted.{accepted_declares}
use Rattle.line.specs.LineWords.{Word, words_of}
use Rattle.line.specs.LineFaults.{entries_of}
use Rattle.lookup.specs.Entries.{entries_from}
use Rattle.capitals.specs.Capitals.{same_word}
use Rattle.line.proofs.Passed.{line_passing}
use Rattle.std.specs.Prelude.{Ok}
use Rattle.answer.specs.Answers.{values_of}
use Rattle.answer.specs.Parts.{partners_part}
use Rattle.answer.proofs.PartLaws.{entries_of_answer, partners_of_answer}
use Rattle.reader.specs.Demands.{Promised}
use Rattle.letters.proofs.LetterTheorems.{linking_lettered}
use Rattle.printing.specs.Rows.{shown_rows}
use Rattle.listing.specs.Listing.{type_of, joined, listed_type, listed_letters, reading_rows, answer_rows, listing}
use Rattle.listing.specs.ListingDemands.{ListsReading}

-- An entry of a word, by its number: n entries stand before these.
abbrev Typed : ℕ → List Entry → NumberedEntry → Type 0
Typed n entries f = (n ≤ f.number) × (f.number < n + length entries) × (type_of entries (f.number - n) ≡ f.type)

typed_later : (n : ℕ) (e : Entry) (entries : List Entry) (f : NumberedEntry) → Typed (n + 1) entries f → Typed n (e ∷ entries) f
typed_later n e entries f t =
    let behind : f.number - n ≡ suc (f.number - (n + 1)) = omega (arith, t.0) in
    (omega (arith, t.0), omega (arith, t.1), ap (type_of (e ∷ entries)) behind ∙ t.2)

entries_typed : (n : ℕ) (entries : List Entry) (word : Bytes) (f : NumberedEntry) → Memᴰ f (entries_from n entries word) → Typed n entries f
unfolding entries_from
entries_typed n [] word f m = absurd (Memᴰ.not-nil m)
entries_typed n (e ∷ entries) word f m = go (same_word e.word word) (λ k. typed_later n e entries f (entries_typed (n + 1) entries word f k)) m
  where
    first : NumberedEntry
    first = record { number = n; type = e.type }

    rest : List NumberedEntry
    rest = entries_from (n + 1) entries word

    here : f ≡ first → Typed n (e ∷ entries) f
    here q =
        let number = ap (λ (x : NumberedEntry). x.number) q in
        let none_before : f.number - n ≡ 0 = omega arith in
        (omega arith, omega arith, ap (type_of (e ∷ entries)) none_before ∙ sym (ap (λ (x : NumberedEntry). x.type) q))

    go : (b : Bool) → (Memᴰ f rest → Typed n (e ∷ entries) f) → Memᴰ f (cond b (first ∷ rest) rest) → Typed n (e ∷ entries) f
    go true later k = ⊎_elim here later (Memᴰ.cases_cons k)
    go false later k = later k

module _ (B : Book) where
  -- The types of a choice's entries, joined, are its type; it has an entry for each word; and its entries are the book's.
  pub choice_joined : {words : Words} {ns : List ℕ} {X : PregroupType} → Choice words ns X → (typed : List Word) → words ≡ map (entries_of B) typed
      → (joined B.entries ns ≡ X) × (length ns ≡ length typed) × ((n : ℕ) → Memᴰ n ns → n < length B.entries)
  unfolding joined
  choice_joined empty [] e = (refl, refl, λ n m. absurd (Memᴰ.not-nil m))
  choice_joined empty (w ∷ typed) e = let z : ◌≡◌ {A = ℕ} 0 1 = cc in absurd (omega arith)
  choice_joined (chosen-entry m c) [] e = let z : ◌≡◌ {A = ℕ} 0 1 = cc in absurd (omega arith)
  choice_joined (chosen-entry {e = f} {es} {rest} {ns} {X} m c) (w ∷ typed) e =
      let here : es ≡ entries_of B w = cc in
      let behind : rest ≡ map (entries_of B) typed = cc in
      let t = entries_typed 0 B.entries w.bytes f (rw here at m) in
      let number : f.number - 0 ≡ f.number = omega arith in
      let r = choice_joined c typed behind in
      (rw (← number, t.2, r.0), omega (arith, r.1), λ n k. ⊎_elim (λ q. omega (arith, t.1)) (λ l. r.2 n l) (Memᴰ.cases_cons k))

answer_rows_lem : (a : Answer) (B : Book) (words : List Word) → answer_rows B words (values_of a) ≡ reading_rows B words a.target a.entries a.partners
answer_rows_lem a B words =
    ap (λ (entries : List ℕ). reading_rows B words a.target entries (partners_part (values_of a))) (entries_of_answer a)
    ∙ ap (reading_rows B words a.target a.entries) (partners_of_answer a)

-- What is promised of an answer makes its listing that of the first reading.
pub answer_listed : (book line : Bytes) (buffer after : List ℕ) (n : ℕ) → Promised book line buffer (Ok n) after → ListsReading book line (listing book line (Ok n) after)
answer_listed book line buffer after n p =
    let a = p.answered refl in
    let B = a.0 in
    let w = a.3.reading in
    let found = w.reading in
    let passes = line_passing B line a.1 a.2.line_passed in
    let reading = w.first.reading in
    let each = choice_joined B reading.chosen (words_of line) passes.words_are in
    let joins : listed_type B (words_of line) found.entries ≡ reading.type = ap (joined B.entries) (take_all (length (words_of line)) found.entries (omega (arith, each.1))) ∙ each.0 in
    let shown : PregroupType → Bytes = λ X. shown_rows B.names (words_of line) found.target found.entries X (listed_letters B found.target X found.partners) found.partners in
    record {
      contents = B;
      words = a.1;
      target = found.target;
      entries = found.entries;
      partners = found.partners;
      type = reading.type;
      readable = a.2;
      first = w.first;
      chosen = reading.chosen;
      entry_each = each.1;
      partner_each = reading.linking.count;
      joins = joins;
      letters = listed_letters B found.target reading.type found.partners;
      lettered = linking_lettered (below_decides (length B.names) B.pairs (accepted_declares book B a.2.book_accepted).pairs) reading.linking;
      rows = rw (a.2.book_accepted, passes.bytes_fine, passes.words_fine, w.whole) (answer_rows_lem found B (words_of line)) ∙ ap shown joins;
    }
