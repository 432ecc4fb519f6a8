-- The look-up, entry by entry: what the rest of the entries gives for a word.
use Prim.Native.Nat.{ℕ, ◌+◌, ◌≤◌, ◌<◌}
use native.Mathlib.Numerals.{add-one}
use native.Mathlib.Omega.{arith}
use mathlib.Core.Path.{◌≡◌, ap, ◌∙◌}
use mathlib.Core.Bool.{Bool, true, false, cond}
use mathlib.Core.List.{List, [], ◌∷◌, map}
use lib.ListN.{length, get_or, take, drop, length-map, get_or-map, drop_of_length-le}
use lib.Seq.{drop-cons, length-take-le, get_or-take}
use Rattle.linking.specs.Reading.{NumberedEntry}
use Rattle.format.specs.Records.{Bytes}
use Rattle.book.specs.Format.{Entry, Book}
use Rattle.book.specs.Kept.{entry_from, Store, Opened}
use Rattle.lookup.specs.Entries.{KeptOf, entry_at, entries_from}
use Rattle.capitals.specs.Capitals.{same_word}

-- An accepted book's entries are kept.
pub opened_kept : {bytes : Bytes} {s : Store} {types count goals : ℕ} {B : Book} → Opened bytes s types count goals B → KeptOf bytes (take count s.entries) B
opened_kept {bytes} {s} {types} {count} {goals} {B} o =
    record {
      lexicon = record {
        kept = record {
          few = omega (arith, as_many, o.few_entries);
          whole = λ i h. rw (here i h) (o.entries_whole.whole i (low i h));
          worded = λ i h. rw (here i h) (o.formed i (low i h)).worded;
        };
        formed = λ i h. rw (o.names, here i h) (o.formed i (low i h));
      };
      all = o.entries;
    }
  where
    as_many : length (take count s.entries) ≡ count
    as_many = length-take-le count s.entries o.entries_whole.room

    low : (i : ℕ) → i < length (take count s.entries) → i < count
    low i h = omega (arith, as_many)

    here : (i : ℕ) → i < length (take count s.entries) → get_or {A = ℕ} (take count s.entries) i 0 ≡ get_or {A = ℕ} s.entries i 0
    here i h = get_or-take count s.entries i 0 (low i h)

module _ (bytes : Bytes) (names : List Bytes) (entries : List ℕ) (word : Bytes) where
  -- The entries from the i-th on.
  abbrev pub left : ℕ → List NumberedEntry
  left i = entries_from i (drop i (map (entry_from bytes names) entries)) word

module _ (bytes : Bytes) (names : List Bytes) (entries : List ℕ) where
  abbrev all : List Entry
  all = map (entry_from bytes names) entries

  -- The i-th entry.
  abbrev entry : ℕ → Entry
  entry i = entry_from bytes names (get_or {A = ℕ} entries i 0)

  module _ (word : Bytes) where
    unfolded : (i : ℕ) → i < length entries → left bytes names entries word i ≡ cond (same_word (entry i).word word) (entry_at bytes names entries i ∷ left bytes names entries word (i + 1)) (left bytes names entries word (i + 1))
    unfolding entries_from
    unfolded i h = rw (drop-cons all i (entry_from bytes names 0) (omega (arith, length-map entries (entry_from bytes names))), get_or-map (entry_from bytes names) entries i 0, add-one i)

    -- The entry is the word's, or another's.
    pub left_same : (i : ℕ) → i < length entries → same_word (entry i).word word ≡ true → left bytes names entries word i ≡ entry_at bytes names entries i ∷ left bytes names entries word (i + 1)
    left_same i h e = unfolded i h ∙ ap (λ (t : Bool). cond t (entry_at bytes names entries i ∷ left bytes names entries word (i + 1)) (left bytes names entries word (i + 1))) e

    pub left_other : (i : ℕ) → i < length entries → same_word (entry i).word word ≡ false → left bytes names entries word i ≡ left bytes names entries word (i + 1)
    left_other i h e = unfolded i h ∙ ap (λ (t : Bool). cond t (entry_at bytes names entries i ∷ left bytes names entries word (i + 1)) (left bytes names entries word (i + 1))) e

    pub left_end : (i : ℕ) → length entries ≤ i → left bytes names entries word i ≡ []
    unfolding entries_from
    left_end i h = rw (drop_of_length-le all {i = i} (omega (arith, length-map entries (entry_from bytes names))))
