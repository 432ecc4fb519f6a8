-- The layouts of a word and of an entry.
use Prim.Native.Nat.{◌*◌, ◌%◌, ◌≤◌, ◌<◌}
use mathlib.Core.Path.{◌≡◌}
use mathlib.Core.Bool.{Bool, true}
use lib.ListN.{length}
use borrow.Author.Tests.{lt-ltb, leb-true, ltb-true, eqb-true}
use Rattle.figures.specs.Limits.{max_word, max_entry_simples}
use Rattle.format.specs.Records.{Bytes, every, between}
use Rattle.rules.specs.Layouts.{word_length, word_of, type_part, is_worded, is_entry}
use Rattle.format.proofs.Bools.{inside, both}

-- A body whose length byte is in range is decided by its word.
module _ (body : Bytes) (range : (1 ≤ word_length body) × (word_length body ≤ max_word)) where
  pub worded_end : word_length body < length body → (t : Bool) → t ≡ every (between 33 126) (word_of body) → t ≡ is_worded body
  unfolding is_worded
  worded_end fits t word = rw (inside 1 max_word (word_length body) range, lt-ltb (word_length body) (length body) fits) word

-- What it says that a body has a word in front.
pub record WordShape (body : Bytes) : Type 0 where
  pub range : (1 ≤ word_length body) × (word_length body ≤ max_word)
  pub fits : word_length body < length body
  pub word : every (between 33 126) (word_of body) ≡ true

pub word_shape : (body : Bytes) → is_worded body ≡ true → WordShape body
unfolding is_worded
word_shape body h =
    let a = both _ _ h in
    let b = both _ _ a.0 in
    let r = both _ _ b.0 in
    record { range = (leb-true _ _ r.0, leb-true _ _ r.1); fits = ltb-true _ _ b.1; word = a.1 }

-- What the layout of an entry with simple types says.
pub record EntryShape (body : Bytes) : Type 0 where
  pub worded : is_worded body ≡ true
  pub pairs : length (type_part body) % 2 ≡ 0
  pub short : length (type_part body) ≤ 2 * max_entry_simples

pub entry_shape : (body : Bytes) → is_entry body ≡ true → EntryShape body
unfolding is_entry
entry_shape body h =
    let a = both _ _ h in
    let b = both _ _ a.0 in
    record { worded = b.0; pairs = eqb-true _ _ b.1; short = leb-true _ _ a.1 }

pub entry_worded : (body : Bytes) → is_entry body ≡ true → is_worded body ≡ true
entry_worded body h = (entry_shape body h).worded

pub entry_pairs : (body : Bytes) → is_entry body ≡ true → (length (type_part body) % 2 ≡ 0) × (length (type_part body) ≤ 2 * max_entry_simples)
entry_pairs body h =
    let s = entry_shape body h in
    (s.pairs, s.short)
