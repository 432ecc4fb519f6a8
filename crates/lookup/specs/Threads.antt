-- How the entries that are kept of a book are threaded, by their numbers alone: those of one key, for the search, and those of one word, for
-- what goes over a word's entries. A thread goes up, and ends with a number that no entry has.
use Rattle.std.specs.Prelude.{ℕ, ◌+◌, ◌*◌, ◌-◌, ◌%◌, ◌≤◌, ◌<◌, ◌≡◌, true, List, [], ◌∷◌, length, get_or}
use Rattle.figures.specs.Limits.{max_entries, max_entry_simples}
use Rattle.linking.specs.Reading.{NumberedEntry, Words}
use Rattle.format.specs.Records.{Bytes, body_at}
use Rattle.rules.specs.Layouts.{word_of}
use Rattle.capitals.specs.Capitals.{small, same_word}
use Rattle.bytewise.specs.First.{First}
use Rattle.lookup.specs.Entries.{entry_at, simples_in}

-- How many keys there are.
abbrev pub keys : ℕ
keys = 256

-- The key of a word: its length, its first and its last letter, in small letters, mixed to a number below `keys`.
unfoldable pub key : Bytes → ℕ
key word = (length word + 7 * small (get_or {A = ℕ} word 0 0) + 37 * small (get_or {A = ℕ} word (length word - 1) 0)) % keys

-- The word of a kept entry, and whether it is a given word or has a given key.
abbrev pub word_kept : Bytes → List ℕ → ℕ → Bytes
word_kept bytes entries i = word_of (body_at bytes (get_or {A = ℕ} entries i 0))

abbrev pub OfWord : Bytes → List ℕ → Bytes → ℕ → Type 0
OfWord bytes entries word i = same_word (word_kept bytes entries i) word ≡ true

abbrev pub OfKey : Bytes → List ℕ → ℕ → ℕ → Type 0
OfKey bytes entries k i = key (word_kept bytes entries i) ≡ k

-- Entries from number i on are threaded by their keys: behind the places of entries `alike` has the first of each key, and at each of these
-- entries' places the next of its key.
pub record AlikeFrom (bytes : Bytes) (entries alike : List ℕ) (i : ℕ) : Type 0 where
  pub room : length alike ≡ max_entries + keys
  pub low : (k : ℕ) → k < max_entries + keys → get_or {A = ℕ} alike k 0 ≤ max_entries
  pub heads : (k : ℕ) → k < keys → First (OfKey bytes entries k) i (length entries) (get_or {A = ℕ} alike (max_entries + k) 0)
  pub nexts : (j : ℕ) → i ≤ j → j < length entries → First (OfKey bytes entries (key (word_kept bytes entries j))) (j + 1) (length entries) (get_or {A = ℕ} alike j 0)

-- All are.
abbrev pub Alike : Bytes → List ℕ → List ℕ → Type 0
Alike bytes entries alike = AlikeFrom bytes entries alike 0

-- No entry is threaded yet.
pub record NoneAlike (alike : List ℕ) : Type 0 where
  pub room : length alike ≡ max_entries + keys
  pub none : (k : ℕ) → k < max_entries + keys → get_or {A = ℕ} alike k 0 ≡ max_entries

-- At the place of an entry `same` has the next entry of its word.
abbrev pub Knows : Bytes → List ℕ → List ℕ → ℕ → Type 0
Knows bytes entries same i = First (OfWord bytes entries (word_kept bytes entries i)) (i + 1) (length entries) (get_or {A = ℕ} same i 0)

-- It does so for all entries of a word, or has 0 at all of them.
pub record Threaded (bytes : Bytes) (entries same : List ℕ) : Type 0 where
  pub room : length entries ≤ length same
  pub known : (i j : ℕ) → i < length entries → 0 < get_or {A = ℕ} same i 0 → j < length entries → OfWord bytes entries (word_kept bytes entries i) j → Knows bytes entries same j

-- The entries of a word are threaded: `same` becomes `same'`, which has the next entry of every one of them, and what was known stays.
pub record WordJoined (bytes : Bytes) (entries : List ℕ) (word : Bytes) (same same' : List ℕ) : Type 0 where
  pub known : (j : ℕ) → j < length entries → OfWord bytes entries word j → Knows bytes entries same' j
  pub kept : (j : ℕ) → Knows bytes entries same j → Knows bytes entries same' j
  pub others : (j : ℕ) → (OfWord bytes entries word j → ⊥) → get_or {A = ℕ} same' j 0 ≡ get_or {A = ℕ} same j 0

-- A word is found: this is its first entry, and all of its entries are threaded.
pub record Found (bytes : Bytes) (entries : List ℕ) (word : Bytes) (same : List ℕ) (first : ℕ) : Type 0 where
  pub begins : First (OfWord bytes entries word) 0 (length entries) first
  pub known : (j : ℕ) → j < length entries → OfWord bytes entries word j → Knows bytes entries same j

-- It is found, and what was known stays.
pub record Finds (bytes : Bytes) (entries : List ℕ) (word : Bytes) (same same' : List ℕ) (first : ℕ) : Type 0 where
  pub low : first ≤ max_entries
  pub found : Found bytes entries word same' first
  pub threaded : Threaded bytes entries same'
  pub kept : (j : ℕ) → Knows bytes entries same j → Knows bytes entries same' j

-- A thread of entries: from each of them `same` leads to the next.
pub data Thread (bytes : Bytes) (names : List Bytes) (entries same : List ℕ) : ℕ → List NumberedEntry → Type 0 where
  ends : {i : ℕ} → length entries ≤ i → Thread bytes names entries same i []
  goes : {i : ℕ} {es : List NumberedEntry} → i < length entries → i < get_or {A = ℕ} same i 0
      → Thread bytes names entries same (get_or {A = ℕ} same i 0) es → Thread bytes names entries same i (entry_at bytes names entries i ∷ es)

-- Words by the first entry of each, from the k-th on.
pub data Threads (bytes : Bytes) (names : List Bytes) (entries same firsts : List ℕ) : ℕ → Words → Type 0 where
  none : {k : ℕ} → Threads bytes names entries same firsts k []
  word : {k : ℕ} {es : List NumberedEntry} {words : Words} → Thread bytes names entries same (get_or {A = ℕ} firsts k 0) es
      → Threads bytes names entries same firsts (k + 1) words → Threads bytes names entries same firsts k (es ∷ words)

-- The number of simple types of a thread's entries: no more than an entry may have, for each of a full book.
pub record Tallied (es : List NumberedEntry) (sum : ℕ) : Type 0 where
  pub total : sum ≡ simples_in es
  pub small : sum ≤ max_entries * max_entry_simples
