-- Keys of words, and the threads of entries that are alike by them: how they are made from the last entry to the first, and how a word is sought on
-- one.
use Prim.Native.Nat.{ℕ, zero, suc, ◌+◌, ◌-◌, ◌≤◌, ◌<◌}
use native.Mathlib.Omega.{arith}
use native.Mathlib.Decide.{ℕ_discrete, dec_lt}
use mathlib.Core.Path.{◌≡◌, sym, ap, ◌∙◌}
use mathlib.Core.Bool.{Bool, true, false, false≢true}
use mathlib.Core.List.{List}
use lib.ListN.{length, get_or, set, drop, length-set, length-drop}
use lib.Seq.{get_or-set_same, get_or-set_other, length-take-le}
use Rattle.figures.specs.Limits.{max_entries, max_word}
use Rattle.format.specs.Records.{Bytes, body_at}
use Rattle.rules.specs.Layouts.{word_length}
use Rattle.rules.proofs.Layouts.{word_shape}
use Rattle.capitals.specs.Capitals.{same_word}
use Rattle.lookup.specs.Entries.{Entries}
use Rattle.bytewise.specs.First.{First}
use Rattle.lookup.specs.Threads.{keys, key, word_kept, OfWord, OfKey, AlikeFrom, Alike}
use Rattle.lookup.specs.Walks.{Rises, stops, climbs}
use Rattle.capitals.proofs.CapitalLaws.{same_exactly, same_length}
use Rattle.capitals.proofs.LetterLaws.{letter_of}

-- Words that are the same have the same key.
pub same_key : (a b : Bytes) → same_word a b ≡ true → key a ≡ key b
unfolding key
same_key a b h =
    let e = (same_exactly a b).0 h in
    rw (same_length a b e, letter_of a b e 0, letter_of a b e (length b - 1))

pub key_below : (word : Bytes) → key word < keys
unfolding key
key_below word = omega arith

-- The word of a kept entry has 1 to 31 bytes.
pub kept_range : {bytes : Bytes} {entries : List ℕ} → Entries bytes entries → (i : ℕ) → i < length entries
    → (1 ≤ length (word_kept bytes entries i)) × (length (word_kept bytes entries i) ≤ max_word)
kept_range {bytes} {entries} kept i h =
    let body = body_at bytes (get_or {A = ℕ} entries i 0) in
    let shape = word_shape body (kept.worded i h) in
    let long = length-take-le (word_length body) (drop 1 body) (omega (arith, length-drop 1 body, shape.fits)) in
    (omega (arith, long, shape.range.0), omega (arith, long, shape.range.1))

-- Entries threaded from the last to the first.
module _ (bytes : Bytes) (entries : List ℕ) where
  module _ (alike : List ℕ) (i j k : ℕ) (t : AlikeFrom bytes entries alike i) (next : j + 1 ≡ i) (inside : j < length entries) (few : length entries ≤ max_entries) (own : k ≡ key (word_kept bytes entries j)) where
    abbrev head : ℕ
    head = max_entries + k

    abbrev behind : ℕ
    behind = get_or {A = ℕ} alike head 0

    abbrev linked : List ℕ
    linked = set alike j behind

    abbrev alike' : List ℕ
    alike' = set linked head j

    low_key : k < keys
    low_key = omega (arith, own, key_below (word_kept bytes entries j))

    at_head : get_or {A = ℕ} alike' head 0 ≡ j
    at_head = get_or-set_same linked head j 0 (omega (arith, low_key, t.room, length-set alike j behind))

    at_entry : get_or {A = ℕ} alike' j 0 ≡ behind
    at_entry = get_or-set_other linked head j j 0 (omega arith) ∙ get_or-set_same alike j behind 0 (omega (arith, t.room))

    elsewhere : (p : ℕ) → (p ≡ head → ⊥) → (p ≡ j → ⊥) → get_or {A = ℕ} alike' p 0 ≡ get_or {A = ℕ} alike p 0
    elsewhere p h e = get_or-set_other linked head p j 0 h ∙ get_or-set_other alike j p behind 0 e

    low' : (p : ℕ) → p < max_entries + keys → get_or {A = ℕ} alike' p 0 ≤ max_entries
    low' p h = go (ℕ_discrete p head) (ℕ_discrete p j)
      where
        go : Dec (p ≡ head) → Dec (p ≡ j) → get_or {A = ℕ} alike' p 0 ≤ max_entries
        go (yes e) d = rw (e, at_head) (omega arith)
        go (no e) (yes f) = rw (f, at_entry) (t.low head (omega (arith, low_key)))
        go (no e) (no f) = rw (elsewhere p e f) (t.low p h)

    heads' : (c : ℕ) → c < keys → First (OfKey bytes entries c) j (length entries) (get_or {A = ℕ} alike' (max_entries + c) 0)
    heads' c h = go (ℕ_discrete c k)
      where
        go : Dec (c ≡ k) → First (OfKey bytes entries c) j (length entries) (get_or {A = ℕ} alike' (max_entries + c) 0)
        go (yes e) =
            let place : get_or {A = ℕ} alike' (max_entries + c) 0 ≡ j = rw e at_head in
            rw place (record { forth = omega arith; passed = λ p l m b o. omega arith; stops = λ l. sym own ∙ sym e })
        go (no e) =
            let old = t.heads c h in
            rw (elsewhere (max_entries + c) (omega (arith, e)) (omega arith))
            (record {
              forth = omega (arith, old.forth);
              passed = λ p l m b o. other p l m b o (ℕ_discrete p j);
              stops = old.stops;
            })
          where
            other : (p : ℕ) → j ≤ p → p < get_or {A = ℕ} alike (max_entries + c) 0 → p < length entries → OfKey bytes entries c p → Dec (p ≡ j) → ⊥
            other p l m b o (yes f) = e (sym o ∙ ap (λ (q : ℕ). key (word_kept bytes entries q)) f ∙ sym own)
            other p l m b o (no f) = (t.heads c h).passed p (omega (arith, f)) m b o

    nexts' : (p : ℕ) → j ≤ p → p < length entries → First (OfKey bytes entries (key (word_kept bytes entries p))) (p + 1) (length entries) (get_or {A = ℕ} alike' p 0)
    nexts' p h l = go (ℕ_discrete p j)
      where
        go : Dec (p ≡ j) → First (OfKey bytes entries (key (word_kept bytes entries p))) (p + 1) (length entries) (get_or {A = ℕ} alike' p 0)
        go (yes e) = rw (e, next, sym own, at_entry) (t.heads k low_key)
        go (no e) = rw (elsewhere p (omega arith) e) (t.nexts p (omega (arith, e)) l)

    pub alike_next : AlikeFrom bytes entries (set (set alike j (get_or {A = ℕ} alike (max_entries + k) 0)) (max_entries + k) j) j
    alike_next = record { room = length-set linked head j ∙ length-set alike j behind ∙ t.room; low = low'; heads = heads'; nexts = nexts' }

-- The threads of keys rise.
alike_climbs : {bytes : Bytes} {entries alike : List ℕ} → Alike bytes entries alike → (n i : ℕ) → length entries ≤ i + n → Rises alike (length entries) i
alike_climbs a zero i h = stops (omega arith)
alike_climbs {bytes} {entries} {alike} a (suc n) i h = go (dec_lt i (length entries)) (alike_climbs a n (get_or {A = ℕ} alike i 0))
  where
    go : Dec (i < length entries) → (length entries ≤ get_or {A = ℕ} alike i 0 + n → Rises alike (length entries) (get_or {A = ℕ} alike i 0))
        → Rises alike (length entries) i
    go (yes l) rest = let up = (a.nexts i (omega arith) l).forth in climbs l (omega (arith, up)) (rest (omega (arith, up)))
    go (no l) rest = stops (omega (arith, l))

pub alike_rises : {bytes : Bytes} {entries alike : List ℕ} → Alike bytes entries alike → (i : ℕ) → Rises alike (length entries) i
alike_rises {bytes} {entries} a i = alike_climbs a (length entries) i (omega arith)

-- A word sought on the thread of its key.
module _ (bytes : Bytes) (entries : List ℕ) (word : Bytes) where
  -- How the search stands at entry i: none passed is the word's, and this one has the word's key.
  pub record Seeking (from i : ℕ) : Type 0 where
    pub forth : from ≤ i
    pub passed : (k : ℕ) → from ≤ k → k < i → k < length entries → OfWord bytes entries word k → ⊥
    pub own : i < length entries → OfKey bytes entries (key word) i

  word_key : (i : ℕ) → OfWord bytes entries word i → OfKey bytes entries (key word) i
  word_key i = same_key (word_kept bytes entries i) word

  pub seeking_start : {from i : ℕ} → First (OfKey bytes entries (key word)) from (length entries) i → Seeking from i
  seeking_start f = record { forth = f.forth; passed = λ k h l m o. f.passed k h l m (word_key k o); own = f.stops }

  pub seeking_found : {from i : ℕ} {t : Bool} → Seeking from i → t ≡ same_word (word_kept bytes entries i) word → t ≡ true → First (OfWord bytes entries word) from (length entries) i
  seeking_found s says e = record { forth = s.forth; passed = s.passed; stops = λ h. sym says ∙ e }

  pub seeking_end : {from i : ℕ} → Seeking from i → length entries ≤ i → length entries ≤ max_entries → from ≤ max_entries
      → First (OfWord bytes entries word) from (length entries) max_entries
  seeking_end s h few low =
      record { forth = low; passed = λ k l m b. s.passed k l (omega arith) b; stops = λ l. absurd (omega arith) }

  pub seeking_next : {alike : List ℕ} {from i : ℕ} {t : Bool} → Alike bytes entries alike → Seeking from i → i < length entries
      → t ≡ same_word (word_kept bytes entries i) word → t ≡ false → Seeking from (get_or {A = ℕ} alike i 0)
  seeking_next {alike} {from} {i} a s h says e =
      record {
        forth = omega (arith, s.forth, next.forth);
        passed = λ k l m b o. go k l m b o (ℕ_discrete k i) (s.passed k l);
        own = λ l. next.stops l ∙ s.own h;
      }
    where
      next : First (OfKey bytes entries (key (word_kept bytes entries i))) (i + 1) (length entries) (get_or {A = ℕ} alike i 0)
      next = a.nexts i (omega arith) h

      go : (k : ℕ) → from ≤ k → k < get_or {A = ℕ} alike i 0 → k < length entries → OfWord bytes entries word k → Dec (k ≡ i) → (k < i → k < length entries → OfWord bytes entries word k → ⊥) → ⊥
      go k l m b o (yes f) before = false≢true (sym e ∙ says ∙ rw f at o)
      go k l m b o (no f) before = ahead (dec_lt k i)
        where
          ahead : Dec (k < i) → ⊥
          ahead (yes g) = before g b o
          ahead (no g) = next.passed k (omega (arith, f, g)) m b (word_key k o ∙ sym (s.own h))
