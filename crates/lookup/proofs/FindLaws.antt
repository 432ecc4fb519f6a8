-- A word found: its entries threaded one by one from its first on, what was known before kept, and the thread that comes out.
use Prim.Native.Nat.{ℕ, zero, suc, ◌+◌, ◌-◌, ◌≤◌, ◌<◌}
use native.Mathlib.Omega.{arith}
use native.Mathlib.Decide.{ℕ_discrete, dec_lt}
use mathlib.Core.Path.{◌≡◌, refl, sym, ap, subst, ◌∙◌}
use mathlib.Core.Bool.{Bool, true, false, false≢true}
use mathlib.Core.List.{List, map}
use lib.ListN.{length, get_or, set, length-set}
use lib.Seq.{get_or-set_same, get_or-set_other}
use Rattle.figures.specs.Limits.{max_entries}
use Rattle.format.specs.Records.{Bytes}
use Rattle.capitals.specs.Capitals.{same_word}
use Rattle.lookup.specs.Entries.{entries_from}
use Rattle.book.specs.Kept.{entry_from}
use Rattle.bytewise.specs.First.{First}
use Rattle.lookup.specs.Threads.{key, word_kept, OfWord, OfKey, Alike, Knows, Threaded, WordJoined, Found, Finds, Thread, ends, goes}
use Rattle.capitals.proofs.CapitalLaws.{same_symmetric, same_transitive}
use Rattle.lookup.proofs.KeyLaws.{same_key}
use Rattle.lookup.proofs.EntryLaws.{left, left_same, left_other, left_end}

module _ (bytes : Bytes) (entries : List ℕ) (word : Bytes) where
  -- Entries of one word are those of the word of any of them.
  of_entry : (i k : ℕ) → OfWord bytes entries word i → OfWord bytes entries word k → OfWord bytes entries (word_kept bytes entries i) k
  of_entry i k h l = same_transitive (word_kept bytes entries k) word (word_kept bytes entries i) l (same_symmetric (word_kept bytes entries i) word h)

  of_word : (i k : ℕ) → OfWord bytes entries word i → OfWord bytes entries (word_kept bytes entries i) k → OfWord bytes entries word k
  of_word i k h l = same_transitive (word_kept bytes entries k) (word_kept bytes entries i) word l h

  -- On the thread of keys the entry behind one of the word's is the next of the word's key.
  pub next_alike : {alike : List ℕ} {i : ℕ} → Alike bytes entries alike → i < length entries → OfWord bytes entries word i
      → First (OfKey bytes entries (key word)) (i + 1) (length entries) (get_or {A = ℕ} alike i 0)
  next_alike {alike} {i} a h o =
      subst (λ (k : ℕ). First (OfKey bytes entries k) (i + 1) (length entries) (get_or {A = ℕ} alike i 0)) (same_key (word_kept bytes entries i) word o) (a.nexts i (omega arith) h)

  -- How the threading of the word's entries stands at entry i.
  pub record Joining (same₀ same : List ℕ) (i : ℕ) : Type 0 where
    pub done : (j : ℕ) → j < i → j < length entries → OfWord bytes entries word j → Knows bytes entries same j
    pub kept : (j : ℕ) → Knows bytes entries same₀ j → Knows bytes entries same j
    pub others : (j : ℕ) → (OfWord bytes entries word j → ⊥) → get_or {A = ℕ} same j 0 ≡ get_or {A = ℕ} same₀ j 0
    pub own : i < length entries → OfWord bytes entries word i
    pub long : length same ≡ length same₀

  module _ {same₀ same : List ℕ} {i next : ℕ} (j : Joining same₀ same i) (h : i < length entries) (room : i < length same) (f : First (OfWord bytes entries word) (i + 1) (length entries) next) where
    abbrev same' : List ℕ
    same' = set same i next

    here : get_or {A = ℕ} same' i 0 ≡ next
    here = get_or-set_same same i next 0 room

    -- The entry at hand is known now, and all that were known still are.
    known_here : Knows bytes entries same' i
    known_here =
        rw here
        (record {
          forth = f.forth;
          passed = λ k l m b o. f.passed k l m b (of_word i k (j.own h) o);
          stops = λ l. of_entry i next (j.own h) (f.stops l);
        })

    known_still : (k : ℕ) → Knows bytes entries same k → Knows bytes entries same' k
    known_still k t = go (ℕ_discrete k i)
      where
        go : Dec (k ≡ i) → Knows bytes entries same' k
        go (yes e) = rw e known_here
        go (no e) = rw (get_or-set_other same i k next 0 e) t

    pub joining_next : Joining same₀ (set same i next) next
    joining_next =
        record {
          done = λ k l b o. go k l b o (ℕ_discrete k i) (dec_lt k i);
          kept = λ k t. known_still k (j.kept k t);
          others = λ k o. get_or-set_other same i k next 0 (λ e. o (rw e (j.own h))) ∙ j.others k o;
          own = f.stops;
          long = length-set same i next ∙ j.long;
        }
      where
        go : (k : ℕ) → k < next → k < length entries → OfWord bytes entries word k → Dec (k ≡ i) → Dec (k < i) → Knows bytes entries same' k
        go k l b o (yes e) d = rw e known_here
        go k l b o (no e) (yes d) = known_still k (j.done k d b o)
        go k l b o (no e) (no d) = absurd (f.passed k (omega (arith, e, d)) l b o)

  -- The word is found: it has no entry, its entries were threaded before, or they are now.
  module _ {same : List ℕ} {first : ℕ} (low : first ≤ max_entries) (s : Threaded bytes entries same) (f : First (OfWord bytes entries word) 0 (length entries) first) where
    pub finds_none : length entries ≤ first → Finds bytes entries word same same first
    finds_none h =
        record {
          low = low;
          found = record { begins = f; known = λ j l o. absurd (f.passed j (omega arith) (omega arith) l o) };
          threaded = s;
          kept = λ j k. k;
        }

    pub finds_known : first < length entries → (get_or {A = ℕ} same first 0 ≡ 0 → ⊥) → Finds bytes entries word same same first
    finds_known h any =
        record {
          low = low;
          found = record { begins = f; known = λ j l o. s.known first j h (omega (arith, any)) l (of_entry first j (f.stops h) o) };
          threaded = s;
          kept = λ j k. k;
        }

    pub finds_joined : {same' : List ℕ} → length same' ≡ length same → WordJoined bytes entries word same same' → Finds bytes entries word same same' first
    finds_joined {same'} long j =
        record {
          low = low;
          found = record { begins = f; known = j.known };
          threaded = record { room = omega (arith, long, s.room); known = λ i k h m l o. go i k h m l o (same_word (word_kept bytes entries i) word) refl };
          kept = j.kept;
        }
      where
        go : (i k : ℕ) → i < length entries → 0 < get_or {A = ℕ} same' i 0 → k < length entries → OfWord bytes entries (word_kept bytes entries i) k
            → (t : Bool) → same_word (word_kept bytes entries i) word ≡ t → Knows bytes entries same' k
        go i k h m l o true e = j.known k l (of_word i k e o)
        go i k h m l o false e =
            let before = j.others i (λ g. false≢true (sym e ∙ g)) in
            j.kept k (s.known i k h (omega (arith, before)) l o)

  -- The thread of a word that is found has all of its entries.
  module _ (names : List Bytes) where
    other : (k : ℕ) → (OfWord bytes entries word k → ⊥) → same_word (word_kept bytes entries k) word ≡ false
    other k h = go (same_word (word_kept bytes entries k) word) refl
      where
        go : (t : Bool) → same_word (word_kept bytes entries k) word ≡ t → same_word (word_kept bytes entries k) word ≡ false
        go true e = absurd (h e)
        go false e = e

    -- Entries of other words are passed over.
    left_passed : (n a : ℕ) → ((k : ℕ) → a ≤ k → k < a + n → k < length entries → OfWord bytes entries word k → ⊥)
        → left bytes names entries word a ≡ left bytes names entries word (a + n)
    left_passed zero a h = ap (left bytes names entries word) (omega arith)
    left_passed (suc n) a h = one (dec_lt a (length entries)) ∙ left_passed n (a + 1) (λ k l m b o. h k (omega arith) (omega arith) b o) ∙ ap (left bytes names entries word) (omega arith)
      where
        one : Dec (a < length entries) → left bytes names entries word a ≡ left bytes names entries word (a + 1)
        one (yes b) = left_other bytes names entries word a b (other a (h a (omega arith) (omega arith) b))
        one (no b) = left_end bytes names entries word a (omega (arith, b)) ∙ sym (left_end bytes names entries word (a + 1) (omega (arith, b)))

    left_first : {a i : ℕ} → First (OfWord bytes entries word) a (length entries) i → left bytes names entries word a ≡ left bytes names entries word i
    left_first {a} {i} f =
        let e : a + (i - a) ≡ i = omega (arith, f.forth) in
        left_passed (i - a) a (λ k h l b o. f.passed k h (omega (arith, e)) b o) ∙ ap (left bytes names entries word) e

    module _ {same : List ℕ} (known : (j : ℕ) → j < length entries → OfWord bytes entries word j → Knows bytes entries same j) where
      thread_from : (n i : ℕ) → length entries ≤ i + n → (i < length entries → OfWord bytes entries word i) → Thread bytes names entries same i (left bytes names entries word i)
      thread_from zero i h own = rw (left_end bytes names entries word i (omega arith)) (ends {i = i} (omega arith))
      thread_from (suc n) i h own = go (thread_from n (get_or {A = ℕ} same i 0)) (dec_lt i (length entries))
        where
          behind : ℕ
          behind = get_or {A = ℕ} same i 0

          go : (length entries ≤ behind + n → (behind < length entries → OfWord bytes entries word behind) → Thread bytes names entries same behind (left bytes names entries word behind))
              → Dec (i < length entries) → Thread bytes names entries same i (left bytes names entries word i)
          go rest (no b) = rw (left_end bytes names entries word i (omega (arith, b))) (ends {i = i} (omega (arith, b)))
          go rest (yes b) =
              let t = known i b (own b) in
              let next : First (OfWord bytes entries word) (i + 1) (length entries) behind = record { forth = t.forth; passed = λ k l m c o. t.passed k l m c (of_entry i k (own b) o); stops = λ l. of_word i _ (own b) (t.stops l) } in
              rw (left_same bytes names entries word i b (own b), left_first next)
              (goes b (omega (arith, t.forth)) (rest (omega (arith, t.forth)) next.stops))

    pub found_thread : {same : List ℕ} {first : ℕ} → Found bytes entries word same first → Thread bytes names entries same first (entries_from 0 (map (entry_from bytes names) entries) word)
    found_thread {same} {first} f = rw (left_first f.begins) (thread_from f.known (length entries) first (omega arith) f.begins.stops)
