-- Going along a thread of entries: the entry at hand and the rest, and the simple types that are tallied on the way.
use Prim.Native.Nat.{ℕ, ◌+◌, ◌*◌, ◌≤◌, ◌<◌}
use native.Mathlib.Omega.{arith}
use mathlib.Core.Path.{◌≡◌, refl, ap, ◌∙◌}
use mathlib.Core.List.{List, [], ◌∷◌}
use lib.ListN.{length, get_or}
use Rattle.figures.specs.Limits.{max_entries, max_entry_simples}
use Rattle.linking.specs.Reading.{NumberedEntry, Words}
use Rattle.format.specs.Records.{Bytes}
use Rattle.lookup.specs.Entries.{Lexicon, entry_at, simples_in, simples_of_words}
use Rattle.lookup.specs.Threads.{Thread, ends, goes, Tallied}
use Rattle.lookup.specs.Walks.{Rises, stops, climbs}

pub simples_more : (e : NumberedEntry) (es : List NumberedEntry) → simples_in (e ∷ es) ≡ length e.type + simples_in es
unfolding simples_in
simples_more e es = refl

simples_none : simples_in [] ≡ 0
unfolding simples_in
simples_none = refl

pub simples_cons : (es : List NumberedEntry) (words : Words) → simples_of_words (es ∷ words) ≡ simples_in es + simples_of_words words
unfolding simples_of_words
simples_cons es words = refl

module _ (bytes : Bytes) (names : List Bytes) (entries same : List ℕ) where
  -- A thread at an entry: it leads on to the rest.
  pub record Leads (i : ℕ) (es : List NumberedEntry) : Type 0 where
    pub rest : List NumberedEntry
    pub forth : i < get_or {A = ℕ} same i 0
    pub is : es ≡ entry_at bytes names entries i ∷ rest
    pub ahead : Thread bytes names entries same (get_or {A = ℕ} same i 0) rest

  -- How the tally of a thread stands at entry i.
  pub record Tallying (es : List NumberedEntry) (sum i : ℕ) : Type 0 where
    pub rest : List NumberedEntry
    pub ahead : Thread bytes names entries same i rest
    pub total : simples_in es ≡ sum + simples_in rest
    pub low : sum ≤ max_entry_simples * i
    pub small : sum ≤ max_entries * max_entry_simples

module _ {bytes : Bytes} {names : List Bytes} {entries same : List ℕ} where
  pub thread_next : {i : ℕ} {es : List NumberedEntry} → Thread bytes names entries same i es → i < length entries → Leads bytes names entries same i es
  thread_next (ends h) l = absurd (omega arith)
  thread_next (goes {i} {es} h f t) l = record { rest = es; forth = f; is = refl; ahead = t }

  pub thread_end : {i : ℕ} {es : List NumberedEntry} → Thread bytes names entries same i es → length entries ≤ i → es ≡ []
  thread_end (ends h) l = refl
  thread_end (goes h f t) l = absurd (omega arith)

  pub tally_next : {es : List NumberedEntry} {sum i n : ℕ} → Lexicon bytes names entries → Tallying bytes names entries same es sum i → i < length entries
      → n ≡ length (entry_at bytes names entries i).type → Tallying bytes names entries same es (sum + n) (get_or {A = ℕ} same i 0)
  tally_next {es} {sum} {i} {n} kept t h e =
      let short = (kept.formed i h).short in
      let l = thread_next t.ahead h in
      let more = ap simples_in l.is ∙ simples_more (entry_at bytes names entries i) l.rest in
      record {
        rest = l.rest;
        ahead = l.ahead;
        total = omega (arith, t.total, more);
        low = omega (arith, t.low, l.forth);
        small = omega (arith, t.low, h, kept.kept.few);
      }

  pub tally_end : {es : List NumberedEntry} {sum i : ℕ} → Tallying bytes names entries same es sum i → length entries ≤ i → Tallied es sum
  tally_end t h = record { total = omega (arith, t.total, ap simples_in (thread_end t.ahead h), simples_none); small = t.small }

-- A thread of entries rises.
pub thread_rises : {bytes : Bytes} {names : List Bytes} {entries same : List ℕ} {i : ℕ} {es : List NumberedEntry} → Thread bytes names entries same i es → Rises same (length entries) i
thread_rises (ends h) = stops h
thread_rises (goes h f t) = climbs h f (thread_rises t)
