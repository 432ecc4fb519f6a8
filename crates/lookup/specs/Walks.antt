-- Walks along a thread of entries.
use Rattle.std.specs.Prelude.{ℕ, ◌≡◌, ◌≤◌, ◌<◌, List, length, get_or}
use Rattle.lookup.specs.declared.walk.Walk.{Walk}

-- From a number on each leads to a higher one, up to one that is not below the count.
pub data Rises (nexts : List ℕ) (count : ℕ) : ℕ → Type 0 where
  stops : {i : ℕ} → count ≤ i → Rises nexts count i
  climbs : {i : ℕ} → i < count → i < get_or {A = ℕ} nexts i 0 → Rises nexts count (get_or {A = ℕ} nexts i 0) → Rises nexts count i

-- A walk stands at an entry: it gives the entry's number and offset, and goes on from the next one.
pub record Strides (w v : Walk) (number offset : ℕ) : Type 0 where
  pub at_hand : number ≡ w.at
  pub inside : w.at < length w.entries.now
  pub read : offset ≡ get_or {A = ℕ} w.entries.now w.at 0
  pub forth : w.at < v.at
  pub next : v.at ≡ get_or {A = ℕ} w.nexts.now w.at 0
  pub nexts : v.nexts ≡ w.nexts
  pub entries : v.entries ≡ w.entries
