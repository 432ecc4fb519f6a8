use Prim.Native.Nat.{ℕ}
use mathlib.Core.Path.{◌≡◌}
use lib.ListN.{length}
use Rattle.bytewise.specs.First.{First}
use Rattle.lookup.specs.Threads.{key, OfKey}
use Rattle.lookup.proofs.KeyLaws.{Seeking}
use Rattle.lookup.proofs.find.seek.Given as goal

abbrev pub invariant-loop-i : goal.invariant-loop-i
invariant-loop-i l = record {
  goes : (goal.iterator-loop-i).can_next l.i-iterator;
  entries : l.i-iterator.entries.now ≡ l.entries;
  nexts : l.i-iterator.nexts.now ≡ l.alike;
  seeking : (a : ℕ) → First (OfKey l.book l.entries (key l.word)) a (length l.entries) l.from → Seeking l.book l.entries l.word a l.i-iterator.at;
}
