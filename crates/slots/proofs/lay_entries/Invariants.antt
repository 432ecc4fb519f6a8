use mathlib.Core.Path.{◌≡◌}
use mathlib.Core.List.{List}
use Rattle.linking.specs.Reading.{NumberedEntry}
use Rattle.format.specs.Records.{bodies_at}
use Rattle.lookup.specs.Threads.{Thread}
use Rattle.graph.specs.Graph.{graph}
use Rattle.slots.proofs.EntryLaws.{Entering}
use Rattle.slots.proofs.lay_entries.Given as goal

abbrev pub invariant-loop-i : goal.invariant-loop-i
invariant-loop-i l = record {
  goes : (goal.iterator-loop-i).can_next l.i-iterator;
  entries : l.i-iterator.entries.now ≡ l.entries;
  nexts : l.i-iterator.nexts.now ≡ l.same;
  entering : (es : List NumberedEntry) → Thread l.book (bodies_at l.book l.names l.types) l.entries l.same l.first es
      → Entering l.book l.names l.types l.entries l.same l.boundary l.initial.place (graph l.initial.nodes l.initial.slots) es l.place (graph l.nodes l.slots) l.i-iterator.at;
}
