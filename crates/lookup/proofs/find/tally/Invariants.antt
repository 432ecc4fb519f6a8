use mathlib.Core.Path.{◌≡◌}
use mathlib.Core.List.{List}
use Rattle.linking.specs.Reading.{NumberedEntry}
use Rattle.format.specs.Records.{Bytes}
use Rattle.lookup.specs.Entries.{Lexicon}
use Rattle.lookup.specs.Threads.{Thread}
use Rattle.lookup.proofs.ThreadLaws.{Tallying}
use Rattle.lookup.proofs.find.tally.Given as goal

abbrev pub invariant-loop-at : goal.invariant-loop-at
invariant-loop-at l = record {
  goes : (goal.iterator-loop-at).can_next l.at-iterator;
  entries : l.at-iterator.entries.now ≡ l.entries;
  nexts : l.at-iterator.nexts.now ≡ l.same;
  tallying : (names : List Bytes) (es : List NumberedEntry) → Lexicon l.book names l.entries → Thread l.book names l.entries l.same l.first es → Tallying l.book names l.entries l.same es l.sum l.at-iterator.at;
}
