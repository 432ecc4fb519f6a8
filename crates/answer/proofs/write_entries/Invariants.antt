use Rattle.answer.proofs.ValueLaws.{EntriesWritten}
use Rattle.answer.proofs.write_entries.Given as goal

abbrev pub invariant-loop-i : goal.invariant-loop-i
invariant-loop-i l = EntriesWritten l.t l.slots l.chosen l.initial.answer l.answer l.i
