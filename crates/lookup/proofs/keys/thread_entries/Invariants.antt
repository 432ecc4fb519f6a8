use Rattle.lookup.specs.Threads.{AlikeFrom}
use Rattle.lookup.proofs.keys.thread_entries.Given as goal

abbrev pub invariant-loop-i : goal.invariant-loop-i
invariant-loop-i l = AlikeFrom l.book l.entries l.alike l.i
