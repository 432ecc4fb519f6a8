-- `answer::write_entries` meets its contract: each turn writes the number of one slot more.
use Rattle.std.proofs.Common.{length, arith, rules}
use Rattle.answer.proofs.ValueLaws.{headed_length, entries_start, entries_next}
use Rattle.answer.proofs.write_entries.Goals as goal

pub loop-i-init : goal.loop-i-init
loop-i-init c = entries_start c.args.t c.args.slots.now c.args.chosen.now c.args.answer.now c.requires.space

pub loop-i-preserved : goal.loop-i-preserved
loop-i-preserved c =
    let l = c.loop-i in
    let a = c.args in
    entries_next a.t a.slots.now a.chosen.now _ l.answer l.i l.invariant c.number_at.result (omega arith) (omega (arith, headed_length a.answer.now a.t (length a.chosen.now))) (search rules)
