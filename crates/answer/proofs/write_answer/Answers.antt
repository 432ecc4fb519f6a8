-- `answer::write_answer` meets its contract: three writes, one behind another.
use native.Mathlib.Omega.{arith}
use Rattle.answer.proofs.WrittenLaws.{wrote_answer}
use Rattle.answer.proofs.write_answer.Goals as goal

pub write_entries-requires : goal.write_entries-requires
write_entries-requires c =
    record { target_fits = omega (arith, c.requires.writable.low); fits = omega (arith, c.requires.writable.few); space = omega (arith, c.requires.writable.space); numbered = c.requires.writable.numbered }

pub write_count-requires : goal.write_count-requires
write_count-requires c = (omega (arith, c.requires.writable.space), omega (arith, c.requires.linkable.string_there.few))

pub first_linking-requires : goal.first_linking-requires
first_linking-requires c =
    let l = c.requires.linkable in
    record { linking_there = record { string_there = l.string_there; room = l.room; right = l.right; space = omega (arith, c.requires.writable.space) }; reduces = l.reduces }

pub returns : goal.returns
returns c =
    wrote_answer c.args.string.now c.args.slots.now c.args.chosen.now c.requires.writable.space c.write_entries.ensures c.write_count.ensures c.first_linking.ensures
