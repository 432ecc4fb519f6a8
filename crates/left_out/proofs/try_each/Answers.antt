-- `left_out::try_each` meets its contract: before each turn the words from some word on have been left out one by one, and the number tells of them.
use Rattle.std.proofs.Common.{◌≡◌, ◌-◌, set, ◌∙◌, arith}
use Rattle.left_out.proofs.TryLaws.{LeftOut, leaving_starts, leaving_next, flag_bit, found_without, way_starts, way_fits, way_next}
use Rattle.left_out.proofs.WayLaws.{bit_of_small}
use Rattle.left_out.specs.LeftOut.{bit_of}
use Rattle.left_out.proofs.try_each.Goals as goal
use Rattle.left_out.proofs.try_each.Goals.{After-swap, After-from}

-- The next word is left out in the place of the one before.
next : (c : After-swap) → LeftOut c.args.firsts.now (set c.loop-k.firsts (c.loop-k.k - 1) c.swap.new.x) c.swap.new.y (c.loop-k.k - 1)
next c = rw (c.swap.ensures.x_after, c.swap.ensures.y_after) (leaving_next c.loop-k.invariant.leaving (omega arith))

-- The bit of a word.
told : (c : After-from) → c.from.result ≡ bit_of c.has_reading-reads.result
told c = c.from.ensures ∙ flag_bit _

pub loop-k-init : goal.loop-k-init
loop-k-init c = record { leaving = leaving_starts _; told = way_starts }

pub has_reading-reads-requires-clause-are_found : goal.has_reading-reads-requires-clause-are_found
has_reading-reads-requires-clause-are_found c =
    (_, _, found_without c.requires.are_found.2 (next (goal.at.has_reading-reads-requires-clause-are_found c).After-swap) (omega arith))

pub overflow_mul-number : goal.overflow_mul-number
overflow_mul-number c = omega (arith, way_fits c.requires.are_found.2 c.loop-k.invariant.told (omega arith))

pub overflow_add-number : goal.overflow_add-number
overflow_add-number c =
    omega (arith, way_fits c.requires.are_found.2 c.loop-k.invariant.told (omega arith), told (goal.at.overflow_add-number c).After-from, bit_of_small c.has_reading-reads.result)

pub loop-k-preserved : goal.loop-k-preserved
loop-k-preserved c = record {
  leaving = next (goal.at.loop-k-preserved c).After-swap;
  told = way_next (next (goal.at.loop-k-preserved c).After-swap) (omega arith) (omega arith) c.loop-k.invariant.told c.has_reading-reads.ensures (told (goal.at.loop-k-preserved c).After-from);
}
