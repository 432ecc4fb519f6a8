-- `batch_parts::read_parts` meets its contract: the lines passed have their parts in the store, and there is room for those ahead.
use native.Mathlib.Omega.{arith}
use Prim.Native.Nat.{◌+◌, ◌-◌, ◌≤◌}
use mathlib.Core.Path.{refl, ◌∙◌}
use lib.ListN.{length, drop, length-take, length-drop}
use Rattle.figures.specs.Limits.{max_part}
use Rattle.batch_parts.proofs.StoreLaws.{reading_starts, part_room, reading_turns, reading_ends}
use Rattle.batch_parts.proofs.read_parts.Goals as goal

pub loop-at-init : goal.loop-at-init
loop-at-init c =
    (refl, refl, refl, c.requires.fact.1, reading_starts c.args.book.bytes.now c.args.batch.now c.args.store.now c.requires.readying)

pub slice_bounds-read_part-count : goal.slice_bounds-read_part-count
slice_bounds-read_part-count c = omega (arith, c.loop-at.invariant.4.room)

pub slice_bounds-read_part-start : goal.slice_bounds-read_part-start
slice_bounds-read_part-start c = omega (arith, c.loop-at.invariant.4.room)

pub read_part-used-requires : goal.read_part-used-requires
read_part-used-requires c =
    let room : c.loop-at.used + max_part ≤ length c.loop-at.store = part_room c.args.book.bytes.now c.args.batch.now _ _ _ _ c.loop-at-test.true c.loop-at.invariant.4 c.find_byte-end.ensures in
    let loop = c.loop-at in
    let batch = c.args.batch.now in
    let end = c.find_byte-end.result in
    record { fact = (c.requires.fact.0, loop.invariant.3); chart_len = loop.invariant.1 ∙ c.requires.chart_len; line_len_bound = (omega (arith, length-take (end - loop.at) (drop loop.at batch), length-drop loop.at batch, c.requires.readying.short), omega (arith, room, length-take (length loop.store - loop.used) (drop loop.used loop.store), length-drop loop.used loop.store)) }

pub overflow_add-used : goal.overflow_add-used
overflow_add-used c =
    let room : c.loop-at.used + max_part ≤ length c.loop-at.store = part_room c.args.book.bytes.now c.args.batch.now _ _ _ _ c.loop-at-test.true c.loop-at.invariant.4 c.find_byte-end.ensures in
    omega (arith, c.read_part-used.ensures.put.counted, c.read_part-used.ensures.put.short, room, c.loop-at.invariant.2)

pub overflow_add-at : goal.overflow_add-at
overflow_add-at c = omega (arith, c.find_byte-end.ensures.0, c.requires.readying.short)

pub loop-at-preserved : goal.loop-at-preserved
loop-at-preserved c =
    let loop = c.loop-at in
    (omega arith, omega arith, omega arith, c.read_part-used.ensures.threaded, reading_turns c.args.book.bytes.now c.args.batch.now loop.store loop.at loop.used c.find_byte-end.result c.loop-at-test.true loop.invariant.4 c.find_byte-end.ensures c.read_part-used.result _ _ c.read_part-used.ensures.put (omega arith))

pub shape_of-same : goal.shape_of-same
shape_of-same c = c.loop-at.invariant.0

pub shape_of-chart : goal.shape_of-chart
shape_of-chart c = c.loop-at.invariant.1

pub shape_of-store : goal.shape_of-store
shape_of-store c = c.loop-at.invariant.2

pub returns : goal.returns
returns c =
    let loop = c.loop-at in
    reading_ends c.args.book.bytes.now c.args.batch.now loop.store loop.at loop.used (omega arith) loop.invariant.4
