-- `words::read_or_ask` meets its contract: where the chart reaches no target there is no reading, and else the first one is written, where it is wanted.
use native.Mathlib.Omega.{arith}
use Prim.Native.Nat.{ℕ, ◌≤◌}
use mathlib.Core.Path.{refl, sym, ◌∙◌}
use lib.ListN.{length, replicate, length-replicate}
use lib.Seq.{length-take-le}
use Rattle.figures.specs.Limits.{max_nodes}
use Rattle.std.specs.Prelude.{None}
use Rattle.reach.proofs.Reached.{first_end_lem}
use Rattle.words.proofs.AskingLaws.{can_fill, found_charted, answers_none, answers_some}
use Rattle.words.proofs.read_or_ask.Goals as goal

-- There is room for the nodes of the longest graph.
nodes_long : max_nodes ≤ length (replicate {A = ℕ} max_nodes 0)
nodes_long = omega (arith, length-replicate {A = ℕ} max_nodes 0)

pub lay_out-last-requires : goal.lay_out-last-requires
lay_out-last-requires c =
    let p = c.requires.are_found in
    record { words_fit = record { words = p.1; found = p.2.threaded; room = record { nodes = nodes_long; slots = nodes_long } }; targets_len_bound = p.2.few_targets }

pub nodes_with-count-requires : goal.nodes_with-count-requires
nodes_with-count-requires c = (c.lay_out-last.ensures _ c.requires.are_found.2.threaded).few

pub slice_bounds-nodes-end : goal.slice_bounds-nodes-end
slice_bounds-nodes-end c =
    let out = c.lay_out-last.ensures _ c.requires.are_found.2.threaded in
    omega (arith, c.nodes_with-count.ensures, out.few, c.lay_out-last.auto.nodes, nodes_long)

pub slice_bounds-fill-end : goal.slice_bounds-fill-end
slice_bounds-fill-end c =
    let out = c.lay_out-last.ensures _ c.requires.are_found.2.threaded in
    sym (length-take-le _ _ (omega (arith, c.nodes_with-count.ensures, out.few, c.lay_out-last.auto.nodes, nodes_long)))

pub fill-requires : goal.fill-requires
fill-requires c =
    let out = c.lay_out-last.ensures _ c.requires.are_found.2.threaded in
    rw c.nodes_with-count.ensures (can_fill out (omega (arith, c.lay_out-last.auto.nodes, nodes_long)) c.requires.chart_len)

pub first_target-requires : goal.first_target-requires
first_target-requires c =
    let out = c.lay_out-last.ensures _ c.requires.are_found.2.threaded in
    record { room = omega (arith, c.fill.auto.chart, c.requires.chart_len); few = out.few }

pub returns-in_default : goal.returns-in_default
returns-in_default c =
    let room : max_nodes ≤ length c.lay_out-last.new.nodes = omega (arith, c.lay_out-last.auto.nodes, nodes_long) in
    λ le words found.
    let charted = found_charted found (c.lay_out-last.ensures words found.threaded) room c.nodes_with-count.ensures c.fill.ensures (first_end_lem _ _ _ None c.in_default.ensures) in
    rw c.with.ensures (answers_none charted refl c.args.whole c.args.answer.now)

pub slice_bounds-nodes-end-then-whole : goal.slice_bounds-nodes-end-then-whole
slice_bounds-nodes-end-then-whole c =
    let out = c.lay_out-last.ensures _ c.requires.are_found.2.threaded in
    omega (arith, c.nodes_with-count.ensures, out.few, c.lay_out-last.auto.nodes, nodes_long)

pub slice_bounds-write_reading-end : goal.slice_bounds-write_reading-end
slice_bounds-write_reading-end c =
    let out = c.lay_out-last.ensures _ c.requires.are_found.2.threaded in
    sym (length-take-le _ _ (omega (arith, c.nodes_with-count.ensures, out.few, c.lay_out-last.auto.nodes, nodes_long)))

pub write_reading-requires : goal.write_reading-requires
write_reading-requires c =
    let room : max_nodes ≤ length c.lay_out-last.new.nodes = omega (arith, c.lay_out-last.auto.nodes, nodes_long) in
    let found = c.requires.are_found.2 in
    let charted = found_charted found (c.lay_out-last.ensures _ found.threaded) room c.nodes_with-count.ensures c.fill.ensures c.in-Some.ensures.1 in
    record {
      le = c.requires.are_found.0;
      words = c.requires.are_found.1;
      charted = charted;
      target_there = c.in-Some.ensures.0;
      chart_room = c.fill.auto.chart ∙ c.requires.chart_len;
    }

pub returns-then-whole : goal.returns-then-whole
returns-then-whole c =
    let room : max_nodes ≤ length c.lay_out-last.new.nodes = omega (arith, c.lay_out-last.auto.nodes, nodes_long) in
    λ le words found.
    let charted = found_charted found (c.lay_out-last.ensures words found.threaded) room c.nodes_with-count.ensures c.fill.ensures c.in-Some.ensures.1 in
    rw c.if-whole.true (c.write_reading.ensures le words charted)

pub returns : goal.returns
returns c =
    let room : max_nodes ≤ length c.lay_out-last.new.nodes = omega (arith, c.lay_out-last.auto.nodes, nodes_long) in
    λ le words found.
    let charted = found_charted found (c.lay_out-last.ensures words found.threaded) room c.nodes_with-count.ensures c.fill.ensures c.in-Some.ensures.1 in
    rw c.if-whole.false (answers_some charted (c.in-Some.ensures.0) c.args.answer.now)
