-- `choice::choose` meets its contract: each turn picks a slot at a boundary, or a simple type within an entry.
use native.Mathlib.Omega.{arith}
use mathlib.Core.Path.{refl, sym, ◌∙◌}
use lib.ListN.{get_or, length-set}
use Rattle.graph.proofs.PartLaws.{to_small}
use Rattle.choice.proofs.Choosing.{roomy_same, start_choosing, searchable, found_by_search, entered_turn, place_left, growable, picked_by, chose}
use Rattle.choice.proofs.choose.Goals as goal

pub loop-u-init : goal.loop-u-init
loop-u-init c = record {
  now = start_choosing c.requires.choosable _ _ _ _ c.start.ensures;
  roomy = roomy_same c.requires.roomy (record { places = refl; words = refl; table_rows = c.start.auto.table; needs_rows = c.start.auto.needs });
}

pub first_slot-slot-requires : goal.first_slot-slot-requires
first_slot-slot-requires c =
    let i = c.loop-u.invariant in
    rw (c.from_at.ensures, c.to_at.ensures) (searchable c.requires.choosable i.now c.loop-u-test.true (sym c.next_at-next.ensures ∙ c.if-next-eq0.true) i.roomy)

pub overflow_cast-chosen : goal.overflow_cast-chosen
overflow_cast-chosen c =
    let i = c.loop-u.invariant in
    let found = found_by_search c.requires.choosable i.now c.loop-u-test.true c.next_at-next.ensures c.if-next-eq0.true c.from_at.ensures c.to_at.ensures c.first_slot-slot.ensures in
    omega (arith, found.before, to_small (get_or c.args.nodes.now c.loop-u.u 0))

pub entered_at-u-requires : goal.entered_at-u-requires
entered_at-u-requires c =
    let i = c.loop-u.invariant in
    let found = found_by_search c.requires.choosable i.now c.loop-u-test.true c.next_at-next.ensures c.if-next-eq0.true c.from_at.ensures c.to_at.ensures c.first_slot-slot.ensures in
    found.there

pub loop-u-smaller-then-next-eq0 : goal.loop-u-smaller-then-next-eq0
loop-u-smaller-then-next-eq0 c =
    let i = c.loop-u.invariant in
    let found = found_by_search c.requires.choosable i.now c.loop-u-test.true c.next_at-next.ensures c.if-next-eq0.true c.from_at.ensures c.to_at.ensures c.first_slot-slot.ensures in
    omega (arith, found.up.0, found.up.1, c.requires.choosable.upward.few, c.entered_at-u.ensures)

pub loop-u-preserved-then-next-eq0 : goal.loop-u-preserved-then-next-eq0
loop-u-preserved-then-next-eq0 c =
    let i = c.loop-u.invariant in
    let found = found_by_search c.requires.choosable i.now c.loop-u-test.true c.next_at-next.ensures c.if-next-eq0.true c.from_at.ensures c.to_at.ensures c.first_slot-slot.ensures in
    let l = c.loop-u in
    record {
      now = rw c.entered_at-u.ensures (entered_turn c.requires.choosable i.now c.loop-u-test.true found.boundary _ found.first (omega (arith, i.now.below, i.now.few, i.roomy.words)));
      roomy = roomy_same i.roomy (record { places = refl; words = length-set l.chosen l.words c.first_slot-slot.result; table_rows = refl; needs_rows = refl });
    }

pub bounds-string-places : goal.bounds-string-places
bounds-string-places c =
    let i = c.loop-u.invariant in
    omega (arith, place_left c.requires.choosable i.now (λ e. c.if-next-eq0.false (c.next_at-next.ensures ∙ e)), i.roomy.places)

pub grow-requires : goal.grow-requires
grow-requires c =
    let i = c.loop-u.invariant in
    rw c.simple_at.ensures (growable c.requires.choosable i.now (λ e. c.if-next-eq0.false (c.next_at-next.ensures ∙ e)) i.roomy.places i.roomy)

pub loop-u-preserved : goal.loop-u-preserved
loop-u-preserved c =
    let i = c.loop-u.invariant in
    let l = c.loop-u in
    let label = c.simple_at in
    record {
      now = picked_by c.requires.choosable i.now (λ e. c.if-next-eq0.false (c.next_at-next.ensures ∙ e)) i.roomy.places _ _ label.ensures c.next_at-next.ensures _ _ c.grow.ensures;
      roomy = roomy_same i.roomy (record { places = length-set l.string l.places label.result; words = refl; table_rows = c.grow.auto.table; needs_rows = c.grow.auto.needs });
    }

pub returns : goal.returns
returns c = chose c.requires.choosable (rw c.loop-u-test.false at c.loop-u.invariant.now)
