-- `slots::lay_entries` meets its contract: the entries passed are laid, and the thread goes on with the rest.
use native.Mathlib.Omega.{arith}
use Prim.Native.Nat.{◌<◌}
use mathlib.Core.Path.{◌≡◌, ap}
use lib.ListN.{get_or, length}
use Rattle.std.proofs.Common.{rules}
use Rattle.format.specs.Records.{bodies_at}
use Rattle.book.specs.Kept.{entry_from, HeldType}
use Rattle.lookup.proofs.ThreadLaws.{thread_rises}
use Rattle.slots.proofs.EntryLaws.{entering_fits, entering_next, entering_end}
use Rattle.slots.proofs.lay_entries.Goals as goal

pub loop-i-init : goal.loop-i-init
loop-i-init c =
    let starts = c.thread-i-items.ensures in
    rw (c.into_iter-i-iterator.ensures.into_iter_gives, starts.0, starts.1, starts.2)
    (record { goes = (c.requires.same_room, thread_rises c.requires.thread); entries = search rules; nexts = search rules; entering = search rules })

pub lay_slot-place-requires : goal.lay_slot-place-requires
lay_slot-place-requires c =
    let inv = c.loop-i.invariant in
    let step = c.in-Some.ensures.steps in
    let inside : c.loop-i.i-iterator.at < length c.args.entries.now = omega (arith, ap length inv.entries, step.inside) in
    let offset : c.in-Some.at ≡ get_or c.args.entries.now c.loop-i.i-iterator.at 0 = rw inv.entries at step.read in
    let read : let a = c.args in
    HeldType c.entry_type-t.result (entry_from a.book.now (bodies_at a.book.now a.names.now a.types) (get_or a.entries.now c.loop-i.i-iterator.at 0)).type = rw offset at c.entry_type-t.ensures in
    rw (← step.at_hand) at (entering_fits (inv.entering c.requires.all c.requires.thread) inside c.entry_type-t.result read c.requires.vocabulary.lexicon.kept.few c.requires.fits)

pub loop-i-preserved : goal.loop-i-preserved
loop-i-preserved c =
    let inv = c.loop-i.invariant in
    let step = c.in-Some.ensures.steps in
    let inside : c.loop-i.i-iterator.at < length c.args.entries.now = omega (arith, ap length inv.entries, step.inside) in
    let offset : c.in-Some.at ≡ get_or c.args.entries.now c.loop-i.i-iterator.at 0 = rw inv.entries at step.read in
    let read : let a = c.args in
    HeldType c.entry_type-t.result (entry_from a.book.now (bodies_at a.book.now a.names.now a.types) (get_or a.entries.now c.loop-i.i-iterator.at 0)).type = rw offset at c.entry_type-t.ensures in
    let next : c.next.new.self.at ≡ get_or c.args.same.now c.loop-i.i-iterator.at 0 = rw inv.nexts at step.next in
    record {
      goes = search rules;
      entries = search rules;
      nexts = search rules;
      entering = λ es u. entering_next (inv.entering es u) inside c.entry_type-t.result read _ next (rw step.at_hand at c.lay_slot-place.ensures) c.lay_slot-place.auto.nodes c.lay_slot-place.auto.slots;
    }

pub returns : goal.returns
returns c =
    let inv = c.loop-i.invariant in
    λ es t. entering_end (inv.entering es t) (omega (arith, ap length inv.entries, c.in-None.ensures.steps))
