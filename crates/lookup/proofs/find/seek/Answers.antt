-- `lookup::find::seek` meets its contract: no entry that was passed is of the word.
use native.Mathlib.Omega.{arith}
use Prim.Native.Nat.{◌≤◌, ◌<◌}
use mathlib.Core.Path.{◌≡◌, ap}
use lib.ListN.{length, get_or}
use Rattle.std.proofs.Common.{rules}
use Rattle.lookup.proofs.KeyLaws.{alike_rises, seeking_start, seeking_found, seeking_end, seeking_next}
use Rattle.lookup.proofs.find.seek.Goals as goal

pub loop-i-init : goal.loop-i-init
loop-i-init c =
    let starts = c.thread-i-items.ensures in
    rw (c.into_iter-i-iterator.ensures.into_iter_gives, starts.0, starts.1, starts.2)
    (record {
      goes = (omega (arith, c.requires.0.few, c.requires.1.room), alike_rises c.requires.1 _);
      entries = search rules;
      nexts = search rules;
      seeking = λ a f. seeking_start _ _ _ f;
    })

pub returns-then-same_word-clause-by_index : goal.returns-then-same_word-clause-by_index
returns-then-same_word-clause-by_index c =
    let inv = c.loop-i.invariant in
    let step = c.in-Some.ensures.steps in
    let offset : c.in-Some.at ≡ get_or c.args.entries.now c.loop-i.i-iterator.at 0 = rw inv.entries at step.read in
    let says = rw (c.entry_word.ensures, offset) at c.same_word.ensures in
    λ a f. rw (← step.at_hand) at (seeking_found _ _ _ (inv.seeking a f) says c.if-same_word.true)

pub loop-i-preserved : goal.loop-i-preserved
loop-i-preserved c =
    let inv = c.loop-i.invariant in
    let step = c.in-Some.ensures.steps in
    let inside : c.loop-i.i-iterator.at < length c.args.entries.now = omega (arith, ap length inv.entries, step.inside) in
    let offset : c.in-Some.at ≡ get_or c.args.entries.now c.loop-i.i-iterator.at 0 = rw inv.entries at step.read in
    let says = rw (c.entry_word.ensures, offset) at c.same_word.ensures in
    record {
      goes = search rules;
      entries = search rules;
      nexts = search rules;
      seeking = λ a f. rw (step.next, inv.nexts) (seeking_next _ _ _ c.requires.1 (inv.seeking a f) inside says c.if-same_word.false);
    }

pub returns-clause-by_index : goal.returns-clause-by_index
returns-clause-by_index c =
    let inv = c.loop-i.invariant in
    λ a f.
    let behind : length c.args.entries.now ≤ c.loop-i.i-iterator.at = omega (arith, ap length inv.entries, c.in-None.ensures.steps) in
    seeking_end _ _ _ (inv.seeking a f) behind c.requires.0.few (omega (arith, f.forth, c.requires.2))
