-- `lookup::find::tally` meets its contract: the entries passed are summed, and the thread goes on with the rest.
use native.Mathlib.Omega.{arith}
use Prim.Native.Nat.{◌<◌}
use mathlib.Core.Path.{◌≡◌, ap}
use lib.ListN.{length, get_or}
use Rattle.std.proofs.Common.{rules}
use Rattle.lookup.proofs.ThreadLaws.{thread_rises, tally_next, tally_end}
use Rattle.lookup.proofs.find.tally.Goals as goal

pub loop-at-init : goal.loop-at-init
loop-at-init c =
    let starts = c.thread-at-items.ensures in
    rw (c.into_iter-at-iterator.ensures.into_iter_gives, starts.0, starts.1, starts.2)
    (record { goes = (c.requires.0, thread_rises c.requires.1.2.1); entries = search rules; nexts = search rules; tallying = search rules })

pub loop-at-preserved : goal.loop-at-preserved
loop-at-preserved c =
    let inv = c.loop-at.invariant in
    let step = c.in-Some.ensures.steps in
    let inside : c.loop-at.at-iterator.at < length c.args.entries.now = omega (arith, ap length inv.entries, step.inside) in
    let offset : c.in-Some.at ≡ get_or c.args.entries.now c.loop-at.at-iterator.at 0 = rw inv.entries at step.read in
    record {
      goes = search rules;
      entries = search rules;
      nexts = search rules;
      tallying = λ names es lexicon t.
          let long = c.entry_length-sum.ensures names (rw offset (lexicon.formed _ inside)) in
          rw (step.next, inv.nexts) (tally_next lexicon (inv.tallying names es lexicon t) inside (rw offset at long));
    }

pub returns : goal.returns
returns c =
    let inv = c.loop-at.invariant in
    λ names es lexicon t. tally_end (inv.tallying names es lexicon t) (omega (arith, ap length inv.entries, c.in-None.ensures.steps))
