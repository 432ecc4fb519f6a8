-- `lookup::keys::thread_entries` meets its contract: the entries from the one at hand on are threaded.
use native.Mathlib.Omega.{arith}
use Prim.Native.Nat.{ℕ, ◌-◌, ◌<◌}
use lib.ListN.{length, length-set}
use Rattle.lookup.proofs.KeyLaws.{kept_range, key_below, alike_next}
use Rattle.lookup.proofs.keys.thread_entries.Goals as goal

pub key_of-head-requires : goal.key_of-head-requires
key_of-head-requires c =
    let inside : c.loop-i.i - 1 < length c.args.entries.now = omega arith in
    rw (c.entry_word.ensures, c.from.ensures) (kept_range c.requires.0 _ inside)

pub bounds-alike-head-in-loop-i : goal.bounds-alike-head-in-loop-i
bounds-alike-head-in-loop-i c = omega (arith, key_below c.entry_word.result.now, length-set {A = ℕ})

pub loop-i-preserved : goal.loop-i-preserved
loop-i-preserved c =
    let inside : c.loop-i.i - 1 < length c.args.entries.now = omega arith in
    let own = rw (c.entry_word.ensures, c.from.ensures) at c.key_of-head.ensures in
    alike_next _ _ _ _ _ _ c.loop-i.invariant (omega arith) inside c.requires.0.few own
