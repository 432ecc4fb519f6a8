-- `book::entries::pairs_type` meets its contract: below i the places hold the simple types of the pairs.
use native.Mathlib.Omega.{arith}
use mathlib.Core.Path.{refl}
use Rattle.book.proofs.RaiseLaws.{listed_at}
use Rattle.book.proofs.HeldTypes.{pairs_held}
use Rattle.book.proofs.entries.pairs_type.Goals as goal

pub hold_simple-requires : goal.hold_simple-requires
hold_simple-requires c = listed_at c.args.part.now c.requires.0 c.requires.2 c.loop-i.i (omega arith)

pub returns : goal.returns
returns c = pairs_held _ c.args.part.now c.requires.0 c.requires.1 refl (λ k h. c.loop-i.invariant.1 k (omega arith))
