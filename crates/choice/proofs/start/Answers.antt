-- `choice::start` meets its contract: the table is begun, and one row stored.
use mathlib.Core.Path.{refl}
use mathlib.Core.Logic.Iff
use Rattle.bits.proofs.Gathering.{alone_says}
use Rattle.choice.proofs.start.Goals as goal

pub returns : goal.returns
returns c =
    let put = c.put in
    let alone = alone_says _ put.result.words refl c.empty.ensures put.ensures in
    record { table_new = c.begin.ensures; needs_new = λ z. Iff.trans (c.store.ensures.stored z) (alone z) }
