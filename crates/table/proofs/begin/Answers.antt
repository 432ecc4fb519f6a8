-- `table::begin` meets its contract: one member is stored.
use mathlib.Core.Path.{refl}
use mathlib.Core.Logic.Iff
use Rattle.bits.proofs.Gathering.{alone_says}
use Rattle.table.proofs.begin.Goals as goal

pub returns : goal.returns
returns c =
    let row = c.put in
    λ v. Iff.trans (c.store.ensures.stored v) (alone_says _ row.result.words refl c.empty.ensures row.ensures v)
