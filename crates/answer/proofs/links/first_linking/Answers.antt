-- `answer::links::first_linking` meets its contract: the row of places from which the string reduces, and the linking from the first one on.
use Prim.Native.Nat.{◌+◌}
use native.Mathlib.Omega.{arith}
use lib.ListN.{length}
use Rattle.answer.proofs.FirstLinked.{reducing_there, first_linked}
use Rattle.answer.proofs.links.first_linking.Goals as goal

pub staying-stays-requires : goal.staying-stays-requires
staying-stays-requires c =
    record { string_there = c.requires.linking_there.string_there; has_row = (c.requires.linking_there.room, λ j h. ((c.requires.linking_there.right (length c.args.string.now) (omega arith) j).0 h).ordered) }

pub unite_all-row-requires : goal.unite_all-row-requires
unite_all-row-requires c =
    λ i h. omega (arith, c.requires.linking_there.room, ((c.requires.linking_there.right (length c.args.string.now) (omega arith) (i + 1)).0 ((c.staying-stays.ensures i).0 h).behind).ordered)

pub link_from-requires : goal.link_from-requires
link_from-requires c =
    let row = c.unite_all-row in
    record { linking_there = c.requires.linking_there; reducing_there = reducing_there _ c.staying-stays.result.words c.empty.result.words row.result.words (omega arith) c.requires.linking_there.right c.requires.reduces c.staying-stays.ensures c.empty.ensures row.ensures }

pub returns : goal.returns
returns c =
    first_linked c.args.string.now c.args.answer.now _ c.args.at (length c.args.string.now) c.link_from.auto.answer c.requires.linking_there.space c.link_from.ensures
