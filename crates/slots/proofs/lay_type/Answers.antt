-- `slots::lay_type` meets its contract: from the last simple type to the first, what is laid is spelt up to the boundary.
use Rattle.slots.proofs.TypeLaws.{typing_start, typing_next}
use Rattle.slots.proofs.lay_type.Goals as goal

pub loop-i-init : goal.loop-i-init
loop-i-init c = typing_start c.requires

pub loop-i-preserved : goal.loop-i-preserved
loop-i-preserved c =
    typing_next c.requires c.loop-i.invariant c.loop-i-test.true _ c.simple_node.ensures.0 c.simple_node.ensures.1
