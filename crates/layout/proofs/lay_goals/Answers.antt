-- `layout::lay_goals` meets its contract: target by target, and then the last boundary with the range of its slots.
use Rattle.layout.proofs.GoalLaws.{ending_next, goals_laid}
use Rattle.layout.proofs.lay_goals.Goals as goal

pub loop-t-preserved : goal.loop-t-preserved
loop-t-preserved c =
    ending_next c.requires.0 c.requires.1 c.loop-t.invariant c.loop-t-test.true c.lay_goal.ensures c.lay_goal.auto.nodes c.lay_goal.auto.slots

pub returns : goal.returns
returns c =
    goals_laid c.requires.0 c.requires.1 c.loop-t.invariant c.loop-t-test.false _ c.boundary_node.ensures.0 c.boundary_node.ensures.1 c.boundary_node.ensures.2
