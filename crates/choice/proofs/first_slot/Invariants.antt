use mathlib.Core.Path.{◌≡◌}
use Prim.Native.Nat.{max}
use Rattle.graph.specs.Graph.{entered_at}
use Rattle.choice.proofs.Meeting.{Apart}
use Rattle.choice.proofs.Searching.{Passed}
use Rattle.choice.proofs.first_slot.Given as goal

abbrev pub invariant-search : goal.invariant-search
invariant-search l = (l.first ≡ max l.from l.to) × Passed l.slots l.chart l.needs l.n l.from l.s

abbrev pub invariant-loop-k : goal.invariant-loop-k
invariant-loop-k l = (l.first ≡ max l.from l.to) × (l.node ≡ entered_at l.slots l.s) × Apart l.chart l.node l.needs l.n l.k
