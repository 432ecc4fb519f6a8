-- `layout::lay_goal` meets its contract: a slot, the target's right adjoint and its end are stored, and nothing else is.
use native.Mathlib.Omega.{arith}
use mathlib.Core.Path.{◌≡◌, sym, ap, ◌∙◌}
use mathlib.Core.List.{[], ◌∷◌}
use Rattle.std.proofs.lemmas.Grind.{common_steps}
use Rattle.linking.specs.Reading.{target_type}
use Rattle.pregroup.specs.Types.{Simple, right_adjoint}
use Rattle.pregroup.specs.Held.{held}
use Rattle.graph.specs.Graph.{simple_in, to_in}
use Rattle.graph.proofs.TargetLaws.{target_adjoint}
use Rattle.layout.proofs.lay_goal.Goals as goal

pub returns : goal.returns
returns c =
    let adjoint : held (simple_in c.simple_node.result) ∷ [] ≡ right_adjoint (target_type c.args.target) =
    ap (λ (x : Simple). x ∷ []) (ap held c.simple_node.ensures.0 ∙ c.hold.ensures) ∙ sym (target_adjoint c.args.target) in
    let closed : to_in c.boundary_node.result ≡ 0 = c.boundary_node.ensures.2 in
    record {
      label = grind (arith, common_steps);
      next = grind (arith, common_steps);
      bounds = grind (arith, common_steps);
      closed = grind (arith, common_steps);
      entered = grind (arith, common_steps);
      nodes_kept = λ x d e. grind (arith, common_steps);
      slots_kept = λ y d. grind (arith, common_steps);
    }
