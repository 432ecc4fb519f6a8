-- How chains are made: joined, widened by what stands on either side, and made of contractions where something vanishes.
use mathlib.Core.Path.{refl, sym, subst}
use mathlib.Core.Logic.{◌↔◌}
use mathlib.Core.List.{[], ◌∷◌, ◌++◌, append-nil, append_assoc}
use lib.IntN.{ℤ}
use Rattle.pregroup.specs.Types.{Simple, PregroupType, ◌⁽◌⁾}
use Rattle.pregroup.specs.Order.{Relation}
use Rattle.pregroup.specs.Steps.{Contraction, vanish, contraction, ChainOf, done, next, Chain, Contractions}
use Rattle.pregroup.specs.Vanish.{Contracts, Vanish, empty, link}
use Rattle.pregroup.proofs.VanishLaws.{vanish_insert}

pub chain_append : {One : PregroupType → PregroupType → Type 0} {X Y Z : PregroupType} → ChainOf One X Y → ChainOf One Y Z → ChainOf One X Z
chain_append done k = k
chain_append (next s c) k = next s (chain_append c k)

-- A chain of contractions is a chain.
pub chain_of_contractions : {Le : Relation} {X Y : PregroupType} → Contractions Le X Y → Chain Le X Y
chain_of_contractions done = done
chain_of_contractions (next s c) = next (contraction s) (chain_of_contractions c)

-- Neighbours that could contract do, between S and T.
pub contract_at : {Le : Relation} (S T : PregroupType) {x y : Simple} → Contracts Le x y → Contraction Le (S ++ (x ∷ y ∷ T)) (S ++ T)
contract_at {Le} S T {x} {y} c =
    subst (λ (z : ℤ). Contraction Le (S ++ (x ∷ y.base ⁽ z ⁾ ∷ T)) (S ++ T)) (sym c.raised)
    (vanish S T x.base y.base x.exponent c.fits)

-- What vanishes is contracted away between A and B.
pub contract_away : {Le : Relation} (A B : PregroupType) {M : PregroupType} → Vanish Le M → Contractions Le (A ++ (M ++ B)) (A ++ B)
contract_away A B empty = done
contract_away A B (link {x} {y} {U} {W} c u w) =
    simp append_assoc
    (chain_append (simp append_assoc at (contract_away (A ++ (x ∷ [])) (y ∷ (W ++ B)) u))
    (next (contract_at A (W ++ B) c) (contract_away A B w)))

-- Two neighbours that could contract vanish.
pub vanish_pair : {Le : Relation} {x y : Simple} → Contracts Le x y → Vanish Le (x ∷ y ∷ [])
vanish_pair c = link {U = []} c empty empty

vanish_of_contractions : {Le : Relation} {X : PregroupType} → Contractions Le X [] → Vanish Le X
vanish_of_contractions done = empty
vanish_of_contractions (next (vanish S T a b z f) c) =
    vanish_insert S T (vanish_pair (record { raised = refl; fits = f })) (vanish_of_contractions c)

-- A string vanishes exactly when contractions alone bring it to the empty type.
pub vanish_iff_contractions : {Le : Relation} {X : PregroupType} → Vanish Le X ↔ Contractions Le X []
vanish_iff_contractions = (λ v. rw append-nil at (contract_away [] [] v), vanish_of_contractions)
