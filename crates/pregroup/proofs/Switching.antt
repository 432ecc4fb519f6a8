-- The switching lemma (source 004, lemma 3.1), for a declared basic type s:
-- `switching`: a chain leads from X to s exactly when X is L q R with L and R vanishing, q plain and q ≤ s;
-- `switching_contractions`: a string reaches s exactly when contractions alone bring it to some plain q with q ≤ s.
-- The general theorem makes the first of a chain, the right decomposition finds q, and contracting L and R away leaves it.
use mathlib.Core.Path.{◌≡◌, refl, sym, subst}
use mathlib.Core.Logic.{◌↔◌}
use mathlib.Core.List.{[], ◌∷◌, ◌++◌, append-nil, append_assoc}
use lib.IntN.{ℤ, pos}
use Rattle.pregroup.specs.Types.{Basic, PregroupType, ◌⁽◌⁾, plain, adjoint_by, even}
use Rattle.pregroup.specs.Order.{Relation, Fits, IsOrder, none, more}
use Rattle.pregroup.specs.Steps.{becomes, order_step, done, next, Chain, Contractions}
use Rattle.pregroup.specs.Vanish.{Vanish, empty, link, Reduces, leaves}
use Rattle.pregroup.proofs.Exponents.{suc_injective}
use Rattle.pregroup.proofs.Machine.{vanish_append}
use Rattle.pregroup.proofs.VanishLaws.{Decomposed, at, vanish_last}
use Rattle.pregroup.proofs.Chains.{chain_append, chain_of_contractions, contract_away}
use Rattle.pregroup.proofs.General.{general}

-- What could contract with the right adjoint of a plain s is a plain q with q ≤ s.
leaves_plain : {Le : Relation} {s : Basic} {X : PregroupType} → Decomposed Le (s ⁽ pos 1 ⁾) X → Reduces Le s X
unfolding even
leaves_plain {Le} {s} (at {L} {R} {c} l k r) =
    let e : c.exponent ≡ pos 0 = suc_injective c.exponent (pos 0) (sym k.raised) in
    let b : Le c.base s = subst (λ (z : ℤ). Fits Le z c.base s) e k.fits in
    subst (λ (z : ℤ). Reduces Le s (L ++ (c.base ⁽ z ⁾ ∷ R))) (sym e) (leaves c.base l b r)

vanish_of_reduces : {Le : Relation} {s : Basic} {X : PregroupType} → Reduces Le s X → Vanish Le (X ++ (s ⁽ pos 1 ⁾ ∷ []))
unfolding even
vanish_of_reduces {s} (leaves q l b r) =
    rw append_assoc (vanish_append l (link {x = plain q} {y = s ⁽ pos 1 ⁾} (record { raised = refl; fits = b }) r empty))

-- X reduces to a plain type at or below s exactly when X with the right adjoint of a plain s behind it vanishes.
pub reduces_iff_vanish : {Le : Relation} {s : Basic} (X : PregroupType) → Reduces Le s X ↔ Vanish Le (X ++ (s ⁽ pos 1 ⁾ ∷ []))
reduces_iff_vanish X = (vanish_of_reduces, λ v. leaves_plain (vanish_last X v))

-- Contractions alone leave the q of a reduction.
contractions_of_reduces : {Le : Relation} {s : Basic} {X : PregroupType} → Reduces Le s X → (q : Basic) × Contractions Le X (plain q ∷ []) × Le q s
contractions_of_reduces (leaves {L} {R} q l b r) =
    (q, chain_append (contract_away [] (plain q ∷ R) l) (rw append-nil at (contract_away (plain q ∷ []) [] r)), b)

-- A plain q becomes a plain s above it by an order step.
chain_of_contractions_to : {Le : Relation} {s : Basic} {X : PregroupType} → (q : Basic) × Contractions Le X (plain q ∷ []) × Le q s → Chain Le X (plain s ∷ [])
unfolding even
chain_of_contractions_to {s = s} t = chain_append (chain_of_contractions t.1) (next (order_step (becomes [] [] t.0 s (pos 0) t.2)) done)

module _ {Declared : Basic → Type 0} {Le : Relation} (order : IsOrder Declared Le) where
  reduces_of_chain : {s : Basic} (X : PregroupType) → Declared s → Chain Le X (plain s ∷ []) → Reduces Le s X
  unfolding adjoint_by
  reduces_of_chain {s} X d c = leaves_plain (vanish_last X ((general order X (plain s ∷ []) (more d none)).0 c))

  pub switching : (X : PregroupType) (s : Basic) → Declared s → Chain Le X (plain s ∷ []) ↔ Reduces Le s X
  switching X s d = (reduces_of_chain X d, λ r. chain_of_contractions_to (contractions_of_reduces r))

  pub switching_contractions : (X : PregroupType) (s : Basic) → Declared s → Chain Le X (plain s ∷ []) ↔ ((q : Basic) × Contractions Le X (plain q ∷ []) × Le q s)
  switching_contractions X s d = (λ c. contractions_of_reduces (reduces_of_chain X d c), chain_of_contractions_to)
