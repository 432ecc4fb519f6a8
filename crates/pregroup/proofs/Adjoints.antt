-- A type of declared basic types meets its adjoints: X followed by its right adjoint vanishes, its left adjoint followed by X vanishes,
-- and its right adjoint followed by X, or X followed by its left adjoint, appears out of nothing by expansions. Each for every exponent
-- together.
use mathlib.Core.Path.{refl, sym, subst}
use mathlib.Core.List.{[], ◌∷◌, ◌++◌, append-nil, append_assoc}
use lib.IntN.{ℤ, pred_ℤ, suc-pred}
use Rattle.pregroup.specs.Types.{Basic, Simple, PregroupType, ◌⁽◌⁾, simple_left, simple_right, adjoint_by, left_adjoint, right_adjoint}
use Rattle.pregroup.specs.Order.{Relation, IsOrder, AllDeclared, none, more}
use Rattle.pregroup.specs.Steps.{appear, expansion, done, next, Chain}
use Rattle.pregroup.specs.Vanish.{Contracts, Vanish, empty, link}
use Rattle.pregroup.proofs.Preorder.{fits_refl}
use Rattle.pregroup.proofs.VanishLaws.{vanish_insert}
use Rattle.pregroup.proofs.Chains.{chain_append, vanish_pair}

module _ {Declared : Basic → Type 0} {Le : Relation} (order : IsOrder Declared Le) where
  -- A declared simple type could contract with its right adjoint.
  pub contracts_right : (x : Simple) → Declared x.base → Contracts Le x (simple_right x)
  contracts_right x d = record { raised = refl; fits = fits_refl order x.exponent x.base d }

  -- The left adjoint of a declared simple type could contract with it.
  pub contracts_left : (x : Simple) → Declared x.base → Contracts Le (simple_left x) x
  contracts_left x d = record { raised = sym (suc-pred x.exponent); fits = fits_refl order (pred_ℤ x.exponent) x.base d }

  -- X followed by its right adjoint vanishes.
  pub vanish_right : {X : PregroupType} → AllDeclared Declared X → Vanish Le (X ++ right_adjoint X)
  unfolding adjoint_by
  vanish_right none = empty
  vanish_right (more {x} d ds) = rw append_assoc at (link (contracts_right x d) (vanish_right ds) empty)

  -- The left adjoint of X followed by X vanishes.
  pub vanish_left : {X : PregroupType} → AllDeclared Declared X → Vanish Le (left_adjoint X ++ X)
  unfolding adjoint_by
  vanish_left none = empty
  vanish_left (more {x} {X} d ds) = rw append_assoc (vanish_insert (left_adjoint X) X (vanish_pair (contracts_left x d)) (vanish_left ds))

  -- The right adjoint of a simple type and the simple type itself appear between S and T.
  expand_pair : (S T : PregroupType) (x : Simple) → Declared x.base → Chain Le (S ++ T) (S ++ (simple_right x ∷ x ∷ T))
  expand_pair S T x d = next (expansion (appear S T x.base x.base x.exponent (fits_refl order x.exponent x.base d))) done

  -- So do a simple type and its left adjoint, whose right adjoint it is.
  expand_pair_left : (S T : PregroupType) (x : Simple) → Declared x.base → Chain Le (S ++ T) (S ++ (x ∷ simple_left x ∷ T))
  expand_pair_left S T x d =
      subst (λ (z : ℤ). Chain Le (S ++ T) (S ++ (x.base ⁽ z ⁾ ∷ simple_left x ∷ T))) (suc-pred x.exponent) (expand_pair S T (simple_left x) d)

  -- Behind any L the right adjoint of X followed by X appears by expansions.
  pub expand_right : (L : PregroupType) {X : PregroupType} → AllDeclared Declared X → Chain Le L (L ++ (right_adjoint X ++ X))
  unfolding adjoint_by
  expand_right L none = rw (append-nil L) done
  expand_right L (more {x} {X} d ds) =
      simp append_assoc (chain_append (expand_right L ds) (simp append_assoc at (expand_pair (L ++ right_adjoint X) X x d)))

  -- Before any R, X followed by its left adjoint appears by expansions. The S stands before all of it.
  pub expand_left : (S R : PregroupType) {X : PregroupType} → AllDeclared Declared X → Chain Le (S ++ R) (S ++ (X ++ (left_adjoint X ++ R)))
  unfolding adjoint_by
  expand_left S R none = done
  expand_left S R (more {x} {X} d ds) =
      simp append_assoc (chain_append (expand_pair_left S R x d) (simp append_assoc at (expand_left (S ++ (x ∷ [])) (simple_left x ∷ R) ds)))
