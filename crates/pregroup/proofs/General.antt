-- The general theorem: for every X and every Y of declared basic types, a chain leads from X to Y exactly when X followed by the right
-- adjoint of Y vanishes, and exactly when the left adjoint of Y followed by X does. Forward, each step of the chain is taken back, from its
-- end; back, the adjoint and Y appear beside X by expansions, and X with the adjoint is contracted away.
use mathlib.Core.Path.{◌≡◌, refl, sym, ap, subst, ◌∙◌}
use mathlib.Core.Logic.{◌↔◌}
use lib.IntN.{suc_ℤ}
use mathlib.Core.List.{[], ◌∷◌, ◌++◌, append-nil, append_assoc}
use Rattle.pregroup.specs.Types.{Basic, PregroupType, ◌⁽◌⁾, left_adjoint, right_adjoint}
use Rattle.pregroup.specs.Order.{Relation, IsOrder, AllDeclared}
use Rattle.pregroup.specs.Steps.{becomes, vanish, appear, Step, order_step, contraction, expansion, done, next, Chain}
use Rattle.pregroup.specs.Vanish.{Vanish}
use Rattle.pregroup.proofs.VanishLaws.{vanish_insert, vanish_lower, vanish_unexpand}
use Rattle.pregroup.proofs.Chains.{chain_append, chain_of_contractions, contract_away, vanish_pair}
use Rattle.pregroup.proofs.Adjoints.{vanish_right, vanish_left, expand_right, expand_left}

-- A string with S M between A and Z, parted before M.
regrouped : (A S M Z : PregroupType) → A ++ ((S ++ M) ++ Z) ≡ (A ++ S) ++ (M ++ Z)
regrouped A S M Z = ap (λ (Y : PregroupType). A ++ Y) (append_assoc S M Z) ∙ sym (append_assoc A S (M ++ Z))

module _ {Le : Relation} (A S M Z : PregroupType) where
  parted : Vanish Le (A ++ ((S ++ M) ++ Z)) → Vanish Le ((A ++ S) ++ (M ++ Z))
  parted v = subst (λ (Y : PregroupType). Vanish Le Y) (regrouped A S M Z) v

  joined : Vanish Le ((A ++ S) ++ (M ++ Z)) → Vanish Le (A ++ ((S ++ M) ++ Z))
  joined v = subst (λ (Y : PregroupType). Vanish Le Y) (sym (regrouped A S M Z)) v

module _ {Declared : Basic → Type 0} {Le : Relation} (order : IsOrder Declared Le) where
  -- A step taken back, between A and Z: what vanishes behind the step did so before it.
  vanish_before : (A Z : PregroupType) {X Y : PregroupType} → Step Le X Y → Vanish Le (A ++ (Y ++ Z)) → Vanish Le (A ++ (X ++ Z))
  vanish_before A Z (order_step (becomes S T a b z f)) v =
      joined A S (a ⁽ z ⁾ ∷ T) Z (vanish_lower order (A ++ S) (T ++ Z) (record { same = refl; fits = f }) (parted A S (b ⁽ z ⁾ ∷ T) Z v))
  vanish_before A Z (contraction (vanish S T a b z f)) v =
      joined A S (a ⁽ z ⁾ ∷ b ⁽ suc_ℤ z ⁾ ∷ T) Z (vanish_insert (A ++ S) (T ++ Z) (vanish_pair (record { raised = refl; fits = f })) (parted A S T Z v))
  vanish_before A Z (expansion (appear S T a b z f)) v =
      joined A S T Z (vanish_unexpand order (A ++ S) (T ++ Z) (record { raised = refl; fits = f }) (parted A S (a ⁽ suc_ℤ z ⁾ ∷ b ⁽ z ⁾ ∷ T) Z v))

  -- The whole chain taken back: what vanishes behind it did so before it.
  vanish_back : (A Z : PregroupType) {X Y : PregroupType} → Chain Le X Y → Vanish Le (A ++ (Y ++ Z)) → Vanish Le (A ++ (X ++ Z))
  vanish_back A Z done v = v
  vanish_back A Z (next s c) v = vanish_before A Z s (vanish_back A Z c v)

  vanish_chain : (X : PregroupType) {Y : PregroupType} → AllDeclared Declared Y → Vanish Le (X ++ right_adjoint Y) → Chain Le X Y
  vanish_chain X {Y} ds v =
      chain_append (expand_right order X ds) (rw append_assoc at (chain_of_contractions (contract_away [] Y v)))

  pub general : (X Y : PregroupType) → AllDeclared Declared Y → Chain Le X Y ↔ Vanish Le (X ++ right_adjoint Y)
  general X Y ds = (λ c. vanish_back [] (right_adjoint Y) c (vanish_right order ds), vanish_chain X ds)

  vanish_chain_left : (X : PregroupType) {Y : PregroupType} → AllDeclared Declared Y → Vanish Le (left_adjoint Y ++ X) → Chain Le X Y
  vanish_chain_left X {Y} ds v =
      chain_append (expand_left order [] X ds) (simp append-nil at (chain_of_contractions (contract_away Y [] v)))

  pub general_left : (X Y : PregroupType) → AllDeclared Declared Y → Chain Le X Y ↔ Vanish Le (left_adjoint Y ++ X)
  general_left X Y ds = (λ c. rw append-nil at (vanish_back (left_adjoint Y) [] c (rw append-nil (vanish_left order ds))), vanish_chain_left X ds)
