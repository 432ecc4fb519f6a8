-- A chain stays among the declared basic types: the steps use basic types that the order relates, and it relates declared ones only.
use mathlib.Core.Bool.{Bool, true, false}
use mathlib.Core.List.{[], ◌∷◌, ◌++◌}
use lib.IntN.{ℤ}
use Rattle.pregroup.specs.Types.{Basic, Simple, PregroupType, even}
use Rattle.pregroup.specs.Order.{Relation, IsOrder, AllDeclared, more, Turned, Fits}
use Rattle.pregroup.specs.Steps.{becomes, vanish, appear, Step, order_step, contraction, expansion, done, next, Chain}

-- What stands between S and T is exchanged: U for W, where W is declared if U is.
declared_between :
    {Declared : Basic → Type 0} (S : PregroupType) {U W : PregroupType} → (AllDeclared Declared U → AllDeclared Declared W)
    → AllDeclared Declared (S ++ U) → AllDeclared Declared (S ++ W)
declared_between [] f ds = f ds
declared_between (x ∷ S) f (more d ds) = more d (declared_between S f ds)

declared_tail : {Declared : Basic → Type 0} {x : Simple} {X : PregroupType} → AllDeclared Declared (x ∷ X) → AllDeclared Declared X
declared_tail (more d ds) = ds

module _ {Declared : Basic → Type 0} {Le : Relation} (order : IsOrder Declared Le) where
  turned_declared : (t : Bool) (a b : Basic) → Turned Le t a b → Declared a × Declared b
  turned_declared true a b h = (order.lower a b h, order.upper a b h)
  turned_declared false a b h = (order.upper b a h, order.lower b a h)

  -- Whatever fits is declared.
  pub fits_declared : (z : ℤ) (a b : Basic) → Fits Le z a b → Declared a × Declared b
  fits_declared z a b h = turned_declared (even z) a b h

  step_declared : {X Y : PregroupType} → Step Le X Y → AllDeclared Declared X → AllDeclared Declared Y
  step_declared (order_step (becomes S T a b z f)) ds =
      declared_between S (λ ds'. more (fits_declared z a b f).1 (declared_tail ds')) ds
  step_declared (contraction (vanish S T a b z f)) ds = declared_between S (λ ds'. declared_tail (declared_tail ds')) ds
  step_declared (expansion (appear S T a b z f)) ds =
      let d = fits_declared z a b f in
      declared_between S (λ ds'. more d.0 (more d.1 ds')) ds

  pub chain_declared : {X Y : PregroupType} → Chain Le X Y → AllDeclared Declared X → AllDeclared Declared Y
  chain_declared done ds = ds
  chain_declared (next s c) ds = chain_declared c (step_declared s ds)
