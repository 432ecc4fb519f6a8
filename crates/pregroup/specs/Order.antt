-- Document 01, "Types and steps": the order on basic types, and when a step fits. The order is a parameter of the theory: the calculus
-- asks only what `IsOrder` says, and a book supplies the closure of its pairs.
use Rattle.std.specs.Prelude.{Bool, true, false, [], ◌∷◌, ℤ}
use Rattle.pregroup.specs.Types.{Basic, Simple, PregroupType, even}

-- A relation on basic types, read "a stands at or below b".
abbrev pub Relation : Type 1
Relation = Basic → Basic → Type 0

-- An order over the declared basic types: reflexive on them, transitive, and relating no others. Two types may each stand below the
-- other: it is a preorder.
pub record IsOrder (Declared : Basic → Type 0) (Le : Relation) : Type 0 where
  pub reflexive : (a : Basic) → Declared a → Le a a
  pub transitive : (a b c : Basic) → Le a b → Le b c → Le a c
  pub lower : (a b : Basic) → Le a b → Declared a
  pub upper : (a b : Basic) → Le a b → Declared b

-- All basic types of a type are declared.
pub data AllDeclared (Declared : Basic → Type 0) : PregroupType → Type 0 where
  none : AllDeclared Declared []
  more : {x : Simple} {X : PregroupType} → Declared x.base → AllDeclared Declared X → AllDeclared Declared (x ∷ X)

-- a ≤ b, or turned round: b ≤ a.
abbrev pub Turned : Relation → Bool → Relation
Turned Le true a b = Le a b
Turned Le false a b = Le b a

-- "Fits": a ≤ b for even z, b ≤ a for odd z.
abbrev pub Fits : Relation → ℤ → Relation
Fits Le z a b = Turned Le (even z) a b
