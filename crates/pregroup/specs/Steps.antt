-- Document 01, "Types and steps": the three steps of source 003, section 2.1, at any place of a string and at any whole number z, and
-- chains of them.
use Rattle.std.specs.Prelude.{◌∷◌, ◌++◌, ℤ}
use Rattle.std.proofs.Math.IntN.{suc_ℤ}
use Rattle.pregroup.specs.Types.{Basic, PregroupType, ◌⁽◌⁾}
use Rattle.pregroup.specs.Order.{Relation, Fits}

-- Order step (the papers' induced step): a^(z) inside a string becomes b^(z), where it fits.
pub data OrderStep (Le : Relation) : PregroupType → PregroupType → Type 0 where
  becomes : (S T : PregroupType) (a b : Basic) (z : ℤ) → Fits Le z a b → OrderStep Le (S ++ (a ⁽ z ⁾ ∷ T)) (S ++ (b ⁽ z ⁾ ∷ T))

-- Contraction: neighbours a^(z) b^(z+1) vanish, where it fits.
pub data Contraction (Le : Relation) : PregroupType → PregroupType → Type 0 where
  vanish : (S T : PregroupType) (a b : Basic) (z : ℤ) → Fits Le z a b → Contraction Le (S ++ (a ⁽ z ⁾ ∷ b ⁽ suc_ℤ z ⁾ ∷ T)) (S ++ T)

-- Expansion: a^(z+1) b^(z) appears anywhere, where it fits.
pub data Expansion (Le : Relation) : PregroupType → PregroupType → Type 0 where
  appear : (S T : PregroupType) (a b : Basic) (z : ℤ) → Fits Le z a b → Expansion Le (S ++ T) (S ++ (a ⁽ suc_ℤ z ⁾ ∷ b ⁽ z ⁾ ∷ T))

-- One step of any of the three kinds.
pub data Step (Le : Relation) : PregroupType → PregroupType → Type 0 where
  order_step : {X Y : PregroupType} → OrderStep Le X Y → Step Le X Y
  contraction : {X Y : PregroupType} → Contraction Le X Y → Step Le X Y
  expansion : {X Y : PregroupType} → Expansion Le X Y → Step Le X Y

-- A finite list of steps, perhaps of none, each from the string as it then stands.
pub data ChainOf (One : PregroupType → PregroupType → Type 0) : PregroupType → PregroupType → Type 0 where
  done : {X : PregroupType} → ChainOf One X X
  next : {X Y Z : PregroupType} → One X Y → ChainOf One Y Z → ChainOf One X Z

-- A chain: X can be turned into Y by contractions, expansions and order steps, mixed freely.
abbrev pub Chain : Relation → PregroupType → PregroupType → Type 0
Chain Le = ChainOf (Step Le)

-- A chain of contractions alone.
abbrev pub Contractions : Relation → PregroupType → PregroupType → Type 0
Contractions Le = ChainOf (Contraction Le)
