-- What vanishes: the strings that link up without crossings. Each link could contract, and everything beneath it is linked inside.
use Rattle.std.specs.Prelude.{◌≡◌, [], ◌∷◌, ◌++◌, pos}
use Rattle.std.proofs.Math.IntN.{suc_ℤ}
use Rattle.pregroup.specs.Types.{Basic, Simple, PregroupType, plain}
use Rattle.pregroup.specs.Order.{Relation, Fits}

-- x and y, in this order, could contract: they are a^(z) and b^(z+1), and it fits.
pub record Contracts (Le : Relation) (x y : Simple) : Type 0 where
  pub raised : y.exponent ≡ suc_ℤ x.exponent
  pub fits : Fits Le x.exponent x.base y.base

-- Equality as an order: each basic type stands below itself alone.
abbrev pub Equality : Relation
Equality a b = a ≡ b

-- Document 02, 2.7: a link through the order. x and y could contract, and could not were the order equality alone.
pub record NeedsOrder (Le : Relation) (x y : Simple) : Type 0 where
  pub contracts : Contracts Le x y
  pub unequal : Contracts Equality x y → ⊥

-- The empty type vanishes; so does x U y W, where x and y could contract and U and W vanish.
pub data Vanish (Le : Relation) : PregroupType → Type 0 where
  empty : Vanish Le []
  link : {x y : Simple} {U W : PregroupType} → Contracts Le x y → Vanish Le U → Vanish Le W → Vanish Le (x ∷ (U ++ (y ∷ W)))

-- X is L q R, where q is plain and stands at or below s, and L and R vanish: everything but q links up.
pub data Reduces (Le : Relation) (s : Basic) : PregroupType → Type 0 where
  leaves : {L R : PregroupType} (q : Basic) → Vanish Le L → Le q s → Vanish Le R → Reduces Le s (L ++ (plain q ∷ R))

-- x may be what is left: it is plain and stands at or below s.
pub record Remains (Le : Relation) (s : Basic) (x : Simple) : Type 0 where
  pub is_plain : x.exponent ≡ pos 0
  pub below : Le x.base s
