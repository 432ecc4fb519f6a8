-- The same notions as tests that antt computes, over a test of the order. `proofs/Decision.antt` proves them right.
use Rattle.std.specs.Prelude.{◌≡◌, ◌↔◌, Bool, true, false, cond, ◌&&◌, [], ◌∷◌, eqb, ℤ, pos, negsuc}
use Rattle.std.proofs.Math.IntN.{suc_ℤ}
use Rattle.pregroup.specs.Types.{Basic, Simple, PregroupType, even}
use Rattle.pregroup.specs.Order.{Relation}
use Rattle.pregroup.specs.declared.LinkKind.{LinkKind}
use Rattle.pregroup.specs.declared.LinkKind.TheVariants.{Not, Same, Different}

abbrev pub Test : Type 0
Test = Basic → Basic → Bool

-- The test says exactly when the relation holds.
abbrev pub Decides : Test → Relation → Type 0
Decides le Le = (a b : Basic) → (le a b ≡ true) ↔ Le a b

-- Whether two exponents are the same.
unfoldable pub same_exponent : ℤ → ℤ → Bool
same_exponent (pos m) (pos n) = eqb m n
same_exponent (pos m) (negsuc n) = false
same_exponent (negsuc m) (pos n) = false
same_exponent (negsuc m) (negsuc n) = eqb m n

-- Whether x and y, in this order, could contract.
unfoldable pub contracts : Test → Simple → Simple → Bool
contracts le x y = same_exponent y.exponent (suc_ℤ x.exponent) && cond (even x.exponent) (le x.base y.base) (le y.base x.base)

-- Document 02, 2.7: how x and y, in this order, could contract: not, with the same basic type, or with different ones.
unfoldable pub link_kind : Test → Simple → Simple → LinkKind
link_kind le x y = cond (contracts le x y) (cond (eqb x.base y.base) Same Different) Not

-- Whether the simple types on the stack, the last one on top, can all be closed by the rest of the string, and everything else in it
-- links up: the first simple type of the rest closes the top one, or is put on the stack itself.
unfoldable pub closes : Test → PregroupType → PregroupType → Bool
closes le [] [] = true
closes le (s ∷ S) [] = false
closes le [] (x ∷ X) = closes le (x ∷ []) X
closes le (s ∷ S) (x ∷ X) =
    let put = closes le (x ∷ (s ∷ S)) X in
    let close = closes le S X in
    cond (contracts le s x) (cond close true put) put

-- Whether a string vanishes.
unfoldable pub vanishes : Test → PregroupType → Bool
vanishes le X = closes le [] X
