-- The definitions at work, over the order of document 01's book to try: o 0, p 1, w 2, u 3, with u ≤ w. Closed strings whose vanishing
-- antt computes, and two chains of source 003, section 2.1.
use mathlib.Core.Path.{◌≡◌, refl}
use mathlib.Core.Bool.{Bool, true, false, ◌&&◌, ◌||◌}
use mathlib.Core.List.{List, [], ◌∷◌, map}
use lib.Dec.{eqb}
use lib.IntN.{pos, negsuc}
use Rattle.pregroup.specs.Types.{Basic, Simple, PregroupType, ◌⁽◌⁾, even, plain, simple_left, simple_right}
use Rattle.pregroup.specs.Order.{Relation}
use Rattle.pregroup.specs.Steps.{becomes, vanish, appear, order_step, contraction, expansion, done, next, Chain}
use Rattle.pregroup.specs.Tests.{Test, same_exponent, contracts, closes, vanishes}

abbrev pub o : Basic
o = 0

abbrev pub p : Basic
p = 1

abbrev pub w : Basic
w = 2

abbrev pub u : Basic
u = 3

-- The adjoints of a plain type, as the papers write them.
infix 90 ◌ˡ ◌ʳ
abbrev pub ◌ˡ : Basic → Simple
a ˡ = simple_left (plain a)

abbrev pub ◌ʳ : Basic → Simple
a ʳ = simple_right (plain a)

-- The closure of the one pair u ≤ w.
order : Test
order a b = eqb a b || (eqb a u && eqb b w)

-- A string, and whether it vanishes.
abbrev Row : Type 0
Row = PregroupType × Bool

abbrev rows : List Row
rows =
    -- the empty type
    ([], true)
    -- cancelling o^l o at once would leave o^r o, which does not vanish
    ∷ (o ˡ ∷ plain o ∷ o ʳ ∷ plain o ∷ [], true)
    ∷ (o ʳ ∷ plain o ∷ [], false)
    -- an even exponent takes the order as it is
    ∷ (plain u ∷ w ʳ ∷ [], true)
    ∷ (plain w ∷ u ʳ ∷ [], false)
    -- an odd exponent turns it round: the second is what "admit site" would need
    ∷ (w ˡ ∷ plain u ∷ [], true)
    ∷ (u ˡ ∷ plain w ∷ [], false)
    -- exponents far from 0, both ways
    ∷ (w ⁽ pos 1001 ⁾ ∷ u ⁽ pos 1002 ⁾ ∷ [], true)
    ∷ (u ⁽ negsuc 1001 ⁾ ∷ w ⁽ negsuc 1000 ⁾ ∷ [], true)
    -- a step of two exponents is no contraction
    ∷ (plain o ∷ o ⁽ pos 2 ⁾ ∷ [], false)
    -- what stands behind the first o of "fetch bed4 ward7"
    ∷ (w ˡ ∷ p ˡ ∷ plain p ∷ plain u ∷ [], true)
    ∷ []

-- antt computes the test on every row, and the answers are those of the table.
evaluated : map (λ (r : Row). vanishes order r.0) rows ≡ map (λ (r : Row). r.1) rows
unfolding vanishes closes contracts same_exponent even order
evaluated = refl

-- o becomes o o^r o by an expansion, and that becomes o again by a contraction: the derivability relation is no partial order.
abbrev Le : Relation
Le a b = order a b ≡ true

there : Chain Le (plain o ∷ []) (plain o ∷ o ʳ ∷ plain o ∷ [])
unfolding even order
there = next (expansion (appear (plain o ∷ []) [] o o (pos 0) refl)) done

and_back : Chain Le (plain o ∷ o ʳ ∷ plain o ∷ []) (plain o ∷ [])
unfolding even order
and_back = next (contraction (vanish [] (plain o ∷ []) o o (pos 0) refl)) done

-- u ≤ w, and so w^l becomes u^l: odd exponents turn the order round.
turned_step : Chain Le (w ˡ ∷ []) (u ˡ ∷ [])
unfolding even order
turned_step = next (order_step (becomes [] [] w u (negsuc 0) refl)) done
