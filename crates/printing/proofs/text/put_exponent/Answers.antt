-- `printing::text::put_exponent` meets its contract: what is raised by the bias and more is plain, and what is raised by less has its minus sign before
-- the digits.
use native.Mathlib.Omega.{arith}
use Prim.Native.Nat.{ℕ, suc, ◌-◌, ◌≤◌, ◌<◌}
use mathlib.Core.Path.{◌≡◌}
use mathlib.Core.List.{[], ◌∷◌, ◌++◌}
use lib.IntN.{pos, ◌-ℤ◌}
use borrow.Author.Tests.{lt-ltb, le-ltb}
use Rattle.pregroup.specs.Held.{bias}
use Rattle.writing.specs.Decimal.{decimal}
use Rattle.writing.proofs.Placing.{placed_append, countable_front, countable_back}
use Rattle.printing.specs.Text.{signed}
use Rattle.printing.proofs.text.put_exponent.Goals as goal

plain : (raised : ℕ) → bias ≤ raised → signed (pos raised -ℤ pos bias) ≡ decimal (raised - bias)
plain raised h = rw (le-ltb raised bias h)

minus : (raised : ℕ) → raised < bias → signed (pos raised -ℤ pos bias) ≡ 45 ∷ decimal (bias - raised)
minus raised h = let e : suc (bias - suc raised) ≡ bias - raised = omega arith in rw (lt-ltb raised bias h, e)

pub put_number-requires : goal.put_number-requires
put_number-requires c = rw (plain _ c.if-raised-ge-BIAS.true) at c.requires

pub put_byte-requires : goal.put_byte-requires
put_byte-requires c =
    let a = c.args in
    countable_front (decimal (bias - a.raised) ++ (a.close ∷ [])) (rw (minus a.raised c.if-raised-ge-BIAS.false) at c.requires)

pub put_number-requires-else-raised-ge-BIAS : goal.put_number-requires-else-raised-ge-BIAS
put_number-requires-else-raised-ge-BIAS c = countable_back (rw (minus _ c.if-raised-ge-BIAS.false) at c.requires) c.put_byte.ensures.placed

pub returns-then-raised-ge-BIAS-clause-placed : goal.returns-then-raised-ge-BIAS-clause-placed
returns-then-raised-ge-BIAS-clause-placed c = rw (plain _ c.if-raised-ge-BIAS.true) c.put_number.ensures.placed

pub returns-else-raised-ge-BIAS-clause-placed : goal.returns-else-raised-ge-BIAS-clause-placed
returns-else-raised-ge-BIAS-clause-placed c = rw (minus _ c.if-raised-ge-BIAS.false) (placed_append c.put_byte.ensures.placed c.put_number-else-raised-ge-BIAS.ensures.placed)
