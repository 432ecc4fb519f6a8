-- `line::split::skip_spaces` meets its contract: the bytes passed are spaces.
use native.Mathlib.Omega.{arith}
use mathlib.Core.Path.{◌≡◌, ◌∙◌}
use lib.ListN.{length}
use Rattle.line.proofs.WordLaws.{words_space}
use Rattle.line.proofs.split.skip_spaces.Goals as goal

pub returns-then-line-i-ne32 : goal.returns-then-line-i-ne32
returns-then-line-i-ne32 c = record { forth = omega arith; inside = omega arith; same = c.loop-i.invariant; stops = λ h e. c.if-line-i-ne32.true e }

pub loop-i-preserved : goal.loop-i-preserved
loop-i-preserved c = c.loop-i.invariant ∙ words_space c.args.line.now c.loop-i.i (omega arith) c.if-line-i-ne32.false

pub returns : goal.returns
returns c =
    let end : c.loop-i.i ≡ length c.args.line.now = omega (arith, c.requires) in
    record { forth = c.requires; inside = omega arith; same = rw end at c.loop-i.invariant; stops = λ h e. omega arith }
