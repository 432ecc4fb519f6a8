-- `rules::all_exponents` meets its contract: until a simple type fails, the test of the whole is the test of what is left.
use native.Mathlib.Omega.{arith}
use Prim.Native.Nat.{◌*◌}
use mathlib.Core.Path.{sym, ◌∙◌}
use Rattle.rules.proofs.Simples.{simples_stop, pairs_pass, simples_end}
use Rattle.rules.specs.Rules.{exponent_listed}
use Rattle.pregroup.specs.Types.{Simple}
use Rattle.rules.proofs.all_exponents.Goals as goal

pub returns-then-not-is_exponent : goal.returns-then-not-is_exponent
returns-then-not-is_exponent c =
    let l = c.loop-k in
    let part = c.args.part.now in
    sym (l.invariant ∙ simples_stop (λ (x : Simple). x.exponent) exponent_listed part (2 * l.k) (omega (arith, c.requires)) (sym c.is_exponent.ensures ∙ c.if-not-is_exponent.true))

pub loop-k-preserved : goal.loop-k-preserved
loop-k-preserved c =
    let l = c.loop-k in
    let part = c.args.part.now in
    l.invariant ∙ pairs_pass (λ (x : Simple). x.exponent) exponent_listed part l.k (omega (arith, c.requires)) (sym c.is_exponent.ensures ∙ c.if-not-is_exponent.false)

pub returns : goal.returns
returns c =
    let l = c.loop-k in
    sym (l.invariant ∙ simples_end (λ (x : Simple). x.exponent) exponent_listed c.args.part.now (2 * l.k) (omega (arith, c.requires)))
