-- `rules::all_declared` meets its contract: until a simple type fails, the test of the whole is the test of what is left.
use native.Mathlib.Omega.{arith}
use Prim.Native.Nat.{ℕ, ◌*◌}
use mathlib.Core.Path.{sym, ◌∙◌}
use lib.ListN.{get_or}
use borrow.Author.Tests.{lt-ltb, le-ltb}
use Rattle.rules.proofs.Simples.{simples_stop, pairs_pass, simples_end}
use Rattle.rules.specs.Rules.{declared_among}
use Rattle.pregroup.specs.Types.{Simple}
use Rattle.rules.proofs.all_declared.Goals as goal

pub returns-then-types-from : goal.returns-then-types-from
returns-then-types-from c =
    let l = c.loop-k in
    let part = c.args.part.now in
    let types = c.args.types in
    sym (l.invariant ∙ simples_stop (λ (x : Simple). x.base) (declared_among types) part (2 * l.k) (omega (arith, c.requires)) (le-ltb (get_or {A = ℕ} part (2 * l.k) 0) types (omega arith)))

pub loop-k-preserved : goal.loop-k-preserved
loop-k-preserved c =
    let l = c.loop-k in
    let part = c.args.part.now in
    let types = c.args.types in
    l.invariant ∙ pairs_pass (λ (x : Simple). x.base) (declared_among types) part l.k (omega (arith, c.requires)) (lt-ltb (get_or {A = ℕ} part (2 * l.k) 0) types (omega arith))

pub returns : goal.returns
returns c =
    let l = c.loop-k in
    sym (l.invariant ∙ simples_end (λ (x : Simple). x.base) (declared_among c.args.types) c.args.part.now (2 * l.k) (omega (arith, c.requires)))
