-- `rules::pair_fault` meets its contract: the tests come in the order of the rules.
use mathlib.Core.Path.{sym, refl}
use lib.ListN.{length}
use borrow.Author.Tests.{eq-eqb, ne_eqb}
use native.Mathlib.Omega.{arith}
use Rattle.rules.proofs.Faults.{two_first_no, two_second_no, two_yes, pair_faults}
use Rattle.rules.proofs.pair_fault.Goals as goal

pub returns-then-body-ne2 : goal.returns-then-body-ne2
returns-then-body-ne2 c =
    λ names entries targets h. sym (pair_faults c.args.body.now names entries targets (ne_eqb _ _ c.if-body-ne2.true) refl)

pub returns-then-types-from : goal.returns-then-types-from
returns-then-types-from c =
    let body = c.args.body.now in
    λ names entries targets h. sym (pair_faults body names entries targets (eq-eqb (length body) 2 (omega arith)) (two_first_no (length names) body (omega arith) (omega arith)))

pub returns-then-types-from-2 : goal.returns-then-types-from-2
returns-then-types-from-2 c =
    let body = c.args.body.now in
    λ names entries targets h. sym (pair_faults body names entries targets (eq-eqb (length body) 2 (omega arith)) (two_second_no (length names) body (omega arith) (omega arith) (omega arith)))

pub returns : goal.returns
returns c =
    let body = c.args.body.now in
    λ names entries targets h. sym (pair_faults body names entries targets (eq-eqb (length body) 2 (omega arith)) (two_yes (length names) body (omega arith) (omega arith) (omega arith)))
