-- `rules::target_fault` meets its contract: the tests come in the order of the rules.
use mathlib.Core.Path.{sym, refl}
use lib.ListN.{length}
use borrow.Author.Tests.{eq-eqb, ne_eqb, le-leb, lt-leb}
use native.Mathlib.Omega.{arith}
use Rattle.figures.specs.Limits.{max_targets}
use Rattle.rules.proofs.Faults.{one_no, one_yes, target_faults}
use Rattle.rules.proofs.target_fault.Goals as goal

pub returns-then-body-ne1 : goal.returns-then-body-ne1
returns-then-body-ne1 c =
    λ names entries h. sym (target_faults c.args.body.now names entries c.args.targets (ne_eqb _ _ c.if-body-ne1.true) refl refl)

pub returns-then-types-from : goal.returns-then-types-from
returns-then-types-from c =
    let a = c.args in
    let body = a.body.now in
    λ names entries h. sym (target_faults body names entries a.targets (eq-eqb (length body) 1 (omega arith)) (one_no (length names) body (omega arith) (omega arith)) refl)

pub returns-then-targets-ge-MAX_TARGETS : goal.returns-then-targets-ge-MAX_TARGETS
returns-then-targets-ge-MAX_TARGETS c =
    let a = c.args in
    let body = a.body.now in
    λ names entries h. sym (target_faults body names entries a.targets (eq-eqb (length body) 1 (omega arith)) (one_yes (length names) body (omega arith) (omega arith)) (le-leb max_targets a.targets (omega arith)))

pub returns : goal.returns
returns c =
    let a = c.args in
    let body = a.body.now in
    λ names entries h. sym (target_faults body names entries a.targets (eq-eqb (length body) 1 (omega arith)) (one_yes (length names) body (omega arith) (omega arith)) (lt-leb max_targets a.targets (omega arith)))
