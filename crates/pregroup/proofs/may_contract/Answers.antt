-- `pregroup::may_contract` meets its contract: the test, and then the numbers of the basic types.
use mathlib.Core.Path.{sym, ◌∙◌}
use mathlib.Core.Bool.{true≢false}
use Rattle.pregroup.specs.Held.{held}
use Rattle.pregroup.proofs.HeldLaws.{held_base}
use Rattle.pregroup.proofs.LinkKinds.{rows_decide, kind_not, kind_same, kind_different}
use Rattle.pregroup.proofs.may_contract.Goals as goal

pub returns-then-not-contracts : goal.returns-then-not-contracts
returns-then-not-contracts c =
    let a = c.args in
    sym ((kind_not (rows_decide a.rows.now) (held a.x) (held a.y)).1 (λ k. true≢false (sym (c.contracts.ensures.1 k) ∙ c.if-not-contracts.true)))

pub returns-then-x-y : goal.returns-then-x-y
returns-then-x-y c =
    let a = c.args in
    let may = c.contracts.ensures.0 c.if-not-contracts.false in
    sym ((kind_same (rows_decide a.rows.now) (held a.x) (held a.y)).1 (may, held_base a.x ∙ c.if-x-y.true ∙ sym (held_base a.y)))

pub returns-else-x-y : goal.returns-else-x-y
returns-else-x-y c =
    let a = c.args in
    let may = c.contracts.ensures.0 c.if-not-contracts.false in
    sym ((kind_different (rows_decide a.rows.now) (held a.x) (held a.y)).1 (may, λ e. c.if-x-y.false (sym (held_base a.x) ∙ e ∙ held_base a.y)))
