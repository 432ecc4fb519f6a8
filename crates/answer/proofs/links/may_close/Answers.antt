-- `answer::links::may_close` meets its contract: nothing closes that does not contract, and otherwise the table is asked.
use borrow.Author.Rules.{rules}
use Rattle.pregroup.proofs.LinkKinds.{told_apart, told_contracts}
use Rattle.bits.proofs.Cases.{false_iff}
use Rattle.answer.proofs.links.may_close.Goals as goal

pub returns-in-Not : goal.returns-in-Not
returns-in-Not c =
    let a = c.args in
    false_iff (λ h. told_apart a.order.now _ _ c.may_contract.ensures c.in-Not.is h.fits)

pub returns-in_default : goal.returns-in_default
returns-in_default c =
    let a = c.args in
    let may = told_contracts a.order.now _ _ c.may_contract.ensures (search rules) in
    (λ h. record { fits = may; behind = c.member.ensures.0 h }, λ h. c.member.ensures.1 h.behind)
