-- `chart::join_row` meets its contract: nothing is joined where y does not contract or is a boundary, and otherwise the row behind it is.
use borrow.Author.Rules.{rules}
use native.Mathlib.Omega.{arith}
use Rattle.pregroup.proofs.LinkKinds.{told_apart, told_contracts}
use Rattle.bits.proofs.Gathering.{part_says, none_says}
use Rattle.chart.proofs.join_row.Goals as goal

pub next_at-next-requires : goal.next_at-next-requires
next_at-next-requires c = c.requires.0

pub returns-then-next-eq0 : goal.returns-then-next-eq0
returns-then-next-eq0 c =
    let a = c.args in
    none_says a.row.words (λ v j. omega (arith, j.simple, c.if-next-eq0.true, c.next_at-next.ensures))

pub unite-requires : goal.unite-requires
unite-requires c = rw c.next_at-next.ensures c.requires.1

pub returns-in-Not : goal.returns-in-Not
returns-in-Not c =
    let a = c.args in
    let asked = rw c.simple_at.ensures at c.may_contract.ensures in
    none_says a.row.words (λ v j. told_apart a.order.now a.x _ asked c.in-Not.is j.contracts)

pub returns-else-next-eq0 : goal.returns-else-next-eq0
returns-else-next-eq0 c =
    let a = c.args in
    let asked = rw c.simple_at.ensures at c.may_contract.ensures in
    let may = told_contracts a.order.now a.x _ asked (search rules) in
    part_says c.unite.result.words (rw c.next_at-next.ensures at c.unite.ensures) (λ v. (λ b. record { simple = omega (arith, c.if-next-eq0.false); contracts = may; behind = b }, λ j. j.behind))
