-- `choice::needs::links_to` meets its contract: by the three tests in turn.
use borrow.Author.Rules.{rules}
use native.Mathlib.Omega.{arith}
use borrow.Author.Tests.{eqb-true, eqb-false, not-true, not-false}
use mathlib.Core.Path.{sym, ap, ◌∙◌}
use mathlib.Core.Bool.{true≢false, not}
use Rattle.pregroup.proofs.LinkKinds.{told_apart, told_contracts}
use Rattle.bits.proofs.Cases.{false_iff}
use Rattle.choice.specs.Sets.{LinksTo}
use Rattle.choice.proofs.needs.links_to.Goals as goal
use Rattle.choice.proofs.needs.links_to.Goals.{in-Not, in_default, then-not-matches, else-not-matches}

pub returns-then-next-ne0 : goal.returns-then-next-ne0
returns-then-next-ne0 c =
    let asked = rw c.simple_at.ensures at c.may_contract-kind.ensures in
    let meets = rw c.next_at-next.ensures at c.meets.ensures in
    elim c.if-not-matches.branch [
      | then-not-matches w ↦ elim c.match-matches.branch [
        | in-Not v ↦ absurd (true≢false (sym v.matches-is ∙ w.if-not-matches.true))
        | in_default v ↦ (λ h. record { simple = omega (arith, c.next_at-next.ensures, eqb-false _ _ (not-true _ (sym w.value-is ∙ c.if-next-ne0.true))); contracts = told_contracts _ _ _ asked (search rules); behind = meets.0 h }, λ l. meets.1 l.behind)
      ]
      | else-not-matches w ↦ absurd (true≢false (sym c.if-next-ne0.true ∙ w.value-is ∙ ap not w.if-not-matches.false))
    ]

pub returns-else-next-ne0 : goal.returns-else-next-ne0
returns-else-next-ne0 c =
    let asked = rw c.simple_at.ensures at c.may_contract-kind.ensures in
    rw c.if-next-ne0.false (false_iff (λ (l : LinksTo _ _ _ _ _ _ _). elim c.if-not-matches.branch [
      | then-not-matches w ↦ omega (arith, l.simple, c.next_at-next.ensures, eqb-true _ _ (not-false _ (sym w.value-is ∙ c.if-next-ne0.false)))
      | else-not-matches w ↦ elim c.match-matches.branch [
        | in-Not v ↦ told_apart _ _ _ asked v.in-Not.is l.contracts
        | in_default v ↦ true≢false (sym w.if-not-matches.false ∙ v.matches-is)
      ]
    ]))
