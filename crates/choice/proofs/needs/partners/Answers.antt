-- `choice::needs::partners` meets its contract: the members of the row behind u are asked, the first of which is the node behind u.
use borrow.Author.Rules.{rules}
use Rattle.std.proofs.Common.{add-zero}
use Rattle.bits.proofs.Testing.{told_by, tested_says}
use Rattle.pregroup.specs.Held.{InRows}
use Rattle.choice.specs.Sets.{LinksTo, Partner}
use Rattle.choice.proofs.needs.partners.Goals as goal

pub returns : goal.returns
returns c =
    let a = c.args in
    tested_says (LinksTo (InRows a.order.now) a.nodes.now a.chart.now a.needs.now a.n c.simple_at-x.result) _ c.members_where.ensures
    (λ v r said. search (rules, told_by))
    (λ v. rw (c.next_at-behind.ensures, c.simple_at-x.ensures, add-zero)
    (λ m. record { reached = m.1; links = m.2 }, λ (p : Partner (InRows a.order.now) a.nodes.now a.chart.now a.needs.now a.n a.u v). ((c.requires.0.reached v p.reached).0, p.reached, p.links)))
