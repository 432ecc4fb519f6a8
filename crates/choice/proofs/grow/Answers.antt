-- `choice::grow` meets its contract: the partners are found, the table is extended, and the row of both is stored.
use mathlib.Core.Logic.Iff
use Rattle.bits.proofs.Gathering.{gathered_iff}
use Rattle.choice.proofs.grow.Goals as goal

pub returns : goal.returns
returns c =
    record { right = c.extend-closed.ensures.right; needs_new = λ v. Iff.trans (Iff.trans (c.store.ensures.stored v) (c.unite_all-row.ensures v)) (gathered_iff c.partners-partners.ensures (λ i w. (λ p. record { closed = (c.extend-closed.ensures.closes i).0 p.chosen; needed = p.there }, λ p. record { chosen = (c.extend-closed.ensures.closes i).1 p.closed; there = p.needed })) v); needs_kept = c.store.ensures.others }
