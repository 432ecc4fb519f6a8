-- `pregroup::may_remain` meets its contract: an exponent other than 0 does not remain, and otherwise the rows are asked.
use Rattle.std.proofs.Common.{eqb-true, ◌∙◌, sym}
use Rattle.pregroup.proofs.HeldLaws.{held_plain, held_base}
use Rattle.pregroup.proofs.may_remain.Goals as goal

pub returns-then-x-from : goal.returns-then-x-from
returns-then-x-from c =
    let a = c.args in
    let plain = (held_plain a.x).1 (c.if-x-from.true ∙ c.from.ensures) in
    (λ h. record { is_plain = plain; below = rw (held_base a.x) (c.stands_below.ensures.0 h) }, λ h. c.stands_below.ensures.1 (rw (held_base a.x) at h.below))

pub returns-else-x-from : goal.returns-else-x-from
returns-else-x-from c =
    (λ h. absurd (c.if-x-from.false (eqb-true _ _ h)), λ h. absurd (c.if-x-from.false ((held_plain c.args.x).0 h.is_plain ∙ sym c.from.ensures)))
