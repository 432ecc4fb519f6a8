-- `rules::slashed_fault` meets its contract: without a word in front the layout is wrong, and else the text decides.
use mathlib.Core.Path.{sym, refl, ◌∙◌}
use Rattle.format.specs.Records.{bodies_at}
use Rattle.rules.proofs.Faults.{slashed_faults}
use Rattle.rules.proofs.slashed_fault.Goals as goal

pub returns-then-not-is_worded : goal.returns-then-not-is_worded
returns-then-not-is_worded c =
    let a = c.args in
    let names = bodies_at a.book.now a.names.now a.types in
    λ targets. sym (slashed_faults a.body.now names a.entries targets (sym c.is_worded.ensures ∙ c.if-not-is_worded.true) refl refl refl refl refl refl)

pub returns : goal.returns
returns c =
    let worded = sym c.is_worded.ensures ∙ c.if-not-is_worded.false in
    λ targets. c.text_fault.ensures c.args.body.now targets worded (sym c.type_part.ensures)
