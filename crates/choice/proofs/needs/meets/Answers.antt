-- `choice::needs::meets` meets its contract: word by word.
use borrow.Author.Rules.{rules}
use mathlib.Core.Path.{refl}
use mathlib.Core.Bool.{true, false}
use Rattle.std.proofs.lemmas.Iterator.{cases_from_any, YieldsList-from_range}
use Rattle.figures.specs.Limits.{row_words}
use Rattle.bits.proofs.Testing.{Tells, told_by}
use Rattle.choice.specs.Sets.{MeetsIn}
use Rattle.choice.proofs.Meeting.{meets_any}
use Rattle.choice.proofs.needs.meets.Goals as goal

pub returns : goal.returns
returns c =
    let a = c.args in
    meets_any _ _ _ _ c.any.result (cases_from_any _ _ _ (λ k. Tells (MeetsIn a.chart.now a.u a.needs.now a.n k) true) (λ k. Tells (MeetsIn a.chart.now a.u a.needs.now a.n k) false)
    c.any.ensures.ran (YieldsList-from_range 0 row_words row_words refl refl) (λ k q met. search (rules, told_by)) (λ k q met. (search rules, search (rules, told_by))))
