-- `capitals::same_long` meets its contract: up to the first eight bytes that differ all letters are the same, and those eight or the
-- letters from there on decide.
use native.Mathlib.Omega.{arith}
use mathlib.Core.Path.{refl, sym, ◌∙◌}
use borrow.Author.Tests.{eq-eqb, ne_eqb}
use Rattle.capitals.proofs.LetterLaws.{equal_letters, other_letters, letters_before, other_somewhere, rest_tells}
use Rattle.capitals.proofs.same_long.Goals as goal

pub returns-then-x-y : goal.returns-then-x-y
returns-then-x-y c =
    let end = c.first_other-at.ensures.last (sym c.eight_bytes-x.ensures.value ∙ c.if-x-y.true ∙ c.eight_bytes-y.ensures.value) in
    eq-eqb _ _ c.if-x-y.true ∙ rest_tells _ _ (omega arith) (letters_before c.first_other-at.ensures) (omega arith) (omega (arith, end)) (λ e. equal_letters c.eight_bytes-x.ensures c.eight_bytes-y.ensures c.if-x-y.true, λ s. refl)

pub returns-else-x-y-2 : goal.returns-else-x-y-2
returns-else-x-y-2 c =
    ne_eqb _ _ c.if-x-y-2.false ∙ other_somewhere _ _ (other_letters c.eight_bytes-x.ensures c.eight_bytes-y.ensures c.if-x-y-2.false)

pub returns-then-x-y-2 : goal.returns-then-x-y-2
returns-then-x-y-2 c =
    rest_tells _ _ (omega arith) (letters_before c.first_other-at.ensures) (omega arith) (omega arith) c.same_eights.ensures
