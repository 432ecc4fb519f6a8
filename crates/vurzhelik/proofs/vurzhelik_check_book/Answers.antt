-- `vurzhelik::vurzhelik_check_book` meets its contract: what the book check answers is handed on as numbers.
use mathlib.Core.Path.{sym, ◌∙◌}
use Rattle.vurzhelik.proofs.Numbers.{refused_checks, accepted_checks}
use Rattle.vurzhelik.proofs.vurzhelik_check_book.Goals as goal

pub returns-in-Err : goal.returns-in-Err
returns-in-Err c =
    let check = c.check_book.ensures.value in
    refused_checks _ _ _ _ (sym c.in-Err.is ∙ check)

pub returns-in-Ok : goal.returns-in-Ok
returns-in-Ok c =
    let check = c.check_book.ensures.value in
    accepted_checks _ _ _ _ _ (sym c.in-Ok.is ∙ check)
