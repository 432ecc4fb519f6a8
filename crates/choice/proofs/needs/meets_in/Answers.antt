-- `choice::needs::meets_in` meets its contract: by the word of both.
use borrow.Author.Rules.{rules}
use native.Mathlib.Omega.{arith}
use Rattle.choice.proofs.Meeting.{word_tells}
use Rattle.choice.proofs.needs.meets_in.Goals as goal

pub returns : goal.returns
returns c = word_tells _ _ _ _ _ c.both.result (search rules) (omega (arith, c.both.type_inv)) c.both.ensures
