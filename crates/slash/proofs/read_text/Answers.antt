-- `slash::read_text` meets its contract: a type that is read with nothing left behind it is that of the whole text.
use native.Mathlib.Omega.{arith}
use Rattle.slash.proofs.ParserLaws.{said_nothing, said_front}
use Rattle.slash.proofs.TextRead.{text_nothing, text_more, text_all}
use Rattle.slash.proofs.read_text.Goals as goal

pub returns-in_err-all : goal.returns-in_err-all
returns-in_err-all c = rw c.from_residual.ensures (text_nothing (said_nothing c.in_err-all.ensures))

pub returns-then-all-text : goal.returns-then-all-text
returns-then-all-text c = text_more (said_front c.in_ok-all.ensures) (omega arith)

pub returns : goal.returns
returns c = text_all (said_front c.in_ok-all.ensures) (omega arith)
