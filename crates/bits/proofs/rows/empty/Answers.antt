-- `bits::rows::empty` meets its contract: zeros have no member.
use Rattle.bits.proofs.RowLaws.{empty_says}
use Rattle.bits.proofs.rows.empty.Goals as goal

pub returns : goal.returns
returns c = empty_says
