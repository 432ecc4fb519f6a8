-- `bits::rows::put_in` meets its contract: one word has one member more.
use native.Mathlib.Omega.{arith}
use Rattle.bits.proofs.RowLaws.{put_says}
use Rattle.bits.proofs.rows.put_in.Goals as goal

pub returns : goal.returns
returns c = put_says c.args.words.now c.args.v c.with.result c.requires.1 (omega arith) c.with.ensures
