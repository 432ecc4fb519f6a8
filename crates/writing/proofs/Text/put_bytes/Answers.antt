-- `writing::Text::put_bytes` meets its contract: what is left to put are the bytes from the loop's on.
use Rattle.std.proofs.Common.{◌∙◌, arith}
use Rattle.writing.proofs.Placing.{going_byte, going_end}
use Rattle.writing.proofs.Text.put_bytes.Goals as goal

pub loop-byte-preserved : goal.loop-byte-preserved
loop-byte-preserved c = record {
  lent = c.put_byte.ensures.lent ∙ c.loop-byte.invariant.lent;
  going = going_byte _ c.loop-byte.byte-index (omega arith) c.loop-byte.invariant.going c.put_byte.ensures.placed;
}

pub returns-clause-placed : goal.returns-clause-placed
returns-clause-placed c = going_end _ c.loop-byte.byte-index (omega arith) c.loop-byte.invariant.going
