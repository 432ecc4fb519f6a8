-- `writing::Text::put_text` meets its contract: the byte that closes the field stands behind it.
use Rattle.writing.proofs.Placing.{placed_append}
use Rattle.writing.proofs.Text.put_text.Goals as goal

pub returns-clause-placed : goal.returns-clause-placed
returns-clause-placed c = placed_append c.put_bytes.ensures.placed c.put_byte.ensures.placed
