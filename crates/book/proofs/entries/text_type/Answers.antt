-- `book::entries::text_type` meets its contract: the first places are those that the text was read to.
use Rattle.std.proofs.Common.{arith}
use Rattle.rules.proofs.Texts.{room_all}
use Rattle.book.proofs.entries.text_type.Goals as goal

pub read_text-requires : goal.read_text-requires
read_text-requires c = (c.requires.0, omega (arith, room_all))
