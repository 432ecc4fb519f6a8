-- `book::entries::entry_word` meets its contract: the word of the record's body.
use Rattle.rules.proofs.Layouts.{word_shape}
use Rattle.book.proofs.entries.entry_word.Goals as goal

pub word_part-requires : goal.word_part-requires
word_part-requires c = rw c.body_at.ensures (word_shape _ c.requires.1).fits
