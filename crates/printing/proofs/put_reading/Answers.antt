-- `printing::put_reading` meets its contract: the first row, the rows of the words and those of the simple types, one behind another. The rows that are
-- kept are those of the answer's target, entries and partners, as they were taken from its values.
use Rattle.std.proofs.Common.{rules}
use Rattle.writing.specs.Placed.{Placed}
use Rattle.printing.specs.Kept.{kept_rows}
use Rattle.writing.proofs.Placing.{placed_append, countable_front, countable_back}
use Rattle.printing.proofs.RowLaws.{same_names}
use Rattle.printing.proofs.put_reading.Goals as goal

pub put_first_row-requires : goal.put_first_row-requires
put_first_row-requires c =
    let rows = rw (← c.partners_of-partners.ensures, ← c.entries_of-entries.ensures, ← c.target_of-target.ensures) at c.requires.countable in
    countable_front _ rows

pub put_word_rows-requires-clause-countable : goal.put_word_rows-requires-clause-countable
put_word_rows-requires-clause-countable c =
    let rows = rw (← c.partners_of-partners.ensures, ← c.entries_of-entries.ensures, ← c.target_of-target.ensures) at c.requires.countable in
    countable_front _ (countable_back rows c.put_first_row.ensures.placed)

pub put_type_rows-requires-clause-countable : goal.put_type_rows-requires-clause-countable
put_type_rows-requires-clause-countable c =
    let rows = rw (← c.partners_of-partners.ensures, ← c.entries_of-entries.ensures, ← c.target_of-target.ensures, ← same_names c.requires.named) at c.requires.countable in
    countable_back (countable_back rows c.put_first_row.ensures.placed) c.put_word_rows.ensures.placed

pub returns : goal.returns
returns c =
    let a = c.args in
    let end = c.put_type_rows.new.text in
    let placed : Placed a.text.now 0 (kept_rows a.book.now a.names.now a.types a.line.now a.values.now a.string.now a.letters.now) end.bytes.now end.place =
    rw (← c.partners_of-partners.ensures, ← c.entries_of-entries.ensures, ← c.target_of-target.ensures, ← same_names c.requires.named)
    (placed_append c.put_first_row.ensures.placed (placed_append c.put_word_rows.ensures.placed c.put_type_rows.ensures.placed)) in
    search (rules, placed)
