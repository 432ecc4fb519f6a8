-- `printing::put_type_row` meets its contract, field by field.
use Rattle.printing.proofs.Fields.{field_countable, fields_countable, row_placed, last_countable, last_placed}
use Rattle.printing.proofs.put_type_row.Goals as goal

pub put_number-requires : goal.put_number-requires
put_number-requires c = field_countable _ _ _ c.requires

pub put_text-requires : goal.put_text-requires
put_text-requires c = field_countable _ _ _ (fields_countable _ _ _ c.requires c.put_number.ensures.placed)

pub put_exponent-requires : goal.put_exponent-requires
put_exponent-requires c = field_countable _ _ _ (fields_countable _ _ _ (fields_countable _ _ _ c.requires c.put_number.ensures.placed) c.put_text.ensures.placed)

pub put_number-requires-2 : goal.put_number-requires-2
put_number-requires-2 c = field_countable _ _ _ (fields_countable _ _ _ (fields_countable _ _ _ (fields_countable _ _ _ c.requires c.put_number.ensures.placed) c.put_text.ensures.placed) c.put_exponent.ensures.placed)

pub put_text-requires-2 : goal.put_text-requires-2
put_text-requires-2 c = last_countable _ (fields_countable _ _ _ (fields_countable _ _ _ (fields_countable _ _ _ (fields_countable _ _ _ c.requires c.put_number.ensures.placed) c.put_text.ensures.placed) c.put_exponent.ensures.placed) c.put_number-2.ensures.placed)

pub returns-clause-placed : goal.returns-clause-placed
returns-clause-placed c =
    row_placed _ _ _ c.put_number.ensures.placed (row_placed _ _ _ c.put_text.ensures.placed (row_placed _ _ _ c.put_exponent.ensures.placed (row_placed _ _ _ c.put_number-2.ensures.placed (last_placed _ c.put_text-2.ensures.placed))))
