-- `printing::put_refusal_row` meets its contract, field by field.
use Rattle.std.proofs.Common.{rules}
use Rattle.writing.specs.Placed.{Placed}
use Rattle.printing.specs.Rows.{refusal_row}
use Rattle.printing.proofs.Fields.{field_countable, fields_countable, row_placed, last_countable, last_placed}
use Rattle.printing.proofs.put_refusal_row.Goals as goal

pub put_text-requires : goal.put_text-requires
put_text-requires c = field_countable _ _ _ c.requires

pub put_number-requires : goal.put_number-requires
put_number-requires c = field_countable _ _ _ (fields_countable _ _ _ c.requires c.put_text.ensures.placed)

pub put_number-requires-2 : goal.put_number-requires-2
put_number-requires-2 c = last_countable _ (fields_countable _ _ _ (fields_countable _ _ _ c.requires c.put_text.ensures.placed) c.put_number.ensures.placed)

pub returns : goal.returns
returns c =
    let placed : Placed c.args.text.now c.args.at (refusal_row c.args.number c.args.value) c.put_number-2.new.self.bytes.now c.put_number-2.new.self.place =
    row_placed _ _ _ c.put_text.ensures.placed (row_placed _ _ _ c.put_number.ensures.placed (last_placed _ c.put_number-2.ensures.placed)) in
    search (rules, placed)
