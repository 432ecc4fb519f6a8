-- `book::entries::entry_length` meets its contract: the signs of a text are counted, and the bytes of pairs halved.
use mathlib.Core.Path.{sym, ap, ◌∙◌}
use Rattle.format.proofs.RecordLaws.{two_bytes_read}
use Rattle.rules.specs.Layouts.{type_part}
use Rattle.book.proofs.EntryTypes.{text_entry_length, pairs_entry_length}
use Rattle.book.proofs.entries.entry_length.Goals as goal

pub returns-then-two_bytes-eq-SLASHED_ENTRY : goal.returns-then-two_bytes-eq-SLASHED_ENTRY
returns-then-two_bytes-eq-SLASHED_ENTRY c =
    let part_is = c.type_part-part.ensures ∙ ap type_part c.body_at.ensures in
    λ names formed.
    c.count_simples.ensures ∙ text_entry_length c.args.book.now names c.args.at _ part_is formed (sym (two_bytes_read c.two_bytes.ensures) ∙ c.if-two_bytes-eq-SLASHED_ENTRY.true)

pub returns : goal.returns
returns c =
    let part_is = c.type_part-part.ensures ∙ ap type_part c.body_at.ensures in
    λ names formed. pairs_entry_length c.args.book.now names c.args.at _ part_is formed (λ e. c.if-two_bytes-eq-SLASHED_ENTRY.false (two_bytes_read c.two_bytes.ensures ∙ e))
