-- `book::entries::entry_type` meets its contract: the record's kind says how its type stands.
use mathlib.Core.Path.{sym, ap, ◌∙◌}
use Rattle.format.proofs.RecordLaws.{two_bytes_read}
use Rattle.rules.specs.Layouts.{type_part}
use Rattle.book.proofs.EntryTypes.{text_entry, pairs_entry, formed_text, formed_pairs}
use Rattle.book.proofs.entries.entry_type.Goals as goal

pub text_type-requires : goal.text_type-requires
text_type-requires c =
    let part_is = c.type_part-part.ensures ∙ ap type_part c.body_at.ensures in
    let formed = formed_text _ _ _ _ part_is c.requires.2 (sym (two_bytes_read c.two_bytes.ensures) ∙ c.if-two_bytes-eq-SLASHED_ENTRY.true) in
    (c.requires.0, formed.0, formed.1)

pub returns-then-two_bytes-eq-SLASHED_ENTRY : goal.returns-then-two_bytes-eq-SLASHED_ENTRY
returns-then-two_bytes-eq-SLASHED_ENTRY c =
    let part_is = c.type_part-part.ensures ∙ ap type_part c.body_at.ensures in
    text_entry _ _ _ _ part_is (sym (two_bytes_read c.two_bytes.ensures) ∙ c.if-two_bytes-eq-SLASHED_ENTRY.true) _ c.text_type.ensures

pub pairs_type-requires : goal.pairs_type-requires
pairs_type-requires c =
    let part_is = c.type_part-part.ensures ∙ ap type_part c.body_at.ensures in
    formed_pairs _ _ _ _ part_is c.requires.2 (λ e. c.if-two_bytes-eq-SLASHED_ENTRY.false (two_bytes_read c.two_bytes.ensures ∙ e))

pub returns : goal.returns
returns c =
    let part_is = c.type_part-part.ensures ∙ ap type_part c.body_at.ensures in
    pairs_entry _ _ _ _ part_is (λ e. c.if-two_bytes-eq-SLASHED_ENTRY.false (two_bytes_read c.two_bytes.ensures ∙ e)) _ c.pairs_type.ensures
