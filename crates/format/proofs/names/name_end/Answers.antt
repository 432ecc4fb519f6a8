-- `format::names::name_end` meets its contract: until a byte is none of a name, the name goes on.
use native.Mathlib.Omega.{arith}
use mathlib.Core.Path.{sym, ◌∙◌}
use Rattle.format.proofs.NameLaws.{name_below, name_letter, name_byte_no}
use Rattle.format.proofs.NameFronts.{name_next, name_stop, name_end}
use Rattle.format.proofs.names.name_end.Goals as goal
use Rattle.format.proofs.names.name_end.Goals.{then-byte-lt97+else-not-is_ascii_digit, else-byte-lt97+else-byte-gt122}

pub returns-then-not-is_ascii_digit : goal.returns-then-not-is_ascii_digit
returns-then-not-is_ascii_digit c =
    name_stop c.loop-i.invariant (omega arith) (name_below _ (omega arith) ∙ sym c.is_ascii_digit.ensures.value ∙ c.if-not-is_ascii_digit.true)

pub returns-then-byte-gt122 : goal.returns-then-byte-gt122
returns-then-byte-gt122 c = name_stop c.loop-i.invariant (omega arith) (sym (name_byte_no _ (omega arith) (omega arith)))

pub loop-i-preserved : goal.loop-i-preserved
loop-i-preserved c =
    name_next c.loop-i.invariant (omega arith) ((elim c.if-byte-lt97.branch [ then-byte-lt97+else-not-is_ascii_digit w ↦ name_below _ w.if-byte-lt97.true ∙ sym w.is_ascii_digit.ensures.value ∙ w.if-not-is_ascii_digit.false | else-byte-lt97+else-byte-gt122 w ↦ sym (name_letter _ (w.if-byte-lt97.false, w.if-byte-gt122.false)) ]))

pub returns : goal.returns
returns c = name_end c.loop-i.invariant (omega arith)
