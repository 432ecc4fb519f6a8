-- `notation::brackets::is_too_deep` meets its contract: until a byte is too deep, what is left of the text decides.
use Rattle.std.proofs.Common.{ℕ, get_or, ◌∙◌, sym, arith}
use Rattle.notation.specs.Grammar.{opening, closing}
use Rattle.notation.proofs.BracketLaws.{one_most, deep_stop, deep_pass, deep_end}
use Rattle.notation.proofs.brackets.is_too_deep.Goals as goal

pub returns-then-closed-opened : goal.returns-then-closed-opened
returns-then-closed-opened c =
    let l = c.loop-byte in
    sym (l.invariant.2 ∙ deep_stop l.opened l.closed c.args.text.now l.byte-index _ _ c.loop-byte-test.true c.from-opened.ensures c.from-closed.ensures (omega arith))

pub loop-byte-preserved : goal.loop-byte-preserved
loop-byte-preserved c =
    let l = c.loop-byte in
    let byte = get_or {A = ℕ} c.args.text.now l.byte-index 0 in
    (omega (arith, c.from-opened.ensures, one_most opening byte), omega (arith, c.from-closed.ensures, one_most closing byte), l.invariant.2 ∙ deep_pass l.opened l.closed c.args.text.now l.byte-index _ _ c.loop-byte-test.true c.from-opened.ensures c.from-closed.ensures (omega arith))

pub returns : goal.returns
returns c =
    let l = c.loop-byte in
    sym (l.invariant.2 ∙ deep_end l.opened l.closed c.args.text.now l.byte-index (omega arith))
