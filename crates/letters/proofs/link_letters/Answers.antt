-- `letters::link_letters` meets its contract: each turn writes the letter of one position more.
use Rattle.std.proofs.Common.{arith}
use Rattle.std.proofs.lemmas.List.{length-set}
use Rattle.pregroup.specs.Held.{in_rows}
use Rattle.letters.specs.Letters.{t}
use Rattle.letters.proofs.LetterLaws.{lettering_start, lettering_next, lettering_whole}
use Rattle.letters.proofs.link_letters.Goals as goal

pub loop-i-init : goal.loop-i-init
loop-i-init c =
    let a = c.args in
    lettering_start (in_rows a.order.now) a.target a.string.now a.partners.now a.letters.now (omega arith)

pub loop-i-preserved : goal.loop-i-preserved
loop-i-preserved c =
    let a = c.args in
    lettering_next (in_rows a.order.now) a.target a.string.now a.partners.now c.loop-i.letters c.loop-i.i c.loop-i.invariant (omega arith) (omega arith) (omega (arith, length-set a.letters.now 0 t)) c.next_letter.ensures

pub returns : goal.returns
returns c =
    let a = c.args in
    lettering_whole (in_rows a.order.now) a.target a.string.now a.partners.now _ _ c.loop-i.invariant (omega arith)

pub returns-2 : goal.returns-2
returns-2 c =
    let a = c.args in
    let last = lettering_next (in_rows a.order.now) a.target a.string.now a.partners.now c.loop-i.letters c.loop-i.i c.loop-i.invariant (omega arith) (omega arith) (omega (arith, length-set a.letters.now 0 t)) c.next_letter.ensures in
    lettering_whole (in_rows a.order.now) a.target a.string.now a.partners.now _ _ last (omega arith)
