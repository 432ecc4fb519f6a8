-- `capitals::same_eights` meets its contract: the letters are the same at every place passed, and the last eight decide.
use native.Mathlib.Omega.{arith}
use mathlib.Core.Bool.{false≢true}
use borrow.Author.Tests.{eqb-true, eq-eqb}
use Rattle.capitals.proofs.LetterLaws.{small_eights_tell, letters_within, letters_more}
use Rattle.capitals.proofs.same_eights.Goals as goal

pub returns-then-small_eight : goal.returns-then-small_eight
returns-then-small_eight c =
    let tell = small_eights_tell c.eight_bytes.ensures c.eight_bytes-in-loop-k.ensures c.small_eight.ensures c.small_eight-in-loop-k.ensures in
    (λ e. absurd (false≢true e), λ s. absurd (c.if-small_eight.true (tell.1 (letters_within s (omega arith) (omega arith)))))

pub loop-k-preserved : goal.loop-k-preserved
loop-k-preserved c =
    let tell = small_eights_tell c.eight_bytes.ensures c.eight_bytes-in-loop-k.ensures c.small_eight.ensures c.small_eight-in-loop-k.ensures in
    letters_within (letters_more c.loop-k.invariant (tell.0 c.if-small_eight.false) (omega arith)) (omega arith) (omega arith)

pub returns : goal.returns
returns c =
    let tell = small_eights_tell c.eight_bytes-2.ensures c.eight_bytes-3.ensures c.small_eight-2.ensures c.small_eight-3.ensures in (
      λ e. letters_within (letters_more c.loop-k.invariant (tell.0 (eqb-true _ _ e)) (omega arith)) (omega arith) (omega arith),
      λ s. eq-eqb _ _ (tell.1 (letters_within s (omega arith) (omega arith))),
    )
