-- `bits::rows::unite` meets its contract: word by word.
use native.Mathlib.Omega.{arith}
use Prim.Native.Nat.{◌*◌}
use mathlib.Core.Path.{◌≡◌}
use Rattle.figures.specs.Limits.{row_words}
use Rattle.bits.proofs.RowLaws.{Uniting, unite_starts, unite_one, unite_ends}
use Rattle.bits.proofs.rows.unite.Goals as goal

pub loop-k-init : goal.loop-k-init
loop-k-init c = (omega arith, unite_starts _ _ _ (omega arith))

pub loop-k-preserved : goal.loop-k-preserved
loop-k-preserved c =
    let l = c.loop-k in
    (omega arith, unite_one _ _ _ l.word-items l.k c.union.result l.invariant.1 (omega arith) c.union.ensures)

pub returns : goal.returns
returns c =
    let a = c.args in
    let l = c.loop-k in
    let all : l.k ≡ row_words = omega arith in
    let done : Uniting a.row.words a.rows.now (row_words * a.u) l.word-items row_words = rw all at l.invariant.1 in
    unite_ends a.row.words a.rows.now l.word-items a.u done
