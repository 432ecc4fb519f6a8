-- `bits::rows::next_member` meets its contract: each turn passes one word, or finds its lowest member.
use native.Mathlib.Omega.{arith}
use Prim.Native.Nat.{◌+◌, ◌*◌, ◌/◌}
use mathlib.Core.Path.{◌≡◌}
use Rattle.figures.specs.Limits.{row_bits}
use Rattle.bits.proofs.RowLaws.{Walked, walk_starts, walk_on, walk_finds, walk_ends}
use Rattle.bits.proofs.rows.next_member.Goals as goal

pub loop-at-init : goal.loop-at-init
loop-at-init c = walk_starts _ _ _ (omega arith)

pub returns-then-word-ne0 : goal.returns-then-word-ne0
returns-then-word-ne0 c =
    let a = c.args in
    let l = c.loop-at in
    walk_finds a.rows.now a.u a.from l.at _ l.invariant (omega arith) c.above-word.ensures c.lowest.result (omega (arith, c.type_inv.rows (9 * a.u + l.at / 64))) c.lowest.ensures

pub loop-at-preserved : goal.loop-at-preserved
loop-at-preserved c =
    let l = c.loop-at in
    walk_on _ _ _ l.at _ l.invariant (omega arith) c.above-word.ensures (omega arith)

pub returns : goal.returns
returns c =
    let a = c.args in
    let l = c.loop-at in
    let all : l.at ≡ row_bits = omega arith in
    let done : Walked a.rows.now a.u a.from row_bits = rw all at l.invariant in
    walk_ends done
