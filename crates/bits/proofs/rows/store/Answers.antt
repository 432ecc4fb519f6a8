-- `bits::rows::store` meets its contract: row u is overwritten.
use Rattle.std.proofs.Common.{◌≡◌, ℕ, length, ap, arith, length-take, length-drop}
use Rattle.figures.specs.Limits.{row_words}
use Rattle.bits.proofs.RowLaws.{store_says}
use Rattle.bits.proofs.rows.store.Goals as goal

pub returns : goal.returns
returns c =
    let a = c.args in
    let copied = c.copy_from_slice.ensures in
    let nine : length a.row.words ≡ row_words = omega (arith, ap length copied.after, length-take {A = ℕ}, length-drop {A = ℕ}) in
    rw copied.after (store_says a.rows.now a.row.words a.u c.requires nine)
