-- `table::extend` meets its contract: the row that it stores makes the table right for one simple type more.
use native.Mathlib.Omega.{arith}
use Prim.Native.Nat.{◌+◌}
use mathlib.Core.Path.{refl}
use Rattle.bits.proofs.Gathering.{alone_says}
use Rattle.table.proofs.TableLaws.{string_extends}
use Rattle.table.proofs.extend.Goals as goal

pub closed_by-closed-requires : goal.closed_by-closed-requires
closed_by-closed-requires c =
    record { string_there = c.requires.string_there; has_row = (omega arith, λ j h. ((c.requires.right c.args.k (omega arith) j).0 h).ordered) }

pub unite_all-row-requires : goal.unite_all-row-requires
unite_all-row-requires c =
    λ u h. omega (arith, c.requires.has_row, ((c.requires.right c.args.k (omega arith) (u + 1)).0 ((c.closed_by-closed.ensures u).0 h).behind).ordered)

pub returns : goal.returns
returns c =
    let put = c.put in
    string_extends c.args.string.now c.args.table.now c.args.k c.requires.right put.result.words c.closed_by-closed.result.words _ _ c.closed_by-closed.ensures (alone_says _ put.result.words refl c.empty.ensures put.ensures) c.unite_all-row.ensures c.store.ensures
