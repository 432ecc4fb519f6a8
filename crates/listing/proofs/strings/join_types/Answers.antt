-- `listing::strings::join_types` meets its contract: the types of the entries before the i-th are written, and no entry has more than 12 simple types.
use native.Mathlib.Omega.{arith}
use mathlib.Core.List.{map}
use Rattle.format.specs.Records.{bodies_at}
use Rattle.book.specs.Kept.{entry_from}
use Rattle.listing.proofs.StringLaws.{joined_next, joined_all}
use Rattle.listing.proofs.strings.join_types.Goals as goal

pub append_type-end-requires : goal.append_type-end-requires
append_type-end-requires c =
    ((_, c.type_of-t.ensures), omega arith)

pub loop-number-preserved : goal.loop-number-preserved
loop-number-preserved c =
    let a = c.args in
    let now = c.loop-number in
    let spelt = rw c.from.ensures at (c.append_type-end.ensures.1 _ c.type_of-t.ensures) in
    (omega arith, omega (arith, c.type_of-t.ensures.count, c.type_of-t.ensures.short), joined_next (map (entry_from a.book.now (bodies_at a.book.now a.names.now a.types)) a.entries.now) a.chosen.now now.string c.append_type-end.new.string now.end c.append_type-end.result now.number-index c.loop-number-test.true now.invariant.2 spelt)

pub returns : goal.returns
returns c =
    let a = c.args in
    let now = c.loop-number in
    (omega arith, joined_all (map (entry_from a.book.now (bodies_at a.book.now a.names.now a.types)) a.entries.now) a.chosen.now now.string now.end now.number-index (omega arith) now.invariant.2)
