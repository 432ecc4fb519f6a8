-- `listing::parts::type_of` meets its contract: a type is that of the entry whose record stands at the kept offset.
use native.Mathlib.Omega.{arith}
use Prim.Native.Nat.{◌≤◌}
use mathlib.Core.Path.{refl, ◌∙◌}
use lib.ListN.{length}
use Rattle.std.proofs.lemmas.Grind.{common_steps}
use Rattle.format.specs.Records.{bodies_at}
use Rattle.listing.proofs.PartLaws.{type_at, no_type, nothing_held}
use Rattle.listing.proofs.parts.type_of.Goals as goal

pub entry_type-requires : goal.entry_type-requires
entry_type-requires c =
    let i = c.args.entry in
    let at = c.in-Some.ensures.lookup.3 in
    rw (c.from.ensures ∙ at.1 0) (c.requires.0, c.requires.1.kept.whole i at.0, c.requires.1.formed i at.0)

pub returns-in-Some : goal.returns-in-Some
returns-in-Some c =
    let a = c.args in
    let at = c.in-Some.ensures.lookup.3 in
    rw (type_at a.book.now (bodies_at a.book.now a.names.now a.types) a.entries.now a.entry at.0) (rw (c.from.ensures ∙ at.1 0) at c.entry_type.ensures)

pub returns-in-None : goal.returns-in-None
returns-in-None c =
    let a = c.args in
    let past : length a.entries.now ≤ a.entry = grind (arith, common_steps) in
    rw (no_type a.book.now (bodies_at a.book.now a.names.now a.types) a.entries.now a.entry past) (nothing_held _ refl)
