-- `slash::read_type` and `read_unit` meet their contracts. They call each other: from a type to its units the depth stays, and from a unit
-- to the type in its brackets it falls.
use native.Mathlib.Omega.{arith}
use Rattle.std.proofs.Common.{rules}
use Prim.Native.Nat.{ℕ, suc, ◌+◌, ◌-◌, ◌≤◌}
use mathlib.Core.Path.{◌≡◌, refl, sym, subst, ◌∙◌}
use lib.ListN.{length}
use Rattle.slash.specs.Parsing.{room}
use Rattle.slash.proofs.PlaceLaws.{room_none, room_some, room_twice}
use Rattle.slash.proofs.ParserLaws.{says_nothing, said_nothing, said_front, unit_empty, unit_name, unit_zero, byte_got}
use Rattle.slash.proofs.Composing.{unit_named, type_none, brackets_none, brackets_cut, brackets_open, brackets_closed, turned_left, alone_read, over_read, under_read, unit_turnable, unit_turned, first_inside, second_inside, second_fits}
use Rattle.slash.proofs.+read_type_read_unit.Goals as goal

-- There is room for a type's first unit ..
pub read_type-read_unit-requires : goal.read_type-read_unit-requires
read_type-read_unit-requires t c =
    (omega arith, record { named = c.requires.named; inside = c.requires.inside; shallow = c.requires.shallow; space = omega (arith, c.requires.space, room_twice c.args.depth) })

pub read_type-returns-in_err-first : goal.read_type-returns-in_err-first
read_type-returns-in_err-first t c =
    rw c.from_residual.ensures (says_nothing (type_none c.args.depth _ (said_nothing c.in_err-first.ensures)))

pub read_type-read_unit-requires-in-Some-Slash : goal.read_type-read_unit-requires-in-Some-Slash
read_type-read_unit-requires-in-Some-Slash t c =
    let sign = rw c.in-Some-Slash.field-0-is at c.in-Some-Slash.ensures in
    (omega arith, second_fits c.requires (said_front c.in_ok-first.ensures) sign.0 c.read_unit.auto.places)

pub read_type-returns-in_err-second-in-Some-Slash : goal.read_type-returns-in_err-second-in-Some-Slash
read_type-returns-in_err-second-in-Some-Slash t c =
    let first = said_front c.in_ok-first.ensures in
    let sign = rw c.in-Some-Slash.field-0-is at c.in-Some-Slash.ensures in
    rw c.from_residual-in_err-second-in-Some-Slash.ensures
    (over_read _ _ first sign (says_nothing (said_nothing c.in_err-second-in-Some-Slash.ensures)))

pub read_type-turn-requires : goal.read_type-turn-requires
read_type-turn-requires t c =
    let first = said_front c.in_ok-first.ensures in
    let second = said_front c.in_ok-second-in-Some-Slash.ensures in
    unit_turnable c.requires.shallow (second_inside c.requires first second (c.read_unit-in-Some-Slash.auto.places ∙ c.read_unit.auto.places)) second

pub read_type-turn-requires-in-Some-Backslash : goal.read_type-turn-requires-in-Some-Backslash
read_type-turn-requires-in-Some-Backslash t c =
    let first = said_front c.in_ok-first.ensures in
    unit_turnable c.requires.shallow (first_inside c.requires first c.read_unit.auto.places) first

pub read_type-read_unit-requires-in-Some-Backslash : goal.read_type-read_unit-requires-in-Some-Backslash
read_type-read_unit-requires-in-Some-Backslash t c =
    let sign = rw c.in-Some-Backslash.field-0-is at c.in-Some-Backslash.ensures in
    let first = said_front c.in_ok-first.ensures in
    let inside = first_inside c.requires first c.read_unit.auto.places in
    let turned = unit_turned first inside c.turn-in-Some-Backslash.auto.simples c.turn-in-Some-Backslash.ensures in
    (omega arith, second_fits c.requires first sign.0 (turned.size ∙ c.read_unit.auto.places))

pub read_type-offset_bounds-places-first : goal.read_type-offset_bounds-places-first
read_type-offset_bounds-places-first t c =
    let first = said_front c.in_ok-first.ensures in
    let inside = first_inside c.requires first c.read_unit.auto.places in
    search rules

pub read_type-slice_bounds-turn-end : goal.read_type-slice_bounds-turn-end
read_type-slice_bounds-turn-end t c =
    let first = said_front c.in_ok-first.ensures in
    let second = said_front c.in_ok-second-in-Some-Slash.ensures in
    second_inside c.requires first second (c.read_unit-in-Some-Slash.auto.places ∙ c.read_unit.auto.places)

pub read_type-slice_bounds-turn-end-in-Some-Backslash : goal.read_type-slice_bounds-turn-end-in-Some-Backslash
read_type-slice_bounds-turn-end-in-Some-Backslash t c =
    let first = said_front c.in_ok-first.ensures in
    first_inside c.requires first c.read_unit.auto.places

pub read_type-returns-in-None : goal.read_type-returns-in-None
read_type-returns-in-None t c = alone_read _ _ (said_front c.in_ok-first.ensures) c.in-None.ensures

pub read_type-returns-in_ok-second-in-Some-Slash : goal.read_type-returns-in_ok-second-in-Some-Slash
read_type-returns-in_ok-second-in-Some-Slash t c =
    let first = said_front c.in_ok-first.ensures in
    let sign = rw c.in-Some-Slash.field-0-is at c.in-Some-Slash.ensures in
    let second = said_front c.in_ok-second-in-Some-Slash.ensures in
    let inside = second_inside c.requires first second (c.read_unit-in-Some-Slash.auto.places ∙ c.read_unit.auto.places) in
    over_read _ _ first sign (turned_left _ c.requires.shallow inside second (unit_turned second inside c.turn.auto.simples c.turn.ensures))

pub read_type-returns-in-Some-Backslash : goal.read_type-returns-in-Some-Backslash
read_type-returns-in-Some-Backslash t c =
    let first = said_front c.in_ok-first.ensures in
    let sign = rw c.in-Some-Backslash.field-0-is at c.in-Some-Backslash.ensures in
    let inside = first_inside c.requires first c.read_unit.auto.places in
    under_read _ _ first c.requires.shallow inside (unit_turned first inside c.turn-in-Some-Backslash.auto.simples c.turn-in-Some-Backslash.ensures) sign
    c.read_unit-in-Some-Backslash.ensures

pub read_unit-returns-in_err-get : goal.read_unit-returns-in_err-get
read_unit-returns-in_err-get t c =
    let past : length c.args.text.now ≤ c.args.at = omega (arith, c.in_err-get.ensures.lookup) in
    rw c.from_residual.ensures (says_nothing (unit_empty _ _ c.args.depth past))

pub read_unit-read_name-requires : goal.read_unit-read_name-requires
read_unit-read_name-requires t c =
    let (there, byte) = byte_got c.args.text.now c.args.at c.in_ok-get.field-0 c.in_ok-get.ensures.lookup in
    (record { named = c.requires.named; inside = c.requires.inside; shallow = omega arith; space = omega (arith, c.requires.space, room_none, room_some c.args.depth) }, there)

pub read_unit-returns-then-branch-ne40 : goal.read_unit-returns-then-branch-ne40
read_unit-returns-then-branch-ne40 t c =
    let (there, byte) = byte_got c.args.text.now c.args.at c.in_ok-get.field-0 c.in_ok-get.ensures.lookup in
    unit_named (unit_name _ _ c.args.depth there (λ e. c.if-branch-ne40.true (byte ∙ e))) c.read_name.ensures

pub read_unit-returns-then-depth-eq0 : goal.read_unit-returns-then-depth-eq0
read_unit-returns-then-depth-eq0 t c =
    let (there, byte) = byte_got c.args.text.now c.args.at c.in_ok-get.field-0 c.in_ok-get.ensures.lookup in
    says_nothing (unit_zero _ _ c.args.depth c.if-depth-eq0.true there (sym byte ∙ c.if-branch-ne40.false))

pub read_unit-read_type-requires : goal.read_unit-read_type-requires
read_unit-read_type-requires t c =
    let (there, byte) = byte_got c.args.text.now c.args.at c.in_ok-get.field-0 c.in_ok-get.ensures.lookup in
    let deep : c.args.depth ≡ suc (c.args.depth - 1) = omega (arith, c.if-depth-eq0.false) in
    let space = subst (λ (d : ℕ). c.args.from + room d ≤ length c.args.places.now) deep c.requires.space in
    (omega (arith, deep), record { named = c.requires.named; inside = omega (arith, there); shallow = omega (arith, c.requires.shallow); space = space })

pub read_unit-returns-in_err-inside : goal.read_unit-returns-in_err-inside
read_unit-returns-in_err-inside t c =
    let (there, byte) = byte_got c.args.text.now c.args.at c.in_ok-get.field-0 c.in_ok-get.ensures.lookup in
    let deep : c.args.depth ≡ suc (c.args.depth - 1) = omega (arith, c.if-depth-eq0.false) in
    rw c.from_residual-in_err-inside.ensures
    (says_nothing (brackets_none _ c.args.at (c.args.depth - 1) deep there (sym byte ∙ c.if-branch-ne40.false) (said_nothing c.in_err-inside.ensures)))

pub read_unit-returns-in_err-get-2 : goal.read_unit-returns-in_err-get-2
read_unit-returns-in_err-get-2 t c =
    let (there, byte) = byte_got c.args.text.now c.args.at c.in_ok-get.field-0 c.in_ok-get.ensures.lookup in
    let deep : c.args.depth ≡ suc (c.args.depth - 1) = omega (arith, c.if-depth-eq0.false) in
    let past : length c.args.text.now ≤ c.in_ok-inside.inside.behind = omega (arith, c.in_err-get-2.ensures.lookup) in
    rw c.from_residual-in_err-get-2.ensures
    (says_nothing (brackets_cut c.args.at (c.args.depth - 1) deep there (sym byte ∙ c.if-branch-ne40.false) (said_front c.in_ok-inside.ensures) past))

pub read_unit-returns-then-branch-ne41 : goal.read_unit-returns-then-branch-ne41
read_unit-returns-then-branch-ne41 t c =
    let (there, byte) = byte_got c.args.text.now c.args.at c.in_ok-get.field-0 c.in_ok-get.ensures.lookup in
    let deep : c.args.depth ≡ suc (c.args.depth - 1) = omega (arith, c.if-depth-eq0.false) in
    let (next, other) = byte_got c.args.text.now c.in_ok-inside.inside.behind c.in_ok-get-2.field-0 c.in_ok-get-2.ensures.lookup in
    says_nothing
    (brackets_open c.args.at (c.args.depth - 1) deep there (sym byte ∙ c.if-branch-ne40.false) (said_front c.in_ok-inside.ensures) next (λ e. c.if-branch-ne41.true (other ∙ e)))

pub read_unit-returns : goal.read_unit-returns
read_unit-returns t c =
    let (there, byte) = byte_got c.args.text.now c.args.at c.in_ok-get.field-0 c.in_ok-get.ensures.lookup in
    let deep : c.args.depth ≡ suc (c.args.depth - 1) = omega (arith, c.if-depth-eq0.false) in
    let (next, closes) = byte_got c.args.text.now c.in_ok-inside.inside.behind c.in_ok-get-2.field-0 c.in_ok-get-2.ensures.lookup in
    rw deep
    (brackets_closed c.args.at (c.args.depth - 1) refl there (sym byte ∙ c.if-branch-ne40.false) (said_front c.in_ok-inside.ensures) next (sym closes ∙ c.if-branch-ne41.false))
