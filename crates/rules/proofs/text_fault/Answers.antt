-- `rules::text_fault` meets its contract: what is read of the text decides, by the tests in the order of the rules.
use native.Mathlib.Omega.{arith}
use Prim.Native.Nat.{ℕ, ◌%◌, ◌≤◌}
use mathlib.Core.Path.{◌≡◌, sym, ap, ◌∙◌}
use mathlib.Core.Bool.{Bool}
use mathlib.Core.List.{List}
use lib.Dec.{ltb}
use lib.ListN.{length, take}
use Rattle.std.specs.List.{list_all}
use Rattle.std.proofs.lemmas.List.{length-take-le}
use Rattle.format.specs.Records.{Bytes, every, bodies_at}
use Rattle.format.proofs.NameLaws.{bodies_length}
use Rattle.notation.specs.Trees.{text_type}
use Rattle.rules.specs.Rules.{declared_among, bases}
use Rattle.rules.proofs.HeldDeclared.{held_all}
use Rattle.rules.proofs.Texts.{room_all, Shown, text_shown, text_unread, text_undeclared, text_long, text_full, text_clean}
use Rattle.rules.proofs.text_fault.Goals as goal

-- What is said of the first places is said of the text's type.
declared_is : {names : List Bytes} {text : Bytes} {places : List ℕ} {count types : ℕ} {t : Bool} → Shown names text places count → count ≤ length places
    → length names ≡ types → t ≡ list_all (λ (place : ℕ). ltb (place % 256) types) (take count places)
    → every (declared_among (length names)) (bases (text_type names text)) ≡ t
declared_is {names} {text} {places} {count} {types} shown few n says =
    ap (λ (k : ℕ). every (declared_among k) (bases (text_type names text))) n ∙ sym (says ∙ held_all places count few types (text_type names text) (sym shown.size) shown.holds)

pub read_text-requires : goal.read_text-requires
read_text-requires c = (c.requires, omega (arith, room_all))

pub returns-in_default : goal.returns-in_default
returns-in_default c =
    let names = bodies_at c.args.book.now c.args.names.now c.args.types in
    λ body targets worded is. c.unread_fault.ensures ∙ text_unread names c.args.text.now body c.args.entries targets worded is (sym c.in_default.ensures.all)

pub slice_bounds-places-end : goal.slice_bounds-places-end
slice_bounds-places-end c = omega (arith, room_all, c.in-Some.ensures.1.few, c.read_text.auto.places)

pub slice_bounds-held_declared-end : goal.slice_bounds-held_declared-end
slice_bounds-held_declared-end c =
    omega (arith, length-take-le c.in-Some.count c.read_text.new.places (omega (arith, room_all, c.in-Some.ensures.1.few, c.read_text.auto.places)))

pub returns-then-not-held_declared : goal.returns-then-not-held_declared
returns-then-not-held_declared c =
    let names = bodies_at c.args.book.now c.args.names.now c.args.types in
    let shown = text_shown names c.args.text.now c.in-Some.ensures.1 (λ z. omega (arith, c.in-Some.ensures.0)) in
    let declared = declared_is shown (omega (arith, room_all, c.in-Some.ensures.1.few, c.read_text.auto.places)) (bodies_length c.args.book.now c.args.names.now c.args.types c.requires.whole.room) c.held_declared.ensures in
    λ body targets worded is. text_undeclared names c.args.text.now body c.args.entries targets worded is shown (declared ∙ c.if-not-held_declared.true)

pub returns-then-count-gt-MAX_ENTRY_SIMPLES : goal.returns-then-count-gt-MAX_ENTRY_SIMPLES
returns-then-count-gt-MAX_ENTRY_SIMPLES c =
    let names = bodies_at c.args.book.now c.args.names.now c.args.types in
    let shown = text_shown names c.args.text.now c.in-Some.ensures.1 (λ z. omega (arith, c.in-Some.ensures.0)) in
    let declared = declared_is shown (omega (arith, room_all, c.in-Some.ensures.1.few, c.read_text.auto.places)) (bodies_length c.args.book.now c.args.names.now c.args.types c.requires.whole.room) c.held_declared.ensures in
    λ body targets worded is. text_long names c.args.text.now body c.args.entries targets worded is shown (declared ∙ c.if-not-held_declared.false) c.if-count-gt-MAX_ENTRY_SIMPLES.true

pub returns-then-entries-ge-MAX_ENTRIES : goal.returns-then-entries-ge-MAX_ENTRIES
returns-then-entries-ge-MAX_ENTRIES c =
    let names = bodies_at c.args.book.now c.args.names.now c.args.types in
    let shown = text_shown names c.args.text.now c.in-Some.ensures.1 (λ z. omega (arith, c.in-Some.ensures.0)) in
    let declared = declared_is shown (omega (arith, room_all, c.in-Some.ensures.1.few, c.read_text.auto.places)) (bodies_length c.args.book.now c.args.names.now c.args.types c.requires.whole.room) c.held_declared.ensures in
    λ body targets worded is. text_full names c.args.text.now body c.args.entries targets worded is shown (declared ∙ c.if-not-held_declared.false) c.if-count-gt-MAX_ENTRY_SIMPLES.false c.if-entries-ge-MAX_ENTRIES.true

pub returns : goal.returns
returns c =
    let names = bodies_at c.args.book.now c.args.names.now c.args.types in
    let shown = text_shown names c.args.text.now c.in-Some.ensures.1 (λ z. omega (arith, c.in-Some.ensures.0)) in
    let declared = declared_is shown (omega (arith, room_all, c.in-Some.ensures.1.few, c.read_text.auto.places)) (bodies_length c.args.book.now c.args.names.now c.args.types c.requires.whole.room) c.held_declared.ensures in
    λ body targets worded is. text_clean names c.args.text.now body c.args.entries targets worded is shown (declared ∙ c.if-not-held_declared.false) c.if-count-gt-MAX_ENTRY_SIMPLES.false c.if-entries-ge-MAX_ENTRIES.false
