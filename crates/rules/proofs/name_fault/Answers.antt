-- `rules::name_fault` meets its contract: the tests come in the order of the rules, and the number that the search returns says whether the name is used.
use mathlib.Core.Path.{◌≡◌, sym, refl, ◌∙◌}
use mathlib.Core.Bool.{true, false}
use mathlib.Core.List.{List}
use borrow.Author.Tests.{lt-ltb, le-ltb, le-leb, lt-leb}
use lib.ListN.{length}
use native.Mathlib.Omega.{arith}
use Prim.Native.Nat.{ℕ, ◌≤◌, ◌<◌}
use Rattle.figures.specs.Limits.{max_types}
use Rattle.format.specs.Records.{Bytes, bodies_at}
use Rattle.format.specs.Names.{number_of, is_among}
use Rattle.format.proofs.NameLaws.{bodies_length}
use Rattle.rules.proofs.Faults.{name_faults}
use Rattle.rules.proofs.name_fault.Goals as goal

module _ (names : List Bytes) (name : Bytes) {types found : ℕ} (count : length names ≡ types) (is : found ≡ number_of names name) where
  used : found < types → is_among names name ≡ true
  used h = lt-ltb (number_of names name) (length names) (omega arith)

  unused : types ≤ found → is_among names name ≡ false
  unused h = le-ltb (number_of names name) (length names) (omega arith)

pub returns-then-not-is_name : goal.returns-then-not-is_name
returns-then-not-is_name c =
    let names = bodies_at c.args.book.now c.args.names.now c.args.types in
    λ entries targets. sym (name_faults c.args.body.now names entries targets (sym c.is_name.ensures ∙ c.if-not-is_name.true) refl refl)

pub returns-then-search_name-types : goal.returns-then-search_name-types
returns-then-search_name-types c =
    let names = bodies_at c.args.book.now c.args.names.now c.args.types in
    let count = bodies_length c.args.book.now c.args.names.now c.args.types c.requires.whole.room in
    let layout = sym c.is_name.ensures ∙ c.if-not-is_name.false in
    λ entries targets. sym (name_faults c.args.body.now names entries targets layout (used names c.args.body.now count c.search_name.ensures c.if-search_name-types.true) refl)

pub returns-then-types-ge-MAX_TYPES : goal.returns-then-types-ge-MAX_TYPES
returns-then-types-ge-MAX_TYPES c =
    let names = bodies_at c.args.book.now c.args.names.now c.args.types in
    let count = bodies_length c.args.book.now c.args.names.now c.args.types c.requires.whole.room in
    let layout = sym c.is_name.ensures ∙ c.if-not-is_name.false in
    λ entries targets. sym (name_faults c.args.body.now names entries targets layout (unused names c.args.body.now count c.search_name.ensures c.if-search_name-types.false) (le-leb max_types (length names) (omega (arith, count))))

pub returns : goal.returns
returns c =
    let names = bodies_at c.args.book.now c.args.names.now c.args.types in
    let count = bodies_length c.args.book.now c.args.names.now c.args.types c.requires.whole.room in
    let layout = sym c.is_name.ensures ∙ c.if-not-is_name.false in
    λ entries targets. sym (name_faults c.args.body.now names entries targets layout (unused names c.args.body.now count c.search_name.ensures c.if-search_name-types.false) (lt-leb max_types (length names) (omega (arith, count))))
