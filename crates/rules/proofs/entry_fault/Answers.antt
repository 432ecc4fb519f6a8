-- `rules::entry_fault` meets its contract: the tests come in the order of the rules.
use native.Mathlib.Omega.{arith}
use Prim.Native.Nat.{ℕ}
use mathlib.Core.Path.{◌≡◌, sym, refl, ap, ap₂, ◌∙◌}
use mathlib.Core.Bool.{Bool}
use mathlib.Core.List.{List}
use lib.ListN.{length}
use borrow.Author.Tests.{le-leb, lt-leb}
use Rattle.figures.specs.Limits.{max_entries}
use Rattle.format.specs.Records.{Bytes, every}
use Rattle.rules.specs.Layouts.{type_part, simples_of}
use Rattle.rules.specs.Rules.{declared_among, bases, exponent_listed, exponents}
use Rattle.rules.proofs.Layouts.{entry_worded, entry_shape}
use Rattle.rules.proofs.Faults.{entry_faults}
use Rattle.rules.proofs.entry_fault.Goals as goal

-- What the two loops say of the part that was taken, said of the body.
declared_is : (body : Bytes) {t : Bool} {part : Bytes} {types : ℕ} → t ≡ every (declared_among types) (bases (simples_of part)) → part ≡ type_part body
    → (names : List Bytes) → length names ≡ types → every (declared_among (length names)) (bases (simples_of (type_part body))) ≡ t
declared_is body says is names h = ap₂ (λ (n : ℕ) (X : Bytes). every (declared_among n) (bases (simples_of X))) h (sym is) ∙ sym says

listed_is : (body : Bytes) {t : Bool} {part : Bytes} → t ≡ every exponent_listed (exponents (simples_of part)) → part ≡ type_part body
    → every exponent_listed (exponents (simples_of (type_part body))) ≡ t
listed_is body says is = ap (λ (X : Bytes). every exponent_listed (exponents (simples_of X))) (sym is) ∙ sym says

pub returns-then-not-is_entry : goal.returns-then-not-is_entry
returns-then-not-is_entry c =
    λ names targets h. sym (entry_faults c.args.body.now names c.args.entries targets (sym c.is_entry.ensures ∙ c.if-not-is_entry.true) refl refl refl)

pub type_part-part-requires : goal.type_part-part-requires
type_part-part-requires c = entry_worded _ (sym c.is_entry.ensures ∙ c.if-not-is_entry.false)

pub all_declared-requires : goal.all_declared-requires
all_declared-requires c =
    rw c.type_part-part.ensures (entry_shape _ (sym c.is_entry.ensures ∙ c.if-not-is_entry.false)).pairs

pub returns-then-not-all_declared : goal.returns-then-not-all_declared
returns-then-not-all_declared c =
    let layout = sym c.is_entry.ensures ∙ c.if-not-is_entry.false in
    let declared = declared_is c.args.body.now c.all_declared.ensures c.type_part-part.ensures in
    λ names targets h. sym (entry_faults c.args.body.now names c.args.entries targets layout (declared names h ∙ c.if-not-all_declared.true) refl refl)

pub all_exponents-requires : goal.all_exponents-requires
all_exponents-requires c =
    rw c.type_part-part.ensures (entry_shape _ (sym c.is_entry.ensures ∙ c.if-not-is_entry.false)).pairs

pub returns-then-not-all_exponents : goal.returns-then-not-all_exponents
returns-then-not-all_exponents c =
    let layout = sym c.is_entry.ensures ∙ c.if-not-is_entry.false in
    let declared = declared_is c.args.body.now c.all_declared.ensures c.type_part-part.ensures in
    let listed = listed_is c.args.body.now c.all_exponents.ensures c.type_part-part.ensures ∙ c.if-not-all_exponents.true in
    λ names targets h. sym (entry_faults c.args.body.now names c.args.entries targets layout (declared names h ∙ c.if-not-all_declared.false) listed refl)

pub returns-then-entries-ge-MAX_ENTRIES : goal.returns-then-entries-ge-MAX_ENTRIES
returns-then-entries-ge-MAX_ENTRIES c =
    let layout = sym c.is_entry.ensures ∙ c.if-not-is_entry.false in
    let declared = declared_is c.args.body.now c.all_declared.ensures c.type_part-part.ensures in
    let listed = listed_is c.args.body.now c.all_exponents.ensures c.type_part-part.ensures ∙ c.if-not-all_exponents.false in
    λ names targets h. sym (entry_faults c.args.body.now names c.args.entries targets layout (declared names h ∙ c.if-not-all_declared.false) listed (le-leb max_entries c.args.entries (omega arith)))

pub returns : goal.returns
returns c =
    let layout = sym c.is_entry.ensures ∙ c.if-not-is_entry.false in
    let declared = declared_is c.args.body.now c.all_declared.ensures c.type_part-part.ensures in
    let listed = listed_is c.args.body.now c.all_exponents.ensures c.type_part-part.ensures ∙ c.if-not-all_exponents.false in
    λ names targets h. sym (entry_faults c.args.body.now names c.args.entries targets layout (declared names h ∙ c.if-not-all_declared.false) listed (lt-leb max_entries c.args.entries (omega arith)))
