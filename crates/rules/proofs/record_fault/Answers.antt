-- `rules::record_fault` meets its contract: a cut record is 2, and any other has the fault of its body by its kind.
use native.Mathlib.Omega.{arith}
use Prim.Native.Nat.{ℕ, ◌≤◌}
use mathlib.Core.Path.{◌≡◌, sym, ap, ◌∙◌}
use mathlib.Core.List.{List}
use lib.ListN.{length}
use Rattle.format.specs.Records.{Bytes, kind_at, body_at, next_at, bodies_at}
use Rattle.format.proofs.NameLaws.{bodies_length}
use Rattle.format.proofs.RecordLaws.{two_bytes_read}
use Rattle.rules.specs.Layouts.{Kind, basic_type, order_pair, entry, target, slashed_entry, kind_number}
use Rattle.rules.specs.Rules.{kind_rules, record_rules, first_broken}
use Rattle.rules.proofs.KindLaws.{unlisted}
use Rattle.rules.proofs.WholeRecords.{cut_head, cut_body, record_cut, record_whole, kind_whole}
use Rattle.rules.proofs.Faults.{unlisted_faults}
use Rattle.rules.proofs.record_fault.Goals as goal

-- What a listed kind's rules say of the body that was taken, they say of the record.
by_kind : (bytes : Bytes) (at : ℕ) (names : List Bytes) (entries targets : ℕ) (kind : Kind) {body : Bytes} {number fault : ℕ} → next_at bytes at ≤ length bytes
    → number ≡ kind_at bytes at → number ≡ kind_number kind → body ≡ body_at bytes at
    → fault ≡ first_broken (kind_rules kind body names entries targets) → fault ≡ first_broken (record_rules bytes at names entries targets)
by_kind bytes at names entries targets kind whole read is taken f =
    f ∙ ap (λ (b : Bytes). first_broken (kind_rules kind b names entries targets)) taken ∙ kind_whole bytes at names entries targets kind whole (sym read ∙ is)

pub returns-then-book-at-lt-HEAD : goal.returns-then-book-at-lt-HEAD
returns-then-book-at-lt-HEAD c = record_cut _ _ _ _ _ (cut_head _ _ (omega arith))

pub returns-then-left-two_bytes : goal.returns-then-left-two_bytes
returns-then-left-two_bytes c = record_cut _ _ _ _ _ (cut_body _ _ (omega (arith, two_bytes_read c.two_bytes.ensures)))

pub body_at-body-requires : goal.body_at-body-requires
body_at-body-requires c = omega (arith, two_bytes_read c.two_bytes.ensures)

pub returns-in-1 : goal.returns-in-1
returns-in-1 c =
    let names = bodies_at c.args.book.now c.args.names.now c.args.types in
    by_kind c.args.book.now c.args.at names c.args.entries c.args.targets basic_type (omega (arith, two_bytes_read c.two_bytes.ensures)) (two_bytes_read c.two_bytes-kind.ensures) c.in-1.is c.body_at-body.ensures
    (c.name_fault.ensures c.args.entries c.args.targets)

pub returns-in-2 : goal.returns-in-2
returns-in-2 c =
    let names = bodies_at c.args.book.now c.args.names.now c.args.types in
    let count = bodies_length c.args.book.now c.args.names.now c.args.types c.requires.1.whole.room in
    by_kind c.args.book.now c.args.at names c.args.entries c.args.targets order_pair (omega (arith, two_bytes_read c.two_bytes.ensures)) (two_bytes_read c.two_bytes-kind.ensures) c.in-2.is c.body_at-body.ensures
    (c.pair_fault.ensures names c.args.entries c.args.targets count)

pub returns-in-3 : goal.returns-in-3
returns-in-3 c =
    let names = bodies_at c.args.book.now c.args.names.now c.args.types in
    let count = bodies_length c.args.book.now c.args.names.now c.args.types c.requires.1.whole.room in
    by_kind c.args.book.now c.args.at names c.args.entries c.args.targets entry (omega (arith, two_bytes_read c.two_bytes.ensures)) (two_bytes_read c.two_bytes-kind.ensures) c.in-3.is c.body_at-body.ensures
    (c.entry_fault.ensures names c.args.targets count)

pub returns-in-4 : goal.returns-in-4
returns-in-4 c =
    let names = bodies_at c.args.book.now c.args.names.now c.args.types in
    let count = bodies_length c.args.book.now c.args.names.now c.args.types c.requires.1.whole.room in
    by_kind c.args.book.now c.args.at names c.args.entries c.args.targets target (omega (arith, two_bytes_read c.two_bytes.ensures)) (two_bytes_read c.two_bytes-kind.ensures) c.in-4.is c.body_at-body.ensures
    (c.target_fault.ensures names c.args.entries count)

pub returns-in-5 : goal.returns-in-5
returns-in-5 c =
    let names = bodies_at c.args.book.now c.args.names.now c.args.types in
    by_kind c.args.book.now c.args.at names c.args.entries c.args.targets slashed_entry (omega (arith, two_bytes_read c.two_bytes.ensures)) (two_bytes_read c.two_bytes-kind.ensures) c.in-5.is c.body_at-body.ensures
    (c.slashed_fault.ensures c.args.targets)

pub returns-in_default : goal.returns-in_default
returns-in_default c =
    let whole : next_at c.args.book.now c.args.at ≤ length c.args.book.now = omega (arith, two_bytes_read c.two_bytes.ensures) in
    let names = bodies_at c.args.book.now c.args.names.now c.args.types in
    unlisted_faults _ names c.args.entries c.args.targets c.two_bytes-kind.result (unlisted (omega arith) (omega arith) (omega arith) (omega arith) (omega arith))
    ∙ record_whole c.args.book.now c.args.at names c.args.entries c.args.targets whole (sym (two_bytes_read c.two_bytes-kind.ensures))
