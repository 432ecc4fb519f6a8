-- `book::records::take_record` meets its contract: where no rule is broken, what the record says is put where the laws of Keeping expect it.
use native.Mathlib.Omega.{arith}
use mathlib.Core.Path.{sym, ap, subst, ◌∙◌}
use mathlib.Core.Logic.{⊎_elim}
use Prim.Native.Nat.{ℕ, ◌+◌}
use lib.ListN.{length, get_or}
use Rattle.std.proofs.lemmas.Result.{err_from_is_err_and}
use Rattle.figures.proofs.Causes.{some_number}
use Rattle.format.specs.Records.{Bytes, head_length}
use Rattle.format.proofs.RecordLaws.{two_bytes_read, whole_length}
use Rattle.rules.specs.Layouts.{EntryKind, of_simples, of_text}
use Rattle.rules.proofs.KindLaws.{unlisted}
use Rattle.book.proofs.Keeping.{fault_kept, whole, kind_listed, name_place, entry_place, pair_place, target_place, name_taken, entry_taken, pair_taken, target_taken}
use Rattle.book.proofs.records.take_record.Goals as goal

pub returns-in_err-fault_at : goal.returns-in_err-fault_at
returns-in_err-fault_at c =
    let p = err_from_is_err_and c.from_residual.result c.from_residual.ensures.1 in
    rw (p.1, p.2) (record { some_number = some_number _; faulty = fault_kept _ _ _ c.requires _ c.in_err-fault_at.ensures })

pub body_at-body-requires : goal.body_at-body-requires
body_at-body-requires c = whole _ _ _ c.requires c.in_ok-fault_at.ensures

pub two_bytes-kind-requires : goal.two_bytes-kind-requires
two_bytes-kind-requires c = let all = whole _ _ _ c.requires c.in_ok-fault_at.ensures in omega (arith, all)

pub keep_name-requires : goal.keep_name-requires
keep_name-requires c =
    let fits = name_place _ _ _ c.requires c.in_ok-fault_at.ensures (sym (two_bytes_read c.two_bytes-kind.ensures) ∙ c.in-1.is) in
    let size = ap length c.body_at-body.ensures in
    (fits.0, omega arith, c.requires.names.places, omega (arith, size, fits.1), omega (arith, size, fits.2))

pub bounds-body-0 : goal.bounds-body-0
bounds-body-0 c =
    let fits = pair_place _ _ _ c.requires c.in_ok-fault_at.ensures (sym (two_bytes_read c.two_bytes-kind.ensures) ∙ c.in-2.is) in
    omega (arith, fits.0, ap length c.body_at-body.ensures)

pub bounds-direct-lower : goal.bounds-direct-lower
bounds-direct-lower c =
    let fits = pair_place _ _ _ c.requires c.in_ok-fault_at.ensures (sym (two_bytes_read c.two_bytes-kind.ensures) ∙ c.in-2.is) in
    omega (arith, fits.1, ap (λ (l : Bytes). get_or {A = ℕ} l 0 0) c.body_at-body.ensures)

pub bounds-body-1 : goal.bounds-body-1
bounds-body-1 c =
    let fits = pair_place _ _ _ c.requires c.in_ok-fault_at.ensures (sym (two_bytes_read c.two_bytes-kind.ensures) ∙ c.in-2.is) in
    omega (arith, fits.0, ap length c.body_at-body.ensures)

pub with-requires : goal.with-requires
with-requires c =
    let fits = pair_place _ _ _ c.requires c.in_ok-fault_at.ensures (sym (two_bytes_read c.two_bytes-kind.ensures) ∙ c.in-2.is) in
    omega (arith, fits.2, ap (λ (l : Bytes). get_or {A = ℕ} l 1 0) c.body_at-body.ensures)

pub bounds-direct-lower-in-2 : goal.bounds-direct-lower-in-2
bounds-direct-lower-in-2 c =
    let fits = pair_place _ _ _ c.requires c.in_ok-fault_at.ensures (sym (two_bytes_read c.two_bytes-kind.ensures) ∙ c.in-2.is) in
    omega (arith, fits.1, ap (λ (l : Bytes). get_or {A = ℕ} l 0 0) c.body_at-body.ensures)

pub bounds-entries-p : goal.bounds-entries-p
bounds-entries-p c =
    let few = entry_place _ _ _ c.requires c.in_ok-fault_at.ensures (⊎_elim (λ e. subst EntryKind (sym e ∙ two_bytes_read c.two_bytes-kind.ensures) of_simples) (λ e. subst EntryKind (sym e ∙ two_bytes_read c.two_bytes-kind.ensures) of_text) c.in-3.is) in
    omega (arith, few)

pub bounds-body-0-in-4 : goal.bounds-body-0-in-4
bounds-body-0-in-4 c =
    let fits = target_place _ _ _ c.requires c.in_ok-fault_at.ensures (sym (two_bytes_read c.two_bytes-kind.ensures) ∙ c.in-4.is) in
    omega (arith, fits.0, ap length c.body_at-body.ensures)

pub bounds-targets-p : goal.bounds-targets-p
bounds-targets-p c =
    let fits = target_place _ _ _ c.requires c.in_ok-fault_at.ensures (sym (two_bytes_read c.two_bytes-kind.ensures) ∙ c.in-4.is) in
    omega (arith, fits.2)

pub returns-in-1 : goal.returns-in-1
returns-in-1 c =
    let found = c.in_ok-fault_at.ensures in
    let next_is = ap (λ (m : ℕ). c.args.p.at + head_length + m) (ap length c.body_at-body.ensures ∙ whole_length c.args.book.now c.args.p.at (whole _ _ _ c.requires found)) in
    name_taken _ _ _ c.requires found _ next_is (sym (two_bytes_read c.two_bytes-kind.ensures) ∙ c.in-1.is) _ c.keep_name.ensures

pub returns-in-2 : goal.returns-in-2
returns-in-2 c =
    let found = c.in_ok-fault_at.ensures in
    let next_is = ap (λ (m : ℕ). c.args.p.at + head_length + m) (ap length c.body_at-body.ensures ∙ whole_length c.args.book.now c.args.p.at (whole _ _ _ c.requires found)) in
    pair_taken _ _ _ c.requires found _ next_is (sym (two_bytes_read c.two_bytes-kind.ensures) ∙ c.in-2.is) _ _ _ (c.from-lower.ensures ∙ ap (λ (l : Bytes). get_or {A = ℕ} l 0 0) c.body_at-body.ensures) (ap (λ (l : Bytes). get_or {A = ℕ} l 1 0) c.body_at-body.ensures) c.with.ensures

pub returns-in-3 : goal.returns-in-3
returns-in-3 c =
    let found = c.in_ok-fault_at.ensures in
    let next_is = ap (λ (m : ℕ). c.args.p.at + head_length + m) (ap length c.body_at-body.ensures ∙ whole_length c.args.book.now c.args.p.at (whole _ _ _ c.requires found)) in
    entry_taken _ _ _ c.requires found _ next_is (⊎_elim (λ e. subst EntryKind (sym e ∙ two_bytes_read c.two_bytes-kind.ensures) of_simples) (λ e. subst EntryKind (sym e ∙ two_bytes_read c.two_bytes-kind.ensures) of_text) c.in-3.is)

pub returns-in-4 : goal.returns-in-4
returns-in-4 c =
    let found = c.in_ok-fault_at.ensures in
    let next_is = ap (λ (m : ℕ). c.args.p.at + head_length + m) (ap length c.body_at-body.ensures ∙ whole_length c.args.book.now c.args.p.at (whole _ _ _ c.requires found)) in
    target_taken _ _ _ c.requires found _ next_is (sym (two_bytes_read c.two_bytes-kind.ensures) ∙ c.in-4.is) _ (ap (λ (l : Bytes). get_or {A = ℕ} l 0 0) c.body_at-body.ensures)

-- No other kind is without a fault.
pub unreachable-requires : goal.unreachable-requires
unreachable-requires c =
    let found = c.in_ok-fault_at.ensures in
    absurd (kind_listed _ _ _ c.requires found _ (two_bytes_read c.two_bytes-kind.ensures) (unlisted (omega arith) (omega arith) (grind arith) (omega arith) (grind arith)))
