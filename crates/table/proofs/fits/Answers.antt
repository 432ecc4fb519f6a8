-- `table::fits` meets its contract: by the kind of the two simple types.
use borrow.Author.Rules.{rules}
use mathlib.Core.Path.{refl}
use Rattle.pregroup.proofs.LinkKinds.{told_apart, told_contracts}
use Rattle.bits.proofs.Cases.{false_iff}
use Rattle.table.proofs.fits.Goals as goal
use Rattle.table.proofs.fits.Goals.{in-Not, in_default}

pub returns : goal.returns
returns c =
    let told = c.may_contract-kind.ensures in
    elim c.match-matches.branch [
      | in-Not w ↦ rw w.matches-is (false_iff (told_apart _ _ _ told w.in-Not.is))
      | in_default w ↦ rw w.matches-is (λ h. told_contracts _ _ _ told (search rules), λ t. refl)
    ]
