-- `pregroup::stands_below` meets its contract: a row that is not there has nothing, and any other is asked.
use Rattle.std.proofs.Common.{◌≡◌, ◌≤◌, ◌↔◌, ℕ, Bool, true, false, List, length, get_or, Option, Some, None, MatchOption, Bor, rules}
use Rattle.std.proofs.Math.ListN.{get_or-eq_default}
use Rattle.bits.specs.Bits.{Has}
use Rattle.bits.proofs.BitLaws.{empty_has_none}
use Rattle.bits.proofs.Cases.{false_iff}
use Rattle.pregroup.specs.Held.{InRows}
use Rattle.pregroup.proofs.stands_below.Goals as goal

asked : (rows : List ℕ) (p q : ℕ) (r : Bool) (o : Option (Bor ℕ)) → MatchOption o (length rows ≤ p) (λ x. x.now ≡ get_or rows p 0) → MatchOption o (r ≡ false) (λ x. (r ≡ true) ↔ Has x.now q) → (r ≡ true) ↔ InRows rows p q
unfolding InRows
asked rows p q r None past f =
    let none : get_or rows p 0 ≡ 0 = get_or-eq_default rows 0 past in
    rw f (false_iff (λ h. empty_has_none q (rw none at h)))
asked rows p q r (Some x) at says = rw at at says

pub returns : goal.returns
returns c = asked c.args.rows.now c.args.p c.args.q c.is_some_and.result c.get.result (search rules) (search rules)
