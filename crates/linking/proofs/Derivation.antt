-- Readings and chains, for an order over declared basic types and declared targets.
-- `reading_iff_chain`: a line has a reading exactly when a chain leads from the type of some choice to some target.
-- `unread_iff_no_chain`: `first_reading` gives none exactly when no choice has a chain to any target.
use Prim.Native.Nat.{ℕ, ◌<◌}
use mathlib.Core.Path.{◌≡◌}
use mathlib.Core.Logic.{◌↔◌}
use mathlib.Core.Option.{none}
use mathlib.Core.List.{List}
use lib.ListN.{length}
use Rattle.pregroup.specs.Types.{Basic}
use Rattle.pregroup.specs.Order.{Relation, IsOrder}
use Rattle.pregroup.specs.Tests.{Test, Decides}
use Rattle.pregroup.proofs.Switching.{switching}
use Rattle.linking.specs.Reading.{Words, target_at, IsReading, HasReading, reads_by, HasChain, first_reading}
use Rattle.linking.specs.Ascending.{AllAscending}
use Rattle.linking.proofs.Reduction.{linking_iff_reduces}
use Rattle.linking.proofs.FirstReading.{first_reading_none}

module _ {Declared : Basic → Type 0} {Le : Relation} (order : IsOrder Declared Le) (targets : List Basic)
    (declared : (t : ℕ) → t < length targets → Declared (target_at targets t)) (words : Words) where
  chain_of_reading : HasReading Le targets words → HasChain Le targets words
  chain_of_reading (reads_by {t} {ns} {P} r) = record {
    target = t;
    target_there = r.target_there;
    entries = ns;
    type = r.type;
    chosen = r.chosen;
    chain = (switching order r.type (target_at targets t) (declared t r.target_there)).1 (linking_iff_reduces.1 (P, r.linking));
  }

  reading_of_chain : HasChain Le targets words → HasReading Le targets words
  reading_of_chain k =
      let t = k.target in
      let l = linking_iff_reduces.0 ((switching order k.type (target_at targets t) (declared t k.target_there)).0 k.chain) in
      reads_by {t = t} {ns = k.entries} {P = l.0} (record { target_there = k.target_there; type = k.type; chosen = k.chosen; linking = l.1 })

  pub reading_iff_chain : HasReading Le targets words ↔ HasChain Le targets words
  reading_iff_chain = (chain_of_reading, reading_of_chain)

  pub unread_iff_no_chain :
      {le : Test} → Decides le Le → AllAscending words → (first_reading le targets words ≡ none) ↔ (HasChain Le targets words → ⊥)
  unread_iff_no_chain decides ascending =
      let none_iff = first_reading_none decides ascending in (
        λ e k. unread (none_iff.0 e) (reading_of_chain k),
        λ n. none_iff.1 (λ t ns P r. n (chain_of_reading (reads_by r))),
      )
    where
      unread : ((t : ℕ) (ns P : List ℕ) → IsReading Le targets words t ns P → ⊥) → HasReading Le targets words → ⊥
      unread never (reads_by {t} {ns} {P} r) = never t ns P r
