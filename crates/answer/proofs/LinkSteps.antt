-- One step of the linking: what the search for the nearest partner asks, and what follows for the stretches between and behind.
use Prim.Native.Nat.{ℕ, suc, ◌+◌, ◌≤◌, ◌<◌}
use native.Mathlib.Omega.{arith}
use mathlib.Core.Path.{◌≡◌}
use mathlib.Core.Logic.{◌↔◌}
use mathlib.Core.List.{List}
use lib.ListN.{length}
use Rattle.pregroup.specs.Types.{Basic}
use Rattle.pregroup.specs.Order.{Relation}
use Rattle.linking.specs.Greedy.{Stay, VanishBehind, ReducesFrom}
use Rattle.bits.specs.Rows.{InRow}
use Rattle.figures.specs.Limits.{max_places}
use Rattle.table.specs.Table.{string_of, StringThere}
use Rattle.answer.specs.Links.{Stays, NearestLink, EndRowThere, LinkingThere, ReducingThere}
use Rattle.table.proofs.TableLaws.{right_of_string}
use Rattle.table.proofs.Stretches.{length_string}
use Rattle.answer.proofs.Nearest.{Chosen, chosen_within, chosen_from}
use Rattle.answer.proofs.Reducing.{stays_iff}

-- The nearest partner r of i, before j, with what stands between them and what stands behind r.
pub record LinkStep (table ends : List ℕ) (e i j r : ℕ) : Type 0 where
  pub ahead : i < r
  pub inside : r < j
  pub small : r < max_places
  pub between : InRow table r (i + 1)
  pub behind : InRow ends e (r + 1)

pub string_front : {string : List ℕ} (k j : ℕ) → k ≤ j → StringThere string j → StringThere string k
string_front k j h there = record { few = omega (arith, there.few); there = omega (arith, there.there) }

-- The step that a nearest partner makes, where it is chosen within the string.
link_step :
    {Le : Relation} {string table ends : List ℕ} {e i j r : ℕ} {Rest : ℕ → Type 0} → StringThere string j
    → Chosen Le (string_of string j) Rest j i r → NearestLink Le string table ends e i r → LinkStep table ends e i j r
link_step there chosen near =
    let found = near.found (omega (arith, chosen.inside, there.few)) in
    record {
      ahead = chosen.ahead;
      inside = chosen.inside;
      small = omega (arith, chosen.inside, there.few);
      between = found.1.closing.behind;
      behind = found.1.rest;
    }

module _ {Le : Relation} {string table answer : List ℕ} {at j : ℕ} (there : LinkingThere Le string table answer at j) where
  -- What is asked for the whole is there for a stretch within it.
  pub there_within : (answer' : List ℕ) (k : ℕ) → k ≤ j → length answer' ≡ length answer → LinkingThere Le string table answer' at k
  there_within answer' k h e = record {
    string_there = string_front k j h there.string_there;
    room = omega (arith, there.room);
    right = right_of_string string table k j k h (omega arith) there.right;
    space = omega (arith, there.space);
  }

  pub row_ends_there : EndRowThere string table table j
  row_ends_there = record {
    room = there.room;
    reached = λ i h.
        let inside = ((there.right j (omega arith) i).0 h).ordered in
        (string_front i j inside there.string_there, omega (arith, there.room));
  }

  -- The nearest partner within a stretch that vanishes.
  pub within_chosen :
      (i r : ℕ) → i < j → InRow table j i → NearestLink Le string table table j i r → (n : ℕ) → j ≤ n
      → Chosen Le (string_of string n) (VanishBehind Le (string_of string n) (suc j)) j i r
  within_chosen i r h row near n g =
      chosen_within string table i j n r g (omega (arith, there.string_there.few))
      (right_of_string string table j j n (omega arith) g there.right) h row near

  pub within_step :
      (i r : ℕ) → i < j → InRow table j i → NearestLink Le string table table j i r → LinkStep table table j i j r
  within_step i r h row near = link_step there.string_there (within_chosen i r h row near j (omega arith)) near

-- In a string that reduces to the target from i on.
module _ {Le : Relation} {s : Basic} {string table answer ends : List ℕ} {at m i : ℕ}
    (there : LinkingThere Le string table answer at m) (reducing : ReducingThere Le s (string_of string m) ends i) where
  reduced_inside : (j : ℕ) → InRow ends 0 j → j < m
  reduced_inside j h = let t = (reducing.says j).0 h in omega (arith, t.1, t.2.fits, length_string string m)

  pub from_inside : i < m
  from_inside = reduced_inside i reducing.here

  pub reducing_ends_there : EndRowThere string table ends 0
  reducing_ends_there = record {
    room = reducing.room;
    reached = λ j h.
        let inside = reduced_inside j h in
        (string_front j m (omega arith) there.string_there, omega (arith, there.room));
  }

  pub reducing_from : (k : ℕ) → InRow ends 0 k → ReducingThere Le s (string_of string m) ends k
  reducing_from k h = record { room = reducing.room; says = reducing.says; here = h }

  pub from_stays : Stays Le s string table m i ↔ Stay Le s (string_of string m) (suc i) (suc i)
  from_stays = stays_iff string table m there.right i from_inside

  pub from_chosen :
      (r : ℕ) → (Stays Le s string table m i → ⊥) → NearestLink Le string table ends 0 i r
      → Chosen Le (string_of string m) (λ p. ReducesFrom Le s (string_of string m) (suc p)) m i r
  from_chosen r moves near =
      chosen_from string table ends i m r (omega (arith, there.string_there.few)) there.right reducing.says reducing.here
      (λ t. moves (from_stays.1 t)) near

  pub from_step : (r : ℕ) → (Stays Le s string table m i → ⊥) → NearestLink Le string table ends 0 i r → LinkStep table ends 0 i m r
  from_step r moves near = link_step there.string_there (from_chosen r moves near) near
