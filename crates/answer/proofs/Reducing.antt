-- Where the string reduces to the target: what the rows say of the position that stays unlinked is what the greedy argument asks.
use Prim.Native.Nat.{ℕ, suc, ◌+◌, ◌-◌, ◌≤◌, ◌<◌}
use native.Mathlib.Omega.{arith}
use mathlib.Core.Path.{◌≡◌, sym, ap}
use mathlib.Core.Logic.Iff
use mathlib.Core.Logic.{◌↔◌}
use mathlib.Core.List.{List}
use lib.ListN.{length}
use Rattle.pregroup.specs.Types.{Basic}
use Rattle.pregroup.specs.Order.{Relation}
use Rattle.pregroup.specs.Vanish.{Vanish, empty, Remains}
use Rattle.linking.specs.Linking.{simple_at, stretch}
use Rattle.linking.proofs.Stretches.{stretch_empty}
use Rattle.linking.specs.Greedy.{Stay, ReducesFrom}
use Rattle.bits.specs.Rows.{InRow, RowSays}
use Rattle.bits.specs.Gathered.{Gathered, RowPart, itself, within}
use Rattle.table.specs.Table.{string_of, Right}
use Rattle.answer.specs.Links.{RemainsAt, Stays, ReducingRow}
use Rattle.table.proofs.Stretches.{length_string}
use Rattle.answer.proofs.Nearest.{simple_at_index, stretch_iff}

module _ {Le : Relation} {s : Basic} (string table : List ℕ) (m : ℕ) (right : Right Le (string_of string m) table m) where
  remains_iff : (i : ℕ) → i < m → RemainsAt Le s string i ↔ Remains Le s (simple_at (string_of string m) (suc i))
  remains_iff i h = rw (simple_at_index string m i h) (λ r. r, λ r. r)

  -- The table's word on the unlinked position u, from v on.
  stay_iff :
      (v u : ℕ) → v ≤ u → u < m
      → (RemainsAt Le s string u × InRow table u v × InRow table m (suc u)) ↔ Stay Le s (string_of string m) (suc v) (suc u)
  stay_iff v u h g =
      let X = string_of string m in
      let size = length_string string m in
      let remains = remains_iff u g in
      let before = stretch_iff X table m v u right h (omega arith) in
      let end : suc m ≡ suc (length X) = ap suc (sym size) in
      let behind : InRow table m (suc u) ↔ Vanish Le (stretch X (suc (suc u)) (suc (length X))) = rw end at (stretch_iff X table m (suc u) m right g (omega arith)) in (
        λ t.
            let r = remains.0 t.0 in
            record {
              fits = omega arith;
              is_plain = r.is_plain;
              below = r.below;
              before = before.0 t.1;
              behind = behind.0 t.2;
            },
        λ t. (remains.1 (record { is_plain = t.is_plain; below = t.below }), before.1 t.before, behind.1 t.behind),
      )

  -- A position that stays.
  pub stays_iff : (i : ℕ) → i < m → Stays Le s string table m i ↔ Stay Le s (string_of string m) (suc i) (suc i)
  stays_iff i h =
      let one : i + 1 ≡ suc i = omega arith in
      let both = stay_iff i i (omega arith) h in
      let none : InRow table i i =
      (stretch_iff (string_of string m) table m i i right (omega arith) (omega arith)).1 (rw (stretch_empty (string_of string m) (suc i)) empty) in (
        λ t. both.0 (t.fits, none, rw one at t.behind),
        λ t. let p = both.1 t in record { fits = p.0; behind = rw one p.2 },
      )

  -- What is gathered before the places that may stay is from where the string reduces.
  module _ (stays none words : List ℕ) (stays-say : RowSays stays 0 (Stays Le s string table m)) (empty_row : RowSays none 0 (λ v. ⊥)) where
    reduces_of : (v : ℕ) → Gathered (InRow none 0) (RowPart stays table) v → ReducesFrom Le s (string_of string m) (suc v)
    reduces_of v (itself h) = absurd ((empty_row v).0 h)
    reduces_of v (within u p) =
        let one : u + 1 ≡ suc u = omega arith in
        let stay = (stays-say u).0 p.chosen in
        let reached = ((right m (omega arith) (u + 1)).0 stay.behind).ordered in
        let inside = ((right u (omega arith) v).0 p.there).ordered in
        (suc u, omega arith, (stay_iff v u inside (omega arith)).0 (stay.fits, p.there, rw one at stay.behind))

    of_stay : (v u : ℕ) → suc v ≤ u → Stay Le s (string_of string m) (suc v) u → Gathered (InRow none 0) (RowPart stays table) v
    of_stay v u h stay =
        let up : u ≡ suc (u - 1) = omega arith in
        let one : u - 1 + 1 ≡ suc (u - 1) = omega arith in
        let size = length_string string m in
        let at : Stay Le s (string_of string m) (suc v) (suc (u - 1)) = rw up at stay in
        let t = (stay_iff v (u - 1) (omega arith) (omega (arith, stay.fits))).1 at in
        within (u - 1) (record { chosen = (stays-say (u - 1)).1 (record { fits = t.0; behind = rw one t.2 }); there = t.1 })

    pub reducing_says : RowSays words 0 (Gathered (InRow none 0) (RowPart stays table)) → ReducingRow Le s (string_of string m) words
    reducing_says says v = Iff.trans (says v) (reduces_of v, λ t. of_stay v t.0 t.1 t.2)
