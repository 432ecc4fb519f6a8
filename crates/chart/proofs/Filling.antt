-- The rows filled from the last node down: what filling one row asks is there, one row made of the rows behind it holds what vanishes from
-- its node, and a row stored leaves those behind it as they were.
use Prim.Native.Nat.{ℕ, ◌+◌, ◌-◌, ◌≤◌, ◌<◌}
use native.Mathlib.Omega.{arith}
use mathlib.Core.Path.{◌≡◌, refl, subst}
use mathlib.Core.Logic.Iff
use mathlib.Core.Logic.{◌⊎◌, inl, inr}
use mathlib.Core.List.{List}
use lib.ListN.{length}
use Rattle.pregroup.specs.Types.{Simple}
use Rattle.pregroup.specs.Order.{Relation}
use Rattle.pregroup.specs.Vanish.{Contracts}
use Rattle.figures.specs.Limits.{row_bits}
use Rattle.bits.specs.Rows.{InRow, HasRow, RowSays, NextMember, Stored}
use Rattle.graph.specs.Graph.{Graph, next_at, from_at, to_at, entered_at, label_of, Labelled, EntersBy, by, Upward, VanishTo}
use Rattle.chart.specs.Chart.{FilledFrom, Fillable, SlotPart, SlotsThere, LinkPart, LinksThere}
use Rattle.bits.specs.Gathered.{Gathered, Only, itself, within}
use Rattle.bits.proofs.Cases.{less_or_not, same_or_not}
use Rattle.chart.proofs.Recurrence.{Van, same, pass, join, van_iff_vanish}

module _ {g : Graph} (up : Upward g) where
  label_up : {u n : ℕ} {x : Simple} → u < length g.nodes → Labelled g u x n → (u < n) × (n < length g.nodes)
  label_up {u} {n} h l = let both = up.nexts_up u h l.simple in (omega (arith, l.next), omega (arith, l.next))

module _ {Le : Relation} {g : Graph} (up : Upward g) where
  -- What vanishes along paths leads to nodes.
  pub van_within : {u v : ℕ} → u < length g.nodes → Van Le g u v → v < length g.nodes
  van_within h same = h
  van_within {u} h (pass {w} (by s e) t) = van_within (up.enters_up u s w h e).1 t
  van_within h (join l s m c t) = van_within (label_up up (van_within (label_up up h l).1 s) m).1 t

  -- .. and not to earlier ones.
  pub van_after : {u v : ℕ} → u < length g.nodes → Van Le g u v → u ≤ v
  van_after h same = omega arith
  van_after {u} h (pass {w} (by s e) t) = let on = up.enters_up u s w h e in omega (arith, van_after on.1 t)
  van_after h (join l s m c t) =
      let on = label_up up h l in
      let last = label_up up (van_within on.1 s) m in
      omega (arith, van_after on.1 s, van_after last.1 t)

pub contracts_at : {Le : Relation} {x y a b : Simple} → x ≡ a → y ≡ b → Contracts Le x y → Contracts Le a b
contracts_at e f c = rw (← e, ← f) c

module _ (Le : Relation) (g : Graph) (chart : List ℕ) (up : Upward g) (room : (u : ℕ) → u < length g.nodes → HasRow chart u) (u : ℕ) (small : u < length g.nodes) where
  slots_there : next_at g.nodes u ≡ 0 → SlotsThere g.slots chart (from_at g.nodes u) (to_at g.nodes u)
  slots_there b = record {
    there = up.slots_there u small b;
    room = λ s h k. room (entered_at g.slots s)
        (up.enters_up u s (entered_at g.slots s) small (record { boundary = b; from_on = h; before = k; entered = refl })).1;
  }

  -- The row behind a node is there; behind a boundary that is row 0.
  row_behind : (y : ℕ) → y < length g.nodes → (0 < next_at g.nodes y) ⊎ (next_at g.nodes y ≤ 0) → HasRow chart (next_at g.nodes y)
  row_behind y h (inl s) = room (next_at g.nodes y) (up.nexts_up y h s).1
  row_behind y h (inr b) = let e : next_at g.nodes y ≡ 0 = omega arith in rw e (room 0 (omega arith))

  module _ (filled : FilledFrom Le g chart (u + 1)) where
    -- The rows behind u say where the recurrence leads.
    row_van : (w : ℕ) → u < w → w < length g.nodes → RowSays chart w (Van Le g w)
    row_van w h k v = let row = filled w (omega arith) k v in (λ m. van_iff_vanish.1 (row.0 m), λ t. row.1 (van_iff_vanish.0 t))

    pub links_there : 0 < next_at g.nodes u → LinksThere g.nodes chart u
    links_there s =
        let next = up.nexts_up u small s in
        record {
          node = small;
          room = room (next_at g.nodes u) next.1;
          first = (row_van (next_at g.nodes u) next.0 next.1 (next_at g.nodes u)).1 same;
          reached = λ y m.
              let t = (row_van (next_at g.nodes u) next.0 next.1 y).0 m in
              let h = van_within up next.1 t in
              (van_after up next.1 t, h, row_behind y h (less_or_not 0 (next_at g.nodes y)));
        }

    -- A boundary's row.
    module _ (b : next_at g.nodes u ≡ 0) where
      van_of_slots : (v : ℕ) → Gathered (Only u) (SlotPart g.slots chart (from_at g.nodes u) (to_at g.nodes u)) v → Van Le g u v
      van_of_slots v (itself e) = rw e same
      van_of_slots v (within s p) =
          let w = entered_at g.slots s in
          let e : EntersBy g u s w = record { boundary = b; from_on = p.from_on; before = p.before; entered = refl } in
          let on = up.enters_up u s w small e in
          pass (by s e) ((row_van w on.0 on.1 v).0 p.behind)

      slots_of_van : {v : ℕ} → Van Le g u v → Gathered (Only u) (SlotPart g.slots chart (from_at g.nodes u) (to_at g.nodes u)) v
      slots_of_van same = itself refl
      slots_of_van {v} (pass {w} (by s e) t) =
          let on = up.enters_up u s w small e in
          let m = (row_van w on.0 on.1 v).1 t in
          within s (record { from_on = e.from_on; before = e.before; behind = subst (λ (n : ℕ). InRow chart n v) e.entered m })
      slots_of_van (join l s m c t) = absurd (omega (arith, l.simple))

      boundary_says :
          (row : List ℕ) → RowSays row 0 (Gathered (Only u) (SlotPart g.slots chart (from_at g.nodes u) (to_at g.nodes u)))
          → RowSays row 0 (VanishTo Le g u)
      boundary_says row says v =
          (λ m. van_iff_vanish.0 (van_of_slots v ((says v).0 m)), λ t. (says v).1 (slots_of_van (van_iff_vanish.1 t)))

    -- A simple node's row.
    module _ (s : 0 < next_at g.nodes u) where
      next_up : (u < next_at g.nodes u) × (next_at g.nodes u < length g.nodes)
      next_up = up.nexts_up u small s

      van_of_links : (v : ℕ) → Gathered (Only u) (LinkPart Le g.nodes chart u) v → Van Le g u v
      van_of_links v (itself e) = rw e same
      van_of_links v (within y p) =
          let inner = (row_van (next_at g.nodes u) next_up.0 next_up.1 y).0 p.reached in
          let k = next_at g.nodes y in
          let on = up.nexts_up y (van_within up next_up.1 inner) p.joined.simple in
          let l : Labelled g u (label_of g u) (next_at g.nodes u) = record { simple = s; label = refl; next = refl } in
          let m : Labelled g y (label_of g y) k = record { simple = p.joined.simple; label = refl; next = refl } in
          join l inner m p.joined.contracts ((row_van k (omega (arith, next_up.0, van_after up next_up.1 inner)) on.1 v).0 p.joined.behind)

      links_of_van : {v : ℕ} → Van Le g u v → Gathered (Only u) (LinkPart Le g.nodes chart u) v
      links_of_van same = itself refl
      links_of_van (pass (by t e) r) = absurd (omega (arith, e.boundary))
      links_of_van {v} (join {n} {y} {k} {x} {z} l i m c o) =
          let on = label_up up small l in
          let far = van_after up on.1 i in
          let last = label_up up (van_within up on.1 i) m in
          within y (record {
            reached = subst (λ (a : ℕ). InRow chart a y) l.next ((row_van n on.0 on.1 y).1 i);
            joined = record {
              simple = m.simple;
              contracts = contracts_at l.label m.label c;
              behind = subst (λ (a : ℕ). InRow chart a v) m.next ((row_van k (omega arith) last.1 v).1 o);
            };
          })

      simple_says :
          (row : List ℕ) → RowSays row 0 (Gathered (Only u) (LinkPart Le g.nodes chart u))
          → RowSays row 0 (VanishTo Le g u)
      simple_says row says v =
          (λ m. van_iff_vanish.0 (van_of_links v ((says v).0 m)), λ t. (says v).1 (links_of_van (van_iff_vanish.1 t)))

    -- The row is stored.
    module _ (chart' row : List ℕ) (stored : Stored chart chart' row u) (says : RowSays row 0 (VanishTo Le g u)) where
      stored_at : (w : ℕ) → u ≤ w → w < length g.nodes → (w ≡ u) ⊎ (w ≡ u → ⊥) → RowSays chart' w (VanishTo Le g w)
      stored_at w h k (inl e) v = rw e (Iff.trans (stored.stored v) (says v))
      stored_at w h k (inr n) v = Iff.trans (stored.others w n v) (filled w (omega arith) k v)

      fill_one : FilledFrom Le g chart' u
      fill_one w h k = stored_at w h k (same_or_not w u)

-- The first member of the row behind a node is the node behind it.
pub first_behind_lem :
    {nodes chart : List ℕ} {u : ℕ} → LinksThere nodes chart u → NextMember chart (next_at nodes u) (next_at nodes u) (next_at nodes u)
first_behind_lem there =
    record { from_on = omega arith; within = omega (arith, there.first.small); member = λ h. there.first; least = λ v h l. absurd (omega arith) }

-- One turn: the rows from u on are filled, and the row before it is next.
pub record Turn (Le : Relation) (g : Graph) (start chart : List ℕ) (u : ℕ) : Type 0 where
  pub fillable : Fillable g start
  pub few : u ≤ length g.nodes
  pub more : 0 < u
  pub whole : length chart ≡ length start
  pub filled : FilledFrom Le g chart u

-- What the loop of `fill` keeps, where it goes on.
pub turn_at :
    (Le : Relation) (g : Graph) (start chart : List ℕ) (u : ℕ) → Fillable g start → 0 < u → u ≤ length g.nodes → length chart ≡ length start
    → FilledFrom Le g chart u → Turn Le g start chart u
turn_at Le g start chart u fillable more few whole filled =
    record { fillable = fillable; few = few; more = more; whole = whole; filled = filled }

module _ {Le : Relation} {g : Graph} {start chart : List ℕ} {u : ℕ} (t : Turn Le g start chart u) where
  turn_room : (w : ℕ) → w < length g.nodes → HasRow chart w
  turn_room w h = omega (arith, t.whole, t.fillable.room w h)

  turn_small : u - 1 < length g.nodes
  turn_small = omega arith

  turn_filled : FilledFrom Le g chart (u - 1 + 1)
  turn_filled w h k = t.filled w (omega arith) k

  pub turn_row : HasRow chart (u - 1)
  turn_row = turn_room (u - 1) turn_small

  pub boundary_asks :
      next_at g.nodes (u - 1) ≡ 0
      → (u - 1 < row_bits) × SlotsThere g.slots chart (from_at g.nodes (u - 1)) (to_at g.nodes (u - 1))
  boundary_asks b = (omega (arith, t.fillable.upward.few), slots_there Le g chart t.fillable.upward turn_room (u - 1) turn_small b)

  pub simple_asks : (next_at g.nodes (u - 1) ≡ 0 → ⊥) → (u - 1 < row_bits) × LinksThere g.nodes chart (u - 1)
  simple_asks s =
      (omega (arith, t.fillable.upward.few), links_there Le g chart t.fillable.upward turn_room (u - 1) turn_small turn_filled (omega arith))

  -- The row that is made holds what vanishes from its node.
  module _ (row : List ℕ) where
    pub boundary_made :
        next_at g.nodes (u - 1) ≡ 0
        → RowSays row 0 (Gathered (Only (u - 1)) (SlotPart g.slots chart (from_at g.nodes (u - 1)) (to_at g.nodes (u - 1))))
        → RowSays row 0 (VanishTo Le g (u - 1))
    boundary_made b says = boundary_says Le g chart t.fillable.upward turn_room (u - 1) turn_small turn_filled b row says

    pub simple_made :
        (next_at g.nodes (u - 1) ≡ 0 → ⊥) → RowSays row 0 (Gathered (Only (u - 1)) (LinkPart Le g.nodes chart (u - 1)))
        → RowSays row 0 (VanishTo Le g (u - 1))
    simple_made s says = simple_says Le g chart t.fillable.upward turn_room (u - 1) turn_small turn_filled (omega arith) row says

  -- It is stored.
  pub turned : (chart' row : List ℕ) → Stored chart chart' row (u - 1) → RowSays row 0 (VanishTo Le g (u - 1)) → FilledFrom Le g chart' (u - 1)
  turned chart' row stored says = fill_one Le g chart t.fillable.upward turn_room (u - 1) turn_small turn_filled chart' row stored says
