-- The walk of `choose` from the first node to the end: the rows of the string chosen so far are grown, it is finished from the node at hand, and
-- whatever is scanned from there on completes a scan from the start.
use Prim.Native.Nat.{ℕ, ◌+◌, ◌≤◌, ◌<◌}
use native.Mathlib.Numerals.{add-one}
use native.Mathlib.Omega.{arith}
use mathlib.Core.Path.{◌≡◌, refl, sym, ap, ◌∙◌, subst}
use mathlib.Core.Logic.{◌⊎◌, inl, inr}
use mathlib.Core.List.{List, [], ◌∷◌, ◌++◌, append_assoc, append-nil}
use lib.ListN.{length, take, set, length-set, length-append}
use lib.Seq.{take-suc-set}
use Rattle.figures.specs.Limits.{max_places}
use Rattle.bits.proofs.Cases.{less_or_not}
use Rattle.pregroup.specs.Types.{Simple, PregroupType}
use Rattle.pregroup.specs.Order.{Relation}
use Rattle.pregroup.specs.Vanish.{Vanish}
use Rattle.graph.specs.Graph.{Graph, simple_at, next_at, from_at, to_at, entered_at, label_of, Labelled, EntersBy, by, Path, here, take as takes-node, enter, VanishTo, along, Boundary, Spells, ended, more}
use Rattle.chart.proofs.Recurrence.{path_append}
use Rattle.chart.proofs.Filling.{links_there}
use Rattle.table.specs.Table.{string_of}
use Rattle.table.proofs.Stretches.{length_string, string_kept, string_more}
use Rattle.choice.specs.Completion.{Finishes, finishes, SlotChoice, done, choose, Scanned, ends, takes}
use Rattle.choice.specs.Sets.{Meets, Growable, Grew, Searchable, FirstSlot, Started}
use Rattle.choice.specs.Grown.{Grown}
use Rattle.choice.specs.First.{Roomy, Choosable, Chose}
use Rattle.choice.proofs.Choices.{scanned_is_first}
use Rattle.choice.proofs.Grown.{finishes_of_meets, meets_of_finishes, grown_more, grown_on, grown_starts}

-- The rest of a scan from a node on: the rest of its entry, and the slots behind it.
pub data Rest (Le : Relation) (g : Graph) (end : ℕ) (P : PregroupType) (u : ℕ) (slots : List ℕ) : Type 0 where
  rest : {T : PregroupType} {b : ℕ} → Spells g u T b → Scanned Le g end (P ++ T) b slots → Rest Le g end P u slots

-- The rest of a choice from a node on.
pub data Ahead (g : Graph) (u : ℕ) (slots : List ℕ) : PregroupType → ℕ → Type 0 where
  ahead : {T X : PregroupType} {b end : ℕ} → Spells g u T b → SlotChoice g b slots X end → Ahead g u slots (T ++ X) end

pub record Choosing (Le : Relation) (g : Graph) (string chosen table needs : List ℕ) (end u words places : ℕ) : Type 0 where
  pub below : u < length g.nodes
  pub few : places + words ≤ u
  pub grown : Grown Le g (string_of string places) end u places table needs
  pub walked : Path g 0 (string_of string places) u
  pub finished : Finishes Le g (string_of string places) u end
  pub scan : (more : List ℕ) → Rest Le g end (string_of string places) u more → Scanned Le g end [] 0 (take words chosen ++ more)
  pub spell : (more : List ℕ) (X : PregroupType) → Ahead g u more X end → SlotChoice g 0 (take words chosen ++ more) (string_of string places ++ X) end

-- What is finished from a simple node is finished from the node behind it, with its simple type chosen.
module _ {Le : Relation} {g : Graph} where
  finishes_take : {P : PregroupType} {u n end : ℕ} {x : Simple} → Boundary g end → Labelled g u x n → Finishes Le g P u end → Finishes Le g (P ++ (x ∷ [])) n end
  finishes_take last l (finishes here v) = absurd (omega (arith, l.simple))
  finishes_take {P} {n} {end} {x} last l (finishes (takes-node {X} m p) v) =
      let same : x ≡ _ = l.label ∙ sym m.label in
      finishes (subst (λ (k : ℕ). Path g k X end) (m.next ∙ sym l.next) p) (rw (append_assoc, same) v)
  finishes_take last l (finishes (enter (by s e) p) v) = absurd (omega (arith, l.simple, e.boundary))

  rest_take : {P : PregroupType} {u n end : ℕ} {x : Simple} {slots : List ℕ} → Labelled g u x n → Rest Le g end (P ++ (x ∷ [])) n slots → Rest Le g end P u slots
  rest_take l (rest t s) = rest (more l t) (rw append_assoc at s)

module _ {g : Graph} where
  ahead_take : {u n end : ℕ} {x : Simple} {slots : List ℕ} {X : PregroupType} → Labelled g u x n → Ahead g n slots X end → Ahead g u slots (x ∷ X) end
  ahead_take l (ahead t c) = ahead (more l t) c

-- A path from a simple node to the end takes one simple type at least.
takes_some : {g : Graph} {u end : ℕ} {X : PregroupType} → Boundary g end → (next_at g.nodes u ≡ 0 → ⊥) → Path g u X end → 1 ≤ length X
takes_some last simple here = absurd (simple last)
takes_some last simple (takes-node l p) = omega arith
takes_some last simple (enter (by s e) p) = absurd (simple e.boundary)

-- The places so far are no more than a path has.
module _ {Le : Relation} {g : Graph} {chart string chosen table needs : List ℕ} {end u words places : ℕ} (pre : Choosable Le g chart end)
    (now : Choosing Le g string chosen table needs end u words places) where
  few_behind : {X : PregroupType} → Path g u X end → places + length X ≤ max_places
  few_behind {X} p =
      omega (arith, pre.brief (path_append now.walked p), length-append (string_of string places) X, length_string string places)

  pub few_places : places ≤ max_places
  few_places = of now.finished
    where
      of : Finishes Le g (string_of string places) u end → places ≤ max_places
      of (finishes p v) = omega (arith, few_behind p)

  pub place_left : (next_at g.nodes u ≡ 0 → ⊥) → places + 1 ≤ max_places
  place_left simple = of now.finished
    where
      of : Finishes Le g (string_of string places) u end → places + 1 ≤ max_places
      of (finishes p v) = omega (arith, few_behind p, takes_some pre.ends.boundary simple p)

-- At a simple node.
module _ {Le : Relation} {g : Graph} {chart string chosen table needs : List ℕ} {end u words places : ℕ} (pre : Choosable Le g chart end)
    (now : Choosing Le g string chosen table needs end u words places) (simple : next_at g.nodes u ≡ 0 → ⊥) (string-room : max_places ≤ length string) where
  room : places + 1 ≤ max_places
  room = place_left pre now simple

  abbrev string' : List ℕ
  string' = set string places (simple_at g.nodes u)

  pub growable : Roomy g string chosen table needs → Growable Le g.nodes chart string' places u table needs
  growable roomy = record {
    links_there = links_there Le g chart pre.upward pre.chart_rows u now.below (λ w h. pre.filled w (omega arith)) (omega arith);
    string_there = record { few = room; there = omega (arith, room, string-room, length-set string places (simple_at g.nodes u)) };
    right = rw (string_kept string places (simple_at g.nodes u)) now.grown.right;
    table_room = roomy.table_rows (places + 1) room;
    needs_room = roomy.needs_rows (places + 1) room;
  }

  node_label : Labelled g u (label_of g u) (next_at g.nodes u)
  node_label = record { simple = omega arith; label = refl; next = refl }

  pub simple_up : (u < next_at g.nodes u) × (next_at g.nodes u < length g.nodes)
  simple_up = pre.upward.nexts_up u now.below (omega arith)

  longer : string_of string' (places + 1) ≡ string_of string places ++ (label_of g u ∷ [])
  longer = string_more string places (simple_at g.nodes u) (omega (arith, room, string-room))

  picked_turn :
      (table' needs' : List ℕ) → Grew Le g.nodes chart string' places u needs table' needs'
      → Choosing Le g string' chosen table' needs' end (next_at g.nodes u) words (places + 1)
  picked_turn table' needs' grew = record {
    below = simple_up.1;
    few = omega (arith, simple_up.0, now.few);
    grown =
        rw longer
        (grown_more Le g chart string' (string_of string places) end u places table needs table' needs' pre.upward now.below (omega arith)
        pre.filled now.grown longer grew);
    walked = rw longer (path_append now.walked (takes-node node_label here));
    finished = rw longer (finishes_take pre.ends.boundary node_label now.finished);
    scan = λ after r. now.scan after (rest_take node_label (rw longer at r));
    spell = λ after X a. rw (longer, append_assoc) (now.spell after (label_of g u ∷ X) (ahead_take node_label a));
  }

  -- The same, where the simple type and the node behind it are read before.
  pub picked_by :
      (label next : ℕ) → label ≡ simple_at g.nodes u → next ≡ next_at g.nodes u → (table' needs' : List ℕ)
      → Grew Le g.nodes chart (set string places label) places u needs table' needs'
      → Choosing Le g (set string places label) chosen table' needs' end next words (places + 1)
  picked_by label next e f table' needs' grew = rw (e, f) (picked_turn table' needs' (rw e at grew))

-- What is finished from a boundary other than the end is finished from the node of some slot.
data EntersFinished (Le : Relation) (g : Graph) (P : PregroupType) (u end : ℕ) : Type 0 where
  enters_finished : {s w : ℕ} → EntersBy g u s w → Finishes Le g P w end → EntersFinished Le g P u end

module _ {Le : Relation} {g : Graph} where
  enters_of_path : {P X : PregroupType} {u v : ℕ} → Boundary g u → (u ≡ v → ⊥) → Path g u X v → Vanish Le (P ++ X) → EntersFinished Le g P u v
  enters_of_path b away here v = absurd (away refl)
  enters_of_path b away (takes-node l p) v = absurd (omega (arith, l.simple))
  enters_of_path b away (enter (by s e) p) v = enters_finished e (finishes p v)

  finishes_enters : {P : PregroupType} {u end : ℕ} → Boundary g u → (u ≡ end → ⊥) → Finishes Le g P u end → EntersFinished Le g P u end
  finishes_enters b away (finishes p v) = enters_of_path b away p v

  finishes_enter : {R : PregroupType} {u s w z : ℕ} → EntersBy g u s w → Finishes Le g R w z → Finishes Le g R u z
  finishes_enter {s} e (finishes p v) = finishes (enter (by s e) p) v

  vanish_enter : {u s w z : ℕ} → EntersBy g u s w → VanishTo Le g w z → VanishTo Le g u z
  vanish_enter {s} e (along p v) = along (enter (by s e) p) v

  rest_enter :
      {P : PregroupType} {u s w end : ℕ} {slots : List ℕ} → EntersBy g u s w
      → ((r v : ℕ) → r < s → EntersBy g u r v → Finishes Le g P v end → ⊥) → Rest Le g end P w slots → Rest Le g end P u (s ∷ slots)
  rest_enter {P} e none (rest t c) = rest (ended e.boundary) (rw append-nil (takes e t none c))

module _ {g : Graph} where
  ahead_enter : {u s w end : ℕ} {slots : List ℕ} {X : PregroupType} → EntersBy g u s w → Ahead g w slots X end → Ahead g u (s ∷ slots) X end
  ahead_enter e (ahead t c) = ahead (ended e.boundary) (choose e t c)

-- The slots with one more.
slots_more : (slots : List ℕ) (k r : ℕ) (after : List ℕ) → k < length slots → take (k + 1) (set slots k r) ++ after ≡ take k slots ++ (r ∷ after)
slots_more slots k r after h =
    ap (λ (n : ℕ). take n (set slots k r) ++ after) (add-one k) ∙ ap (λ (l : List ℕ). l ++ after) (take-suc-set slots k r h)
    ∙ append_assoc (take k slots) (r ∷ []) after

-- At a boundary.
module _ {Le : Relation} {g : Graph} {chart string chosen table needs : List ℕ} {end u words places : ℕ} (pre : Choosable Le g chart end)
    (now : Choosing Le g string chosen table needs end u words places) (away : u ≡ end → ⊥) (boundary : next_at g.nodes u ≡ 0) where
  slot_enters : (s : ℕ) → from_at g.nodes u ≤ s → s < to_at g.nodes u → EntersBy g u s (entered_at g.slots s)
  slot_enters s h l = record { boundary = boundary; from_on = h; before = l; entered = refl }

  enters_up : (s : ℕ) → from_at g.nodes u ≤ s → s < to_at g.nodes u → (u < entered_at g.slots s) × (entered_at g.slots s < length g.nodes)
  enters_up s h l = pre.upward.enters_up u s (entered_at g.slots s) now.below (slot_enters s h l)

  pub searchable : Roomy g string chosen table needs → Searchable g.slots chart needs places (from_at g.nodes u) (to_at g.nodes u)
  searchable roomy = record {
    there = pre.upward.slots_there u now.below boundary;
    chart_room = λ s h l. pre.chart_rows (entered_at g.slots s) (enters_up s h l).1;
    needs_room = roomy.needs_rows places (few_places pre now);
  }

  module _ (r : ℕ) (first : FirstSlot g.slots chart needs places (from_at g.nodes u) (to_at g.nodes u) r) where
    never : (s w : ℕ) → s < r → EntersBy g u s w → Finishes Le g (string_of string places) w end → ⊥
    never s w h e f =
        let on = pre.upward.enters_up u s w now.below e in
        let test = meets_of_finishes pre.filled now.grown w on.1 (λ z t. vanish_enter e t) f in
        first.none s e.from_on h (subst (λ (y : ℕ). Meets chart y needs places) e.entered test)

    found_by : EntersFinished Le g (string_of string places) u end → (r < to_at g.nodes u) ⊎ (to_at g.nodes u ≤ r) → r < to_at g.nodes u
    found_by f (inl h) = h
    found_by (enters_finished {s} {w} e f) (inr h) = absurd (never s w (omega (arith, e.before)) e f)

    pub slot_found : r < to_at g.nodes u
    slot_found = found_by (finishes_enters boundary away now.finished) (less_or_not r (to_at g.nodes u))

    entered : EntersBy g u r (entered_at g.slots r)
    entered = slot_enters r first.from_on slot_found

    pub slot_up : (u < entered_at g.slots r) × (entered_at g.slots r < length g.nodes)
    slot_up = enters_up r first.from_on slot_found

    pub entered_turn : words < length chosen → Choosing Le g string (set chosen words r) table needs end (entered_at g.slots r) (words + 1) places
    entered_turn word_room = record {
      below = slot_up.1;
      few = omega (arith, slot_up.0, now.few);
      grown = grown_on (entered_at g.slots r) (λ R z f. finishes_enter entered f) now.grown;
      walked = rw append-nil at (path_append now.walked (enter (by r entered) here));
      finished = finishes_of_meets pre.filled now.grown (entered_at g.slots r) slot_up.1 (first.found slot_found);
      scan = λ after a. rw (slots_more chosen words r after word_room) (now.scan (r ∷ after) (rest_enter entered never a));
      spell = λ after X a. rw (slots_more chosen words r after word_room) (now.spell (r ∷ after) X (ahead_enter entered a));
    }

-- What the search at the boundary u finds: a slot r that is there and leads up.
pub record Found (g : Graph) (chart needs : List ℕ) (places u r : ℕ) : Type 0 where
  pub boundary : next_at g.nodes u ≡ 0
  pub first : FirstSlot g.slots chart needs places (from_at g.nodes u) (to_at g.nodes u) r
  pub before : r < to_at g.nodes u
  pub there : r < length g.slots
  pub up : (u < entered_at g.slots r) × (entered_at g.slots r < length g.nodes)

-- The same, where the node and the ends of the search are read before.
module _ {Le : Relation} {g : Graph} {chart string chosen table needs : List ℕ} {end u words places : ℕ} (pre : Choosable Le g chart end)
    (now : Choosing Le g string chosen table needs end u words places) (away : u ≡ end → ⊥) where
  pub found_by_search :
      {next from to r : ℕ} → next ≡ next_at g.nodes u → next ≡ 0 → from ≡ from_at g.nodes u → to ≡ to_at g.nodes u
      → FirstSlot g.slots chart needs places from to r → Found g chart needs places u r
  found_by_search {r = r} n last f t given =
      let boundary : next_at g.nodes u ≡ 0 = sym n ∙ last in
      let first = rw (f, t) at given in
      let before : r < to_at g.nodes u = slot_found pre now away boundary r first in
      record {
        boundary = boundary;
        first = first;
        before = before;
        there = omega (arith, pre.upward.slots_there u now.below boundary);
        up = slot_up pre now away boundary r first;
      }

-- At the end the chosen string vanishes, and the slots are the first choice.
module _ {Le : Relation} {g : Graph} where
  ends_here : {P X : PregroupType} {u v : ℕ} → u ≡ v → Boundary g u → ((s w : ℕ) → EntersBy g u s w → ⊥) → Path g u X v → Vanish Le (P ++ X) → Vanish Le P
  ends_here e b closed here v = rw append-nil at v
  ends_here e b closed (takes-node l p) v = absurd (omega (arith, l.simple))
  ends_here e b closed (enter {w} (by s f) p) v = absurd (closed s w f)

  vanish_at_end : {P : PregroupType} {end : ℕ} → Boundary g end → ((s w : ℕ) → EntersBy g end s w → ⊥) → Finishes Le g P end end → Vanish Le P
  vanish_at_end b closed (finishes p v) = ends_here refl b closed p v

module _ {Le : Relation} {g : Graph} {chart string chosen table needs : List ℕ} {end words places : ℕ} (pre : Choosable Le g chart end)
    (now : Choosing Le g string chosen table needs end end words places) where
  scan_whole : Scanned Le g end [] 0 (take words chosen)
  scan_whole =
      let v : Vanish Le (string_of string places) = vanish_at_end pre.ends.boundary pre.ends.closed now.finished in
      rw append-nil at (now.scan [] (rest (ended pre.ends.boundary) (ends (rw append-nil v))))

  pub chose : Chose Le g string chosen table end words places
  chose = record {
    scanned = scan_whole;
    first = scanned_is_first pre.ends.boundary pre.ends.closed scan_whole;
    spelled = rw (append-nil, append-nil) at (now.spell [] [] (ahead (ended pre.ends.boundary) (done pre.ends.boundary)));
    right = now.grown.right;
    few = now.few;
    few_places = few_places pre now;
  }

-- At the start nothing is chosen.
module _ {Le : Relation} {g : Graph} {chart : List ℕ} {end : ℕ} (pre : Choosable Le g chart end) where
  first_scan : (b : ℕ) {T : PregroupType} (after : List ℕ) → Spells g 0 T b → Scanned Le g end T b after → Scanned Le g end [] 0 after
  first_scan b after (ended h) s = s
  first_scan b after (more l t) s = absurd (omega (arith, l.simple, pre.begins))

  start_scan : (after : List ℕ) → Rest Le g end [] 0 after → Scanned Le g end [] 0 after
  start_scan after (rest {b} t s) = first_scan b after t s

  first_spell : (b : ℕ) {T X : PregroupType} (after : List ℕ) → Spells g 0 T b → SlotChoice g b after X end → SlotChoice g 0 after (T ++ X) end
  first_spell b after (ended h) c = c
  first_spell b after (more l t) c = absurd (omega (arith, l.simple, pre.begins))

  start_spell : {X : PregroupType} (after : List ℕ) → Ahead g 0 after X end → SlotChoice g 0 after X end
  start_spell after (ahead {b} t c) = first_spell b after t c

  finishes_to_end : VanishTo Le g 0 end → Finishes Le g [] 0 end
  finishes_to_end (along p v) = finishes p v

  pub start_choosing : (string chosen table needs : List ℕ) → Started end table needs → Choosing Le g string chosen table needs end 0 0 0
  unfolding string_of
  start_choosing string chosen table needs started = record {
    below = omega (arith, pre.inside);
    few = omega arith;
    grown = grown_starts started;
    walked = here;
    finished = finishes_to_end pre.reads;
    scan = λ after r. start_scan after r;
    spell = λ after X a. start_spell after a;
  }

-- The buffers keep their lengths, and so their room.
pub record SameLengths (string chosen table needs string' chosen' table' needs' : List ℕ) : Type 0 where
  pub places : length string' ≡ length string
  pub words : length chosen' ≡ length chosen
  pub table_rows : length table' ≡ length table
  pub needs_rows : length needs' ≡ length needs

pub roomy_same :
    {g : Graph} {string chosen table needs string' chosen' table' needs' : List ℕ} → Roomy g string chosen table needs
    → SameLengths string chosen table needs string' chosen' table' needs' → Roomy g string' chosen' table' needs'
roomy_same roomy same = record {
  places = omega (arith, roomy.places, same.places);
  words = omega (arith, roomy.words, same.words);
  table_rows = λ j h. omega (arith, roomy.table_rows j h, same.table_rows);
  needs_rows = λ j h. omega (arith, roomy.needs_rows j h, same.needs_rows);
}
