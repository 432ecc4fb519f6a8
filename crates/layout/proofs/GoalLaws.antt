-- The targets laid behind the last word, each with an end of its own.
use Prim.Native.Nat.{ℕ, ◌+◌, ◌-◌, ◌/◌, ◌%◌, ◌≤◌, ◌<◌}
use native.Mathlib.Omega.{arith}
use native.Mathlib.Decide.{dec_lt, ℕ_discrete}
use mathlib.Core.Path.{◌≡◌, refl, sym, ap, subst, ◌∙◌}
use mathlib.Core.List.{List, [], ◌∷◌}
use lib.ListN.{length, get_or, set, length-set}
use lib.Seq.{get_or-set_same, get_or-set_other, get_or-take, length-take-le}
use Rattle.pregroup.specs.Types.{Basic, PregroupType, right_adjoint}
use Rattle.pregroup.specs.Held.{held}
use Rattle.figures.specs.Limits.{max_nodes}
use Rattle.linking.specs.Reading.{target_at, target_type}
use Rattle.graph.specs.Graph.{Graph, graph, simple_in, next_in, from_in, to_in, simple_at, next_at, from_at, to_at, entered_at, EntersBy, by, Upward, Path, here, take as takes-node, enter, Spells, ended, more}
use Rattle.graph.specs.Layout.{End, goal}
use Rattle.slots.specs.Laying.{Continues}
use Rattle.slots.specs.declared.Place.{Place}
use Rattle.layout.specs.LineLayout.{Standing, goal_at, end_at, nodes_with, line_graph, GoalLaid, Ended}
use Rattle.layout.proofs.WordLaws.{nexts_still, tos_still, enters_still}

-- How the loop over the targets stands before target t, from this last boundary and its first slot on: the targets before it are laid.
pub record Ending (targets : List Basic) (last slot : ℕ) (g₀ g : Graph) (t : ℕ) : Type 0 where
  pub passed : t ≤ length targets
  pub nodes_length : length g.nodes ≡ length g₀.nodes
  pub slots_length : length g.slots ≡ length g₀.slots
  pub kept : Continues last slot g₀ g
  pub label : (u : ℕ) → u < t → held (simple_at g.nodes (goal_at last u)) ∷ [] ≡ right_adjoint (target_type (target_at targets u))
  pub next : (u : ℕ) → u < t → next_at g.nodes (goal_at last u) ≡ end_at last u
  pub bounds : (u : ℕ) → u < t → next_at g.nodes (end_at last u) ≡ 0
  pub closed : (u : ℕ) → u < t → to_at g.nodes (end_at last u) ≡ 0
  pub entered : (u : ℕ) → u < t → entered_at g.slots (slot + u) ≡ goal_at last u

module _ {targets : List Basic} {p : Place} {g₀ : Graph} (s : Standing p g₀) (fits : nodes_with p.node (length targets) ≤ max_nodes) where
  module _ {g : Graph} {t : ℕ} (a : Ending targets p.node p.slot g₀ g t) (h : t < length targets) where
    abbrev at : ℕ
    at = goal_at p.node t

    module _ {g' : Graph} (new : GoalLaid (target_at targets t) at (p.slot + t) g g') where
      -- What holds of a target's node and end holds with one target more.
      earlier : (u : ℕ) → u < t + 1 → (u ≡ t → ⊥) → (get_or {A = ℕ} g'.nodes (goal_at p.node u) 0 ≡ get_or {A = ℕ} g.nodes (goal_at p.node u) 0)
          × (get_or {A = ℕ} g'.nodes (end_at p.node u) 0 ≡ get_or {A = ℕ} g.nodes (end_at p.node u) 0)
      earlier u b d =
          (new.nodes_kept (goal_at p.node u) (omega arith) (omega arith), new.nodes_kept (end_at p.node u) (omega arith) (omega arith))

      end_same : at + 1 ≡ end_at p.node t
      end_same = omega arith

      label' : (u : ℕ) → u < t + 1 → held (simple_at g'.nodes (goal_at p.node u)) ∷ [] ≡ right_adjoint (target_type (target_at targets u))
      label' u b = go (ℕ_discrete u t)
        where
          go : Dec (u ≡ t) → held (simple_at g'.nodes (goal_at p.node u)) ∷ [] ≡ right_adjoint (target_type (target_at targets u))
          go (yes e) = rw e new.label
          go (no d) = ap (λ (v : ℕ). held (simple_in v) ∷ []) (earlier u b d).0 ∙ a.label u (omega arith)

      next' : (u : ℕ) → u < t + 1 → next_at g'.nodes (goal_at p.node u) ≡ end_at p.node u
      next' u b = go (ℕ_discrete u t)
        where
          go : Dec (u ≡ t) → next_at g'.nodes (goal_at p.node u) ≡ end_at p.node u
          go (yes e) = rw e (new.next ∙ end_same)
          go (no d) = ap next_in (earlier u b d).0 ∙ a.next u (omega arith)

      bounds' : (u : ℕ) → u < t + 1 → next_at g'.nodes (end_at p.node u) ≡ 0
      bounds' u b = go (ℕ_discrete u t)
        where
          go : Dec (u ≡ t) → next_at g'.nodes (end_at p.node u) ≡ 0
          go (yes e) = rw (e, ← end_same) new.bounds
          go (no d) = ap next_in (earlier u b d).1 ∙ a.bounds u (omega arith)

      closed' : (u : ℕ) → u < t + 1 → to_at g'.nodes (end_at p.node u) ≡ 0
      closed' u b = go (ℕ_discrete u t)
        where
          go : Dec (u ≡ t) → to_at g'.nodes (end_at p.node u) ≡ 0
          go (yes e) = rw (e, ← end_same) new.closed
          go (no d) = ap to_in (earlier u b d).1 ∙ a.closed u (omega arith)

      entered' : (u : ℕ) → u < t + 1 → entered_at g'.slots (p.slot + u) ≡ goal_at p.node u
      entered' u b = go (ℕ_discrete u t)
        where
          go : Dec (u ≡ t) → entered_at g'.slots (p.slot + u) ≡ goal_at p.node u
          go (yes e) = rw e new.entered
          go (no d) = rw (new.slots_kept (p.slot + u) (omega arith)) (a.entered u (omega arith))

      pub ending_next : length g'.nodes ≡ length g.nodes → length g'.slots ≡ length g.slots → Ending targets p.node p.slot g₀ g' (t + 1)
      ending_next nodes slots =
          record {
            passed = omega arith;
            nodes_length = nodes ∙ a.nodes_length;
            slots_length = slots ∙ a.slots_length;
            kept = record {
              nodes = λ x b. new.nodes_kept x (omega arith) (omega arith) ∙ a.kept.nodes x b;
              slots = λ y b. new.slots_kept y (omega arith) ∙ a.kept.slots y b;
            };
            label = label';
            next = next';
            bounds = bounds';
            closed = closed';
            entered = entered';
          }

  -- All targets are laid, and the boundary before them is stored, with their slots.
  module _ {g : Graph} (a : Ending targets p.node p.slot g₀ g (length targets)) (new : ℕ) (no-next : next_in new ≡ 0) (first : from_in new ≡ p.slot)
      (behind : to_in new ≡ p.slot + length targets) where
    abbrev n : ℕ
    n = length targets

    abbrev g' : Graph
    g' = graph (set g.nodes p.node new) g.slots

    abbrev whole : Graph
    whole = line_graph p.node n g'

    -- What the line's graph has at a node, and how many nodes it has.
    long : length whole.nodes ≡ nodes_with p.node n
    long = length-take-le (nodes_with p.node n) g'.nodes (omega (arith, fits, s.room.nodes, a.nodes_length, length-set g.nodes p.node new))

    node_there : (x : ℕ) → x < nodes_with p.node n → (x ≡ p.node → ⊥) → get_or {A = ℕ} whole.nodes x 0 ≡ get_or {A = ℕ} g.nodes x 0
    node_there x h d = get_or-take (nodes_with p.node n) g'.nodes x 0 h ∙ get_or-set_other g.nodes p.node x new 0 d

    last_there : get_or {A = ℕ} whole.nodes p.node 0 ≡ new
    last_there =
        get_or-take (nodes_with p.node n) g'.nodes p.node 0 (omega arith)
        ∙ get_or-set_same g.nodes p.node new 0 (omega (arith, s.room.nodes, a.nodes_length))

    kept_whole : Continues p.node p.slot g₀ whole
    kept_whole = record { nodes = λ x h. node_there x (omega arith) (omega arith) ∙ a.kept.nodes x h; slots = a.kept.slots }

    bounds_whole : (u : ℕ) → u < n → next_at whole.nodes (end_at p.node u) ≡ 0
    bounds_whole u h = ap next_in (node_there (end_at p.node u) (omega arith) (omega arith)) ∙ a.bounds u h

    closed_whole : (u : ℕ) → u < n → to_at whole.nodes (end_at p.node u) ≡ 0
    closed_whole u h = ap to_in (node_there (end_at p.node u) (omega arith) (omega arith)) ∙ a.closed u h

    next_whole : (u : ℕ) → u < n → next_at whole.nodes (goal_at p.node u) ≡ end_at p.node u
    next_whole u h = ap next_in (node_there (goal_at p.node u) (omega arith) (omega arith)) ∙ a.next u h

    -- Where a node of the line lies.
    data Lies (x : ℕ) : Type 0 where
      before : x < p.node → Lies x
      last_one : x ≡ p.node → Lies x
      of_target : (u : ℕ) → u < n → x ≡ goal_at p.node u → Lies x
      an_end : (u : ℕ) → u < n → x ≡ end_at p.node u → Lies x

    lies : (x : ℕ) → x < nodes_with p.node n → Lies x
    lies x h = go (dec_lt x p.node) (ℕ_discrete x p.node) (ℕ_discrete ((x - p.node) % 2) 1)
      where
        go : Dec (x < p.node) → Dec (x ≡ p.node) → Dec ((x - p.node) % 2 ≡ 1) → Lies x
        go (yes l) d e = before l
        go (no m) (yes d) e = last_one d
        go (no m) (no d) (yes e) = of_target ((x - p.node) / 2) (omega (arith, m)) (omega (arith, m))
        go (no m) (no d) (no e) = an_end ((x - p.node) / 2 - 1) (omega (arith, m, d, e)) (omega (arith, m, d, e))

    within : (y : ℕ) → p.slot ≤ y → y < p.slot + n → (u : ℕ) × (u < n) × (y ≡ p.slot + u)
    within y b h = (y - p.slot, omega arith, omega arith)

    reached : (y : ℕ) → p.slot ≤ y → y < p.slot + n → (p.node < entered_at g.slots y) × (entered_at g.slots y < nodes_with p.node n)
    reached y b h =
        let w = within y b h in
        let small = w.1 in
        let e : entered_at g.slots y ≡ goal_at p.node w.0 = ap (λ (v : ℕ). entered_at g.slots v) w.2 ∙ a.entered w.0 w.1 in
        (omega arith, omega arith)

    nexts_up' : (x : ℕ) → Lies x → 0 < next_at whole.nodes x → (x < next_at whole.nodes x) × (next_at whole.nodes x < nodes_with p.node n)
    nexts_up' x (before l) q = let e = nexts_still s kept_whole x l q in (e.0, omega (arith, e.1))
    nexts_up' x (last_one d) q = let z = ap (λ (v : ℕ). next_at whole.nodes v) d ∙ ap next_in last_there ∙ no-next in absurd (omega arith)
    nexts_up' x (of_target u h d) q = let z = ap (λ (v : ℕ). next_at whole.nodes v) d ∙ next_whole u h in (omega arith, omega arith)
    nexts_up' x (an_end u h d) q = let z = ap (λ (v : ℕ). next_at whole.nodes v) d ∙ bounds_whole u h in absurd (omega arith)

    enters_up' : (x y v : ℕ) → Lies x → EntersBy whole x y v → (x < v) × (v < nodes_with p.node n)
    enters_up' x y v (before l) e =
        let i = enters_still s kept_whole x y l e.boundary e.from_on e.before in
        (omega (arith, i.0, e.entered), omega (arith, i.1, e.entered))
    enters_up' x y v (last_one d) e =
        let f = ap (λ (w : ℕ). from_at whole.nodes w) d ∙ ap from_in last_there ∙ first in
        let z = ap (λ (w : ℕ). to_at whole.nodes w) d ∙ ap to_in last_there ∙ behind in
        let i = reached y (omega (arith, e.from_on)) (omega (arith, e.before)) in
        (omega (arith, i.0, e.entered), omega (arith, i.1, e.entered))
    enters_up' x y v (of_target u h d) e =
        let z = ap (λ (w : ℕ). next_at whole.nodes w) d ∙ next_whole u h in
        absurd (omega (arith, e.boundary))
    enters_up' x y v (an_end u h d) e =
        let z = ap (λ (w : ℕ). to_at whole.nodes w) d ∙ closed_whole u h in
        absurd (omega (arith, e.before))

    slots_there' : (x : ℕ) → Lies x → next_at whole.nodes x ≡ 0 → to_at whole.nodes x ≤ length whole.slots
    slots_there' x (before l) q = omega (arith, tos_still s kept_whole x l q, s.few, s.room.slots, a.slots_length, fits)
    slots_there' x (last_one d) q =
        let z = ap (λ (w : ℕ). to_at whole.nodes w) d ∙ ap to_in last_there ∙ behind in
        omega (arith, s.few, s.room.slots, a.slots_length, fits)
    slots_there' x (of_target u h d) q = let z = ap (λ (w : ℕ). next_at whole.nodes w) d ∙ next_whole u h in absurd (omega arith)
    slots_there' x (an_end u h d) q = let z = ap (λ (w : ℕ). to_at whole.nodes w) d ∙ closed_whole u h in omega arith

    upward' : Upward whole
    upward' =
        record {
          few = omega (arith, long, fits);
          nexts_up = λ x h q. let up = nexts_up' x (lies x (omega (arith, long))) q in (up.0, omega (arith, up.1, long));
          enters_up = λ x y v h e. let up = enters_up' x y v (lies x (omega (arith, long))) e in (up.0, omega (arith, up.1, long));
          slots_there = λ x h q. slots_there' x (lies x (omega (arith, long))) q;
        }

    is_end : (t : ℕ) → t < n → End whole (end_at p.node t)
    is_end t h = record { boundary = bounds_whole t h; closed = λ y v e. omega (arith, e.before, closed_whole t h) }

    spelt : (t : ℕ) → t < n → Spells whole (goal_at p.node t) (right_adjoint (target_type (target_at targets t))) (end_at p.node t)
    spelt t h =
        let label = ap (λ (v : ℕ). held (simple_in v) ∷ []) (node_there (goal_at p.node t) (omega arith) (omega arith)) ∙ a.label t h in
        subst (λ (X : PregroupType). Spells whole (goal_at p.node t) X (end_at p.node t)) label
        (more {u = goal_at p.node t} {n = end_at p.node t}
        (record { simple = omega (arith, next_whole t h); label = refl; next = sym (next_whole t h) })
        (ended (is_end t h).boundary))

    -- No path leads from one end on, nor from a target's node to another one's end.
    stays : {t end : ℕ} {X : PregroupType} → t < n → Path whole (end_at p.node t) X end → end ≡ end_at p.node t
    stays h here = refl
    stays {t} h (takes-node k q) = absurd (omega (arith, k.simple, (is_end t h).boundary))
    stays {t} h (enter (by y e) q) = absurd ((is_end t h).closed y _ e)

    goal_leads : {t end : ℕ} {X : PregroupType} (x : ℕ) → x ≡ goal_at p.node t → t < n → (end ≡ goal_at p.node t → ⊥) → Path whole x X end → end ≡ end_at p.node t
    goal_leads x e h d here = absurd (d e)
    goal_leads {t} x e h d (takes-node k q) =
        let there = k.next ∙ ap (λ (v : ℕ). next_at whole.nodes v) e ∙ next_whole t h in
        stays h (rw there at q)
    goal_leads {t} x e h d (enter (by y k) q) =
        let there = ap (λ (v : ℕ). next_at whole.nodes v) e ∙ next_whole t h in
        absurd (omega (arith, k.boundary))

    from : from_at whole.nodes p.node ≡ p.slot
    from = ap from_in last_there ∙ first

    to : to_at whole.nodes p.node ≡ p.slot + n
    to = ap to_in last_there ∙ behind

    only : (t : ℕ) → t < n → (r w : ℕ) (X : PregroupType) → EntersBy whole p.node r w → Path whole w X (end_at p.node t) → r ≡ p.slot + t
    only t h r w X e q =
        let k = within r (omega (arith, e.from_on, from)) (omega (arith, e.before, to)) in
        let there = e.entered ∙ ap (λ (v : ℕ). entered_at g.slots v) k.2 ∙ a.entered k.0 k.1 in
        let same = goal_leads {t = k.0} w there k.1 (omega arith) q in
        omega (arith, k.2)

    goals_ended : Ended targets p g₀ g'
    goals_ended =
        record {
          kept = record { nodes = λ x h. get_or-set_other g.nodes p.node x new 0 (omega arith) ∙ a.kept.nodes x h; slots = a.kept.slots };
          upward = upward';
          ends = is_end;
          laid = λ t h.
              goal {s = p.slot + t} {v = goal_at p.node t}
              (record { boundary = ap next_in last_there ∙ no-next; from_on = omega (arith, from); before = omega (arith, to); entered = sym (a.entered t h) })
              (spelt t h)
              (only t h);
        }

  pub goals_laid :
      {g : Graph} {t : ℕ} → Ending targets p.node p.slot g₀ g t → length targets ≤ t → (new : ℕ) → next_in new ≡ 0 → from_in new ≡ p.slot → to_in new ≡ p.slot + length targets
      → Ended targets p g₀ (graph (set g.nodes p.node new) g.slots)
  goals_laid {g} {t} a h new no-next first behind =
      let e : t ≡ length targets = omega (arith, a.passed) in
      goals_ended (rw e at a) new no-next first behind
