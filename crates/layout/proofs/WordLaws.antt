-- Words laid one behind another, each from its boundary to the next.
use Prim.Native.Nat.{ℕ, ◌+◌, ◌≤◌, ◌<◌}
use native.Mathlib.Omega.{arith}
use native.Mathlib.Decide.{dec_lt, ℕ_discrete}
use mathlib.Core.Path.{◌≡◌, refl, ap, ◌∙◌}
use mathlib.Core.Bool.{false}
use mathlib.Core.List.{List, [], ◌∷◌}
use lib.ListN.{get_or, set, length-set}
use lib.Seq.{get_or-set_same, get_or-set_other}
use Rattle.pregroup.specs.Types.{Basic}
use Rattle.linking.specs.Reading.{NumberedEntry, Words}
use Rattle.lookup.specs.Entries.{simples_in}
use Rattle.lookup.proofs.ThreadLaws.{simples_cons}
use Rattle.graph.specs.Graph.{Graph, graph, next_in, from_in, to_in, next_at, from_at, to_at, entered_at, Boundary}
use Rattle.graph.specs.Layout.{slotted, Slots, none, Laid, goal, word}
use Rattle.figures.specs.Limits.{max_nodes}
use Rattle.slots.specs.Laying.{Continues, GoesOn, Lays}
use Rattle.slots.specs.declared.Place.{Place}
use Rattle.slots.proofs.TypeLaws.{continues_back}
use Rattle.layout.specs.LineLayout.{Standing, Lined}

laid_boundary : {g : Graph} {t : Basic} {u end : ℕ} {words : Words} → Laid g t u words end → Boundary g u
laid_boundary (goal e spelt only) = e.boundary
laid_boundary (word b slots rest) = b

-- One step behind another.
pub lined_then :
    {p p' p'' : Place} {g g' g'' : Graph} {ws ws' ws'' : Words} → Lined p g p' g' ws ws' → Lined p' g' p'' g'' ws' ws'' → Lined p g p'' g'' ws ws''
lined_then s s' =
    record {
      laid = λ h k t end rest. s.laid h (continues_back s'.kept k s'.node_on s'.slot_on) t end (s'.laid h k t end rest);
      kept = continues_back s.kept s'.kept s.node_on s.slot_on;
      standing = s'.standing;
      count = s'.count ∙ s.count;
      node_on = omega (arith, s.node_on, s'.node_on);
      slot_on = omega (arith, s.slot_on, s'.slot_on);
    }

-- What stands below a place is so in a graph that goes on from there.
module _ {p : Place} {g g' : Graph} (s : Standing p g) (kept : Continues p.node p.slot g g') where
  pub nexts_still : (x : ℕ) → x < p.node → 0 < next_at g'.nodes x → (x < next_at g'.nodes x) × (next_at g'.nodes x ≤ p.node)
  nexts_still x h q =
      let e = ap next_in (kept.nodes x h) in
      let up = s.nexts_up x h (omega arith) in
      (omega (arith, up.0), omega (arith, up.1))

  pub tos_still : (x : ℕ) → x < p.node → next_at g'.nodes x ≡ 0 → to_at g'.nodes x ≤ p.slot
  tos_still x h q = let e = ap next_in (kept.nodes x h) in let f = ap to_in (kept.nodes x h) in omega (arith, s.tos_low x h (omega arith))

  pub enters_still :
      (x y : ℕ) → x < p.node → next_at g'.nodes x ≡ 0 → from_at g'.nodes x ≤ y → y < to_at g'.nodes x
      → (x < entered_at g'.slots y) × (entered_at g'.slots y ≤ p.node)
  enters_still x y h q a b =
      let e = kept.nodes x h in
      let bounds : next_at g.nodes x ≡ 0 = omega (arith, ap next_in e) in
      let to : y < to_at g.nodes x = omega (arith, ap to_in e) in
      rw (kept.slots y (omega (arith, s.tos_low x h bounds))) (s.enters_up x y h bounds (omega (arith, ap from_in e)) to)

-- A word, from its boundary to the next.
module _ {p : Place} {g : Graph} (s : Standing p g) (es : List NumberedEntry) {b : ℕ} (next : b ≡ p.node + 1 + simples_in es) (small : b < max_nodes) where
  abbrev first : Place
  first = record { node = p.node + 1; slot = p.slot; seen = false }

  -- Its entries are laid, and its boundary is stored, with the range of its slots.
  module _ {last : Place} {g' : Graph} (t : Lays b first g last g' es []) (new : ℕ) (bounds : next_in new ≡ 0) (from : from_in new ≡ p.slot) (to : to_in new ≡ last.slot) where
    abbrev p' : Place
    p' = record { node = b; slot = last.slot; seen = false }

    abbrev g'' : Graph
    g'' = graph (set g'.nodes p.node new) g'.slots

    all_laid : last.node ≡ b
    unfolding simples_in
    all_laid = omega (arith, t.count, next)

    here : get_or {A = ℕ} g''.nodes p.node 0 ≡ new
    here = get_or-set_same g'.nodes p.node new 0 (omega (arith, t.place.nodes_room))

    others : (x : ℕ) → (x ≡ p.node → ⊥) → get_or {A = ℕ} g''.nodes x 0 ≡ get_or {A = ℕ} g'.nodes x 0
    others x d = get_or-set_other g'.nodes p.node x new 0 d

    kept : Continues p.node p.slot g g''
    kept = record { nodes = λ x h. others x (omega arith) ∙ t.kept.nodes x (omega arith); slots = t.kept.slots }

    laid' : (rest : Words) (h : Graph) → Continues b last.slot g'' h → (target : Basic) (end : ℕ) → Laid h target b rest end → Laid h target p.node (es ∷ rest) end
    unfolding slotted
    laid' rest h k target end r =
        let there : get_or {A = ℕ} h.nodes p.node 0 ≡ new = k.nodes p.node (omega arith) ∙ here in
        let entries : GoesOn first last g' h =
        record { nodes = λ x a c. k.nodes x (omega (arith, all_laid)) ∙ others x (omega arith); slots = λ y a c. k.slots y c } in
        let slots : Slots h b p.slot last.slot (slotted false es) = t.slots h entries (laid_boundary r) last.slot (none refl) in
        let from' : from_at h.nodes p.node ≡ p.slot = ap from_in there ∙ from in
        let to' : to_at h.nodes p.node ≡ last.slot = ap to_in there ∙ to in
        word {b = b} {es = es} (ap next_in there ∙ bounds) (rw (from', to') slots) r

    -- A node before the next boundary: before the word, its boundary, or one of its simple types.
    nexts_up' : (x : ℕ) → x < b → 0 < next_at g''.nodes x → (x < next_at g''.nodes x) × (next_at g''.nodes x ≤ b)
    nexts_up' x h q = go (dec_lt x p.node) (ℕ_discrete x p.node)
      where
        go : Dec (x < p.node) → Dec (x ≡ p.node) → (x < next_at g''.nodes x) × (next_at g''.nodes x ≤ b)
        go (yes l) d = let e = nexts_still s kept x l q in (e.0, omega (arith, e.1))
        go (no n) (yes e) = let z : next_at g''.nodes x ≡ 0 = ap (λ (v : ℕ). next_at g''.nodes v) e ∙ ap next_in here ∙ bounds in absurd (omega arith)
        go (no n) (no d) = rw (others x d) (t.simples x (omega (arith, n, d)) (omega (arith, all_laid)))

    -- A boundary before the next one is this one, or stands before it.
    boundary_at : (x : ℕ) → x < b → next_at g''.nodes x ≡ 0 → (x ≡ p.node → ⊥) → x < p.node
    boundary_at x h q d = go (dec_lt x p.node)
      where
        go : Dec (x < p.node) → x < p.node
        go (yes l) = l
        go (no n) = let up = t.simples x (omega (arith, n, d)) (omega (arith, all_laid)) in absurd (omega (arith, up.0, ap next_in (others x d)))

    tos_low' : (x : ℕ) → x < b → next_at g''.nodes x ≡ 0 → to_at g''.nodes x ≤ last.slot
    tos_low' x h q = go (ℕ_discrete x p.node)
      where
        go : Dec (x ≡ p.node) → to_at g''.nodes x ≤ last.slot
        go (yes e) = let z : to_at g''.nodes x ≡ last.slot = ap (λ (v : ℕ). to_at g''.nodes v) e ∙ ap to_in here ∙ to in omega arith
        go (no d) = omega (arith, tos_still s kept x (boundary_at x h q d) q, t.slot_on)

    enters_up' : (x y : ℕ) → x < b → next_at g''.nodes x ≡ 0 → from_at g''.nodes x ≤ y → y < to_at g''.nodes x
        → (x < entered_at g''.slots y) × (entered_at g''.slots y ≤ b)
    enters_up' x y h q a c = go (ℕ_discrete x p.node)
      where
        go : Dec (x ≡ p.node) → (x < entered_at g''.slots y) × (entered_at g''.slots y ≤ b)
        go (yes e) =
            let f : from_at g''.nodes x ≡ p.slot = ap (λ (v : ℕ). from_at g''.nodes v) e ∙ ap from_in here ∙ from in
            let z : to_at g''.nodes x ≡ last.slot = ap (λ (v : ℕ). to_at g''.nodes v) e ∙ ap to_in here ∙ to in
            let i = t.entered y (omega arith) (omega arith) in
            (omega (arith, i.0), i.1)
        go (no d) = let i = enters_still s kept x y (boundary_at x h q d) q a c in (i.0, omega (arith, i.1))

    pub word_lined : (rest : Words) → Lined p g p' g'' (es ∷ rest) rest
    word_lined rest =
        record {
          laid = laid' rest;
          kept = kept;
          standing = record {
            few = omega (arith, t.place.few, all_laid);
            room = record { nodes = omega (arith, t.place.nodes_room, length-set g'.nodes p.node new); slots = t.place.slots_room };
            nexts_up = nexts_up';
            tos_low = tos_low';
            enters_up = enters_up';
          };
          count = let e = simples_cons es rest in omega (arith, e);
          node_on = omega arith;
          slot_on = t.slot_on;
        }
