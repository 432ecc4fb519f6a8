-- A type laid from its last simple type to its first: what is behind is spelt already, and a store before it does not disturb it.
use Prim.Native.Nat.{ℕ, suc, ◌+◌, ◌-◌, ◌≤◌, ◌<◌}
use native.Mathlib.Omega.{arith}
use native.Mathlib.Decide.{ℕ_discrete}
use mathlib.Core.Path.{◌≡◌, refl, sym, ap, ◌∙◌}
use mathlib.Core.List.{List, ◌∷◌}
use lib.ListN.{length, get_or, set, length-set}
use lib.Seq.{get_or-set_same, get_or-set_other}
use Rattle.pregroup.specs.Held.{held}
use Rattle.book.specs.declared.EntryType.{EntryType}
use Rattle.graph.specs.Graph.{Graph, simple_in, next_in, next_at, Labelled, Boundary, Spells, ended, more}
use Rattle.figures.specs.Limits.{max_entry_simples, value_bound}
use Rattle.slots.specs.Laying.{Agree, AgreeFrom, Continues, Simples, held_from, TypeFits}

-- What continues a later graph continues this one.
pub continues_back :
    {n s n' s' : ℕ} {g g' h : Graph} → Continues n s g g' → Continues n' s' g' h → n ≤ n' → s ≤ s' → Continues n s g h
continues_back k k' h i =
    record { nodes = λ x a. k'.nodes x (omega arith) ∙ k.nodes x a; slots = λ y a. k'.slots y (omega arith) ∙ k.slots y a }

pub kept_here : (n s : ℕ) (g : Graph) → Continues n s g g
kept_here n s g = record { nodes = λ x h. refl; slots = λ y h. refl }

-- A store behind what is kept.
pub agree_set : (n : ℕ) (l₀ l : List ℕ) (i v : ℕ) → n ≤ i → Agree n l₀ l → Agree n l₀ (set l i v)
agree_set n l₀ l i v h s x a = get_or-set_other l i x v 0 (omega arith) ∙ s x a

-- Nodes that were laid simple stay so where the lists agree.
pub simples_kept :
    (l l' : List ℕ) (from n b : ℕ) → AgreeFrom from n l l' → Simples l from n b → Simples l' from n b
simples_kept l l' from n b same up x h i = rw (same x h i) (up x h i)

-- How the loop stands: the simple types from the i-th on are laid, and begin at `first`.
pub record Typing (t : EntryType) (node b : ℕ) (nodes₀ nodes : List ℕ) (first i : ℕ) : Type 0 where
  pub inside : i ≤ t.count
  pub kept : Agree (node + i) nodes₀ nodes
  pub simples : Simples nodes (node + i) (node + t.count) b
  pub spelt : (g : Graph) → AgreeFrom (node + i) (node + t.count) nodes g.nodes → Boundary g b → Spells g first (held_from (t.count - i) i t.simples) b
  pub low : node + i ≤ first
  pub high : first ≤ b
  pub same_length : length nodes ≡ length nodes₀

module _ {e : EntryType} {node b : ℕ} {nodes₀ : List ℕ} (t : TypeFits e node b nodes₀) where
  pub typing_start : Typing e node b nodes₀ nodes₀ b e.count
  unfolding held_from
  typing_start =
      let none_left : e.count - e.count ≡ 0 = omega arith in
      record {
        inside = omega arith;
        kept = λ x h. refl;
        simples = λ x h i. absurd (omega arith);
        spelt = λ g same boundary. rw none_left (ended boundary);
        low = t.fits;
        high = omega arith;
        same_length = refl;
      }

  module _ {nodes : List ℕ} {first i : ℕ} (s : Typing e node b nodes₀ nodes first i) (some_left : 0 < i) where
    abbrev at : ℕ
    at = node + (i - 1)

    -- Where the next simple type goes.
    pub type_inside : (i - 1 < max_entry_simples) × (at < length nodes) × (at < first) × (first < value_bound)
    type_inside = (
      omega (arith, s.inside, t.short),
      omega (arith, s.inside, t.fits, t.small, t.room, s.same_length),
      omega (arith, s.low),
      omega (arith, s.high, t.small),
    )

    -- The node that is stored there: its simple type, and `first` behind it.
    module _ (new : ℕ) (label : simple_in new ≡ get_or {A = ℕ} e.simples (i - 1) 0) (leads : next_in new ≡ first) where
      abbrev nodes' : List ℕ
      nodes' = set nodes at new

      stored : get_or {A = ℕ} nodes' at 0 ≡ new
      stored = get_or-set_same nodes at new 0 type_inside.1

      others : (x : ℕ) → (x ≡ at → ⊥) → get_or {A = ℕ} nodes' x 0 ≡ get_or {A = ℕ} nodes x 0
      others x d = get_or-set_other nodes at x new 0 d

      simples' : Simples nodes' at (node + e.count) b
      simples' x h i = go (ℕ_discrete x at)
        where
          go : Dec (x ≡ at) → (x < next_at nodes' x) × (next_at nodes' x ≤ b)
          go (yes q) = rw (q, stored, leads) (type_inside.2, s.high)
          go (no d) = rw (others x d) (s.simples x (omega (arith, d)) (omega arith))

      module _ (g : Graph) (same : AgreeFrom at (node + e.count) nodes' g.nodes) where
        here : get_or {A = ℕ} g.nodes at 0 ≡ new
        here = same at (omega arith) (omega (arith, s.inside)) ∙ stored

        labelled : Labelled g at (held (get_or {A = ℕ} e.simples (i - 1) 0)) first
        labelled =
            let behind : next_at g.nodes at ≡ first = ap next_in here ∙ leads in
            record { simple = omega (arith, behind, type_inside.2); label = ap held (sym (ap simple_in here ∙ label)); next = sym behind }

        rest_same : AgreeFrom (node + i) (node + e.count) nodes g.nodes
        rest_same x h l = same x (omega arith) l ∙ others x (λ q. omega arith)

      step : held_from (e.count - (i - 1)) (i - 1) e.simples ≡ held (get_or {A = ℕ} e.simples (i - 1) 0) ∷ held_from (e.count - i) i e.simples
      unfolding held_from
      step =
          let more_left : e.count - (i - 1) ≡ suc (e.count - i) = omega (arith, s.inside) in
          let next : suc (i - 1) ≡ i = omega arith in
          ap (λ (n : ℕ). held_from n (i - 1) e.simples) more_left ∙ ap (λ (k : ℕ). held (get_or {A = ℕ} e.simples (i - 1) 0) ∷ held_from (e.count - i) k e.simples) next

      pub typing_next : Typing e node b nodes₀ nodes' at (i - 1)
      typing_next =
          record {
            inside = omega (arith, s.inside);
            kept = agree_set at nodes₀ nodes at new (omega arith) (λ x h. s.kept x (omega arith));
            simples = simples';
            spelt = λ g same boundary. rw step (more (labelled g same) (s.spelt g (rest_same g same) boundary));
            low = omega arith;
            high = omega (arith, type_inside.2, s.high);
            same_length = length-set nodes at new ∙ s.same_length;
          }
