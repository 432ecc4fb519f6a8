-- What the code writes while it lays out the words of a line, from left to right, and then the targets.
use Rattle.std.specs.Prelude.{ℕ, ◌+◌, ◌*◌, ◌≤◌, ◌<◌, ◌≡◌, false, List, [], ◌∷◌, length, get_or, take}
use Rattle.figures.specs.Limits.{max_nodes}
use Rattle.pregroup.specs.Types.{Basic, right_adjoint}
use Rattle.pregroup.specs.Held.{held}
use Rattle.linking.specs.Reading.{NumberedEntry, Words, target_at, target_type}
use Rattle.format.specs.Records.{Bytes, bodies_at}
use Rattle.lookup.specs.Entries.{Vocabulary, simples_in, simples_of_words}
use Rattle.lookup.specs.Threads.{Thread}
use Rattle.line.specs.FoundWords.{ThreadedWords}
use Rattle.graph.specs.Graph.{Graph, graph, simple_at, next_at, from_at, to_at, entered_at, Upward}
use Rattle.graph.specs.Layout.{End, Laid}
use Rattle.slots.specs.Laying.{Continues}
use Rattle.slots.specs.declared.Place.{Place}

-- The start of the lists.
abbrev pub start_place : Place
start_place = record { node = 0; slot = 0; seen = false }

-- There is room in both lists.
pub record Room (g : Graph) : Type 0 where
  pub nodes : max_nodes ≤ length g.nodes
  pub slots : max_nodes ≤ length g.slots

-- The lists are filled up to the boundary of the place p, and every edge goes up.
pub record Standing (p : Place) (g : Graph) : Type 0 where
  pub few : p.slot ≤ p.node
  pub room : Room g
  pub nexts_up : (x : ℕ) → x < p.node → 0 < next_at g.nodes x → (x < next_at g.nodes x) × (next_at g.nodes x ≤ p.node)
  pub tos_low : (x : ℕ) → x < p.node → next_at g.nodes x ≡ 0 → to_at g.nodes x ≤ p.slot
  pub enters_up : (x y : ℕ) → x < p.node → next_at g.nodes x ≡ 0 → from_at g.nodes x ≤ y → y < to_at g.nodes x
      → (x < entered_at g.slots y) × (entered_at g.slots y ≤ p.node)

-- Words are laid from one boundary to another: `words` were to come at p, and `left` are at p'.
pub record Lined (p : Place) (g : Graph) (p' : Place) (g' : Graph) (words left : Words) : Type 0 where
  pub laid : (h : Graph) → Continues p'.node p'.slot g' h → (t : Basic) (end : ℕ) → Laid h t p'.node left end → Laid h t p.node words end
  pub kept : Continues p.node p.slot g g'
  pub standing : Standing p' g'
  pub count : p'.node + (simples_of_words left + length left) ≡ p.node + (simples_of_words words + length words)
  pub node_on : p.node ≤ p'.node
  pub slot_on : p.slot ≤ p'.slot

-- A word, by the thread of its entries, can be laid at the boundary of the place p.
pub record WordFits (bytes : Bytes) (names : List ℕ) (types : ℕ) (entries same : List ℕ) (first : ℕ) (p : Place) (g : Graph) : Type 0 where
  pub vocabulary : Vocabulary bytes names types entries
  pub same_room : length entries ≤ length same
  pub all : List NumberedEntry
  pub thread : Thread bytes (bodies_at bytes names types) entries same first all
  pub standing : Standing p g
  pub fits : p.node + 1 + simples_in all < max_nodes

-- The words that are looked up can be laid, from the start of the lists on.
pub record WordsFit (bytes : Bytes) (names : List ℕ) (types : ℕ) (entries same firsts : List ℕ) (g : Graph) : Type 0 where
  pub words : Words
  pub found : ThreadedWords bytes names types entries same firsts words
  pub room : Room g

-- Each target takes two nodes behind the last boundary: its right adjoint and its end.
abbrev pub goal_at : ℕ → ℕ → ℕ
goal_at last t = last + 1 + 2 * t

abbrev pub end_at : ℕ → ℕ → ℕ
end_at last t = last + 2 + 2 * t

-- The number of nodes with n targets.
abbrev pub nodes_with : ℕ → ℕ → ℕ
nodes_with last n = last + 1 + 2 * n

-- The graph of a line with n targets: what stands behind its nodes means nothing.
abbrev pub line_graph : ℕ → ℕ → Graph → Graph
line_graph last n g = graph (take (nodes_with last n) g.nodes) g.slots

-- A target can be laid at a node, with a slot that leads to it.
pub record GoalFits (node slot : ℕ) (g : Graph) : Type 0 where
  pub node_fits : node + 1 < max_nodes
  pub slot_fits : slot < max_nodes
  pub room : Room g

-- It is laid: the slot leads to its right adjoint, and that to the node behind it, its end.
pub record GoalLaid (target : Basic) (node slot : ℕ) (g g' : Graph) : Type 0 where
  pub label : held (simple_at g'.nodes node) ∷ [] ≡ right_adjoint (target_type target)
  pub next : next_at g'.nodes node ≡ node + 1
  pub bounds : next_at g'.nodes (node + 1) ≡ 0
  pub closed : to_at g'.nodes (node + 1) ≡ 0
  pub entered : entered_at g'.slots slot ≡ node
  pub nodes_kept : (x : ℕ) → (x ≡ node → ⊥) → (x ≡ node + 1 → ⊥) → get_or {A = ℕ} g'.nodes x 0 ≡ get_or {A = ℕ} g.nodes x 0
  pub slots_kept : (y : ℕ) → (y ≡ slot → ⊥) → get_or {A = ℕ} g'.slots y 0 ≡ get_or {A = ℕ} g.slots y 0

-- The targets are laid at the boundary of the place p, which is the last one.
pub record Ended (targets : List Basic) (p : Place) (g g' : Graph) : Type 0 where
  pub kept : Continues p.node p.slot g g'
  pub upward : Upward (line_graph p.node (length targets) g')
  pub ends : (t : ℕ) → t < length targets → End (line_graph p.node (length targets) g') (end_at p.node t)
  pub laid : (t : ℕ) → t < length targets
      → Laid (line_graph p.node (length targets) g') (target_at targets t) p.node [] (end_at p.node t)

-- The line is laid out, with this last boundary: the graph goes up, and from node 0 it is that of the line's words and of each target, up to
-- the target's end.
pub record LaidOut (words : Words) (targets : List Basic) (g : Graph) (last : ℕ) : Type 0 where
  pub few : nodes_with last (length targets) ≤ max_nodes
  pub upward : Upward (line_graph last (length targets) g)
  pub ends : (t : ℕ) → t < length targets → End (line_graph last (length targets) g) (end_at last t)
  pub laid : (t : ℕ) → t < length targets → Laid (line_graph last (length targets) g) (target_at targets t) 0 words (end_at last t)
