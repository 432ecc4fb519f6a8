-- What the code writes while it lays out the entries of one word, from left to right: simple types on nodes, and entries in slots. All that
-- is laid is said of every graph that agrees with the lists as far as they are filled, so later stores cannot disturb it, and what stands
-- behind in the lists means nothing.
use Rattle.std.specs.Prelude.{ℕ, zero, suc, ◌+◌, ◌≤◌, ◌<◌, ◌≡◌, false, List, [], ◌∷◌, length, get_or}
use Rattle.figures.specs.Limits.{max_nodes, max_entries, max_entry_simples}
use Rattle.linking.specs.Reading.{NumberedEntry}
use Rattle.format.specs.Records.{Bytes, bodies_at}
use Rattle.pregroup.specs.Types.{PregroupType}
use Rattle.pregroup.specs.Held.{held}
use Rattle.book.specs.declared.EntryType.{EntryType}
use Rattle.lookup.specs.Entries.{Vocabulary, simples_in}
use Rattle.lookup.specs.Threads.{Thread}
use Rattle.graph.specs.Graph.{Graph, next_at, entered_at, Boundary, Spells}
use Rattle.graph.specs.Layout.{Slots, slotted}
use Rattle.slots.specs.declared.Place.{Place}

-- The second list has the same as the first below n, and from `from` to before n.
abbrev pub Agree : ℕ → List ℕ → List ℕ → Type 0
Agree n l l' = (x : ℕ) → x < n → get_or {A = ℕ} l' x 0 ≡ get_or {A = ℕ} l x 0

abbrev pub AgreeFrom : ℕ → ℕ → List ℕ → List ℕ → Type 0
AgreeFrom from n l l' = (x : ℕ) → from ≤ x → x < n → get_or {A = ℕ} l' x 0 ≡ get_or {A = ℕ} l x 0

-- The second graph agrees with the first on the nodes below n and the slots below s.
pub record Continues (n s : ℕ) (g h : Graph) : Type 0 where
  pub nodes : Agree n g.nodes h.nodes
  pub slots : Agree s g.slots h.slots

-- The second graph has what the first has from one place to another.
pub record GoesOn (p p' : Place) (g h : Graph) : Type 0 where
  pub nodes : AgreeFrom p.node p'.node g.nodes h.nodes
  pub slots : AgreeFrom p.slot p'.slot g.slots h.slots

-- The nodes from `from` to before n are simple, and each leads up, to b at most.
abbrev pub Simples : List ℕ → ℕ → ℕ → ℕ → Type 0
Simples nodes from n b = (x : ℕ) → from ≤ x → x < n → (x < next_at nodes x) × (next_at nodes x ≤ b)

-- The simple types that n places of a list hold, from a place on, and those of an entry.
unfoldable pub held_from : ℕ → ℕ → List ℕ → PregroupType
held_from zero i l = []
held_from (suc n) i l = held (get_or {A = ℕ} l i 0) ∷ held_from n (suc i) l

abbrev pub type_held : EntryType → PregroupType
type_held t = held_from t.count 0 t.simples

-- A type can be laid from a node on, before the boundary b.
pub record TypeFits (t : EntryType) (node b : ℕ) (nodes : List ℕ) : Type 0 where
  pub short : t.count ≤ max_entry_simples
  pub fits : node + t.count ≤ b
  pub small : b < max_nodes
  pub room : max_nodes ≤ length nodes

-- It is laid: from `first` on it is spelt up to b.
pub record Typed (t : EntryType) (node b : ℕ) (nodes nodes' : List ℕ) (first : ℕ) : Type 0 where
  pub kept : Agree node nodes nodes'
  pub simples : Simples nodes' node (node + t.count) b
  pub spelt : (g : Graph) → AgreeFrom node (node + t.count) nodes' g.nodes → Boundary g b → Spells g first (type_held t) b
  pub low : node ≤ first
  pub high : first ≤ b

-- A place within a word before the boundary b. Each slot but that of an empty type has a node of its own, so slots are no more than nodes.
pub record Within (b : ℕ) (p : Place) (g : Graph) : Type 0 where
  pub few : p.slot ≤ p.node
  pub spare : p.seen ≡ false → p.slot < p.node
  pub inside : p.node ≤ b
  pub small : b < max_nodes
  pub nodes_room : max_nodes ≤ length g.nodes
  pub slots_room : max_nodes ≤ length g.slots

-- Entries are laid from one place to the next: es were to come at p, and es' are at p'.
pub record Lays (b : ℕ) (p : Place) (g : Graph) (p' : Place) (g' : Graph) (es es' : List NumberedEntry) : Type 0 where
  pub slots : (h : Graph) → GoesOn p p' g' h → Boundary h b → (to : ℕ)
      → Slots h b p'.slot to (slotted p'.seen es') → Slots h b p.slot to (slotted p.seen es)
  pub kept : Continues p.node p.slot g g'
  pub place : Within b p' g'
  pub count : p'.node + simples_in es' ≡ p.node + simples_in es
  pub node_on : p.node ≤ p'.node
  pub slot_on : p.slot ≤ p'.slot
  pub simples : Simples g'.nodes p.node p'.node b
  pub entered : (y : ℕ) → p.slot ≤ y → y < p'.slot → (p.node ≤ entered_at g'.slots y) × (entered_at g'.slots y ≤ b)

-- An entry's type can be laid from the place p on.
pub record SlotFits (t : EntryType) (number b : ℕ) (p : Place) (g : Graph) : Type 0 where
  pub short : t.count ≤ max_entry_simples
  pub fits : p.node + t.count ≤ b
  pub low : number ≤ max_entries
  pub place : Within b p g

-- The entries of a thread can be laid from the place p on, before the boundary b.
pub record EntriesFit (bytes : Bytes) (names : List ℕ) (types : ℕ) (entries same : List ℕ) (first b : ℕ) (p : Place) (g : Graph) : Type 0 where
  pub vocabulary : Vocabulary bytes names types entries
  pub same_room : length entries ≤ length same
  pub all : List NumberedEntry
  pub thread : Thread bytes (bodies_at bytes names types) entries same first all
  pub place : Within b p g
  pub fits : p.node + simples_in all ≤ b
