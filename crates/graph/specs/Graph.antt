-- A line as a graph. Its nodes are numbered from left to right: boundary 0, the simple types of all entries of word 0, boundary 1, the
-- simple types of word 1, and so on. A path spells the simple types that it takes, and picks one entry a word.
use Rattle.std.specs.Prelude.{ℕ, ◌*◌, ◌/◌, ◌%◌, ◌≤◌, ◌<◌, ◌≡◌, List, [], ◌∷◌, get_or, length}
use Rattle.pregroup.specs.Types.{Simple, PregroupType}
use Rattle.pregroup.specs.Order.{Relation}
use Rattle.pregroup.specs.Vanish.{Vanish}
use Rattle.pregroup.specs.Held.{held}
use Rattle.figures.specs.Limits.{row_bits, value_bound}

-- The lists that the code holds. A node is one number of four parts, a slot one of two; each part is below `value_bound`.
pub record Graph : Type 0 where
  pub nodes : List ℕ
  pub slots : List ℕ

abbrev pub graph : List ℕ → List ℕ → Graph
graph nodes slots = record { nodes = nodes; slots = slots }

-- The parts of a node: its simple type and the node behind it; or, for a boundary, the first of its slots and the one behind its last. It is a
-- boundary where no node is behind it.
unfoldable pub simple_in : ℕ → ℕ
simple_in node = node % value_bound

unfoldable pub next_in : ℕ → ℕ
next_in node = node / value_bound % value_bound

unfoldable pub from_in : ℕ → ℕ
from_in node = node / (value_bound * value_bound) % value_bound

unfoldable pub to_in : ℕ → ℕ
to_in node = node / (value_bound * value_bound * value_bound) % value_bound

-- The parts of a slot: the node that it enters, and its entry's number.
unfoldable pub entered_in : ℕ → ℕ
entered_in slot = slot % value_bound

unfoldable pub number_in : ℕ → ℕ
number_in slot = slot / value_bound % value_bound

-- Those of node u and of slot s.
abbrev pub simple_at : List ℕ → ℕ → ℕ
simple_at nodes u = simple_in (get_or {A = ℕ} nodes u 0)

abbrev pub next_at : List ℕ → ℕ → ℕ
next_at nodes u = next_in (get_or {A = ℕ} nodes u 0)

abbrev pub from_at : List ℕ → ℕ → ℕ
from_at nodes u = from_in (get_or {A = ℕ} nodes u 0)

abbrev pub to_at : List ℕ → ℕ → ℕ
to_at nodes u = to_in (get_or {A = ℕ} nodes u 0)

abbrev pub entered_at : List ℕ → ℕ → ℕ
entered_at slots s = entered_in (get_or {A = ℕ} slots s 0)

abbrev pub number_at : List ℕ → ℕ → ℕ
number_at slots s = number_in (get_or {A = ℕ} slots s 0)

-- The simple type of a node, for a node that has one.
abbrev pub label_of : Graph → ℕ → Simple
label_of g u = held (simple_at g.nodes u)

-- u is simple with the label x, and n is the node behind it.
pub record Labelled (g : Graph) (u : ℕ) (x : Simple) (n : ℕ) : Type 0 where
  pub simple : 0 < next_at g.nodes u
  pub label : x ≡ label_of g u
  pub next : n ≡ next_at g.nodes u

-- Slot s belongs to the boundary u and leads to v.
pub record EntersBy (g : Graph) (u s v : ℕ) : Type 0 where
  pub boundary : next_at g.nodes u ≡ 0
  pub from_on : from_at g.nodes u ≤ s
  pub before : s < to_at g.nodes u
  pub entered : v ≡ entered_at g.slots s

-- u is a boundary, and one of its slots leads to v.
pub data Enters (g : Graph) (u v : ℕ) : Type 0 where
  by : (s : ℕ) → EntersBy g u s v → Enters g u v

-- Every edge from a node goes to a later node, and each boundary's slots are there.
pub record Upward (g : Graph) : Type 0 where
  pub few : length g.nodes ≤ row_bits
  pub nexts_up : (u : ℕ) → u < length g.nodes → 0 < next_at g.nodes u → (u < next_at g.nodes u) × (next_at g.nodes u < length g.nodes)
  pub enters_up : (u s v : ℕ) → u < length g.nodes → EntersBy g u s v → (u < v) × (v < length g.nodes)
  pub slots_there : (u : ℕ) → u < length g.nodes → next_at g.nodes u ≡ 0 → to_at g.nodes u ≤ length g.slots

-- Path g u X v: a path from u to v that spells X.
pub data Path (g : Graph) : ℕ → PregroupType → ℕ → Type 0 where
  here : {u : ℕ} → Path g u [] u
  take : {u n v : ℕ} {x : Simple} {X : PregroupType} → Labelled g u x n → Path g n X v → Path g u (x ∷ X) v
  enter : {u w v : ℕ} {X : PregroupType} → Enters g u w → Path g w X v → Path g u X v

-- Some path from u to v spells a string that vanishes.
pub data VanishTo (Le : Relation) (g : Graph) (u v : ℕ) : Type 0 where
  along : {X : PregroupType} → Path g u X v → Vanish Le X → VanishTo Le g u v

-- u is a boundary.
abbrev pub Boundary : Graph → ℕ → Type 0
Boundary g u = next_at g.nodes u ≡ 0

-- The nodes from u up to the boundary v spell T. From a slot's first node on, T is the type of the slot's entry.
pub data Spells (g : Graph) : ℕ → PregroupType → ℕ → Type 0 where
  ended : {v : ℕ} → Boundary g v → Spells g v [] v
  more : {u n v : ℕ} {x : Simple} {T : PregroupType} → Labelled g u x n → Spells g n T v → Spells g u (x ∷ T) v
