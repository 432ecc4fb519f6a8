-- A line's words laid out as a graph: each word's entries as the slots of a boundary, in the book's order, and the targets' right adjoints as
-- the entries of a last word, each with an end of its own. A second empty entry of a word fares as the first did, so only the first one has a
-- slot.
use Rattle.std.specs.Prelude.{ℕ, ◌+◌, ◌≡◌, Bool, true, false, List, [], ◌∷◌}
use Rattle.pregroup.specs.Types.{Basic, PregroupType, right_adjoint}
use Rattle.linking.specs.Reading.{NumberedEntry, Words, target_type}
use Rattle.graph.specs.Graph.{Graph, from_at, to_at, entered_at, number_at, EntersBy, Path, Boundary, Spells}

abbrev pub has_none : PregroupType → Bool
has_none [] = true
has_none (x ∷ X) = false

-- The entries that get a slot: all but those with the empty type behind the first such one. The Bool says whether there was one before.
unfoldable pub slotted : Bool → List NumberedEntry → List NumberedEntry
slotted seen [] = []
slotted seen (e ∷ entries) = elim (has_none e.type) [
  | true ↦ elim seen [ true ↦ slotted true entries | false ↦ e ∷ slotted true entries ]
  | false ↦ e ∷ slotted seen entries
]

-- The slots from s up to `to` are those of the entries, in their order: each has the entry's number, and leads to a node from which the entry's
-- type is spelt, up to the boundary b.
pub data Slots (g : Graph) (b : ℕ) : ℕ → ℕ → List NumberedEntry → Type 0 where
  none : {s to : ℕ} → s ≡ to → Slots g b s to []
  slot : {s to : ℕ} {e : NumberedEntry} {es : List NumberedEntry}
      → number_at g.slots s ≡ e.number → Spells g (entered_at g.slots s) e.type b → Slots g b (s + 1) to es
      → Slots g b s to (e ∷ es)

-- A boundary without slots: no path leads on from it.
pub record End (g : Graph) (end : ℕ) : Type 0 where
  pub boundary : Boundary g end
  pub closed : (s v : ℕ) → EntersBy g end s v → ⊥

-- From the boundary u on the graph is that of these words, and then of the target t, up to `end`, which of the last boundary's slots only
-- that of t leads to.
pub data Laid (g : Graph) (t : Basic) : ℕ → Words → ℕ → Type 0 where
  goal : {u s v end : ℕ} → EntersBy g u s v → Spells g v (right_adjoint (target_type t)) end
      → ((r w : ℕ) (X : PregroupType) → EntersBy g u r w → Path g w X end → r ≡ s) → Laid g t u [] end
  word : {u b end : ℕ} {es : List NumberedEntry} {words : Words}
      → Boundary g u → Slots g b (from_at g.nodes u) (to_at g.nodes u) (slotted false es) → Laid g t b words end
      → Laid g t u (es ∷ words) end
