-- How a line is finished once its first words are settled: P is the string that the chosen entries spell so far. A choice is a list of
-- slots, one for each boundary that is passed; entries of a word stand in the order of its slots, so an earlier choice is one with a
-- smaller slot at the first difference.
use Rattle.std.specs.Prelude.{ℕ, ◌<◌, List, [], ◌∷◌, ◌++◌}
use Rattle.pregroup.specs.Types.{Simple, PregroupType}
use Rattle.pregroup.specs.Order.{Relation}
use Rattle.pregroup.specs.Vanish.{Contracts, Vanish}
use Rattle.linking.specs.Linking.{AtMost}
use Rattle.graph.specs.Graph.{Graph, Labelled, EntersBy, Path, VanishTo, Boundary, Spells}

-- Some path from y to `end` spells an X such that P X vanishes.
pub data Finishes (Le : Relation) (g : Graph) (P : PregroupType) (y end : ℕ) : Type 0 where
  finishes : {X : PregroupType} → Path g y X end → Vanish Le (P ++ X) → Finishes Le g P y end

-- Needed Le g end P z: z is the node at which the innermost link is closed that P leaves open. P vanishes, and z is the end; or P is L p R, R vanishes,
-- z is simple and p could contract with it, and from behind z L is finished.
pub data Needed (Le : Relation) (g : Graph) (end : ℕ) : PregroupType → ℕ → Type 0 where
  settled : {P : PregroupType} → Vanish Le P → Needed Le g end P end
  closes :
      {L R : PregroupType} {z k : ℕ} {p x : Simple} → Vanish Le R → Labelled g z x k → Contracts Le p x → Finishes Le g L k end
      → Needed Le g end (L ++ (p ∷ R)) z

-- P is completed from y: by what vanishes y leads to a node that is needed.
pub data Completion (Le : Relation) (g : Graph) (P : PregroupType) (y end : ℕ) : Type 0 where
  completion : {z : ℕ} → VanishTo Le g y z → Needed Le g end P z → Completion Le g P y end

-- SlotChoice g u slots X v: from the boundary u to the boundary v, by the entries of the slots, which spell X.
pub data SlotChoice (g : Graph) : ℕ → List ℕ → PregroupType → ℕ → Type 0 where
  done : {v : ℕ} → Boundary g v → SlotChoice g v [] [] v
  choose :
      {u s w b v : ℕ} {T X : PregroupType} {slots : List ℕ} → EntersBy g u s w → Spells g w T b → SlotChoice g b slots X v
      → SlotChoice g u (s ∷ slots) (T ++ X) v

-- The slots complete P from u on: what they spell, behind P, vanishes.
pub data Completes (Le : Relation) (g : Graph) (P : PregroupType) (u : ℕ) (slots : List ℕ) (end : ℕ) : Type 0 where
  completes : {X : PregroupType} → SlotChoice g u slots X end → Vanish Le (P ++ X) → Completes Le g P u slots end

-- Some choice from u on that takes the slot s first completes P.
pub data CompletableBy (Le : Relation) (g : Graph) (P : PregroupType) (u s end : ℕ) : Type 0 where
  by_slot : {slots : List ℕ} → Completes Le g P u (s ∷ slots) end → CompletableBy Le g P u s end

-- Of all choices that complete P from u on, the first.
pub record FirstChoice (Le : Relation) (g : Graph) (P : PregroupType) (u : ℕ) (slots : List ℕ) (end : ℕ) : Type 0 where
  pub reads : Completes Le g P u slots end
  pub first : (others : List ℕ) → Completes Le g P u others end → AtMost slots others

-- Slot by slot: at each boundary the first slot from whose first node P is finished, until the end.
pub data Scanned (Le : Relation) (g : Graph) (end : ℕ) : PregroupType → ℕ → List ℕ → Type 0 where
  ends : {P : PregroupType} → Vanish Le P → Scanned Le g end P end []
  takes :
      {P T : PregroupType} {u s w b : ℕ} {slots : List ℕ} → EntersBy g u s w → Spells g w T b
      → ((r v : ℕ) → r < s → EntersBy g u r v → Finishes Le g P v end → ⊥) → Scanned Le g end (P ++ T) b slots
      → Scanned Le g end P u (s ∷ slots)
