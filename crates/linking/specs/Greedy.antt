-- The greedy linking, position by position: each stays unlinked if it can, and else is linked to the nearest position that leaves the rest
-- linkable. It is the first linking (`greedy_at_most`), and what the code writes.
use Rattle.std.specs.Prelude.{ℕ, suc, ◌≤◌, ◌<◌, ◌≡◌, List, pos, length}
use Rattle.pregroup.specs.Types.{Basic, PregroupType}
use Rattle.pregroup.specs.Order.{Relation}
use Rattle.pregroup.specs.Vanish.{Contracts, Vanish}
use Rattle.linking.specs.Linking.{simple_at, partner, stretch}

-- Positions i and k are the ends of a link.
pub record Link (Le : Relation) (X : PregroupType) (P : List ℕ) (i k : ℕ) : Type 0 where
  pub ahead : i < k
  pub forth : partner P i ≡ k
  pub back : partner P k ≡ i
  pub contract : Contracts Le (simple_at X i) (simple_at X k)

-- Position i could be linked to k, if the rest may be left so.
pub record Candidate (Le : Relation) (X : PregroupType) (i k : ℕ) (Rest : Type 0) : Type 0 where
  pub contract : Contracts Le (simple_at X i) (simple_at X k)
  pub between : Vanish Le (stretch X (suc i) k)
  pub rest : Rest

-- Position u could be the unlinked one of the string from i on.
pub record Stay (Le : Relation) (s : Basic) (X : PregroupType) (i u : ℕ) : Type 0 where
  pub fits : u ≤ length X
  pub is_plain : (simple_at X u).exponent ≡ pos 0
  pub below : Le (simple_at X u).base s
  pub before : Vanish Le (stretch X i u)
  pub behind : Vanish Le (stretch X (suc u) (suc (length X)))

-- What stands behind k, up to j, vanishes.
abbrev pub VanishBehind : Relation → PregroupType → ℕ → ℕ → Type 0
VanishBehind Le X j k = Vanish Le (stretch X (suc k) j)

-- The string from i on reduces to the target.
abbrev pub ReducesFrom : Relation → Basic → PregroupType → ℕ → Type 0
ReducesFrom Le s X i = (u : ℕ) × (i ≤ u) × Stay Le s X i u

-- No position between i and k is a candidate for a link of i.
abbrev pub Nearest : Relation → PregroupType → (ℕ → Type 0) → ℕ → ℕ → Type 0
Nearest Le X Rest i k = (m : ℕ) → i < m → m < k → Candidate Le X i m (Rest m) → ⊥

-- The stretch from i up to j: it is empty, or i is linked to the nearest candidate, and so is all between and behind.
pub data Greedy (Le : Relation) (X : PregroupType) (P : List ℕ) : ℕ → ℕ → Type 0 where
  done : {i j : ℕ} → i ≡ j → Greedy Le X P i j
  nearest : {i j : ℕ} (k : ℕ) → Link Le X P i k → k < j → Nearest Le X (VanishBehind Le X j) i k
      → Greedy Le X P (suc i) k → Greedy Le X P (suc k) j → Greedy Le X P i j

-- The string from i on: i stays unlinked if it can, and else is linked to the nearest candidate.
pub data GreedyFrom (Le : Relation) (s : Basic) (X : PregroupType) (P : List ℕ) : ℕ → Type 0 where
  stays : {i : ℕ} → partner P i ≡ i → Stay Le s X i i → Greedy Le X P (suc i) (suc (length X)) → GreedyFrom Le s X P i
  links : {i : ℕ} (k : ℕ) → Link Le X P i k → (Stay Le s X i i → ⊥) → Nearest Le X (λ m. ReducesFrom Le s X (suc m)) i k
      → Greedy Le X P (suc i) k → GreedyFrom Le s X P (suc k) → GreedyFrom Le s X P i
