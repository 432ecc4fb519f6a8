-- A string of simple types as the code holds it, and the table of its stretches that vanish: row j has the places i such that the stretch
-- from i up to, not including, j vanishes. Places count from 0.
use Rattle.std.specs.Prelude.{ℕ, zero, suc, ◌+◌, ◌≤◌, ◌<◌, List, [], ◌∷◌, ◌++◌, get_or, length}
use Rattle.std.proofs.Math.Seq.{slice}
use Rattle.figures.specs.Limits.{max_places}
use Rattle.pregroup.specs.Types.{Simple, PregroupType, plain}
use Rattle.pregroup.specs.Order.{Relation}
use Rattle.pregroup.specs.Vanish.{Contracts, Vanish}
use Rattle.pregroup.specs.Held.{held}
use Rattle.bits.specs.Rows.{InRow, RowSays}

-- The simple type at place i of a type.
abbrev pub at_place : PregroupType → ℕ → Simple
at_place X i = get_or X i (plain 0)

-- The simple type that is held at place i, and the string of the first n.
abbrev pub held_at : List ℕ → ℕ → Simple
held_at string i = held (get_or string i 0)

unfoldable pub string_of : List ℕ → ℕ → PregroupType
string_of string zero = []
string_of string (suc n) = string_of string n ++ (held_at string n ∷ [])

-- The simple type at i could contract with the one at k.
abbrev pub ContractsAt : Relation → List ℕ → ℕ → ℕ → Type 0
ContractsAt Le string k i = Contracts Le (held_at string i) (held_at string k)

-- The stretch of X from i up to j vanishes.
pub record Stretch (Le : Relation) (X : PregroupType) (i j : ℕ) : Type 0 where
  pub ordered : i ≤ j
  pub vanishes : Vanish Le (slice i j X)

-- Rows 0 to n say which stretches of X vanish, and nothing else.
abbrev pub Right : Relation → PregroupType → List ℕ → ℕ → Type 0
Right Le X table n = (j : ℕ) → j ≤ n → RowSays table j (λ i. Stretch Le X i j)

-- The first n simple types are there, and they are not too many.
pub record StringThere (string : List ℕ) (n : ℕ) : Type 0 where
  pub few : n ≤ max_places
  pub there : n ≤ length string

-- Row k has no place past k.
abbrev pub Bounded : List ℕ → ℕ → Type 0
Bounded table k = (j : ℕ) → InRow table k j → j ≤ k

-- By row k: i fits, and what stands behind it, up to k, vanishes.
pub record FitsBefore (Fits : ℕ → Type 0) (table : List ℕ) (k i : ℕ) : Type 0 where
  pub fits : Fits i
  pub behind : InRow table k (i + 1)

-- The simple type at k may close the one at i: the two could contract, and what stands between them vanishes.
pub record Closable (Le : Relation) (X : PregroupType) (k i : ℕ) : Type 0 where
  pub before : i < k
  pub contracts : Contracts Le (at_place X i) (at_place X k)
  pub between : Vanish Le (slice (suc i) k X)

-- The table is right up to the place behind k, and the row `closed` has the places that the simple type at k may close.
pub record Extended (Le : Relation) (X : PregroupType) (table closed : List ℕ) (k : ℕ) : Type 0 where
  pub right : Right Le X table (k + 1)
  pub closes : RowSays closed 0 (Closable Le X k)
