-- The first linking of a string as the code finds it, given the table of what vanishes: what one position may be linked to, and what is
-- written where. Places count from 0, positions and partners from 1.
use Rattle.std.specs.Prelude.{ℕ, suc, ◌+◌, ◌≤◌, ◌<◌, ◌≡◌, ◌⊎◌, List, ◌++◌, get_or, length, take, drop, set}
use Rattle.pregroup.specs.Types.{Basic, PregroupType}
use Rattle.pregroup.specs.Order.{Relation}
use Rattle.pregroup.specs.Vanish.{Remains}
use Rattle.linking.specs.Greedy.{Greedy, GreedyFrom, ReducesFrom}
use Rattle.figures.specs.Limits.{row_bits}
use Rattle.bits.specs.Rows.{InRow, HasRow, RowSays}
use Rattle.table.specs.Table.{held_at, string_of, ContractsAt, StringThere, Right, FitsBefore}

-- The simple type at u may be the unlinked one: it is plain and stands at or below the target.
abbrev pub RemainsAt : Relation → Basic → List ℕ → ℕ → Type 0
RemainsAt Le s string u = Remains Le s (held_at string u)

-- i may stay unlinked: its simple type may remain, and what stands behind it, up to m, vanishes.
abbrev pub Stays : Relation → Basic → List ℕ → List ℕ → ℕ → ℕ → Type 0
Stays Le s string table m = FitsBefore (RemainsAt Le s string) table m

-- i may be linked to k: they could contract, and what stands between them vanishes.
abbrev pub Closes : Relation → List ℕ → List ℕ → ℕ → ℕ → Type 0
Closes Le string table i k = FitsBefore (ContractsAt Le string k) table k i

-- .. and the place behind k is in row e of `ends`.
pub record MayLink (Le : Relation) (string table ends : List ℕ) (e i k : ℕ) : Type 0 where
  pub closing : Closes Le string table i k
  pub rest : InRow ends e (k + 1)

-- r is the nearest place behind i that i may be linked to, or `row_bits` where there is none.
pub record NearestLink (Le : Relation) (string table ends : List ℕ) (e i r : ℕ) : Type 0 where
  pub least : (k : ℕ) → i < k → k < r → MayLink Le string table ends e i k → ⊥
  pub found : r < row_bits → (i < r) × MayLink Le string table ends e i r

-- What the search for the nearest asks: row e of `ends` leads to simple types that are there.
pub record EndRowThere (string table ends : List ℕ) (e : ℕ) : Type 0 where
  pub room : HasRow ends e
  pub reached : (j : ℕ) → InRow ends e j → StringThere string j × HasRow table j

-- The list with i and k linked, in the part from `at` on.
abbrev pub with_link : List ℕ → ℕ → ℕ → ℕ → List ℕ
with_link answer at i k = set (set answer (at + i) (k + 1)) (at + k) (i + 1)

-- The table is right up to j, the string is there, and so is the room for the partners.
pub record LinkingThere (Le : Relation) (string table answer : List ℕ) (at j : ℕ) : Type 0 where
  pub string_there : StringThere string j
  pub room : HasRow table j
  pub right : Right Le (string_of string j) table j
  pub space : at + j ≤ length answer

-- Nothing is written before `from`, nor from `to` on.
abbrev pub KeptOutside : List ℕ → List ℕ → ℕ → ℕ → Type 0
KeptOutside before after from to = (p : ℕ) → (p < from) ⊎ (to ≤ p) → get_or after p 0 ≡ get_or before p 0

-- The partners of the stretch from i up to j are written: each the nearest.
pub record LinkedWithin (Le : Relation) (string before after : List ℕ) (at i j : ℕ) : Type 0 where
  pub kept : KeptOutside before after (at + i) (at + j)
  pub greedy : (n : ℕ) → j ≤ n → Greedy Le (string_of string n) (drop at after) (suc i) (suc j)

-- The partners of the string from i on are written.
pub record LinkedFrom (Le : Relation) (s : Basic) (string before after : List ℕ) (at m i : ℕ) : Type 0 where
  pub kept : KeptOutside before after (at + i) (at + m)
  pub greedy : GreedyFrom Le s (string_of string m) (drop at after) (suc i)

-- The row has the places from which the string reduces to the target.
abbrev pub ReducingRow : Relation → Basic → PregroupType → List ℕ → Type 0
ReducingRow Le s X ends = RowSays ends 0 (λ i. ReducesFrom Le s X (suc i))

-- What the linking of a string from i on asks besides: the string reduces from i on, and the row says from where it does.
pub record ReducingThere (Le : Relation) (s : Basic) (X : PregroupType) (ends : List ℕ) (i : ℕ) : Type 0 where
  pub room : HasRow ends 0
  pub says : ReducingRow Le s X ends
  pub here : InRow ends 0 i

-- The first linking of X stands in `after` from `at` on, and everything else is as before.
pub record FirstLinked (Le : Relation) (s : Basic) (X : PregroupType) (before after : List ℕ) (at : ℕ) : Type 0 where
  pub partners : List ℕ
  pub whole : length partners ≡ length X
  pub greedy : GreedyFrom Le s X partners 1
  pub written : after ≡ take at before ++ (partners ++ drop (at + length X) before)
