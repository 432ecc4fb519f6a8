-- What the parsers ask and write: a text from an offset on, and the type of what stands there at places of a list.
use Rattle.std.specs.Prelude.{ℕ, zero, suc, ◌+◌, ◌≤◌, ◌<◌, ◌≡◌, ◌≢◌, List, length, get_or, drop, Option, None, Some}
use Rattle.std.proofs.Math.Option.{Option as Maybe, none, some}
use Rattle.figures.specs.Limits.{max_depth}
use Rattle.pregroup.specs.Types.{PregroupType}
use Rattle.format.specs.Records.{Bytes}
use Rattle.format.specs.Names.{Named}
use Rattle.notation.specs.Grammar.{slash, backslash, Tree}
use Rattle.notation.specs.Trees.{Front, shallow_type}
use Rattle.notation.specs.Places.{Holds, Tame}
use Rattle.slash.specs.declared.Found.{Found}
use Rattle.slash.specs.declared.Sign.{Sign}
use Rattle.slash.specs.declared.Sign.TheVariants.{Slash, Backslash}

-- The most simple types that a unit can have, n brackets deep.
unfoldable pub room : ℕ → ℕ
room zero = 1
room (suc n) = room n + room n

-- A text can be read from an offset on, with brackets as deep as `depth`, and there is room for what is read.
pub record TextFits (bytes : Bytes) (offsets : List ℕ) (types : ℕ) (text : Bytes) (at depth n from : ℕ) (places : List ℕ) : Type 0 where
  pub named : Named bytes offsets types
  pub inside : at ≤ length text
  pub shallow : depth ≤ max_depth
  pub space : from + room n ≤ length places

-- The slash or backslash at an offset, or none.
abbrev pub SignAt : Bytes → ℕ → Option Sign → Type 0
SignAt text at None = at < length text → (get_or {A = ℕ} text at 0 ≢ slash) × (get_or {A = ℕ} text at 0 ≢ backslash)
SignAt text at (Some Slash) = (at < length text) × (get_or {A = ℕ} text at 0 ≡ slash)
SignAt text at (Some Backslash) = (at < length text) × (get_or {A = ℕ} text at 0 ≡ backslash)

-- A front is written. Its type, by the sense of its tree, stands at the places from `from` up to `end`: one simple type at least, and no more than a
-- unit can have m brackets deep, with exponents from −n to n. Behind it in the text stands what is left.
pub record FrontWritten (sense : Tree → PregroupType) (text : Bytes) (f : Front) (n m from : ℕ) (places places' : List ℕ) (behind end : ℕ) : Type 0 where
  pub inside : behind ≤ length text
  pub left : drop behind text ≡ f.behind
  pub count : end ≡ from + length (sense f.tree)
  pub filled : from < end
  pub few : end ≤ from + room m
  pub holds : Holds places' from (sense f.tree)
  pub tame : Tame n places' from end
  pub kept : (k : ℕ) → k < from → get_or {A = ℕ} places' k 0 ≡ get_or {A = ℕ} places k 0

-- What a parser says of the front of a text, and of what stands there.
pub data Says (sense : Tree → PregroupType) (text : Bytes) : Maybe Front → ℕ → ℕ → ℕ → List ℕ → List ℕ → Option Found → Type 0 where
  neither : {n m from : ℕ} {places places' : List ℕ} → Says sense text none n m from places places' None
  written : {f : Front} {n m from : ℕ} {places places' : List ℕ} {r : Found} → FrontWritten sense text f n m from places places' r.behind r.end
      → Says sense text (some f) n m from places places' (Some r)

-- A whole text is read: its type stands at the first places.
pub record TextSays (names : List Bytes) (text : Bytes) (places : List ℕ) (count : ℕ) : Type 0 where
  pub all : count ≡ length (shallow_type names text)
  pub few : count ≤ room (suc max_depth)
  pub holds : Holds places 0 (shallow_type names text)

-- What a whole text is read as: so many simple types, or none where its brackets are too deep or it is no type.
abbrev pub TextRead : List Bytes → Bytes → List ℕ → Option ℕ → Type 0
TextRead names text places None = TextSays names text places 0
TextRead names text places (Some n) = (0 < n) × TextSays names text places n
