-- A walk over the members of a row by `rows::members`: each turn joins the part of the member that it gives to the row that is gathered.
use Prim.Native.Nat.{ℕ, ◌+◌, ◌≤◌}
use native.Mathlib.Omega.{arith}
use mathlib.Core.Path.{◌≡◌, ◌∙◌}
use mathlib.Core.Logic.{◌⊎◌}
use mathlib.Core.List.{List}
use Rattle.std.proofs.Common.{Option, Some, None}
use Rattle.figures.specs.Limits.{row_bits}
use Rattle.bits.specs.declared.rows.RowMembers.{RowMembers}
use Rattle.bits.specs.Rows.{InRow, RowSays, NextMember, GivesMember}
use Rattle.bits.specs.Gathered.{Gathered}
use Rattle.bits.proofs.Gathering.{GatheredTo, gather_starts, gather_one, gather_skip, gather_ends}

-- Each part is that of a member of row u that is not below `from`.
pub record OfMembers (rows : List ℕ) (u from : ℕ) (Part : ℕ → ℕ → Type 0) : Type 0 where
  pub member : (m v : ℕ) → Part m v → InRow rows u m
  pub from_on : (m v : ℕ) → Part m v → from ≤ m

-- What is known of the walk `it` over row u, and of the row that is gathered: it has the start and the parts before the walk.
pub record Walks (rows : List ℕ) (u from : ℕ) (Start : ℕ → Type 0) (Part : ℕ → ℕ → Type 0) (row : List ℕ) (it : RowMembers) : Type 0 where
  pub same_rows : it.rows.now ≡ rows
  pub same_row : it.u ≡ u
  pub from_on : from ≤ it.from
  pub gathered : GatheredTo row Start Part it.from

-- What a turn of the walk from `it` to `on` gives.
abbrev pub Turn : RowMembers → Option ℕ → RowMembers → Type 0
Turn it r on = (on.rows.now ≡ it.rows.now) × (on.u ≡ it.u) × GivesMember it.rows.now it.u it.from r on.from

module _ {rows : List ℕ} {u from : ℕ} {Start : ℕ → Type 0} {Part : ℕ → ℕ → Type 0} (parts : OfMembers rows u from Part) (row : List ℕ) (it : RowMembers) where
  pub walks_start : RowSays row 0 Start → (it.rows.now ≡ rows) × (it.u ≡ u) × (it.from ≡ from) → Walks rows u from Start Part row it
  walks_start says made = record {
    same_rows = made.0;
    same_row = made.1;
    from_on = omega arith;
    gathered = gather_starts Start Part row it.from says (λ m v h p. omega (arith, parts.from_on m v p));
  }

  -- The part of the first number is joined beforehand, and the walk begins behind it.
  pub walks_behind :
      {only : List ℕ} → RowSays only 0 Start → RowSays row 0 (λ v. InRow only 0 v ⊎ Part from v)
      → (it.rows.now ≡ rows) × (it.u ≡ u) × (it.from ≡ from + 1) → Walks rows u from Start Part row it
  walks_behind {only} says joins made =
      let start : GatheredTo only Start Part from = gather_starts Start Part only from says (λ m v h p. omega (arith, parts.from_on m v p)) in
      record {
        same_rows = made.0;
        same_row = made.1;
        from_on = omega (arith, made.2);
        gathered = rw made.2 (gather_one Start Part only row from start joins);
      }

  module _ (walks : Walks rows u from Start Part row it) where
    next_is : (v : ℕ) → NextMember it.rows.now it.u it.from v → NextMember rows u it.from v
    next_is v next = rw (walks.same_rows, walks.same_row) at next

    -- The member that is given.
    pub walks_member : (v : ℕ) (on : RowMembers) → Turn it (Some v) on → InRow rows u v × (from ≤ v)
    walks_member v on turn =
        let next = next_is v turn.2.next in
        (next.member turn.2.small, omega (arith, walks.from_on, next.from_on))

    pub walks_turn :
        (v : ℕ) (on : RowMembers) → Turn it (Some v) on → (row' : List ℕ) → RowSays row' 0 (λ w. InRow row 0 w ⊎ Part v w)
        → Walks rows u from Start Part row' on
    walks_turn v on turn row' joins =
        let next = next_is v turn.2.next in
        let passed : GatheredTo row Start Part v =
        gather_skip Start Part row it.from v walks.gathered next.from_on (λ m w h l p. next.least m h l (parts.member m w p)) in
        record {
          same_rows = turn.0 ∙ walks.same_rows;
          same_row = turn.1 ∙ walks.same_row;
          from_on = omega (arith, walks.from_on, next.from_on, turn.2.behind);
          gathered = rw turn.2.behind (gather_one Start Part row row' v passed joins);
        }

    pub walks_end : (on : RowMembers) → Turn it None on → RowSays row 0 (Gathered Start Part)
    walks_end on turn =
        let next = next_is row_bits turn.2 in
        let passed : GatheredTo row Start Part row_bits =
        gather_skip Start Part row it.from row_bits walks.gathered next.from_on (λ m w h l p. next.least m h l (parts.member m w p)) in
        gather_ends Start Part row row_bits (λ m v p. (parts.member m v p).small) passed
