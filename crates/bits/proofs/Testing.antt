-- A walk over the members of a row, from some number on: each is lowered, and put in where a test says yes.
use Prim.Native.Nat.{ℕ, ◌+◌, ◌-◌, ◌≤◌, ◌<◌}
use native.Mathlib.Omega.{arith}
use mathlib.Core.Path.{◌≡◌, refl, ◌∙◌}
use mathlib.Core.Logic.{◌↔◌, ◌⊎◌, inl, inr, ⊎_elim}
use mathlib.Core.Bool.{Bool, true, false, false≢true}
use mathlib.Core.List.{List}
use lib.ListN.{length}
use Rattle.std.proofs.Common.{Some, None}
use Rattle.bits.specs.declared.rows.RowMembers.{RowMembers}
use Rattle.bits.proofs.MemberWalks.{Turn}
use Rattle.figures.specs.Limits.{row_bits, row_words}
use Rattle.bits.specs.Rows.{InRow, RowSays, NextMember}
use Rattle.bits.specs.Tested.{Passing, Tested}
use Rattle.bits.proofs.Cases.{less_or_not}

-- What is known of the walk `it` over row u, and of the words: the members before the walk are tested.
pub record Testing (rows : List ℕ) (u from down : ℕ) (Says : ℕ → Bool → Type 0) (words : List ℕ) (it : RowMembers) : Type 0 where
  pub same_rows : it.rows.now ≡ rows
  pub same_row : it.u ≡ u
  pub from_on : from ≤ it.from
  pub whole : length words ≡ row_words
  pub only : (v : ℕ) → InRow words 0 v → Passing rows u from down Says v
  pub others : (v : ℕ) → from ≤ v + down → v + down < it.from → InRow rows u (v + down) → InRow words 0 v ⊎ Says v false

module _ {rows : List ℕ} {u from down : ℕ} {Says : ℕ → Bool → Type 0} {words : List ℕ} (it : RowMembers) where
  pub testing_starts :
      RowSays words 0 (λ v. ⊥) → length words ≡ row_words → (it.rows.now ≡ rows) × (it.u ≡ u) × (it.from ≡ from)
      → Testing rows u from down Says words it
  testing_starts none whole made = record {
    same_rows = made.0;
    same_row = made.1;
    from_on = omega arith;
    whole = whole;
    only = λ v h. absurd ((none v).0 h);
    others = λ v on less h. absurd (omega arith);
  }

  module _ (t : Testing rows u from down Says words it) where
    next_is : (m : ℕ) → NextMember it.rows.now it.u it.from m → NextMember rows u it.from m
    next_is m next = rw (t.same_rows, t.same_row) at next

    -- The members before the next one are those before the walk.
    before :
        (m v : ℕ) → NextMember rows u it.from m → from ≤ v + down → v + down < m → InRow rows u (v + down) → InRow words 0 v ⊎ Says v false
    before m v next on less h = at (less_or_not (v + down) it.from)
      where
        at : (v + down < it.from) ⊎ (it.from ≤ v + down) → InRow words 0 v ⊎ Says v false
        at (inl l) = t.others v on l h
        at (inr l) = absurd (next.least (v + down) l less h)

    pub testing_ends : (on : RowMembers) → Turn it None on → Tested rows u from down Says words
    testing_ends on turn =
        record { only = t.only; others = λ v f h. before row_bits v (next_is row_bits turn.2) f h.small h }

    -- The member that is given.
    pub testing_member : (m : ℕ) (on : RowMembers) → Turn it (Some m) on → InRow rows u m × (from ≤ m)
    testing_member m on turn =
        let next = next_is m turn.2.next in
        (next.member turn.2.small, omega (arith, t.from_on, next.from_on))

    -- It is tested.
    module _ (lowers : down ≤ from) (m : ℕ) (on : RowMembers) (turn : Turn it (Some m) on) where
      turns :
          (words' : List ℕ) → length words' ≡ length words → ((v : ℕ) → InRow words' 0 v → InRow words 0 v ⊎ Passing rows u from down Says v)
          → ((v : ℕ) → InRow words 0 v → InRow words' 0 v) → InRow words' 0 (m - down) ⊎ Says (m - down) false
          → Testing rows u from down Says words' on
      turns words' same only kept told = record {
        same_rows = turn.0 ∙ t.same_rows;
        same_row = turn.1 ∙ t.same_row;
        from_on = omega (arith, (testing_member m on turn).1, turn.2.behind);
        whole = same ∙ t.whole;
        only = λ v h. ⊎_elim (t.only v) (λ p. p) (only v h);
        others = λ v f less h. at v f h (less_or_not (v + down) m) less;
      }
        where
          at :
              (v : ℕ) → from ≤ v + down → InRow rows u (v + down) → (v + down < m) ⊎ (m ≤ v + down) → v + down < on.from
              → InRow words' 0 v ⊎ Says v false
          at v f h (inl l) less = ⊎_elim (λ k. inl (kept v k)) inr (before m v (next_is m turn.2.next) f l h)
          at v f h (inr l) less = let e : v ≡ m - down = omega (arith, turn.2.behind) in rw e told

      pub testing_puts :
          (words' : List ℕ) → Says (m - down) true → length words' ≡ length words → RowSays words' 0 (λ k. InRow words 0 k ⊎ (k ≡ m - down))
          → Testing rows u from down Says words' on
      testing_puts words' said same put =
          let here = testing_member m on turn in
          let up : m - down + down ≡ m = omega (arith, here.1) in
          let passing : Passing rows u from down Says (m - down) = record { from_on = omega (arith, here.1); member = rw up here.0; yes = said } in
          turns words' same (λ v h. ⊎_elim inl (λ e. inr (rw e passing)) ((put v).0 h)) (λ v h. (put v).1 (inl h)) (inl ((put (m - down)).1 (inr refl)))

      pub testing_passes : Says (m - down) false → Testing rows u from down Says words on
      testing_passes said = turns words refl (λ v h. inl h) (λ v h. h) (inr said)

-- The answer r of a test tells whether P holds: by a call that says so of the same answer.
pub data Tells (P : Type 0) (r : Bool) : Type 0 where
  tells : (r ≡ true) ↔ P → Tells P r

pub told_by : {P : Type 0} {z r : Bool} → (z ≡ true) ↔ P → r ≡ z → Tells P r
told_by {P} said same = tells (rw same said)

pub told_yes : {P : Type 0} → Tells P true → P
told_yes (tells said) = said.0 refl

pub told_no : {P : Type 0} → Tells P false → P → ⊥
told_no (tells said) p = false≢true (said.1 p)

-- Where the test tells of a property, the row has the members that have it.
pub tested_says :
    {rows words : List ℕ} {u from down : ℕ} {Says : ℕ → Bool → Type 0} (Has Q : ℕ → Type 0) → Tested rows u from down Says words
    → ((v : ℕ) (r : Bool) → Says v r → Tells (Has v) r) → ((v : ℕ) → ((from ≤ v + down) × InRow rows u (v + down) × Has v) ↔ Q v) → RowSays words 0 Q
tested_says Has Q tested tell same v = (
  λ h. let p = tested.only v h in (same v).0 (p.from_on, p.member, told_yes (tell v true p.yes)),
  λ q. let p = (same v).1 q in ⊎_elim (λ h. h) (λ said. absurd (told_no (tell v false said) p.2)) (tested.others v p.0 p.1),
)
