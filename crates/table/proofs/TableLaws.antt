-- The table of what vanishes, row by row: row 0 has the empty stretch, and the next row has the empty stretch and, for each place that the new
-- simple type may close, all that its row has.
use Prim.Native.Nat.{ℕ, suc, ◌+◌, ◌≤◌, ◌<◌}
use native.Mathlib.Omega.{arith}
use mathlib.Core.Path.{◌≡◌, sym, ap, ◌∙◌}
use mathlib.Core.Logic.Iff
use mathlib.Core.Logic.{◌↔◌, ⊎_elim}
use mathlib.Core.List.{List}
use lib.ListN.{length, take, drop}
use lib.Seq.{slice, slice_empty, take-take}
use Rattle.pregroup.specs.Types.{PregroupType, plain}
use Rattle.pregroup.specs.Order.{Relation}
use Rattle.pregroup.specs.Vanish.{Contracts, empty}
use Rattle.bits.specs.Rows.{InRow, RowSays, Stored}
use Rattle.bits.specs.Gathered.{Gathered, Only, RowPart, itself, within}
use Rattle.table.specs.Table.{at_place, string_of, ContractsAt, Stretch, Right, FitsBefore, Closable, Extended}
use Rattle.bits.proofs.Cases.{less_or_not}
use Rattle.table.proofs.Stretches.{length_string, take_string, string_at, LastLink, closes, last_link, last_closed}

-- The table speaks of the front of the string only.
pub right_agrees :
    {Le : Relation} {X Y : PregroupType} (table : List ℕ) (n : ℕ) → take n X ≡ take n Y → Right Le X table n → Right Le Y table n
right_agrees {Le} {X} {Y} table n e right k h v =
    let front : take k X ≡ take k Y = sym (take-take k n X h) ∙ ap (take k) e ∙ take-take k n Y h in
    let same : slice v k X ≡ slice v k Y = ap (drop v) front in (
      λ m. let s = (right k h v).0 m in record { ordered = s.ordered; vanishes = rw same at s.vanishes },
      λ s. (right k h v).1 (record { ordered = s.ordered; vanishes = rw same s.vanishes }),
    )

-- What a table says of a string, it says of each string that begins or goes on so.
pub right_of_string :
    {Le : Relation} (string table : List ℕ) (j m n : ℕ) → j ≤ m → j ≤ n → Right Le (string_of string m) table m
    → Right Le (string_of string n) table j
right_of_string string table j m n h g right =
    right_agrees table j (take_string string j m h ∙ sym (take_string string j n g)) (λ k b. right k (omega arith))

-- The empty stretch vanishes.
pub empty_stretch : (Le : Relation) (X : PregroupType) (k : ℕ) → Stretch Le X k k
empty_stretch Le X k = record { ordered = omega arith; vanishes = rw (slice_empty k X) empty }

pub right_begins : {Le : Relation} {X : PregroupType} (table : List ℕ) → RowSays table 0 (λ i. i ≡ 0) → Right Le X table 0
right_begins {Le} {X} table says k h v =
    let e : k ≡ 0 = omega arith in
    rw e (λ m. rw ((says v).0 m) (empty_stretch Le X 0), λ (s : Stretch Le X v 0). (says v).1 (omega (arith, s.ordered)))

-- What a new simple type at k adds: a row of the places that it may close, and the row behind it.
module _ {Le : Relation} (X : PregroupType) (table : List ℕ) (k : ℕ) (right : Right Le X table k) (b : k < length X) (closed : List ℕ)
    (closes-says : RowSays closed 0 (Closable Le X k)) where
  pub gathered_stretches :
      (own : List ℕ) → RowSays own 0 (Only (k + 1)) → (v : ℕ) → Gathered (InRow own 0) (RowPart closed table) v ↔ Stretch Le X v (suc k)
  gathered_stretches own alone v = (forth, back)
    where
      forth : Gathered (InRow own 0) (RowPart closed table) v → Stretch Le X v (suc k)
      forth (itself h) = let e : v ≡ suc k = omega (arith, (alone v).0 h) in rw e (empty_stretch Le X (suc k))
      forth (within i p) =
          let c = (closes-says i).0 p.chosen in
          let s = (right i (omega (arith, c.before)) v).0 p.there in
          record { ordered = omega (arith, c.before, s.ordered); vanishes = last_closed X v k b (closes i c s) }

      of_link : LastLink Le X v k → Gathered (InRow own 0) (RowPart closed table) v
      of_link (closes i c s) = within i (record { chosen = (closes-says i).1 c; there = (right i (omega (arith, c.before)) v).1 s })

      back : Stretch Le X v (suc k) → Gathered (InRow own 0) (RowPart closed table) v
      back s =
          ⊎_elim (λ (h : v < suc k). of_link (last_link X v k (omega arith) b s.vanishes))
          (λ (h : suc k ≤ v). itself ((alone v).1 (omega (arith, s.ordered)))) (less_or_not v (suc k))

  -- One row more.
  pub right_extends :
      (own table' words : List ℕ) → RowSays own 0 (Only (k + 1)) → Stored table table' words (k + 1)
      → RowSays words 0 (Gathered (InRow own 0) (RowPart closed table)) → Right Le X table' (k + 1)
  right_extends own table' words alone stored says j h v =
      let one : k + 1 ≡ suc k = omega arith in
      ⊎_elim (λ (g : j < k + 1). Iff.trans (stored.others j (λ e. omega arith) v) (right j (omega arith) v))
      (λ (g : k + 1 ≤ j). let e : j ≡ k + 1 = omega arith in
      rw e (Iff.trans (Iff.trans (stored.stored v) (says v)) (rw one (gathered_stretches own alone v))))
      (less_or_not j (k + 1))

-- The string that the numbers hold, with one simple type more.
module _ {Le : Relation} (string table : List ℕ) (k : ℕ) (right : Right Le (string_of string k) table k) where
  abbrev X : PregroupType
  X = string_of string (k + 1)

  right_so_far : Right Le X table k
  right_so_far = right_of_string string table k k (k + 1) (omega arith) (omega arith) right

  contracts_in_string : (i : ℕ) → i < k → ContractsAt Le string k i ↔ Contracts Le (at_place X i) (at_place X k)
  contracts_in_string i h =
      rw (string_at string i (k + 1) (plain 0) (omega arith), string_at string k (k + 1) (plain 0) (omega arith)) (λ c. c, λ c. c)

  -- What fits before k by the table is what the simple type at k may close.
  closable_iff : (i : ℕ) → FitsBefore (ContractsAt Le string k) table k i ↔ Closable Le X k i
  closable_iff i =
      let one : i + 1 ≡ suc i = omega arith in (
        λ f.
            let s = (right_so_far k (omega arith) (i + 1)).0 f.behind in
            let h : i < k = omega (arith, s.ordered) in
            record { before = h; contracts = (contracts_in_string i h).0 f.fits; between = rw one at s.vanishes },
        λ c. record {
          fits = (contracts_in_string i c.before).1 c.contracts;
          behind = (right_so_far k (omega arith) (i + 1)).1 (record { ordered = omega (arith, c.before); vanishes = rw one c.between });
        },
      )

  pub string_extends :
      (own closed table' words : List ℕ) → RowSays closed 0 (FitsBefore (ContractsAt Le string k) table k) → RowSays own 0 (Only (k + 1))
      → RowSays words 0 (Gathered (InRow own 0) (RowPart closed table)) → Stored table table' words (k + 1)
      → Extended Le X table' closed k
  string_extends own closed table' words fit alone says stored =
      let closes-says : RowSays closed 0 (Closable Le X k) = λ i. Iff.trans (fit i) (closable_iff i) in
      record {
        right = right_extends X table k right_so_far (omega (arith, length_string string (k + 1))) closed closes-says own table' words alone stored says;
        closes = closes-says;
      }
