-- What the rows say of a link is what the greedy argument asks: the nearest that the code finds is the nearest candidate.
use Prim.Native.Nat.{ℕ, suc, ◌+◌, ◌-◌, ◌≤◌, ◌<◌}
use native.Mathlib.Omega.{arith}
use mathlib.Core.Path.{◌≡◌}
use mathlib.Core.Logic.{◌↔◌, ⊎_elim}
use mathlib.Core.List.{List}
use lib.ListN.{length}
use lib.Seq.{slice}
use Rattle.pregroup.specs.Types.{Basic, PregroupType, plain}
use Rattle.pregroup.specs.Order.{Relation}
use Rattle.pregroup.specs.Vanish.{Vanish}
use Rattle.linking.specs.Linking.{simple_at, stretch}
use Rattle.linking.proofs.Linked.{Linked, nothing, linked, linked_stretch}
use Rattle.linking.specs.Greedy.{Candidate, Stay, VanishBehind, ReducesFrom, Nearest}
use Rattle.linking.proofs.Greedy.{candidate_of_link}
use Rattle.figures.specs.Limits.{row_bits}
use Rattle.bits.specs.Rows.{InRow}
use Rattle.table.specs.Table.{held_at, string_of, ContractsAt, Right}
use Rattle.answer.specs.Links.{MayLink, NearestLink, ReducingRow}
use Rattle.bits.proofs.Cases.{less_or_not}
use Rattle.table.proofs.Stretches.{length_string, string_at}

-- A stretch by positions is a stretch by indices.
pub stretch_slice : (X : PregroupType) (i k : ℕ) → stretch X (suc i) (suc k) ≡ slice i k X
stretch_slice X i k =
    let a : suc i - 1 ≡ i = omega arith in
    let b : suc k - 1 ≡ k = omega arith in
    rw (a, b)

-- The simple type at a position.
pub simple_at_index : (string : List ℕ) (n i : ℕ) → i < n → simple_at (string_of string n) (suc i) ≡ held_at string i
simple_at_index string n i h =
    let a : suc i - 1 ≡ i = omega arith in
    rw a (string_at string i n (plain 0) h)

-- What row k says of the stretch up to k.
pub stretch_iff :
    {Le : Relation} (X : PregroupType) (table : List ℕ) (b i k : ℕ) → Right Le X table b → i ≤ k → k ≤ b
    → InRow table k i ↔ Vanish Le (stretch X (suc i) (suc k))
stretch_iff X table b i k right h g =
    rw (stretch_slice X i k) (λ m. ((right k g i).0 m).vanishes, λ v. (right k g i).1 (record { ordered = h; vanishes = v }))

-- The link that is chosen: the nearest candidate.
pub record Chosen (Le : Relation) (X : PregroupType) (Rest : ℕ → Type 0) (b i r : ℕ) : Type 0 where
  pub ahead : i < r
  pub inside : r < b
  pub candidate : Candidate Le X (suc i) (suc r) (Rest (suc r))
  pub nearest : Nearest Le X Rest (suc i) (suc r)

module _ {Le : Relation} (string table ends : List ℕ) (e i b n : ℕ) (fits : b ≤ n)
    (right : Right Le (string_of string n) table b) (Rest : ℕ → Type 0)
    (rest-iff : (k : ℕ) → i < k → k < b → InRow ends e (k + 1) ↔ Rest (suc k)) where
  candidate_of_may : (k : ℕ) → i < k → k < b → MayLink Le string table ends e i k → Candidate Le (string_of string n) (suc i) (suc k) (Rest (suc k))
  candidate_of_may k h g m =
      let one : i + 1 ≡ suc i = omega arith in
      record {
        contract = rw (simple_at_index string n i (omega arith), simple_at_index string n k (omega arith)) m.closing.fits;
        between = (stretch_iff (string_of string n) table b (suc i) k right h (omega arith)).0 (rw one at m.closing.behind);
        rest = (rest-iff k h g).0 m.rest;
      }

  may_of_candidate : (k : ℕ) → i < k → k < b → Candidate Le (string_of string n) (suc i) (suc k) (Rest (suc k)) → MayLink Le string table ends e i k
  may_of_candidate k h g c =
      let one : i + 1 ≡ suc i = omega arith in
      let contract : ContractsAt Le string k i =
      rw (simple_at_index string n i (omega arith), simple_at_index string n k (omega arith)) at c.contract in
      record {
        closing = record {
          fits = contract;
          behind = rw one ((stretch_iff (string_of string n) table b (suc i) k right h (omega arith)).1 c.between);
        };
        rest = (rest-iff k h g).1 c.rest;
      }

  -- Where there is a candidate, the nearest is found.
  pub chosen :
      (r : ℕ) → NearestLink Le string table ends e i r → b ≤ row_bits → (p : ℕ) → suc i < p → p ≤ b
      → Candidate Le (string_of string n) (suc i) p (Rest p) → Chosen Le (string_of string n) Rest b i r
  chosen r near small p h g c =
      let k = p - 1 in
      let e : p ≡ suc k = omega arith in
      let first : Candidate Le (string_of string n) (suc i) (suc k) (Rest (suc k)) = rw e at c in
      let may = may_of_candidate k (omega arith) (omega arith) first in
      let up_to : r ≤ k = ⊎_elim (λ (l : k < r). absurd (near.least k (omega arith) l may)) (λ l. l) (less_or_not k r) in
      let found = near.found (omega arith) in
      record {
        ahead = found.0;
        inside = omega arith;
        candidate = candidate_of_may r found.0 (omega arith) found.1;
        nearest = λ m l u d.
            let f : m ≡ suc (m - 1) = omega arith in
            let other : Candidate Le (string_of string n) (suc i) (suc (m - 1)) (Rest (suc (m - 1))) = rw f at d in
            near.least (m - 1) (omega arith) (omega arith) (may_of_candidate (m - 1) (omega arith) (omega arith) other);
      }

-- The first link of a stretch that is linked is a candidate.
first_candidate :
    {Le : Relation} {X : PregroupType} {P : List ℕ} (i j : ℕ) → i < j → j ≤ suc (length X) → 1 ≤ i → Linked Le X P i j
    → (p : ℕ) × (i < p) × (p < j) × Candidate Le X i p (VanishBehind Le X j p)
first_candidate i j h b o (nothing e) = absurd (omega arith)
first_candidate i j h b o (linked p l g u w) = (p, l.ahead, g, candidate_of_link l g u w o b)

-- Within a stretch that vanishes.
pub chosen_within :
    {Le : Relation} (string table : List ℕ) (i j n r : ℕ) → j ≤ n → j ≤ row_bits → Right Le (string_of string n) table j → i < j
    → InRow table j i → NearestLink Le string table table j i r
    → Chosen Le (string_of string n) (VanishBehind Le (string_of string n) (suc j)) j i r
chosen_within {Le} string table i j n r fits small right h row near =
    let X = string_of string n in
    let size = length_string string n in
    let vanishes = (stretch_iff X table j i j right (omega arith) (omega arith)).0 row in
    let some = first_candidate (suc i) (suc j) (omega arith) (omega arith) (omega arith)
    (linked_stretch X (suc i) (suc j) (omega arith) (omega arith) (omega arith) vanishes).1 in
    chosen string table table j i j n fits right (VanishBehind Le X (suc j))
    (λ k l g. let one : k + 1 ≡ suc k = omega arith in rw one (stretch_iff X table j (suc k) j right g (omega arith)))
    r near small some.0 some.1 (omega (arith, some.2)) some.3

-- Where the string from i on reduces, and i can't stay unlinked, there is a candidate.
candidate_from :
    {Le : Relation} {s : Basic} (X : PregroupType) (i : ℕ) → 1 ≤ i → (Stay Le s X i i → ⊥) → ReducesFrom Le s X i
    → (p : ℕ) × (i < p) × (p ≤ length X) × Candidate Le X i p (ReducesFrom Le s X (suc p))
candidate_from {Le} {s} X i one moves t =
    let u = t.0 in
    let stay = t.2 in
    let later : i < u =
    ⊎_elim (λ (h : i < u). h) (λ (h : u ≤ i). let e : u ≡ i = omega (arith, t.1) in absurd (moves (rw e at stay))) (less_or_not i u) in
    let some = first_candidate i u later (omega (arith, stay.fits)) one
    (linked_stretch X i u one (omega arith) (omega (arith, stay.fits)) stay.before).1 in
    let p = some.0 in
    let c = some.3 in
    let behind : Stay Le s X (suc p) u =
    record { fits = stay.fits; is_plain = stay.is_plain; below = stay.below; before = c.rest; behind = stay.behind } in (
      p,
      some.1,
      omega (arith, some.2, stay.fits),
      record { contract = c.contract; between = c.between; rest = (u, some.2, behind) },
    )

-- In a string that reduces to the target.
pub chosen_from :
    {Le : Relation} {s : Basic} (string table ends : List ℕ) (i m r : ℕ) → m ≤ row_bits → Right Le (string_of string m) table m
    → ReducingRow Le s (string_of string m) ends → InRow ends 0 i
    → (Stay Le s (string_of string m) (suc i) (suc i) → ⊥) → NearestLink Le string table ends 0 i r
    → Chosen Le (string_of string m) (λ p. ReducesFrom Le s (string_of string m) (suc p)) m i r
chosen_from {Le} {s} string table ends i m r small right reducing row moves near =
    let X = string_of string m in
    let size = length_string string m in
    let some = candidate_from X (suc i) (omega arith) moves ((reducing i).0 row) in
    chosen string table ends 0 i m m (omega arith) right (λ p. ReducesFrom Le s X (suc p))
    (λ k l g. let one : k + 1 ≡ suc k = omega arith in rw one (reducing (suc k)))
    r near small some.0 some.1 (omega (arith, some.2)) some.3
