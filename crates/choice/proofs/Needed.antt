-- What is needed after so many places of a string X, by the place from which what stands open vanishes: all vanishes, and the end is needed; or the
-- simple type before that place is linked. One simple type more is linked itself, or closes a place, and then what was needed there is needed.
use Prim.Native.Nat.{ℕ, suc, ◌≤◌, ◌<◌}
use native.Mathlib.Omega.{arith}
use mathlib.Core.Path.{◌≡◌, refl, sym, subst}
use mathlib.Core.Logic.{◌⊎◌, inl, inr}
use lib.ListN.{length, take}
use Rattle.bits.proofs.Cases.{less_or_not}
use Rattle.pregroup.specs.Types.{Simple, PregroupType}
use Rattle.pregroup.specs.Order.{Relation}
use Rattle.pregroup.specs.Vanish.{Contracts, Vanish}
use Rattle.graph.specs.Graph.{Graph, Labelled}
use Rattle.table.specs.Table.{at_place, Stretch, Closable}
use Rattle.table.proofs.Stretches.{slice_at, CutAt, cut_at, LastLink, closes as closes-last, last_link, last_closed}
use Rattle.choice.specs.Completion.{Finishes, Needed, settled, closes}

-- Where X is open before place j, z closes it: before place 0 nothing is open, and z is the end; else the simple type before j is linked to z.
pub data OpenAt (Le : Relation) (g : Graph) (end : ℕ) (X : PregroupType) : ℕ → ℕ → Type 0 where
  nothing : OpenAt Le g end X 0 end
  link :
      {i z k : ℕ} {x : Simple} → Labelled g z x k → Contracts Le (at_place X i) x → Finishes Le g (take i X) k end
      → OpenAt Le g end X (suc i) z

-- z is needed after n places: what stands from some place on vanishes, and z closes what is open before it.
pub data NeededAt (Le : Relation) (g : Graph) (end : ℕ) (X : PregroupType) (n z : ℕ) : Type 0 where
  needed_at : {j : ℕ} → Stretch Le X j n → OpenAt Le g end X j z → NeededAt Le g end X n z

module _ {Le : Relation} {g : Graph} {end : ℕ} (X : PregroupType) {n : ℕ} (b : n ≤ length X) where
  open_cut :
      {L R : PregroupType} {p x : Simple} {z k : ℕ} → CutAt X 0 n L p R → Vanish Le R → Labelled g z x k → Contracts Le p x → Finishes Le g L k end
      → NeededAt Le g end X n z
  open_cut t v l c f =
      needed_at (record { ordered = t.before; vanishes = rw t.right v }) (link {i = t.place} l (rw t.there c) (rw t.left f))

  place_of : {P : PregroupType} {z : ℕ} → Needed Le g end P z → take n X ≡ P → NeededAt Le g end X n z
  place_of (settled v) e = needed_at {j = 0} (record { ordered = omega arith; vanishes = rw e v }) nothing
  place_of (closes {L} {R} {p} v l c f) e = open_cut (cut_at X 0 n L p R b e) v l c f

  -- Of a node that is needed after n places, the place.
  pub needed_place : {z : ℕ} → Needed Le g end (take n X) z → NeededAt Le g end X n z
  needed_place h = place_of h refl

  at_place_lem : {j z : ℕ} → Stretch Le X j n → OpenAt Le g end X j z → Needed Le g end (take n X) z
  at_place_lem s nothing = settled s.vanishes
  at_place_lem {z} s (link {i} l c f) =
      subst (λ (P : PregroupType). Needed Le g end P z) (sym (slice_at X 0 i n (omega arith) s.ordered b)) (closes {L = take i X} s.vanishes l c f)

  pub needed_of : {z : ℕ} → NeededAt Le g end X n z → Needed Le g end (take n X) z
  needed_of (needed_at s o) = at_place_lem s o

-- One simple type more, at place n: it is linked, or closes a place.
pub data Step (Le : Relation) (g : Graph) (end : ℕ) (X : PregroupType) (n z : ℕ) : Type 0 where
  linked : OpenAt Le g end X (suc n) z → Step Le g end X n z
  closed : (i : ℕ) → Closable Le X n i → NeededAt Le g end X i z → Step Le g end X n z

module _ {Le : Relation} {g : Graph} {end : ℕ} (X : PregroupType) (n : ℕ) {z : ℕ} (b : n < length X) where
  -- What was needed before a place that is closed is needed behind.
  pub needed_closed : (i : ℕ) → Closable Le X n i → NeededAt Le g end X i z → NeededAt Le g end X (suc n) z
  needed_closed i c (needed_at {j} s o) =
      needed_at {j = j} (record { ordered = omega (arith, s.ordered, c.before); vanishes = last_closed X j n b (closes-last i c s) }) o

  by_last : {j : ℕ} → LastLink Le X j n → OpenAt Le g end X j z → Step Le g end X n z
  by_last (closes-last i c s) o = closed i c (needed_at s o)

  step_at : (j : ℕ) → Stretch Le X j (suc n) → OpenAt Le g end X j z → (j < suc n) ⊎ (suc n ≤ j) → Step Le g end X n z
  step_at j s o (inl h) = by_last (last_link X j n (omega arith) b s.vanishes) o
  step_at j s o (inr h) = let e : j ≡ suc n = omega (arith, s.ordered) in linked (rw e at o)

  pub step_of : NeededAt Le g end X (suc n) z → Step Le g end X n z
  step_of (needed_at {j} s o) = step_at j s o (less_or_not j (suc n))
