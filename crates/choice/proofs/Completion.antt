-- The completion of a fixed prefix: by the innermost link that crosses to what follows; through the entry of a slot; and by choices, of which
-- the first is found slot by slot.
use Prim.Native.Nat.{ℕ}
use native.Mathlib.Omega.{arith}
use mathlib.Core.Path.{◌≡◌, sym, ◌∙◌, subst}
use mathlib.Core.Logic.{◌↔◌}
use mathlib.Core.List.{[], ◌∷◌, ◌++◌, append_assoc}
use Rattle.pregroup.specs.Types.{Simple, PregroupType}
use Rattle.pregroup.specs.Order.{Relation}
use Rattle.pregroup.specs.Vanish.{Contracts, Vanish, empty}
use Rattle.pregroup.proofs.Machine.{vanish_append}
use Rattle.pregroup.proofs.VanishLaws.{Border, apart, crossed, vanish_iff_border}
use Rattle.graph.specs.Graph.{Graph, by, Path, here, take, enter, VanishTo, along, Boundary, Spells, ended, more}
use Rattle.choice.specs.Completion.{Finishes, finishes, Needed, settled, closes, Completion, completion}
use Rattle.chart.proofs.Recurrence.{path_append, Begins, begins, Parted, part, path_begins, path_part}

-- By the innermost link that crosses.
module _ {Le : Relation} {g : Graph} where
  -- Past boundaries, what vanishes leads on.
  vanish_on : {u m w : ℕ} → VanishTo Le g u m → Path g m [] w → VanishTo Le g u w
  vanish_on (along p v) q = along (path_append p q) (vanish_append v empty)

  closes_at :
      (L : PregroupType) {R W : PregroupType} {p z : Simple} {y m end : ℕ} → Vanish Le R → VanishTo Le g y m → Contracts Le p z → Vanish Le (L ++ W)
      → Begins g m z W end → Completion Le g (L ++ (p ∷ R)) y end
  closes_at L v u c w (begins s l q) = completion (vanish_on u s) (closes {L = L} v l c (finishes q w))

  closes_past :
      (L W : PregroupType) {R U : PregroupType} {p z : Simple} {y end : ℕ} → Vanish Le R → Vanish Le U → Contracts Le p z → Vanish Le (L ++ W)
      → Parted g y U (z ∷ W) end → Completion Le g (L ++ (p ∷ R)) y end
  closes_past L W v u c w (part p q) = closes_at L v (along p u) c w (path_begins q)

  completion_of_border : {P X : PregroupType} {y end : ℕ} → Border Le P X → Path g y X end → Completion Le g P y end
  completion_of_border (apart v x) p = completion (along p x) (settled v)
  completion_of_border (crossed L W {U} v u c w) p = closes_past L W v u c w (path_part U p)

  completion_of_finishes : {P : PregroupType} {y end : ℕ} → Finishes Le g P y end → Completion Le g P y end
  completion_of_finishes {P} (finishes {X} p v) = completion_of_border ((vanish_iff_border P X).0 v) p

  finishes_needed : {P : PregroupType} {y z end : ℕ} → VanishTo Le g y z → Needed Le g end P z → Finishes Le g P y end
  finishes_needed (along p x) (settled v) = finishes p (vanish_append v x)
  finishes_needed (along {X = U} q u) (closes {L} {R} {p} {x} v l c (finishes {X = W} r w)) =
      finishes (path_append q (take l r)) ((vanish_iff_border (L ++ (p ∷ R)) (U ++ (x ∷ W))).1 (crossed L W v u c w))

  finishes_of_completion : {P : PregroupType} {y end : ℕ} → Completion Le g P y end → Finishes Le g P y end
  finishes_of_completion (completion t n) = finishes_needed t n

  -- A prefix is finished exactly by its completion.
  pub finishes_iff_completion : {P : PregroupType} {y end : ℕ} → Finishes Le g P y end ↔ Completion Le g P y end
  finishes_iff_completion = (completion_of_finishes, finishes_of_completion)

-- Through the entry of a slot.
module _ {g : Graph} where
  pub path_of_entry : {u v : ℕ} {T : PregroupType} → Spells g u T v → Path g u T v
  path_of_entry (ended b) = here
  path_of_entry (more l t) = take l (path_of_entry t)

-- A path from the first node of an entry spells the entry first, up to the boundary b, and goes on from there.
data Through (g : Graph) (T : PregroupType) (b : ℕ) : PregroupType → ℕ → Type 0 where
  through : {X : PregroupType} {end : ℕ} → Path g b X end → Through g T b (T ++ X) end

module _ {g : Graph} where
  through_more : {x y : Simple} {T X : PregroupType} {b end : ℕ} → x ≡ y → Through g T b X end → Through g (x ∷ T) b (y ∷ X) end
  through_more e (through p) = rw (← e) (through p)

  entry_through : {u b end : ℕ} {T X : PregroupType} → Boundary g end → Spells g u T b → Path g u X end → Through g T b X end
  entry_through last (ended b) p = through p
  entry_through last (more l t) here = absurd (omega (arith, l.simple))
  entry_through {end} last (more l t) (take {X} m p) =
      through_more (l.label ∙ sym m.label) (entry_through last t (subst (λ (n : ℕ). Path g n X end) (m.next ∙ sym l.next) p))
  entry_through last (more l t) (enter (by s e) p) = absurd (omega (arith, l.simple, e.boundary))

module _ {Le : Relation} {g : Graph} where
  finishes_through : (P : PregroupType) {T X : PregroupType} {b end : ℕ} → Vanish Le (P ++ X) → Through g T b X end → Finishes Le g (P ++ T) b end
  finishes_through P v (through p) = finishes p (rw append_assoc v)

  finishes_entered : {P : PregroupType} (T : PregroupType) {u b end : ℕ} → Spells g u T b → Finishes Le g (P ++ T) b end → Finishes Le g P u end
  finishes_entered T t (finishes p v) = finishes (path_append (path_of_entry t) p) (rw append_assoc at v)

  finishes_behind : {P T : PregroupType} {u b end : ℕ} → Boundary g end → Spells g u T b → Finishes Le g P u end → Finishes Le g (P ++ T) b end
  finishes_behind {P} last t (finishes p v) = finishes_through P v (entry_through last t p)

  -- P is finished from the first node of an entry exactly when P and the entry's type are finished from the boundary behind it.
  pub finishes_iff_behind :
      {P T : PregroupType} {u b end : ℕ} → Boundary g end → Spells g u T b → Finishes Le g P u end ↔ Finishes Le g (P ++ T) b end
  finishes_iff_behind {T} last t = (finishes_behind last t, finishes_entered T t)
