-- A machine that reads a string from the left with a stack of open simple types: each simple type it meets closes the top one, where the
-- two could contract, or is put on the stack. A string vanishes exactly when some run over it starts and ends with an empty stack. Runs are
-- joined and cut at any place without a word about lists, so the laws of what vanishes are proved on them.
use mathlib.Core.Logic.{◌↔◌}
use mathlib.Core.List.{[], ◌∷◌, ◌++◌, append_assoc}
use Rattle.pregroup.specs.Types.{Simple, PregroupType}
use Rattle.pregroup.specs.Order.{Relation}
use Rattle.pregroup.specs.Vanish.{Contracts, Vanish, empty, link}

-- Run Le S X T: over the string X the stack S, its top first, can become T.
pub data Run (Le : Relation) : PregroupType → PregroupType → PregroupType → Type 0 where
  stop : {S : PregroupType} → Run Le S [] S
  put : {x : Simple} {S X T : PregroupType} → Run Le (x ∷ S) X T → Run Le S (x ∷ X) T
  close : {s x : Simple} {S X T : PregroupType} → Contracts Le s x → Run Le S X T → Run Le (s ∷ S) (x ∷ X) T

module _ {Le : Relation} where
  pub run_append : {S X T Y U : PregroupType} → Run Le S X T → Run Le T Y U → Run Le S (X ++ Y) U
  run_append stop k = k
  run_append (put r) k = put (run_append r k)
  run_append (close c r) k = close c (run_append r k)

  pub run_cut : {S : PregroupType} (X : PregroupType) {Y U : PregroupType} → Run Le S (X ++ Y) U → (T : PregroupType) × Run Le S X T × Run Le T Y U
  run_cut {S} [] r = (S, stop, r)
  run_cut (x ∷ X) (put r) = let h = run_cut X r in (h.0, put h.1, h.2)
  run_cut (x ∷ X) (close c r) = let h = run_cut X r in (h.0, close c h.1, h.2)

  pub run_of_vanish : {X : PregroupType} → Vanish Le X → (S : PregroupType) → Run Le S X S
  run_of_vanish empty S = stop
  run_of_vanish (link {x} c u w) S = put (run_append (run_of_vanish u (x ∷ S)) (close c (run_of_vanish w S)))

-- Two strings that vanish, joined, vanish.
pub vanish_append : {Le : Relation} {A B : PregroupType} → Vanish Le A → Vanish Le B → Vanish Le (A ++ B)
vanish_append empty b = b
vanish_append (link c u w) b = rw append_assoc (link c u (vanish_append w b))

-- Closed Le S X: the string X closes all of the stack S, and everything else in it vanishes.
pub data Closed (Le : Relation) : PregroupType → PregroupType → Type 0 where
  none : {X : PregroupType} → Vanish Le X → Closed Le [] X
  top : {s y : Simple} {S U W : PregroupType} → Vanish Le U → Contracts Le s y → Closed Le S W → Closed Le (s ∷ S) (U ++ (y ∷ W))

module _ {Le : Relation} where
  closed_append : {S A W : PregroupType} → Vanish Le A → Closed Le S W → Closed Le S (A ++ W)
  closed_append v (none w) = none (vanish_append v w)
  closed_append v (top u c w) = rw (← append_assoc) (top (vanish_append v u) c w)

  closed_put : {x : Simple} {S X : PregroupType} → Closed Le (x ∷ S) X → Closed Le S (x ∷ X)
  closed_put (top u c w) = rw append_assoc at (closed_append (link c u empty) w)

  pub closed_of_run : {S X : PregroupType} → Run Le S X [] → Closed Le S X
  closed_of_run stop = none empty
  closed_of_run (put r) = closed_put (closed_of_run r)
  closed_of_run (close c r) = top empty c (closed_of_run r)

  pub run_of_closed : {S X : PregroupType} → Closed Le S X → Run Le S X []
  run_of_closed (none v) = run_of_vanish v []
  run_of_closed (top {s} {S} u c w) = run_append (run_of_vanish u (s ∷ S)) (close c (run_of_closed w))

  vanish_of_closed : {X : PregroupType} → Closed Le [] X → Vanish Le X
  vanish_of_closed (none v) = v

  pub vanish_of_run : {X : PregroupType} → Run Le [] X [] → Vanish Le X
  vanish_of_run r = vanish_of_closed (closed_of_run r)

pub vanish_iff_run : {Le : Relation} {X : PregroupType} → Vanish Le X ↔ Run Le [] X []
vanish_iff_run = (λ v. run_of_vanish v [], vanish_of_run)
