-- The laws of what vanishes: closed under joining (`vanish_append`, in Machine) and insertion; carried down the order (transport along
-- order steps); what an expansion made can be left out (expansion elimination, the heart of the switching lemma); the right
-- decomposition; and the cut at any place by the innermost link that crosses it. Each is shown on the machine's runs.
use mathlib.Core.Logic.{◌↔◌}
use mathlib.Core.List.{[], ◌∷◌, ◌++◌}
use Rattle.pregroup.specs.Types.{Basic, Simple, PregroupType}
use Rattle.pregroup.specs.Order.{Relation, IsOrder}
use Rattle.pregroup.specs.Vanish.{Contracts, Vanish}
use Rattle.pregroup.proofs.Preorder.{Below, Expands, contracts_lower_first, contracts_lower_last, closed_first, closed_last, expands_apart}
use Rattle.pregroup.proofs.Machine.{Run, stop, put, close, run_append, run_cut, run_of_vanish, vanish_of_run, vanish_append, Closed, top, closed_of_run, run_of_closed}

-- What vanishes may be inserted anywhere into what vanishes.
pub vanish_insert : {Le : Relation} (A : PregroupType) {M : PregroupType} (B : PregroupType) → Vanish Le M → Vanish Le (A ++ B) → Vanish Le (A ++ (M ++ B))
vanish_insert A B m v =
    let h = run_cut A (run_of_vanish v []) in
    vanish_of_run (run_append h.1 (run_append (run_of_vanish m h.0) h.2))

-- Lower Le S T: the stack S is T with one simple type lowered by the order.
data Lower (Le : Relation) : PregroupType → PregroupType → Type 0 where
  here : {x y : Simple} {S : PregroupType} → Below Le x y → Lower Le (x ∷ S) (y ∷ S)
  there : {x : Simple} {S T : PregroupType} → Lower Le S T → Lower Le (x ∷ S) (x ∷ T)

-- Without x y S T: the stack T is S with x and, right beneath it, y taken out.
data Without (x y : Simple) : PregroupType → PregroupType → Type 0 where
  at_top : {S : PregroupType} → Without x y (x ∷ y ∷ S) S
  below : {z : Simple} {S T : PregroupType} → Without x y S T → Without x y (z ∷ S) (z ∷ T)

-- A run that left x open right above y, where x could close y: it can link them instead, unless both were open before.
data Relinked (Le : Relation) (x y : Simple) (S X T : PregroupType) : Type 0 where
  linked : Run Le S X T → Relinked Le x y S X T
  before : {S' : PregroupType} → Without x y S S' → Run Le S' X T → Relinked Le x y S X T

relinked_put : {Le : Relation} {x y z : Simple} {S X T : PregroupType} → Contracts Le y x → Relinked Le x y (z ∷ S) X T → Relinked Le x y S (z ∷ X) T
relinked_put c (linked r) = linked (put r)
relinked_put c (before at_top r) = linked (close c r)
relinked_put c (before (below w) r) = before w (put r)

relinked_close : {Le : Relation} {x y s z : Simple} {S X T : PregroupType} → Contracts Le s z → Relinked Le x y S X T → Relinked Le x y (s ∷ S) (z ∷ X) T
relinked_close k (linked r) = linked (close k r)
relinked_close k (before w r) = before (below w) (close k r)

relink : {Le : Relation} {x y : Simple} {S X T T' : PregroupType} → Contracts Le y x → Run Le S X T → Without x y T T' → Relinked Le x y S X T'
relink c stop w = before w stop
relink c (put r) w = relinked_put c (relink c r w)
relink c (close k r) w = relinked_close k (relink c r w)

-- From an empty stack nothing was open before.
relinked_run : {Le : Relation} {x y : Simple} {X T : PregroupType} → Relinked Le x y [] X T → Run Le [] X T
relinked_run (linked r) = r
relinked_run (before w r) = elim w [ ]

module _ {Declared : Basic → Type 0} {Le : Relation} (order : IsOrder Declared Le) where
  -- A stack that a string closes may be lowered.
  run_lower : {S T X : PregroupType} → Run Le T X [] → Lower Le S T → Run Le S X []
  run_lower stop l = elim l [ ]
  run_lower (put r) l = put (run_lower r (there l))
  run_lower (close c r) (here b) = close (contracts_lower_first order b c) r
  run_lower (close c r) (there l) = close c (run_lower r l)

  -- Two open simple types that an expansion made can be left out: what closes the upper one is put in place of the lower one.
  run_without : {x y : Simple} {S T X : PregroupType} → Expands Le x y → Run Le S X [] → Without y x S T → Run Le T X []
  run_without e stop w = elim w [ ]
  run_without e (put r) w = put (run_without e r (below w))
  run_without e (close c r) at_top = put (run_lower r (here (closed_last order e c)))
  run_without e (close c r) (below w) = close c (run_without e r w)

  -- Transport along an order step: a simple type of what vanishes may be lowered.
  pub vanish_lower : (A : PregroupType) {x y : Simple} (B : PregroupType) → Below Le x y → Vanish Le (A ++ (y ∷ B)) → Vanish Le (A ++ (x ∷ B))
  vanish_lower A {x} {y} B b v =
      let h = run_cut A (run_of_vanish v []) in
      vanish_of_run (run_append h.1 (lowered h.2))
    where
      lowered : {S : PregroupType} → Run Le S (y ∷ B) [] → Run Le S (x ∷ B) []
      lowered (put r) = put (run_lower r (here b))
      lowered (close c r) = close (contracts_lower_last order b c) r

  -- Expansion elimination: what an expansion made can be left out of what vanishes.
  pub vanish_unexpand : (A : PregroupType) {x y : Simple} (B : PregroupType) → Expands Le x y → Vanish Le (A ++ (x ∷ y ∷ B)) → Vanish Le (A ++ B)
  vanish_unexpand A {x} {y} B e v =
      let h = run_cut A (run_of_vanish v []) in
      vanish_of_run (left h.1 h.2)
    where
      left : {S : PregroupType} → Run Le [] A S → Run Le S (x ∷ y ∷ B) [] → Run Le [] (A ++ B) []
      left r (put (put k)) = run_append r (run_without e k at_top)
      left r (put (close c k)) = absurd (expands_apart e c)
      left r (close c (put k)) = run_append r (run_lower k (here (closed_first order e c)))
      left r (close c (close d k)) = run_append (relinked_run (relink (contracts_lower_last order (closed_first order e c) d) r at_top)) k

-- Upon c B S T: the stack S is T upon c, and c upon B.
data Upon (c : Simple) (B : PregroupType) : PregroupType → PregroupType → Type 0 where
  alone : Upon c B (c ∷ B) []
  under : {x : Simple} {S T : PregroupType} → Upon c B S T → Upon c B (x ∷ S) (x ∷ T)

-- A run over X from the stack S that leaves c open upon B: X is L c R, where L leaves B and R vanishes, or c was open before.
data Around (Le : Relation) (c : Simple) (B : PregroupType) : PregroupType → PregroupType → Type 0 where
  around : {S L R : PregroupType} → Run Le S L B → Vanish Le R → Around Le c B S (L ++ (c ∷ R))
  before : {S T X : PregroupType} → Upon c B S T → Run Le T X [] → Around Le c B S X

around_put : {Le : Relation} {c x : Simple} {B S X : PregroupType} → Around Le c B (x ∷ S) X → Around Le c B S (x ∷ X)
around_put (around r v) = around (put r) v
around_put (before alone r) = around stop (vanish_of_run r)
around_put (before (under u) r) = before u (put r)

around_close : {Le : Relation} {c s x : Simple} {B S X : PregroupType} → Contracts Le s x → Around Le c B S X → Around Le c B (s ∷ S) (x ∷ X)
around_close k (around r v) = around (close k r) v
around_close k (before u r) = before (under u) (close k r)

run_around : {Le : Relation} {c : Simple} {B S X : PregroupType} → Run Le S X (c ∷ B) → Around Le c B S X
run_around stop = before alone stop
run_around (put r) = around_put (run_around r)
run_around (close k r) = around_close k (run_around r)

-- Opened Le c B X: X is L c R, where a run over L leaves B open and R vanishes.
data Opened (Le : Relation) (c : Simple) (B : PregroupType) : PregroupType → Type 0 where
  opens : {L R : PregroupType} → Run Le [] L B → Vanish Le R → Opened Le c B (L ++ (c ∷ R))

opened : {Le : Relation} {c : Simple} {B X : PregroupType} → Around Le c B [] X → Opened Le c B X
opened (around r v) = opens r v
opened (before u r) = elim u [ ]

-- Decomposed Le a X: X is L c R, where c could contract with a, and L and R vanish.
pub data Decomposed (Le : Relation) (a : Simple) : PregroupType → Type 0 where
  at : {L R : PregroupType} {c : Simple} → Vanish Le L → Contracts Le c a → Vanish Le R → Decomposed Le a (L ++ (c ∷ R))

decomposed : {Le : Relation} {a c : Simple} {X : PregroupType} → Contracts Le c a → Opened Le c [] X → Decomposed Le a X
decomposed k (opens r v) = at (vanish_of_run r) k v

closed_by : {Le : Relation} {a : Simple} {S X : PregroupType} → Run Le [] X S → Run Le S (a ∷ []) [] → Decomposed Le a X
closed_by r (put k) = elim k [ ]
closed_by r (close k stop) = decomposed k (opened (run_around r))

-- Right decomposition: if X a vanishes, a closes some c of X, and what stands before and behind c vanishes.
pub vanish_last : {Le : Relation} {a : Simple} (X : PregroupType) → Vanish Le (X ++ (a ∷ [])) → Decomposed Le a X
vanish_last X v = let h = run_cut X (run_of_vanish v []) in closed_by h.1 h.2

-- Border Le P X: no link crosses from P to X, and both vanish; or P is L p R and X is U z W, where the innermost link that crosses is from p
-- to z, and L W vanishes.
pub data Border (Le : Relation) : PregroupType → PregroupType → Type 0 where
  apart : {P X : PregroupType} → Vanish Le P → Vanish Le X → Border Le P X
  crossed :
      (L W : PregroupType) {R U : PregroupType} {p z : Simple} → Vanish Le R → Vanish Le U → Contracts Le p z → Vanish Le (L ++ W)
      → Border Le (L ++ (p ∷ R)) (U ++ (z ∷ W))

module _ {Le : Relation} where
  crossing : {s : Simple} {S P X : PregroupType} → Opened Le s S P → Closed Le (s ∷ S) X → Border Le P X
  crossing (opens {L} r v) (top {W} u c w) = crossed L W v u c (vanish_of_run (run_append r (run_of_closed w)))

  border_of_runs : {S P X : PregroupType} → Run Le [] P S → Run Le S X [] → Border Le P X
  border_of_runs {S = []} r k = apart (vanish_of_run r) (vanish_of_run k)
  border_of_runs {S = s ∷ S} r k = crossing (opened (run_around r)) (closed_of_run k)

  vanish_of_border : {P X : PregroupType} → Border Le P X → Vanish Le (P ++ X)
  vanish_of_border (apart p x) = vanish_append p x
  vanish_of_border (crossed L W {p} v u c w) =
      let h = run_cut L (run_of_vanish w []) in
      let stack = h.0 in
      vanish_of_run (run_append (run_append h.1 (put (run_of_vanish v (p ∷ stack)))) (run_append (run_of_vanish u (p ∷ stack)) (close c h.2)))

  -- What vanishes, cut anywhere, by the innermost link that crosses the cut.
  pub vanish_iff_border : (P X : PregroupType) → Vanish Le (P ++ X) ↔ Border Le P X
  vanish_iff_border P X = (λ v. let h = run_cut P (run_of_vanish v []) in border_of_runs h.1 h.2, vanish_of_border)
