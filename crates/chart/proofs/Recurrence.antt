-- Where a string that vanishes leads, as a recurrence over the graph's edges: nowhere; past a boundary; or over a link x .. z, what stands
-- between its ends vanishing, and on. It is the same as `VanishTo`.
use Prim.Native.Nat.{ℕ}
use mathlib.Core.Logic.{◌↔◌}
use mathlib.Core.List.{[], ◌∷◌, ◌++◌}
use Rattle.pregroup.specs.Types.{Simple, PregroupType}
use Rattle.pregroup.specs.Order.{Relation}
use Rattle.pregroup.specs.Vanish.{Contracts, Vanish, empty, link}
use Rattle.graph.specs.Graph.{Graph, Labelled, Enters, Path, here, take, enter, VanishTo, along}

pub data Van (Le : Relation) (g : Graph) : ℕ → ℕ → Type 0 where
  same : {u : ℕ} → Van Le g u u
  pass : {u w v : ℕ} → Enters g u w → Van Le g w v → Van Le g u v
  join :
      {u n y k v : ℕ} {x z : Simple} → Labelled g u x n → Van Le g n y → Labelled g y z k → Contracts Le x z → Van Le g k v
      → Van Le g u v

-- A path that spells x and more passes boundaries before x.
pub data Begins (g : Graph) (u : ℕ) (x : Simple) (X : PregroupType) (v : ℕ) : Type 0 where
  begins : {w n : ℕ} → Path g u [] w → Labelled g w x n → Path g n X v → Begins g u x X v

-- A path that spells X and then Y.
pub data Parted (g : Graph) (u : ℕ) (X Y : PregroupType) (w : ℕ) : Type 0 where
  part : {v : ℕ} → Path g u X v → Path g v Y w → Parted g u X Y w

module _ {g : Graph} where
  -- Paths are joined ..
  pub path_append : {u v w : ℕ} {X Y : PregroupType} → Path g u X v → Path g v Y w → Path g u (X ++ Y) w
  path_append here q = q
  path_append (take l p) q = take l (path_append p q)
  path_append (enter e p) q = enter e (path_append p q)

  begins_past : {u w v : ℕ} {x : Simple} {X : PregroupType} → Enters g u w → Begins g w x X v → Begins g u x X v
  begins_past e (begins s l p) = begins (enter e s) l p

  pub path_begins : {u v : ℕ} {x : Simple} {X : PregroupType} → Path g u (x ∷ X) v → Begins g u x X v
  path_begins (take l p) = begins here l p
  path_begins (enter e p) = begins_past e (path_begins p)

  part_past : {u w n v : ℕ} {x : Simple} {X Y : PregroupType} → Path g u [] w → Labelled g w x n → Parted g n X Y v → Parted g u (x ∷ X) Y v
  part_past s l (part p q) = part (path_append s (take l p)) q

  part_begins :
      {u v : ℕ} {x : Simple} (X : PregroupType) {Y : PregroupType} → ((a : ℕ) → Path g a (X ++ Y) v → Parted g a X Y v)
      → Begins g u x (X ++ Y) v → Parted g u (x ∷ X) Y v
  part_begins X cut (begins {n} s l p) = part_past s l (cut n p)

  -- .. and parted where their strings are.
  pub path_part : (X : PregroupType) {Y : PregroupType} {u w : ℕ} → Path g u (X ++ Y) w → Parted g u X Y w
  path_part [] p = part here p
  path_part (x ∷ X) p = part_begins X (λ a q. path_part X q) (path_begins p)

module _ {Le : Relation} {g : Graph} where
  pub van_append : {u v w : ℕ} → Van Le g u v → Van Le g v w → Van Le g u w
  van_append same t = t
  van_append (pass e s) t = pass e (van_append s t)
  van_append (join l s m c r) t = join l s m c (van_append r t)

  -- A path that spells nothing passes boundaries only.
  pub van_of_empty : {u v : ℕ} → Path g u [] v → Van Le g u v
  van_of_empty here = same
  van_of_empty (enter e p) = pass e (van_of_empty p)

  -- A link along a path, where U and W lead along recurrences.
  link_closes :
      {x y : Simple} {W : PregroupType} {u n m v : ℕ} → Contracts Le x y → Labelled g u x n → Van Le g n m
      → ((a : ℕ) → Path g a W v → Van Le g a v) → Begins g m y W v → Van Le g u v
  link_closes c l inner outer (begins {n = k} s m p) = join l (van_append inner (van_of_empty s)) m c (outer k p)

  link_parts :
      {x y : Simple} {U W : PregroupType} {u n v : ℕ} → Contracts Le x y → Labelled g u x n → ((b : ℕ) → Path g n U b → Van Le g n b)
      → ((a : ℕ) → Path g a W v → Van Le g a v) → Parted g n U (y ∷ W) v → Van Le g u v
  link_parts c l inner outer (part {v = m} p q) = link_closes c l (inner m p) outer (path_begins q)

  link_begins :
      {x y : Simple} (U : PregroupType) {W : PregroupType} {u v : ℕ} → Contracts Le x y → ((a b : ℕ) → Path g a U b → Van Le g a b)
      → ((a : ℕ) → Path g a W v → Van Le g a v) → Begins g u x (U ++ (y ∷ W)) v → Van Le g u v
  link_begins U c inner outer (begins {n} s l p) = van_append (van_of_empty s) (link_parts c l (λ b q. inner n b q) outer (path_part U p))

  pub van_of_path : {X : PregroupType} {u v : ℕ} → Vanish Le X → Path g u X v → Van Le g u v
  van_of_path empty p = van_of_empty p
  van_of_path (link {U} c i o) p = link_begins U c (λ a b q. van_of_path i q) (λ a q. van_of_path o q) (path_begins p)

  past : {u w v : ℕ} → Enters g u w → VanishTo Le g w v → VanishTo Le g u v
  past e (along p v) = along (enter e p) v

  linked :
      {u n y k v : ℕ} {x z : Simple} → Labelled g u x n → VanishTo Le g n y → Labelled g y z k → Contracts Le x z → VanishTo Le g k v
      → VanishTo Le g u v
  linked l (along p i) m c (along q o) = along (take l (path_append p (take m q))) (link c i o)

  path_of_van : {u v : ℕ} → Van Le g u v → VanishTo Le g u v
  path_of_van same = along here empty
  path_of_van (pass e s) = past e (path_of_van s)
  path_of_van (join l s m c t) = linked l (path_of_van s) m c (path_of_van t)

  van_of_vanish : {u v : ℕ} → VanishTo Le g u v → Van Le g u v
  van_of_vanish (along p v) = van_of_path v p

  pub van_iff_vanish : {u v : ℕ} → Van Le g u v ↔ VanishTo Le g u v
  van_iff_vanish = (path_of_van, van_of_vanish)
