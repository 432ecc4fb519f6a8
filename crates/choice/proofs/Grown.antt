-- The rows of the chosen string mean what `Grown` says: at the start, past a slot, and with one simple type more. So a row of the chart meets the last
-- row of the needs exactly where the chosen string is finished.
use Prim.Native.Nat.{ℕ, suc, ◌+◌, ◌≤◌, ◌<◌}
use native.Mathlib.Omega.{arith}
use mathlib.Core.Path.{◌≡◌, refl, sym, ap, subst, ◌∙◌}
use mathlib.Core.Logic.{◌⊎◌, inl, inr}
use mathlib.Core.List.{List, [], ◌∷◌, ◌++◌, append_assoc}
use lib.ListN.{length, take, drop, length-append}
use lib.Seq.{take_all, drop-length, take-append-le, drop-append-le, get_or_at}
use Rattle.bits.specs.Rows.{InRow, RowSays}
use Rattle.bits.specs.Gathered.{Gathered, itself, within}
use Rattle.bits.proofs.Cases.{same_or_not}
use Rattle.pregroup.specs.Types.{Simple, PregroupType, plain}
use Rattle.pregroup.specs.Order.{Relation}
use Rattle.pregroup.specs.Vanish.{Contracts, Vanish, empty, link}
use Rattle.pregroup.proofs.Machine.{vanish_append}
use Rattle.graph.specs.Graph.{Graph, next_at, label_of, Labelled, Upward, take as takes-node, VanishTo, along}
use Rattle.chart.specs.Chart.{FilledFrom}
use Rattle.chart.proofs.Recurrence.{path_append, van_iff_vanish}
use Rattle.chart.proofs.Filling.{van_within, contracts_at}
use Rattle.table.specs.Table.{at_place, string_of, Closable}
use Rattle.table.proofs.Stretches.{closes as closes-last, last_closed}
use Rattle.table.proofs.TableLaws.{right_begins, empty_stretch}
use Rattle.choice.specs.Completion.{Finishes, finishes, Needed, settled, closes, Completion, completion}
use Rattle.choice.specs.Sets.{Meets, meets, Partner, ClosedPart, Started, Grew}
use Rattle.choice.specs.Grown.{Grown}
use Rattle.choice.proofs.Completion.{finishes_iff_completion}
use Rattle.choice.proofs.Needed.{OpenAt, nothing, link as link-open, NeededAt, needed_at, needed_place, needed_of, needed_closed, Step, linked, closed, step_of}

module _ {Le : Relation} {g : Graph} where
  -- What vanishes finishes the empty string.
  finishes_nothing : {u z : ℕ} → VanishTo Le g u z → Finishes Le g [] u z
  finishes_nothing (along p v) = finishes p v

  vanish_of_nothing : {u z : ℕ} → Finishes Le g [] u z → VanishTo Le g u z
  vanish_of_nothing (finishes p v) = along p v

-- The last row of the needs, asked from y: all that y leads to by what vanishes, the node at hand does too.
module _ {Le : Relation} {g : Graph} {P : PregroupType} {end u n : ℕ} {chart table needs : List ℕ} (filled : FilledFrom Le g chart 0)
    (grown : Grown Le g P end u n table needs) (y : ℕ) (small : y < length g.nodes) where
  whole : take n P ≡ P
  whole = take_all n P (omega (arith, grown.long))

  none_left : drop n P ≡ []
  none_left = ap (λ (k : ℕ). drop k P) (sym grown.long) ∙ drop-length P

  pub finishes_of_meets : Meets chart y needs n → Finishes Le g P y end
  finishes_of_meets (meets z a b) =
      finishes_iff_completion.1 (completion ((filled y (omega arith) small z).0 a) (rw whole at (grown.only n z (omega arith) b)))

  pub meets_of_finishes : ((z : ℕ) → VanishTo Le g y z → VanishTo Le g u z) → Finishes Le g P y end → Meets chart y needs n
  meets_of_finishes on f = of (finishes_iff_completion.0 f)
    where
      of : Completion Le g P y end → Meets chart y needs n
      of (completion {z} t h) =
          meets z ((filled y (omega arith) small z).1 t) (grown.every n z (omega arith) (rw whole h) (rw none_left (finishes_nothing (on z t))))

-- One simple type more: P, then x of the simple node u, which leads to k.
module _ (Le : Relation) (g : Graph) (chart string : List ℕ) (P : PregroupType) (end u n : ℕ) (table needs table' needs' : List ℕ)
    (up : Upward g) (small : u < length g.nodes) (simple : 0 < next_at g.nodes u) (filled : FilledFrom Le g chart 0) (grown : Grown Le g P end u n table needs)
    (spells : string_of string (n + 1) ≡ P ++ (label_of g u ∷ []))
    (more : Grew Le g.nodes chart string n u needs table' needs') where
  abbrev k : ℕ
  k = next_at g.nodes u

  abbrev X : PregroupType
  X = P ++ (label_of g u ∷ [])

  longer : length X ≡ n + 1
  longer = omega (arith, length-append P (label_of g u ∷ []), grown.long)

  label : Labelled g u (label_of g u) k
  label = record { simple = simple; label = refl; next = refl }

  next_small : k < length g.nodes
  next_small = (up.nexts_up u small simple).1

  front : (j : ℕ) → j ≤ n → take j X ≡ take j P
  front j h = take-append-le j P (label_of g u ∷ []) (omega (arith, grown.long))

  rest : (j : ℕ) → j ≤ n → drop j X ≡ drop j P ++ (label_of g u ∷ [])
  rest j h = drop-append-le j P (label_of g u ∷ []) (omega (arith, grown.long))

  all_of : take (n + 1) X ≡ X
  all_of = take_all (n + 1) X (omega (arith, longer))

  last : at_place X n ≡ label_of g u
  last = get_or_at P (label_of g u) [] (plain 0) n grown.long

  new_row : RowSays needs' (n + 1) (Gathered (Partner Le g.nodes chart needs n u) (ClosedPart Le X needs n))
  new_row = rw spells at more.needs_new

  -- A path from behind u, with u taken.
  take_first : {z : ℕ} (R : PregroupType) → Finishes Le g (R ++ (label_of g u ∷ [])) k z → Finishes Le g R u z
  take_first R (finishes p v) = finishes (takes-node label p) (rw append_assoc at v)

  -- What is closed behind place i vanishes, and what vanishes behind it leads on.
  closed_behind : {z : ℕ} (i : ℕ) → Closable Le X n i → VanishTo Le g k z → Finishes Le g (drop i P) u z
  closed_behind i c (along {X = Y} p v) =
      let h : i ≤ n = omega (arith, c.before) in
      let stretch : Vanish Le (drop i (take (suc n) X)) = last_closed X i n (omega (arith, longer)) (closes-last i c (empty_stretch Le X i)) in
      let one : suc n ≡ n + 1 = omega arith in
      let vanishes : Vanish Le (drop i P ++ (label_of g u ∷ [])) = rw (one, all_of, rest i h) at stretch in
      take_first (drop i P) (finishes p (vanish_append vanishes v))

  -- Behind a partner y, all that vanishes leads on from u.
  on_past : (y : ℕ) {x : Simple} {m : ℕ} → VanishTo Le g k y → Labelled g y x m → Contracts Le (label_of g u) x → (z : ℕ) → VanishTo Le g m z → VanishTo Le g u z
  on_past y (along p i) l c z (along q o) = along (takes-node label (path_append p (takes-node l q))) (link c i o)

  reached_small : {y : ℕ} → VanishTo Le g k y → y < length g.nodes
  reached_small t = van_within up next_small (van_iff_vanish.1 t)

  -- The new row has only what is needed ..
  only_new : (z : ℕ) → Gathered (Partner Le g.nodes chart needs n u) (ClosedPart Le X needs n) z → Needed Le g end X z
  only_new z (itself p) =
      let l = p.links in
      let y-small = reached_small ((filled k (omega arith) next_small z).0 p.reached) in
      let behind = up.nexts_up z y-small l.simple in
      closes {L = P} empty (record { simple = l.simple; label = refl; next = refl }) l.contracts
      (finishes_of_meets filled grown (next_at g.nodes z) behind.1 l.behind)
  only_new z (within i p) =
      let h : i ≤ n = omega (arith, p.closed.before) in
      let there : NeededAt Le g end X i z = needed_place X (omega (arith, longer)) (rw (front i h) (grown.only i z h p.needed)) in
      let one : suc n ≡ n + 1 = omega arith in
      rw (one, all_of) at (needed_of X (omega (arith, longer)) (needed_closed X n (omega (arith, longer)) i p.closed there))

  -- .. and all of it that can be reached.
  partner_of : (z : ℕ) → VanishTo Le g k z → OpenAt Le g end X (suc n) z → Partner Le g.nodes chart needs n u z
  partner_of z t (link-open {x} l c f) =
      let c' : Contracts Le (label_of g u) x = contracts_at last refl c in
      let behind = up.nexts_up z (reached_small t) l.simple in
      let f' : Finishes Le g P (next_at g.nodes z) end = subst (λ (y : ℕ). Finishes Le g P y end) l.next (rw (front n (omega arith), whole filled grown u small) at f) in
      let l' : Labelled g z x (next_at g.nodes z) = record { simple = l.simple; label = l.label; next = refl } in
      record {
        reached = (filled k (omega arith) next_small z).1 t;
        links = record {
          simple = l.simple;
          contracts = contracts_at refl l.label c';
          behind = meets_of_finishes filled grown (next_at g.nodes z) behind.1 (on_past z t l' c') f';
        };
      }

  every_new : (z : ℕ) → VanishTo Le g k z → Step Le g end X n z → Gathered (Partner Le g.nodes chart needs n u) (ClosedPart Le X needs n) z
  every_new z t (linked o) = itself (partner_of z t o)
  every_new z t (closed i c a) =
      let h : i ≤ n = omega (arith, c.before) in
      within i (record { closed = c; needed = grown.every i z h (rw (front i h) at (needed_of X (omega (arith, longer)) a)) (closed_behind i c t) })

  only_at : (j z : ℕ) → j ≤ n + 1 → (j ≡ n + 1) ⊎ (j ≡ n + 1 → ⊥) → InRow needs' j z → Needed Le g end (take j X) z
  only_at j z h (inl e) m = rw (e, all_of) (only_new z ((new_row z).0 (rw e at m)))
  only_at j z h (inr d) m = rw (front j (omega arith)) (grown.only j z (omega arith) ((more.needs_kept j d z).0 m))

  every_at : (j z : ℕ) → j ≤ n + 1 → (j ≡ n + 1) ⊎ (j ≡ n + 1 → ⊥) → Needed Le g end (take j X) z → Finishes Le g (drop j X) k z → InRow needs' j z
  every_at j z h (inl e) a f =
      let one : n + 1 ≡ suc n = omega arith in
      let none : drop (n + 1) X ≡ [] = ap (λ (i : ℕ). drop i X) (sym longer) ∙ drop-length X in
      let t : VanishTo Le g k z = vanish_of_nothing (rw (e, none) at f) in
      let there : NeededAt Le g end X (suc n) z = needed_place X (omega (arith, longer)) (rw (e, one) at a) in
      rw e ((new_row z).1 (every_new z t (step_of X n (omega (arith, longer)) there)))
  every_at j z h (inr d) a f =
      (more.needs_kept j d z).1
      (grown.every j z (omega arith) (rw (front j (omega arith)) at a) (take_first (drop j P) (rw (rest j (omega arith)) at f)))

  pub grown_more : Grown Le g X end k (n + 1) table' needs'
  grown_more = record {
    long = longer;
    right = rw spells at more.right;
    only = λ j z h. only_at j z h (same_or_not j (n + 1));
    every = λ j z h. every_at j z h (same_or_not j (n + 1));
  }

-- Past a slot the rows stay as they are.
pub grown_on :
    {Le : Relation} {g : Graph} {P : PregroupType} {end u n : ℕ} {table needs : List ℕ} (w : ℕ)
    → ((R : PregroupType) (z : ℕ) → Finishes Le g R w z → Finishes Le g R u z) → Grown Le g P end u n table needs → Grown Le g P end w n table needs
grown_on {P} w on grown = record {
  long = grown.long;
  right = grown.right;
  only = grown.only;
  every = λ j z h a f. grown.every j z h a (on (drop j P) z f);
}

-- With nothing chosen, only the end is needed.
needed_by_nothing : {Le : Relation} {g : Graph} {end z : ℕ} → Needed Le g end [] z → z ≡ end
needed_by_nothing {Le} {g} {end} a = of (needed_place [] {n = 0} (omega arith) a)
  where
    of : {z : ℕ} → NeededAt Le g end [] 0 z → z ≡ end
    of (needed_at s nothing) = refl
    of (needed_at s (link-open l c f)) = absurd (omega (arith, s.ordered))

-- The rows at the start.
module _ {Le : Relation} {g : Graph} {end : ℕ} {table needs : List ℕ} (started : Started end table needs) where
  start_only : (j z : ℕ) → j ≤ 0 → InRow needs j z → Needed Le g end (take j []) z
  start_only j z h m =
      let e : j ≡ 0 = omega arith in
      let at_end : z ≡ end = (started.needs_new z).0 (rw e at m) in
      rw (at_end, e) (settled empty)

  start_every : (j z : ℕ) → j ≤ 0 → Needed Le g end (take j []) z → InRow needs j z
  start_every j z h a =
      let e : j ≡ 0 = omega arith in
      rw e ((started.needs_new z).1 (needed_by_nothing (rw e at a)))

  pub grown_starts : {u : ℕ} → Grown Le g [] end u 0 table needs
  grown_starts = record {
    long = refl;
    right = right_begins table started.table_new;
    only = λ j z h m. start_only j z h m;
    every = λ j z h a f. start_every j z h a;
  }
