-- The greedy argument, on the index form: where each position has the least partner that leaves the rest linkable, the partner list comes
-- first. `greedy_first` for a stretch that vanishes, `greedy_from_first` for a string that reduces to the target, `greedy_at_most` for a
-- whole partner list.
use Prim.Native.Nat.{ℕ, suc, ◌≤◌, ◌<◌}
use mathlib.Core.Path.{◌≡◌, refl, sym, ◌∙◌}
use mathlib.Core.List.{List}
use native.Mathlib.Omega.{arith}
use lib.IntN.{pos}
use lib.ListN.{length}
use Rattle.pregroup.specs.Types.{Basic, PregroupType}
use Rattle.pregroup.specs.Order.{Relation}
use Rattle.pregroup.specs.Vanish.{Contracts, Vanish}
use Rattle.linking.specs.Linking.{simple_at, partner, stretch, IsLinking, AtMost}
use Rattle.linking.specs.Greedy.{Candidate, Stay, VanishBehind, ReducesFrom, Nearest, Greedy, done, nearest, GreedyFrom, stays, links, Link}
use Rattle.linking.proofs.Linked.{Linked, nothing, linked, Parted, vanish_of_linked}
use Rattle.linking.proofs.Numbers.{Placed, under, same, over, placed}
use Rattle.linking.proofs.Positions.{linking_iff_parted}
use Rattle.linking.proofs.Comparison.{Compared, compared_append, compared_one, compared_less, compared_link, compared_none, at_most_of_compared}

module _ {Le : Relation} {X : PregroupType} {P : List ℕ} where
  pub linked_of_greedy : {i j : ℕ} → Greedy Le X P i j → Linked Le X P i j
  linked_of_greedy (done e) = nothing e
  linked_of_greedy (nearest k l h n u w) = linked k l h (linked_of_greedy u) (linked_of_greedy w)

  pub parted_of_greedy : {s : Basic} {i : ℕ} → GreedyFrom Le s X P i → Parted Le s X P i
  parted_of_greedy {i = i} (stays e t g) =
      record {
        unlinked = i;
        unlinked_place = (omega arith, t.fits);
        own = e;
        is_plain = t.is_plain;
        below = t.below;
        before = nothing refl;
        behind = linked_of_greedy g;
      }
  parted_of_greedy (links k l n m u w) =
      let t = parted_of_greedy w in
      record {
        unlinked = t.unlinked;
        unlinked_place = (omega arith, t.unlinked_place.1);
        own = t.own;
        is_plain = t.is_plain;
        below = t.below;
        before = linked k l t.unlinked_place.0 (linked_of_greedy u) t.before;
        behind = t.behind;
      }

-- What P holds outside the stretch does not matter.
pub greedy_agree :
    {Le : Relation} {X : PregroupType} {P Q : List ℕ} {i j : ℕ} → Greedy Le X P i j
    → ((m : ℕ) → i ≤ m → m < j → partner P m ≡ partner Q m) → Greedy Le X Q i j
greedy_agree (done e) f = done e
greedy_agree {i = i} (nearest k l h n u w) f =
    let a = l.ahead in
    let first = f i (omega arith) (omega arith) in
    let last = f k (omega arith) h in
    nearest k (record { ahead = a; forth = sym first ∙ l.forth; back = sym last ∙ l.back; contract = l.contract }) h n
    (greedy_agree u (λ m b c. f m (omega arith) (omega arith))) (greedy_agree w (λ m b c. f m (omega arith) c))

-- A link of a linked stretch is a candidate.
pub candidate_of_link :
    {Le : Relation} {X : PregroupType} {Q : List ℕ} {i k j : ℕ} → Link Le X Q i k → k < j → Linked Le X Q (suc i) k → Linked Le X Q (suc k) j
    → 1 ≤ i → j ≤ suc (length X) → Candidate Le X i k (VanishBehind Le X j k)
candidate_of_link l h u w p b =
    let a = l.ahead in
    record {
      contract = l.contract;
      between = vanish_of_linked u (omega arith) (omega arith);
      rest = vanish_of_linked w (omega arith) b;
    }

-- Of two links of i, the first with no candidate before it: what remains to compare where they are the same.
pub compared_links :
    {Le : Relation} {X : PregroupType} {P Q : List ℕ} {i j k k' : ℕ} → Link Le X P i k → Link Le X Q i k' → k < j → (k' < k → ⊥)
    → (k ≡ k' → Compared P Q (suc i) k × Compared P Q (suc k) j) → Compared P Q i j
compared_links {Le} {X} {P} {Q} {i} {j} {k} {k'} l r h n c = at (placed k k')
  where
    at : Placed k k' → Compared P Q i j
    at (under g) = compared_less (omega (arith, l.ahead)) (omega (arith, l.forth, r.forth))
    at (same e) =
        let d = c e in
        compared_link l.ahead h (l.forth ∙ e ∙ sym r.forth) (l.back ∙ sym (rw (← e) at r.back)) d.0 d.1
    at (over g) = absurd (n g)

-- A greedy linking of a stretch is at most every linking of it.
pub greedy_first :
    {Le : Relation} {X : PregroupType} {P Q : List ℕ} {i j : ℕ} → Greedy Le X P i j → Linked Le X Q i j → 1 ≤ i → j ≤ suc (length X)
    → Compared P Q i j
greedy_first (done e) q p b = compared_none e
greedy_first (nearest k l h n u w) (nothing e) p b = absurd (omega (arith, l.ahead))
greedy_first (nearest k l h n u w) (linked k' r g v x) p b =
    compared_links l r h (λ c. n k' r.ahead c (candidate_of_link r g v x p b))
    (λ e. (greedy_first u (rw (← e) at v) (omega arith) (omega arith), greedy_first w (rw (← e) at x) (omega arith) b))

module _ {Le : Relation} {s : Basic} {X : PregroupType} {Q : List ℕ} where
  -- The unlinked position of a parted string could stay unlinked.
  stay_of_parted : {i : ℕ} (t : Parted Le s X Q i) → 1 ≤ i → Stay Le s X i t.unlinked
  stay_of_parted t p =
      record {
        fits = t.unlinked_place.1;
        is_plain = t.is_plain;
        below = t.below;
        before = vanish_of_linked t.before p (omega arith);
        behind = vanish_of_linked t.behind (omega arith) (omega arith);
      }

  pub reduces_of_parted : {i : ℕ} → Parted Le s X Q i → 1 ≤ i → ReducesFrom Le s X i
  reduces_of_parted t p = (t.unlinked, t.unlinked_place.0, stay_of_parted t p)

  -- What stands behind the first link of a parted string is parted.
  parted_behind : {i : ℕ} (t : Parted Le s X Q i) (k : ℕ) → k < t.unlinked → Linked Le X Q (suc k) t.unlinked → Parted Le s X Q (suc k)
  parted_behind t k h x =
      record {
        unlinked = t.unlinked;
        unlinked_place = (h, t.unlinked_place.1);
        own = t.own;
        is_plain = t.is_plain;
        below = t.below;
        before = x;
        behind = t.behind;
      }

  stays_first :
      {P : List ℕ} {i : ℕ} → partner P i ≡ i → Greedy Le X P (suc i) (suc (length X)) → (t : Parted Le s X Q i) → Linked Le X Q i t.unlinked
      → Compared P Q i (suc (length X))
  stays_first e g t (nothing f) =
      compared_append (omega arith) (omega arith) (compared_one (e ∙ sym (rw (← f) at t.own)))
      (greedy_first g (rw (← f) at t.behind) (omega arith) (omega arith))
  stays_first e g t (linked k r h v x) = compared_less (omega arith) (omega (arith, r.ahead, r.forth))

  links_first :
      {P : List ℕ} {i k : ℕ} → Link Le X P i k → k ≤ length X → (Stay Le s X i i → ⊥) → Nearest Le X (λ m. ReducesFrom Le s X (suc m)) i k
      → Greedy Le X P (suc i) k → (Parted Le s X Q (suc k) → Compared P Q (suc k) (suc (length X))) → (t : Parted Le s X Q i)
      → Linked Le X Q i t.unlinked → 1 ≤ i → Compared P Q i (suc (length X))
  links_first {i = i} l h n m u c t (nothing f) p = absurd (n (rw (← f) at (stay_of_parted t p)))
  links_first {i = i} l h n m u c t (linked k' r g v x) p =
      let a = r.ahead in
      let rest = parted_behind t k' g x in
      let candidate : Candidate Le X i k' (ReducesFrom Le s X (suc k')) =
      record { contract = r.contract; between = vanish_of_linked v (omega arith) (omega arith); rest = reduces_of_parted rest (omega arith) } in
      compared_links l r (omega arith) (λ d. m k' a d candidate)
      (λ e. (greedy_first u (rw (← e) at v) (omega arith) (omega arith), c (rw (← e) at rest)))

  -- A greedy linking of a string is at most every linking of it.
  pub greedy_from_first : {P : List ℕ} {i : ℕ} → GreedyFrom Le s X P i → Parted Le s X Q i → 1 ≤ i → Compared P Q i (suc (length X))
  greedy_from_first (stays e t g) q p = stays_first e g q q.before
  greedy_from_first (links k l n m u w) q p =
      let b = (parted_of_greedy w).unlinked_place in
      links_first l (omega arith) n m u (λ r. greedy_from_first w r (omega arith)) q q.before p

-- A partner list as long as the string that links it greedily is its first linking.
module _ {Le : Relation} {s : Basic} {X : PregroupType} {P : List ℕ} (count : length P ≡ length X) (greedy : GreedyFrom Le s X P 1) where
  pub linking_of_greedy : IsLinking Le s X P
  linking_of_greedy = linking_iff_parted.1 (count, parted_of_greedy greedy)

  pub greedy_at_most : (Q : List ℕ) → IsLinking Le s X Q → AtMost P Q
  greedy_at_most Q q =
      let t = linking_iff_parted.0 q in
      at_most_of_compared P Q (length X) count t.0 (greedy_from_first greedy t.1 (omega arith))
