-- `first_linking` is right, over a test that decides the order.
-- `first_linking_some`, `first_linking_none`: what it gives is a linking that is at most every linking, and it gives none exactly when
-- there is none.
-- `first_linking_unique`, `first_linking_greedy`: any linking that is at most every linking, and any greedy one, is what it gives.
use Prim.Native.Nat.{ℕ, zero, suc, ◌+◌, ◌-◌, ◌≤◌, ◌<◌}
use mathlib.Core.Path.{◌≡◌, refl, sym, ◌∙◌, ap}
use mathlib.Core.Logic.{◌↔◌}
use mathlib.Core.Bool.{Bool, true, false, cond, ◌&&◌, false≢true}
use mathlib.Core.Option.{Option, none, some, map, some-ne-none}
use mathlib.Core.List.{List, [], ◌∷◌, ◌++◌}
use native.Mathlib.Omega.{arith}
use lib.Dec.{eqb, leb}
use lib.IntN.{pos}
use lib.ListN.{length, replicate, length-append, length-replicate}
use borrow.Author.Tests.{eqb-true, eq-eqb, leb-true, le-leb}
use Rattle.pregroup.specs.Types.{Basic, PregroupType}
use Rattle.pregroup.specs.Order.{Relation}
use Rattle.pregroup.specs.Vanish.{Contracts, Vanish, empty}
use Rattle.pregroup.specs.Tests.{Test, Decides, same_exponent, contracts}
use Rattle.pregroup.proofs.Decision.{same_exponent_iff, and_iff, contracts_iff}
use Rattle.linking.specs.Linking.{simple_at, stretch, IsLinking, AtMost, linked_to, first_within, unlinked_at, first_from, first_linking}
use Rattle.linking.specs.Greedy.{Candidate, Stay, VanishBehind, ReducesFrom, Nearest, Greedy, done, nearest, GreedyFrom, stays, links}
use Rattle.linking.proofs.Stretches.{stretch_empty, Reads, reads_head, reads_tail, reads_front, reads_back, reads_behind, reads_self}
use Rattle.linking.proofs.Linked.{Linked, nothing, linked, vanish_of_linked, linked_stretch}
use Rattle.linking.proofs.Positions.{linking_iff_parted}
use Rattle.linking.proofs.Numbers.{Tried, found, missing, SomeGood, FirstOf, search_right}
use Rattle.linking.proofs.Comparison.{at_most_both}
use Rattle.linking.proofs.Greedy.{candidate_of_link, linked_of_greedy, reduces_of_parted, linking_of_greedy, greedy_at_most}

and_iff₃ : (a b c : Bool) → (a && b && c ≡ true) ↔ ((a ≡ true) × (b ≡ true) × (c ≡ true))
and_iff₃ a b c =
    let two = and_iff a b in
    let last = and_iff (a && b) c in
    (λ h. let t = last.0 h in ((two.0 t.0).0, (two.0 t.0).1, t.1), λ t. last.1 (two.1 (t.0, t.1), t.2))

-- A list that fills the stretch from i up to j greedily: where P reads it from i on, the stretch is linked greedily.
record Filled (Le : Relation) (X : PregroupType) (i j : ℕ) (L : List ℕ) : Type 0 where
  size : i + length L ≡ j
  greedy : (P : List ℕ) → Reads 0 P i L → Greedy Le X P i j

-- A list that fills the string from i on greedily.
record FilledFrom (Le : Relation) (s : Basic) (X : PregroupType) (i : ℕ) (L : List ℕ) : Type 0 where
  size : i + length L ≡ suc (length X)
  greedy : (P : List ℕ) → Reads 0 P i L → GreedyFrom Le s X P i

-- The partners from i on with i linked to k: what fills the stretch between them, and what is said of those behind k.
data Joined (Le : Relation) (X : PregroupType) (i k : ℕ) (Behind : List ℕ → Type 0) : List ℕ → Type 0 where
  joined : {A B : List ℕ} → Contracts Le (simple_at X i) (simple_at X k) → Filled Le X (suc i) k A → Behind B → Joined Le X i k Behind (k ∷ (A ++ (i ∷ B)))

-- What the search for a partner of i looks for and finds, up to j.
abbrev CandidateWithin : Relation → PregroupType → ℕ → ℕ → ℕ → Type 0
CandidateWithin Le X i j k = Candidate Le X i k (VanishBehind Le X j k)

abbrev JoinedWithin : Relation → PregroupType → ℕ → ℕ → ℕ → List ℕ → Type 0
JoinedWithin Le X i j k = Joined Le X i k (Filled Le X (suc k) j)

module _ {Le : Relation} {X : PregroupType} where
  filled_none : {i j : ℕ} → i ≡ j → Filled Le X i j []
  filled_none e = record { size = omega arith; greedy = λ P r. done e }

  -- The nearest candidate, what fills the stretch between, and what fills the stretch behind.
  filled_link :
      {i j k : ℕ} {L : List ℕ} → i < k → k < j → Nearest Le X (VanishBehind Le X j) i k → JoinedWithin Le X i j k L → Filled Le X i j L
  filled_link {i} {j} {k} h b n (joined {A} {B} c f g) =
      record {
        size = simp length-append (omega (arith, f.size, g.size));
        greedy = λ P r.
            let q = reads_back A (i ∷ B) k f.size (reads_tail r) in
            nearest k (record { ahead = h; forth = reads_head r; back = reads_head q; contract = c }) b n
            (f.greedy P (reads_front A (i ∷ B) (reads_tail r))) (g.greedy P (reads_tail q));
      }

  -- What is filled vanishes.
  filled_vanish : {i j : ℕ} {L : List ℕ} → Filled Le X i j L → 1 ≤ i → j ≤ suc (length X) → Vanish Le (stretch X i j)
  filled_vanish {i} {L = L} f p e =
      let front : List ℕ = replicate (i - 1) 0 in
      let there : suc (length front) ≡ i = rw (length-replicate {A = ℕ} (i - 1) 0) (omega arith) in
      let reads : Reads 0 (front ++ L) i L = rw there at (reads_behind {d = 0} front L) in
      vanish_of_linked (linked_of_greedy (f.greedy (front ++ L) reads)) p e

  -- By what the search finds in a stretch that may be empty.
  filled_step :
      {i j : ℕ} {r : Option (List ℕ)} (b : Bool) → eqb i j ≡ b → 1 ≤ i → i ≤ j → j ≤ suc (length X)
      → Tried (SomeGood (CandidateWithin Le X i j) (suc i) j) (FirstOf (CandidateWithin Le X i j) (JoinedWithin Le X i j) (suc i) j) r
      → Tried (Vanish Le (stretch X i j)) (Filled Le X i j) (cond b (some []) r)
  filled_step {i} {j} true e p h m t = found (filled_none (eqb-true i j e))
  filled_step false e p h m (found f) = found (filled_link f.from_on f.before f.none_earlier f.is)
  filled_step {i} {j} false e p h m (missing n) = missing (λ v. at (linked_stretch X i j p h m v).1)
    where
      at : {P : List ℕ} → Linked Le X P i j → ⊥
      at (nothing k) = false≢true (sym e ∙ eq-eqb i j k)
      at (linked k l b u w) = n (k, l.ahead, b, candidate_of_link l b u w p m)

-- What the search for a later partner of i looks for and finds, where the string from i on is to reduce.
abbrev CandidateFrom : Relation → Basic → PregroupType → ℕ → ℕ → Type 0
CandidateFrom Le s X i k = Candidate Le X i k (ReducesFrom Le s X (suc k))

abbrev JoinedFrom : Relation → Basic → PregroupType → ℕ → ℕ → List ℕ → Type 0
JoinedFrom Le s X i k = Joined Le X i k (FilledFrom Le s X (suc k))

module _ {Le : Relation} {s : Basic} {X : PregroupType} where
  -- A string that reduces begins with its unlinked position or with a candidate for a link.
  reduces_cases : {i : ℕ} → 1 ≤ i → (Stay Le s X i i → ⊥) → (SomeGood (CandidateFrom Le s X i) (suc i) (suc (length X)) → ⊥) → ReducesFrom Le s X i → ⊥
  reduces_cases {i} p n m r = at (linked_stretch X i u p r.1 (omega (arith, stay.fits)) stay.before).1
    where
      u : ℕ
      u = r.0

      stay : Stay Le s X i u
      stay = r.2

      at : {P : List ℕ} → Linked Le X P i u → ⊥
      at (nothing e) = n (rw (← e) at stay)
      at (linked k l b v x) =
          let a = l.ahead in
          let z = stay.fits in
          let rest : Stay Le s X (suc k) u =
          record {
            fits = z;
            is_plain = stay.is_plain;
            below = stay.below;
            before = vanish_of_linked x (omega arith) (omega arith);
            behind = stay.behind;
          } in
          m (k, a, omega arith, record { contract = l.contract; between = vanish_of_linked v (omega arith) (omega arith); rest = (u, b, rest) })

  -- The nearest candidate, what fills the stretch between, and what fills the rest of the string.
  filled_rest :
      {i k : ℕ} {L : List ℕ} → i < k → (Stay Le s X i i → ⊥) → Nearest Le X (λ m. ReducesFrom Le s X (suc m)) i k → JoinedFrom Le s X i k L
      → FilledFrom Le s X i L
  filled_rest {i} {k} h n m (joined {A} {B} c f g) =
      record {
        size = simp length-append (omega (arith, f.size, g.size));
        greedy = λ P r.
            let q = reads_back A (i ∷ B) k f.size (reads_tail r) in
            links k (record { ahead = h; forth = reads_head r; back = reads_head q; contract = c }) n m
            (f.greedy P (reads_front A (i ∷ B) (reads_tail r))) (g.greedy P (reads_tail q));
      }

  -- The first position stays unlinked, or the search for its partner decides.
  from_step :
      {i : ℕ} {o r : Option (List ℕ)} → 1 ≤ i → Tried (Stay Le s X i i) (FilledFrom Le s X i) o
      → Tried (SomeGood (CandidateFrom Le s X i) (suc i) (suc (length X))) (FirstOf (CandidateFrom Le s X i) (JoinedFrom Le s X i) (suc i) (suc (length X))) r
      → Tried (ReducesFrom Le s X i) (FilledFrom Le s X i) (elim o [ none ↦ r | some P ↦ some P ])
  from_step p (found f) t = found f
  from_step p (missing n) (found f) = found (filled_rest f.from_on n f.none_earlier f.is)
  from_step p (missing n) (missing m) = missing (reduces_cases p n m)

module _ {le : Test} {Le : Relation} (decides : Decides le Le) (X : PregroupType) where
  linked_to_lem :
      {i k : ℕ} {Rest : Type 0} {Behind : List ℕ → Type 0} {between behind : Option (List ℕ)}
      → Tried (Vanish Le (stretch X (suc i) k)) (Filled Le X (suc i) k) between → Tried Rest Behind behind
      → Tried (Candidate Le X i k Rest) (Joined Le X i k Behind) (linked_to le X i k between behind)
  unfolding linked_to
  linked_to_lem (missing n) t = missing (λ c. n c.between)
  linked_to_lem (found f) (missing n) = missing (λ c. n c.rest)
  linked_to_lem {i} {k} {Rest} {Behind} (found {L = A} f) (found {L = B} g) = at (contracts le (simple_at X i) (simple_at X k)) refl
    where
      at : (b : Bool) → contracts le (simple_at X i) (simple_at X k) ≡ b → Tried (Candidate Le X i k Rest) (Joined Le X i k Behind) (cond b (some (k ∷ (A ++ (i ∷ B)))) none)
      at true e = found (joined ((contracts_iff decides (simple_at X i) (simple_at X k)).0 e) f g)
      at false e = missing (λ c. false≢true (sym e ∙ (contracts_iff decides (simple_at X i) (simple_at X k)).1 c.contract))

  -- `first_within` fills a stretch with the nearest candidates, if it vanishes.
  within_right :
      (d i j : ℕ) → j ≤ i + d → 1 ≤ i → i ≤ j → j ≤ suc (length X) → Tried (Vanish Le (stretch X i j)) (Filled Le X i j) (first_within le X d i j)
  unfolding first_within
  within_right zero i j b p h e = found (filled_none (omega arith))
  within_right (suc d) i j b p h e =
      filled_step (eqb i j) refl p h e
      (search_right (λ k. linked_to le X i k (first_within le X d (suc i) k) (first_within le X d (suc k) j)) (j - suc i) (suc i) j refl
      (λ k a c. linked_to_lem (within_right d (suc i) k (omega arith) (omega arith) a (omega arith)) (within_right d (suc k) j (omega arith) (omega arith) c e)))

  module _ (s : Basic) where
    unlinked_place :
        {i : ℕ} {behind : Option (List ℕ)} → 1 ≤ i
        → (i ≤ length X → Tried (Vanish Le (stretch X (suc i) (suc (length X)))) (Filled Le X (suc i) (suc (length X))) behind)
        → Tried (Stay Le s X i i) (FilledFrom Le s X i) (unlinked_at le X s i behind)
    unfolding unlinked_at
    unlinked_place {i} {behind} p t = at test refl
      where
        test : Bool
        test = leb i (length X) && same_exponent (simple_at X i).exponent (pos 0) && le (simple_at X i).base s

        parts : (test ≡ true) ↔ ((leb i (length X) ≡ true) × (same_exponent (simple_at X i).exponent (pos 0) ≡ true) × (le (simple_at X i).base s ≡ true))
        parts = and_iff₃ (leb i (length X)) (same_exponent (simple_at X i).exponent (pos 0)) (le (simple_at X i).base s)

        stay : test ≡ true → Vanish Le (stretch X (suc i) (suc (length X))) → Stay Le s X i i
        stay e v =
            record {
              fits = leb-true i (length X) (parts.0 e).0;
              is_plain = (same_exponent_iff (simple_at X i).exponent (pos 0)).0 (parts.0 e).1;
              below = (decides (simple_at X i).base s).0 (parts.0 e).2;
              before = rw (stretch_empty X i) empty;
              behind = v;
            }

        put : {o : Option (List ℕ)} → test ≡ true
            → Tried (Vanish Le (stretch X (suc i) (suc (length X)))) (Filled Le X (suc i) (suc (length X))) o
            → Tried (Stay Le s X i i) (FilledFrom Le s X i) (map (λ (A : List ℕ). i ∷ A) o)
        put e (missing n) = missing (λ t. n t.behind)
        put e (found {L = A} f) =
            found {L = i ∷ A} (record {
              size = omega (arith, f.size);
              greedy = λ P r. stays (reads_head r) (stay e (filled_vanish f (omega arith) (omega arith))) (f.greedy P (reads_tail r));
            })

        at : (b : Bool) → test ≡ b
            → Tried (Stay Le s X i i) (FilledFrom Le s X i) (cond b (map (λ (A : List ℕ). i ∷ A) behind) none)
        at true e = put e (t (leb-true i (length X) (parts.0 e).0))
        at false e =
            missing (λ t.
            false≢true
            (sym e
            ∙ parts.1 (
              le-leb i (length X) t.fits,
              (same_exponent_iff (simple_at X i).exponent (pos 0)).1 t.is_plain,
              (decides (simple_at X i).base s).1 t.below,
            )))

    -- `first_from` fills the string from i on, if it reduces.
    from_right : (d i : ℕ) → suc (length X) ≤ i + d → 1 ≤ i → Tried (ReducesFrom Le s X i) (FilledFrom Le s X i) (first_from le X s d i)
    unfolding first_from
    from_right zero i b p = missing (λ r. omega (arith, r.1, r.2.fits))
    from_right (suc d) i b p =
        from_step p (unlinked_place p (λ h. within_right d (suc i) (suc (length X)) (omega arith) (omega arith) (omega arith) (omega arith)))
        (search_right (λ k. linked_to le X i k (first_within le X d (suc i) k) (first_from le X s d (suc k))) (length X - i) (suc i) (suc (length X)) (omega arith)
        (λ k a c. linked_to_lem (within_right d (suc i) k (omega arith) (omega arith) a (omega arith)) (from_right d (suc k) (omega arith) (omega arith))))

-- What is said of the outcome of a search for the first linking: a linking that is at most every linking, or that there is none.
pub data FirstLinking (Le : Relation) (s : Basic) (X : PregroupType) : Option (List ℕ) → Type 0 where
  least : {P : List ℕ} → IsLinking Le s X P → ((Q : List ℕ) → IsLinking Le s X Q → AtMost P Q) → FirstLinking Le s X (some P)
  no_linking : ((P : List ℕ) → IsLinking Le s X P → ⊥) → FirstLinking Le s X none

first_of_filled : {Le : Relation} {s : Basic} {X : PregroupType} {o : Option (List ℕ)} → Tried (ReducesFrom Le s X 1) (FilledFrom Le s X 1) o → FirstLinking Le s X o
first_of_filled {X = X} (found {L = P} f) =
    let greedy = f.greedy P (reads_self P) in
    let n : length P ≡ length X = omega (arith, f.size) in
    least (linking_of_greedy n greedy) (greedy_at_most n greedy)
first_of_filled (missing n) = no_linking (λ P t. n (reduces_of_parted (linking_iff_parted.0 t).1 (omega arith)))

none_iff : {Le : Relation} {s : Basic} {X : PregroupType} {o : Option (List ℕ)} → FirstLinking Le s X o → (o ≡ none) ↔ ((P : List ℕ) → IsLinking Le s X P → ⊥)
none_iff (least {P = P} t f) = (λ e. absurd (some-ne-none P e), λ n. absurd (n P t))
none_iff (no_linking n) = (λ e. n, λ m. refl)

module _ {Le : Relation} {s : Basic} {X : PregroupType} {P : List ℕ} where
  some_least : FirstLinking Le s X (some P) → IsLinking Le s X P × ((Q : List ℕ) → IsLinking Le s X Q → AtMost P Q)
  some_least (least t f) = (t, f)

  -- At most one linking is at most every linking.
  unique :
      {o : Option (List ℕ)} → FirstLinking Le s X o → IsLinking Le s X P → ((Q : List ℕ) → IsLinking Le s X Q → AtMost P Q) → o ≡ some P
  unique (least {P = R} r f) t g = ap some (at_most_both (f P t) (g R r))
  unique (no_linking n) t g = absurd (n P t)

module _ {le : Test} {Le : Relation} (decides : Decides le Le) (s : Basic) (X : PregroupType) where
  pub first_linking_lem : FirstLinking Le s X (first_linking le s X)
  unfolding first_linking
  first_linking_lem = first_of_filled (from_right decides X s (length X) 1 (omega arith) (omega arith))

  -- What `first_linking` gives is a linking, and at most every linking.
  pub first_linking_some : {P : List ℕ} → first_linking le s X ≡ some P → IsLinking Le s X P × ((Q : List ℕ) → IsLinking Le s X Q → AtMost P Q)
  first_linking_some e = some_least (rw e at first_linking_lem)

  -- It gives none exactly when there is no linking.
  pub first_linking_none : (first_linking le s X ≡ none) ↔ ((P : List ℕ) → IsLinking Le s X P → ⊥)
  first_linking_none = none_iff first_linking_lem

  -- Any linking that is at most every linking is what it gives.
  pub first_linking_unique :
      {P : List ℕ} → IsLinking Le s X P → ((Q : List ℕ) → IsLinking Le s X Q → AtMost P Q) → first_linking le s X ≡ some P
  first_linking_unique t f = unique first_linking_lem t f

  -- A greedy partner list is what it gives.
  pub first_linking_greedy : {P : List ℕ} → length P ≡ length X → GreedyFrom Le s X P 1 → first_linking le s X ≡ some P
  first_linking_greedy n g = first_linking_unique (linking_of_greedy n g) (greedy_at_most n g)
