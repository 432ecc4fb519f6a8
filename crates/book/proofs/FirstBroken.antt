-- The table of rules by what it says of a record: it breaks none, or the number found is that of a rule that it breaks, and the first in the order of rules.
use Prim.Native.Nat.{ℕ, suc, ◌≤◌, ◌<◌}
use native.Mathlib.Omega.{arith}
use mathlib.Core.Path.{◌≡◌, refl, sym, ap, subst, ◌∙◌}
use mathlib.Core.Logic.{inl, inr, ⊎_elim}
use mathlib.Core.Bool.{Bool, true, false, cond, ◌&&◌, ◌||◌, true≢false}
use mathlib.Core.List.Memᴰ
use mathlib.Core.List.{List, [], ◌∷◌, Memᴰ}
use lib.Dec.{leb, eqb}
use lib.ListN.{length, get_or}
use borrow.Author.Tests.{leb-true, eqb-true}
use Rattle.figures.specs.Refusals.{no_target, brackets_too_deep, type_too_long}
use Rattle.format.specs.Records.{Bytes, between, kind_at, body_at}
use Rattle.format.proofs.Bools.{both}
use Rattle.rules.specs.Layouts.{Kind, basic_type, order_pair, entry, target, slashed_entry}
use Rattle.rules.specs.Rules.{kind_rules, record_rules, first_broken}
use Rattle.rules.proofs.KindLaws.{any_rules}
use Rattle.book.specs.Format.{Book, next_rules}
use Rattle.book.specs.Kept.{next_fault}
use Rattle.book.specs.Check.{Breaks, rule_order, place_in, BookNumber}

abbrev place : ℕ → ℕ
place n = place_in rule_order n

-- A number that a book is refused with, and that stands in the order of rules at this place or behind it.
abbrev standing : ℕ → ℕ → Bool
standing k n = (between 1 no_target n || between brackets_too_deep type_too_long n) && (leb k (place n) && eqb (get_or {A = ℕ} rule_order (place n) 0) n)

-- The rules stand one behind the other as in that order, none before this place.
abbrev in_order : ℕ → List (ℕ × Bool) → Bool
in_order k [] = true
in_order k (rule ∷ rules) = standing k rule.0 && in_order (suc (place rule.0)) rules

-- The rule with this number is broken.
abbrev Broken : List (ℕ × Bool) → ℕ → Type 0
Broken rules n = Memᴰ (n, true) rules

-- What the number of a broken rule is, and where it stands.
record Behind (k n : ℕ) : Type 0 where
  number : BookNumber n
  behind : k ≤ place n
  there : get_or {A = ℕ} rule_order (place n) 0 ≡ n

book_number : (n : ℕ) → between 1 no_target n || between brackets_too_deep type_too_long n ≡ true → BookNumber n
book_number n e = go (between 1 no_target n) refl e
  where
    go : (low : Bool) → between 1 no_target n ≡ low → low || between brackets_too_deep type_too_long n ≡ true → BookNumber n
    go true h e = let t = both _ _ h in inl (leb-true _ _ t.0, leb-true _ _ t.1)
    go false h e = let t = both _ _ e in inr (leb-true _ _ t.0, leb-true _ _ t.1)

pub number_positive : {n : ℕ} → BookNumber n → 0 < n
number_positive b = ⊎_elim (λ h. h.0) (λ h. omega arith) b

standing_behind : (k n : ℕ) → standing k n ≡ true → Behind k n
standing_behind k n e =
    let t = both (between 1 no_target n || between brackets_too_deep type_too_long n) (leb k (place n) && eqb (get_or {A = ℕ} rule_order (place n) 0) n) e in
    let u = both (leb k (place n)) (eqb (get_or {A = ℕ} rule_order (place n) 0) n) t.1 in
    record { number = book_number n t.0; behind = leb-true k (place n) u.0; there = eqb-true (get_or {A = ℕ} rule_order (place n) 0) n u.1 }

broken_behind : (k : ℕ) (rules : List (ℕ × Bool)) → in_order k rules ≡ true → (n : ℕ) → Broken rules n → Behind k n
broken_behind k [] o n b = absurd (Memᴰ.not-nil b)
broken_behind k (rule ∷ rules) o n b =
    let t = both (standing k rule.0) (in_order (suc (place rule.0)) rules) o in
    let first = standing_behind k rule.0 t.0 in
    let rest = broken_behind (suc (place rule.0)) rules t.1 n in
    ⊎_elim (λ (e : (n, true) ≡ rule). subst (Behind k) (sym (ap (λ (r : ℕ × Bool). r.0) e)) first)
    (λ l. let h = rest l in record { number = h.number; behind = omega (arith, h.behind, first.behind); there = h.there }) (Memᴰ.cases_cons b)

-- What the first broken rule's number says.
pub data Decided (rules : List (ℕ × Bool)) (n : ℕ) : Type 0 where
  clean : n ≡ 0 → ((m : ℕ) → Broken rules m → ⊥) → Decided rules n
  broken : 0 < n → Broken rules n → ((m : ℕ) → Broken rules m → place_in rule_order n ≤ place_in rule_order m) → Decided rules n

decided_more : (n : ℕ) (fires : Bool) (rules : List (ℕ × Bool)) (first : ℕ) → 0 < n → ((m : ℕ) → Broken rules m → place n ≤ place m) → Decided rules first
    → Decided ((n, fires) ∷ rules) (cond fires n first)
decided_more n true rules first some above t =
    broken some (Memᴰ.head refl)
    (λ m b. ⊎_elim (λ e. let same : place m ≡ place n = ap (λ (r : ℕ × Bool). place r.0) e in omega arith) (λ l. above m l) (Memᴰ.cases_cons b))
decided_more n false rules first some above (clean e never) =
    clean e (λ m b. ⊎_elim (λ q. true≢false (ap (λ (r : ℕ × Bool). r.1) q)) (λ l. never m l) (Memᴰ.cases_cons b))
decided_more n false rules first some above (broken s b least) =
    broken s (Memᴰ.tail b) (λ m c. ⊎_elim (λ q. absurd (true≢false (ap (λ (r : ℕ × Bool). r.1) q))) (λ l. least m l) (Memᴰ.cases_cons c))

decided : (k : ℕ) (rules : List (ℕ × Bool)) → in_order k rules ≡ true → Decided rules (first_broken rules)
unfolding first_broken
decided k [] o = clean refl (λ m b. absurd (Memᴰ.not-nil b))
decided k (rule ∷ rules) o =
    let t = both (standing k rule.0) (in_order (suc (place rule.0)) rules) o in
    decided_more rule.0 rule.1 rules (first_broken rules) (number_positive (standing_behind k rule.0 t.0).number)
    (λ m b. omega (arith, (broken_behind (suc (place rule.0)) rules t.1 m b).behind)) (decided (suc (place rule.0)) rules t.1)

-- The rules for each kind are in order ..
kind_in_order : (kind : Kind) (body : Bytes) (names : List Bytes) (entries targets : ℕ) → in_order 1 (kind_rules kind body names entries targets) ≡ true
unfolding place_in
kind_in_order basic_type body names entries targets = refl
kind_in_order order_pair body names entries targets = refl
kind_in_order entry body names entries targets = refl
kind_in_order target body names entries targets = refl
kind_in_order slashed_entry body names entries targets = refl

module _ (bytes : Bytes) (at : ℕ) (B : Book) where
  -- .. so all rules for a record are.
  rules_in_order : in_order 0 (next_rules bytes at B) ≡ true
  unfolding record_rules place_in
  rules_in_order =
      any_rules (λ rules. in_order 1 rules ≡ true) (kind_at bytes at) (body_at bytes at) B.names (length B.entries) (length B.targets) refl
      (λ kind e. kind_in_order kind (body_at bytes at) B.names (length B.entries) (length B.targets))

  behind : (n : ℕ) → Breaks bytes at B n → Behind 0 n
  behind n b = broken_behind 0 (next_rules bytes at B) rules_in_order n b

  pub fault_decided : Decided (next_rules bytes at B) (next_fault bytes at B)
  fault_decided = decided 0 (next_rules bytes at B) rules_in_order

  -- No fault, no rule broken, and the other way round.
  pub fault_none : next_fault bytes at B ≡ 0 → (n : ℕ) → Breaks bytes at B n → ⊥
  fault_none e n b = go (next_fault bytes at B) e fault_decided
    where
      go : (m : ℕ) → m ≡ 0 → Decided (next_rules bytes at B) m → ⊥
      go m z (clean q never) = never n b
      go m z (broken some c least) = omega arith

  pub fault_clean : ((n : ℕ) → Breaks bytes at B n → ⊥) → next_fault bytes at B ≡ 0
  fault_clean never = go (next_fault bytes at B) fault_decided
    where
      go : (m : ℕ) → Decided (next_rules bytes at B) m → m ≡ 0
      go m (clean q none) = q
      go m (broken some c first) = absurd (never m c)

  pub fault_first : (n : ℕ) → Breaks bytes at B n → ((m : ℕ) → Breaks bytes at B m → place_in rule_order n ≤ place_in rule_order m) → next_fault bytes at B ≡ n
  fault_first n b least = go (next_fault bytes at B) fault_decided
    where
      go : (m : ℕ) → Decided (next_rules bytes at B) m → m ≡ n
      go m (clean q never) = absurd (never n b)
      go m (broken some c first) =
          let same : place m ≡ place n = omega (arith, least m c, first n b) in
          sym (behind m c).there ∙ ap (λ (i : ℕ). get_or {A = ℕ} rule_order i 0) same ∙ (behind n b).there

  pub breaks_number : (n : ℕ) → Breaks bytes at B n → BookNumber n
  breaks_number n b = (behind n b).number
