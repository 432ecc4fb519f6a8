-- Partner lists compared position by position, and what that says of their order as lists: `at_most_of_compared`. The order has at most
-- one least list: `at_most_both`. Raising the first numbers of both lists changes nothing: `at_most_raised`.
use Prim.Native.Nat.{ℕ, zero, suc, ◌-◌, ◌≤◌, ◌<◌}
use mathlib.Core.Path.{◌≡◌, refl, sym, ap, subst, ◌∙◌}
use mathlib.Core.List.{List, [], ◌∷◌}
use native.Mathlib.Omega.{arith}
use native.Mathlib.Decide.{dec_lt}
use lib.ListN.{length, get_or}
use lib.Seq.{ext_get_or}
use Rattle.linking.specs.Linking.{partner, AtMost, equal, first, later}

-- From i up to j, P and Q are the same, or P is smaller at their first difference.
pub data Compared (P Q : List ℕ) (i j : ℕ) : Type 0 where
  same : ((m : ℕ) → i ≤ m → m < j → partner P m ≡ partner Q m) → Compared P Q i j
  smaller : (m : ℕ) → i ≤ m → m < j → ((l : ℕ) → i ≤ l → l < m → partner P l ≡ partner Q l) → partner P m < partner Q m → Compared P Q i j

-- What holds from i up to k and from k on up to j holds from i up to j.
joined : {A : ℕ → Type 0} {i k j : ℕ} → ((m : ℕ) → i ≤ m → m < k → A m) → ((m : ℕ) → k ≤ m → m < j → A m) → (m : ℕ) → i ≤ m → m < j → A m
joined {A} {i} {k} {j} f g m h b = at (dec_lt m k)
  where
    at : Dec (m < k) → A m
    at (yes c) = f m h c
    at (no c) = g m (omega arith) b

module _ {P Q : List ℕ} where
  pub compared_append : {i k j : ℕ} → i ≤ k → k ≤ j → Compared P Q i k → Compared P Q k j → Compared P Q i j
  compared_append a b (same f) (same g) = same (joined f g)
  compared_append a b (same f) (smaller m h c g l) = smaller m (omega arith) c (joined f g) l
  compared_append a b (smaller m h c f l) d = smaller m h (omega arith) f l

  pub compared_one : {i : ℕ} → partner P i ≡ partner Q i → Compared P Q i (suc i)
  compared_one {i} e = same (λ m h b. let k : m ≡ i = omega arith in rw k e)

  pub compared_less : {i j : ℕ} → i < j → partner P i < partner Q i → Compared P Q i j
  compared_less {i} h l = smaller i (omega arith) h (λ m a b. absurd (omega arith)) l

  -- Both link i to k: what stands between and behind decides.
  pub compared_link :
      {i k j : ℕ} → i < k → k < j → partner P i ≡ partner Q i → partner P k ≡ partner Q k → Compared P Q (suc i) k → Compared P Q (suc k) j
      → Compared P Q i j
  compared_link h b e f c d =
      compared_append (omega arith) (omega arith) (compared_one e)
      (compared_append h (omega arith) c (compared_append (omega arith) b (compared_one f) d))

  pub compared_none : {i j : ℕ} → i ≡ j → Compared P Q i j
  compared_none e = same (λ m h b. absurd (omega arith))

-- Smaller at the first difference, by its index.
at_most_at :
    (P Q : List ℕ) (m : ℕ) → m < length P → m < length Q → ((l : ℕ) → l < m → get_or P l 0 ≡ get_or Q l 0) → get_or P m 0 < get_or Q m 0 → AtMost P Q
at_most_at [] Q m a b f h = absurd (omega arith)
at_most_at (x ∷ P) [] m a b f h = absurd (omega arith)
at_most_at (x ∷ P) (y ∷ Q) zero a b f h = first h
at_most_at (x ∷ P) (y ∷ Q) (suc m) a b f h =
    let e : x ≡ y = f 0 (omega arith) in
    rw e (later (at_most_at P Q m (omega arith) (omega arith) (λ l c. f (suc l) (omega arith)) h))

-- Lists of one length, compared from the first position to the last.
pub at_most_of_compared : (P Q : List ℕ) (n : ℕ) → length P ≡ n → length Q ≡ n → Compared P Q 1 (suc n) → AtMost P Q
at_most_of_compared P Q n p q (same f) =
    subst (AtMost P) (ext_get_or 0 P Q (p ∙ sym q) (λ i h. let e : suc i - 1 ≡ i = omega arith in rw e at (f (suc i) (omega arith) (omega arith)))) equal
at_most_of_compared P Q n p q (smaller m h b f l) =
    at_most_at P Q (m - 1) (omega arith) (omega arith) (λ i c. let e : suc i - 1 ≡ i = omega arith in rw e at (f (suc i) (omega arith) (omega arith))) l

-- Lists that are each at most the other are the same.
both : {P Q R S : List ℕ} → AtMost P Q → AtMost R S → Q ≡ R → P ≡ S → P ≡ Q
both equal k e f = refl
both (first h) equal e f = f ∙ sym e
both (later h) equal e f = f ∙ sym e
both (first {a} {b} h) (first {a = c} {b = d} g) e f = let x : b ≡ c = cc in let y : a ≡ d = cc in absurd (omega arith)
both (first {a} {b} h) (later {a = c} g) e f = let x : b ≡ c = cc in let y : a ≡ c = cc in absurd (omega arith)
both (later {a} h) (first {a = c} {b = d} g) e f = let x : a ≡ c = cc in let y : a ≡ d = cc in absurd (omega arith)
both (later {a} h) (later g) e f = ap (λ (l : List ℕ). a ∷ l) (both h g (cc) (cc))

pub at_most_both : {P Q : List ℕ} → AtMost P Q → AtMost Q P → P ≡ Q
at_most_both h g = both h g refl refl

-- The first numbers both raised by one.
pub at_most_raised : {t u : ℕ} {A B : List ℕ} → AtMost (t ∷ A) (u ∷ B) → AtMost (suc t ∷ A) (suc u ∷ B)
at_most_raised equal = equal
at_most_raised {t} {u} (first l) = first {a = suc t} {b = suc u} (omega arith)
at_most_raised (later m) = later m
