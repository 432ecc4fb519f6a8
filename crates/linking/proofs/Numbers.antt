-- Numbers by cases: where one stands to another, and what a search over them finds.
use Prim.Native.Nat.{ℕ, zero, suc, ◌-◌, ◌≤◌, ◌<◌}
use mathlib.Core.Path.{◌≡◌}
use mathlib.Core.List.{List}
use mathlib.Core.Option.{Option, none, some}
use native.Mathlib.Omega.{arith}
use native.Mathlib.Decide.{dec_lt, ℕ_discrete}
use Rattle.linking.specs.Linking.{first_some}

-- Where m stands to k.
pub data Placed (m k : ℕ) : Type 0 where
  under : m < k → Placed m k
  same : m ≡ k → Placed m k
  over : k < m → Placed m k

pub placed : (m k : ℕ) → Placed m k
placed m k = below (dec_lt m k)
  where
    rest : ¬ (m < k) → Dec (m ≡ k) → Placed m k
    rest h (yes e) = same e
    rest h (no n) = over (omega arith)

    below : Dec (m < k) → Placed m k
    below (yes h) = under h
    below (no h) = rest h (ℕ_discrete m k)

-- What a search comes to: a list with a property, or that what it looks for is not there.
pub data Tried (There : Type 0) (Is : List ℕ → Type 0) : Option (List ℕ) → Type 0 where
  found : {L : List ℕ} → Is L → Tried There Is (some L)
  missing : (There → ⊥) → Tried There Is none

-- Some number from k up to j is good.
abbrev pub SomeGood : (ℕ → Type 0) → ℕ → ℕ → Type 0
SomeGood Good k j = (m : ℕ) × (k ≤ m) × (m < j) × Good m

-- L is what the first good number from k up to j gives.
pub record FirstOf (Good : ℕ → Type 0) (Is : ℕ → List ℕ → Type 0) (k j : ℕ) (L : List ℕ) : Type 0 where
  pub number : ℕ
  pub from_on : k ≤ number
  pub before : number < j
  pub is : Is number L
  pub none_earlier : (l : ℕ) → k ≤ l → l < number → Good l → ⊥

none_more :
    {Good : ℕ → Type 0} {k m : ℕ} → (Good k → ⊥) → ((l : ℕ) → suc k ≤ l → l < m → Good l → ⊥) → (l : ℕ) → k ≤ l → l < m → Good l → ⊥
none_more {Good} {k} {m} bad f l c d = at (placed l k)
  where
    at : Placed l k → Good l → ⊥
    at (under h) g = absurd (omega arith)
    at (same h) g = bad (rw h at g)
    at (over h) g = f l h d g

module _ {Good : ℕ → Type 0} {Is : ℕ → List ℕ → Type 0} where
  search_step :
      {k j : ℕ} {o r : Option (List ℕ)} → k < j → Tried (Good k) (Is k) o → Tried (SomeGood Good (suc k) j) (FirstOf Good Is (suc k) j) r
      → Tried (SomeGood Good k j) (FirstOf Good Is k j) (elim o [ none ↦ r | some P ↦ some P ])
  search_step {k} h (found p) t = found (record { number = k; from_on = omega arith; before = h; is = p; none_earlier = λ l c d. absurd (omega arith) })
  search_step h (missing n) (found f) =
      found (record { number = f.number; from_on = omega (arith, f.from_on); before = f.before; is = f.is; none_earlier = none_more n f.none_earlier })
  search_step h (missing n) (missing m) = missing (λ t. none_more n (λ l c d g. m (l, c, d, g)) t.0 t.1 t.2 t.3)

  -- `first_some` gives what the first good number gives, if f does so for each.
  pub search_right :
      (f : ℕ → Option (List ℕ)) (d k j : ℕ) → j - k ≡ d → ((m : ℕ) → k ≤ m → m < j → Tried (Good m) (Is m) (f m))
      → Tried (SomeGood Good k j) (FirstOf Good Is k j) (first_some f d k)
  unfolding first_some
  search_right f zero k j e t = missing (λ g. omega (arith, g.1, g.2))
  search_right f (suc d) k j e t =
      search_step (omega arith) (t k (omega arith) (omega arith)) (search_right f d (suc k) j (omega arith) (λ m c b. t m (omega arith) b))
