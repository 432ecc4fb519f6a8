-- The decimal of a number: its last digit alone, or that of its tenth and then its last digit. A decimal spells its number and has no 0 in front of
-- it; how many digits it has at most.
use Prim.Native.Nat.{ℕ, zero, suc, ◌+◌, ◌-◌, ◌*◌, ◌/◌, ◌%◌, ◌^◌, ◌≤◌, ◌<◌}
use native.Mathlib.Omega.{arith}
use mathlib.Core.Path.{◌≡◌, refl, sym, ap, ◌∙◌}
use mathlib.Core.Logic.{◌⊎◌, inl, inr}
use mathlib.Core.Bool.{cond}
use mathlib.Core.List.{List, [], ◌∷◌, ◌++◌}
use lib.Dec.{ltb}
use lib.ListN.{length, get_or, length-append, get_or-append}
use borrow.Author.Tests.{lt-ltb, le-ltb}
use Rattle.bits.proofs.Cases.{less_or_not}
use Rattle.writing.specs.Decimal.{last_digits, decimal}
use Rattle.writing.specs.Placed.{Countable, Placed}
use Rattle.writing.proofs.Placing.{placed_append, countable_front, countable_back}

last_digits_small : (more n : ℕ) → n < 10 → last_digits (suc more) n ≡ (48 + n % 10) ∷ []
unfolding last_digits
last_digits_small more n h = rw (lt-ltb n 10 h)

last_digits_more : (more n : ℕ) → 10 ≤ n → last_digits (suc more) n ≡ last_digits more (n / 10) ++ ((48 + n % 10) ∷ [])
unfolding last_digits
last_digits_more more n h = rw (le-ltb n 10 h)

-- More digits than there are make no difference.
last_digits_enough : (j k n : ℕ) → n < j → n < k → last_digits j n ≡ last_digits k n
last_digits_enough zero k n hj hk = absurd (omega arith)
last_digits_enough (suc j) zero n hj hk = absurd (omega arith)
last_digits_enough (suc j) (suc k) n hj hk = by (λ h. last_digits_enough j k (n / 10) (omega arith) (omega arith)) (less_or_not n 10)
  where
    by : (10 ≤ n → last_digits j (n / 10) ≡ last_digits k (n / 10)) → (n < 10) ⊎ (10 ≤ n) → last_digits (suc j) n ≡ last_digits (suc k) n
    by same (inl h) = last_digits_small j n h ∙ sym (last_digits_small k n h)
    by same (inr h) =
        last_digits_more j n h
        ∙ ap (λ (front : List ℕ). front ++ ((48 + n % 10) ∷ [])) (same h)
        ∙ sym (last_digits_more k n h)

pub decimal_small : (n : ℕ) → n < 10 → decimal n ≡ (48 + n % 10) ∷ []
decimal_small n h = last_digits_small n n h

pub decimal_more : (n : ℕ) → 10 ≤ n → decimal n ≡ decimal (n / 10) ++ ((48 + n % 10) ∷ [])
decimal_more n h =
    last_digits_more n n h
    ∙ ap (λ (front : List ℕ). front ++ ((48 + n % 10) ∷ [])) (last_digits_enough n (suc (n / 10)) (n / 10) (omega arith) (omega arith))

pub decimal_length : (more n : ℕ) → n < 10 ^ suc more → length (decimal n) ≤ suc more
decimal_length zero n h = let small : n < 10 = omega arith in rw (decimal_small n small) (omega arith)
decimal_length (suc more) n h = by (λ big. decimal_length more (n / 10) (omega arith)) (less_or_not n 10)
  where
    by : (10 ≤ n → length (decimal (n / 10)) ≤ suc more) → (n < 10) ⊎ (10 ≤ n) → length (decimal n) ≤ suc (suc more)
    by front (inl small) = rw (decimal_small n small) (omega arith)
    by front (inr big) =
        rw (decimal_more n big) (omega (arith, length-append (decimal (n / 10)) ((48 + n % 10) ∷ []), front big))

-- A decimal is its front, which a number below ten has none of, and its last digit.
abbrev pub front_of : ℕ → List ℕ
front_of n = cond (ltb n 10) [] (decimal (n / 10))

pub decimal_parted : (n : ℕ) → decimal n ≡ front_of n ++ ((48 + n % 10) ∷ [])
decimal_parted n = by (less_or_not n 10)
  where
    by : (n < 10) ⊎ (10 ≤ n) → decimal n ≡ front_of n ++ ((48 + n % 10) ∷ [])
    by (inl small) = rw (lt-ltb n 10 small) (decimal_small n small)
    by (inr big) = rw (le-ltb n 10 big) (decimal_more n big)

module _ (n : ℕ) {at : ℕ} where
  pub front_countable : 10 ≤ n → Countable at (decimal n) → Countable at (decimal (n / 10))
  front_countable big h = countable_front ((48 + n % 10) ∷ []) (rw (decimal_more n big) at h)

  module _ {text middle : List ℕ} {last : ℕ} where
    pub front_more : 10 ≤ n → Placed text at (decimal (n / 10)) middle last → Placed text at (front_of n) middle last
    front_more big p = rw (le-ltb n 10 big) p

    pub last_countable : Placed text at (front_of n) middle last → (digit : ℕ) → Countable at (decimal n) → Countable last (digit ∷ [])
    last_countable front digit h = record { small = (countable_back {ys = (48 + n % 10) ∷ []} (rw (decimal_parted n) at h) front).small }

    pub decimal_placed : Placed text at (front_of n) middle last → {after : List ℕ} {behind digit : ℕ} → digit ≡ 48 + n % 10 → Placed middle last (digit ∷ []) after behind
        → Placed text at (decimal n) after behind
    decimal_placed front e end = rw (decimal_parted n, ← e) (placed_append front end)

  pub front_none : {text : List ℕ} → n < 10 → Placed text at (front_of n) text at
  front_none small = rw (lt-ltb n 10 small) (record { put = refl; next = omega arith })

-- A decimal read digit by digit, as a number that goes on from n.
unfoldable pub spelt : ℕ → List ℕ → ℕ
spelt n [] = n
spelt n (digit ∷ digits) = spelt (10 * n + (digit - 48)) digits

spelt_append : (n : ℕ) (xs ys : List ℕ) → spelt n (xs ++ ys) ≡ spelt (spelt n xs) ys
unfolding spelt
spelt_append n [] ys = refl
spelt_append n (x ∷ xs) ys = spelt_append (10 * n + (x - 48)) xs ys

-- A decimal spells its number ..
last_digits_spell : (most n : ℕ) → n < most → spelt 0 (last_digits most n) ≡ n
unfolding spelt
last_digits_spell zero n h = absurd (omega arith)
last_digits_spell (suc most) n h = by (λ big. last_digits_spell most (n / 10) (omega arith)) (less_or_not n 10)
  where
    by : (10 ≤ n → spelt 0 (last_digits most (n / 10)) ≡ n / 10) → (n < 10) ⊎ (10 ≤ n) → spelt 0 (last_digits (suc most) n) ≡ n
    by front (inl small) = rw (last_digits_small most n small) (omega arith)
    by front (inr big) =
        rw (last_digits_more most n big, spelt_append 0 (last_digits most (n / 10)) ((48 + n % 10) ∷ []), front big) (omega arith)

pub decimal_spells : (n : ℕ) → spelt 0 (decimal n) ≡ n
decimal_spells n = last_digits_spell (suc n) n (omega arith)

-- .. and begins with 0 only where that is 0.
last_digits_some : (most n : ℕ) → n < most → 1 ≤ length (last_digits most n)
unfolding last_digits
last_digits_some zero n h = absurd (omega arith)
last_digits_some (suc most) n h = omega (arith, length-append (cond (ltb n 10) [] (last_digits most (n / 10))) ((48 + n % 10) ∷ []))

last_digits_first : (most n : ℕ) → n < most → get_or {A = ℕ} (last_digits most n) 0 0 ≡ 48 → n ≡ 0
last_digits_first zero n h e = absurd (omega arith)
last_digits_first (suc most) n h e = by (λ big k. last_digits_first most (n / 10) (omega arith) k) (less_or_not n 10)
  where
    by : (10 ≤ n → get_or {A = ℕ} (last_digits most (n / 10)) 0 0 ≡ 48 → n / 10 ≡ 0) → (n < 10) ⊎ (10 ≤ n) → n ≡ 0
    by front (inl small) = let first = rw (last_digits_small most n small) at e in omega arith
    by front (inr big) =
        let some-digits : 0 < length (last_digits most (n / 10)) = last_digits_some most (n / 10) (omega arith) in
        let first = rw (last_digits_more most n big, get_or-append (last_digits most (n / 10)) ((48 + n % 10) ∷ []) 0 0 some-digits) at e in
        omega (arith, front big first)

pub decimal_first : (n : ℕ) → get_or {A = ℕ} (decimal n) 0 0 ≡ 48 → n ≡ 0
decimal_first n e = last_digits_first (suc n) n (omega arith) e
