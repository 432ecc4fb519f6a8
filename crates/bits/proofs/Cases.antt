-- Cases that many proofs go by: of two numbers, of a test, and of what is found or not.
use Prim.Native.Nat.{ℕ, ◌≤◌, ◌<◌}
use native.Mathlib.Decide.{dec_lt, ℕ_discrete}
use native.Mathlib.Omega.{arith}
use mathlib.Core.Path.{◌≡◌}
use mathlib.Core.Logic.{◌↔◌, ◌⊎◌, inl, inr}
use mathlib.Core.Bool.{true, false, false≢true}
use mathlib.Core.Option.{Option, none, some}

-- A number is below another or not, and is another or not.
pub less_or_not : (a b : ℕ) → (a < b) ⊎ (b ≤ a)
less_or_not a b = of (dec_lt a b)
  where
    of : Dec (a < b) → (a < b) ⊎ (b ≤ a)
    of (yes h) = inl h
    of (no h) = inr (omega arith)

pub same_or_not : (a b : ℕ) → (a ≡ b) ⊎ (a ≡ b → ⊥)
same_or_not a b = of (ℕ_discrete a b)
  where
    of : Dec (a ≡ b) → (a ≡ b) ⊎ (a ≡ b → ⊥)
    of (yes h) = inl h
    of (no h) = inr h

-- A `false` that is right to say no.
pub false_iff : {A : Type 0} → (A → ⊥) → (false ≡ true) ↔ A
false_iff never = (λ h. absurd (false≢true h), λ a. absurd (never a))

-- What is found is one thing, and nothing is none.
pub some_same : {A : Type 0} {x y : A} → ◌≡◌ {A = Option A} (some x) (some y) → x ≡ y
some_same e = cc

pub none_some : {A C : Type 0} {x : A} → ◌≡◌ {A = Option A} none (some x) → C
none_some e = let z : ◌≡◌ {A = ℕ} 0 1 = cc in absurd (omega arith)
