-- The tests on bytes, by the facts that decide them.
use Prim.Native.Nat.{ℕ, ◌-◌, ◌≤◌, ◌<◌}
use native.Mathlib.Omega.{arith}
use native.Mathlib.Decide.{dec_lt}
use mathlib.Core.Path.{◌≡◌, refl}
use mathlib.Core.Bool.{Bool, true, false}
use mathlib.Core.List.{List, [], ◌∷◌}
use Rattle.std.specs.List.{list_all}
use Rattle.format.specs.Records.{every}
use borrow.Author.Tests.{le-leb, lt-leb, lt-ltb, le-ltb}
use Rattle.rules.specs.Layouts.{exponent_of}
use Rattle.rules.specs.Rules.{exponent_listed}

pub exponent_up : (byte : ℕ) → byte ≤ 8 → true ≡ exponent_listed (exponent_of byte)
unfolding exponent_listed exponent_of
exponent_up byte h = rw (lt-ltb byte 128 (omega arith), le-leb byte 8 h)

pub exponent_down : (byte : ℕ) → 248 ≤ byte → true ≡ exponent_listed (exponent_of byte)
unfolding exponent_listed exponent_of
exponent_down byte h = rw (le-ltb byte 128 (omega arith), lt-ltb (255 - byte) 8 (omega arith))

pub exponent_no : (byte : ℕ) → 8 < byte → byte < 248 → false ≡ exponent_listed (exponent_of byte)
unfolding exponent_listed exponent_of
exponent_no byte h k = go (dec_lt byte 128)
  where
    go : Dec (byte < 128) → false ≡ exponent_listed (exponent_of byte)
    go (yes l) = rw (lt-ltb byte 128 l, lt-leb byte 8 h)
    go (no n) = rw (le-ltb byte 128 (omega (arith, n)), le-ltb (255 - byte) 8 (omega arith))

-- The library's test of all elements is that of the specifications.
pub all_every : {A : Type 0} (test : A → Bool) (xs : List A) → list_all test xs ≡ every test xs
unfolding every
all_every test [] = refl
all_every test (x ∷ xs) = rw (all_every test xs)
