-- The tests on bytes, by the facts that decide them.
use Prim.Native.Nat.{ℕ, ◌≤◌}
use native.Mathlib.Omega.{arith}
use native.Mathlib.Decide.{dec_le}
use mathlib.Core.Path.{◌≡◌, refl}
use mathlib.Core.Bool.{Bool, true, false, ◌&&◌, false≢true}
use borrow.Author.Tests.{le-leb, lt-leb}
use Rattle.format.specs.Records.{between}

pub and_true : (b : Bool) → b && true ≡ b
and_true true = refl
and_true false = refl

pub and_false : (b : Bool) → b && false ≡ false
and_false true = refl
and_false false = refl

pub both : (a b : Bool) → a && b ≡ true → (a ≡ true) × (b ≡ true)
both true b h = (refl, h)
both false b h = (h, absurd (false≢true h))

pub inside : (low high byte : ℕ) → (low ≤ byte) × (byte ≤ high) → between low high byte ≡ true
inside low high byte h = rw (le-leb low byte h.0, le-leb byte high h.1)

pub outside : (low high byte : ℕ) → (low ≤ byte → byte ≤ high → ⊥) → between low high byte ≡ false
outside low high byte never = go (dec_le low byte)
  where
    go : Dec (low ≤ byte) → between low high byte ≡ false
    go (yes l) = rw (le-leb low byte l, lt-leb byte high (omega (arith, never l)))
    go (no n) = rw (lt-leb low byte (omega (arith, n)))
