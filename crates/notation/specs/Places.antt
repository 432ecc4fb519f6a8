-- A type at places of a list, one simple type a place, as the code holds it, and its adjoint made in place.
use Rattle.std.specs.Prelude.{ℕ, suc, ◌+◌, ◌-◌, ◌*◌, ◌≤◌, ◌<◌, ◌≡◌, List, length, get_or}
use Rattle.pregroup.specs.Types.{PregroupType, plain}
use Rattle.pregroup.specs.Held.{bias, held}
use Rattle.notation.specs.declared.adjoint.Side.{Side}
use Rattle.notation.specs.declared.adjoint.Side.TheVariants.{Left, Right}

-- The places from a place on hold a type.
pub record Holds (places : List ℕ) (from : ℕ) (X : PregroupType) : Type 0 where
  pub each : (k : ℕ) → k < length X → held (get_or {A = ℕ} places (from + k) 0) ≡ get_or X k (plain 0)

-- What is added to a held simple type to raise its exponent by one.
abbrev pub one : ℕ
one = 256

-- Its exponent can be moved by one.
pub record Movable (simple : ℕ) : Type 0 where
  pub low : one ≤ simple
  pub high : simple + one < 65536

-- A held simple type with its exponent one down (left) or up (right).
abbrev pub moved : Side → ℕ → ℕ
moved Left simple = simple - one
moved Right simple = simple + one

-- Held simple types can be turned, and are turned: reversed, with every exponent moved.
pub record Turnable (simples : List ℕ) : Type 0 where
  pub movable : (k : ℕ) → k < length simples → Movable (get_or {A = ℕ} simples k 0)

pub record Turned (side : Side) (simples simples' : List ℕ) : Type 0 where
  pub turned : (k : ℕ) → k < length simples → get_or {A = ℕ} simples' k 0 ≡ moved side (get_or {A = ℕ} simples (length simples - suc k) 0)

-- The exponents that a stretch of places holds are from −n to n.
pub record Tame (n : ℕ) (places : List ℕ) (from end : ℕ) : Type 0 where
  pub small : (k : ℕ) → from ≤ k → k < end → ((bias - n) * one ≤ get_or {A = ℕ} places k 0) × (get_or {A = ℕ} places k 0 < (bias + suc n) * one)
