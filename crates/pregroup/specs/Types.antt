-- Document 01, "Types and steps": basic types, exponents, simple types, types, and the adjoints of source 003, section 2.1.
-- Neither exponents nor lengths have a limit here.
use Rattle.std.specs.Prelude.{ℕ, ◌%◌, Bool, List, [], ◌∷◌, ◌++◌, eqb, ℤ, pos, negsuc}
use Rattle.std.proofs.Math.IntN.{suc_ℤ, pred_ℤ}

-- A basic type is known by its number.
abbrev pub Basic : Type 0
Basic = ℕ

-- Whether a whole number is even. `negsuc n` is −(n + 1), so −1 and −3 are odd.
unfoldable pub even : ℤ → Bool
even (pos n) = eqb (n % 2) 0
even (negsuc n) = eqb (n % 2) 1

-- A simple type: a basic type with an exponent, any whole number.
pub record Simple : Type 0 where
  pub base : Basic
  pub exponent : ℤ

-- a ⁽ z ⁾ is the simple type that the papers write a^(z).
infix 80 ◌⁽◌⁾
abbrev pub ◌⁽◌⁾ : Basic → ℤ → Simple
a ⁽ z ⁾ = record { base = a; exponent = z }

-- A plain simple type: exponent 0.
abbrev pub plain : Basic → Simple
plain a = a ⁽ pos 0 ⁾

-- A type: a string of simple types. It may be empty.
abbrev pub PregroupType : Type 0
PregroupType = List Simple

-- The adjoints of a simple type: one exponent down (left), one up (right).
abbrev pub simple_left : Simple → Simple
simple_left x = x.base ⁽ pred_ℤ x.exponent ⁾

abbrev pub simple_right : Simple → Simple
simple_right x = x.base ⁽ suc_ℤ x.exponent ⁾

-- The string reversed, and f of each simple type.
unfoldable pub adjoint_by : (Simple → Simple) → PregroupType → PregroupType
adjoint_by f [] = []
adjoint_by f (x ∷ X) = adjoint_by f X ++ (f x ∷ [])

-- The adjoints of a type: the string reversed, and the adjoint of each simple type.
abbrev pub left_adjoint : PregroupType → PregroupType
left_adjoint X = adjoint_by simple_left X

abbrev pub right_adjoint : PregroupType → PregroupType
right_adjoint X = adjoint_by simple_right X
