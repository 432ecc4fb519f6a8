-- Facts about exponents and adjoints, each for every exponent together: parity turns with each step, steps up and down undo each other,
-- no exponent is its own second successor, and the adjoints of a type undo each other and turn its parts round.
use Prim.Native.Nat.{ℕ, zero, suc, ◌%◌, ◌≤◌}
use native.Mathlib.Omega.{arith}
use native.Mathlib.Decide.{ℕ_discrete}
use mathlib.Core.Path.{◌≡◌, refl, sym, ap, ◌∙◌}
use mathlib.Core.Bool.{not}
use mathlib.Core.List.{[], ◌∷◌, ◌++◌, append-nil, append_assoc}
use lib.Dec.{eqb}
use borrow.Author.Tests.{eq-eqb, ne_eqb}
use lib.IntN.{ℤ, pos, negsuc, suc_ℤ, pred_ℤ, suc-pred, pred-suc}
use Rattle.pregroup.specs.Types.{Simple, PregroupType, ◌⁽◌⁾, even, simple_left, simple_right, adjoint_by, left_adjoint, right_adjoint}

-- Two different numbers below 2: one is k exactly when the other is not.
turn : (a b k : ℕ) → a ≤ 1 → b ≤ 1 → k ≤ 1 → (a ≡ b → ⊥) → eqb a k ≡ not (eqb b k)
turn a b k ha hb hk apart = go (ℕ_discrete b k)
  where
    go : Dec (b ≡ k) → eqb a k ≡ not (eqb b k)
    go (yes e) = rw (eq-eqb b k e, ne_eqb a k (λ h. apart (h ∙ sym e)))
    go (no n) =
        let h : a ≡ k = omega (arith, n, apart) in
        rw (ne_eqb b k n, eq-eqb a k h)

pub even_suc : (z : ℤ) → even (suc_ℤ z) ≡ not (even z)
unfolding even
even_suc (pos n) = turn (suc n % 2) (n % 2) 0 (omega arith) (omega arith) (omega arith) (omega arith)
even_suc (negsuc zero) = refl
even_suc (negsuc (suc n)) = turn (n % 2) (suc n % 2) 1 (omega arith) (omega arith) (omega arith) (omega arith)

pub suc_injective : (y z : ℤ) → suc_ℤ y ≡ suc_ℤ z → y ≡ z
suc_injective y z e = sym (pred-suc y) ∙ ap pred_ℤ e ∙ pred-suc z

pub not_own_second : (z : ℤ) → z ≡ suc_ℤ (suc_ℤ z) → ⊥
not_own_second (pos n) e = let h : n ≡ suc (suc n) = cc in omega arith
not_own_second (negsuc zero) e = let h : ◌≡◌ {A = ℕ} 0 1 = cc in omega arith
not_own_second (negsuc (suc zero)) e = let h : ◌≡◌ {A = ℕ} 0 1 = cc in omega arith
not_own_second (negsuc (suc (suc n))) e = let h : suc (suc n) ≡ n = cc in omega arith

-- The adjoint of a joined string is the adjoints of its parts, joined the other way round.
pub adjoint_append : (f : Simple → Simple) (X Y : PregroupType) → adjoint_by f (X ++ Y) ≡ adjoint_by f Y ++ adjoint_by f X
unfolding adjoint_by
adjoint_append f [] Y = sym (append-nil (adjoint_by f Y))
adjoint_append f (x ∷ X) Y = rw (adjoint_append f X Y, append_assoc)

-- Where g undoes f, the adjoint by g undoes the adjoint by f.
adjoint_undone :
    (f g : Simple → Simple) → ((x : Simple) → g (f x) ≡ x) → (X : PregroupType) → adjoint_by g (adjoint_by f X) ≡ X
unfolding adjoint_by
adjoint_undone f g undo [] = refl
adjoint_undone f g undo (x ∷ X) = rw (adjoint_append g (adjoint_by f X) (f x ∷ []), undo x, adjoint_undone f g undo X)

pub left_of_right : (X : PregroupType) → left_adjoint (right_adjoint X) ≡ X
left_of_right = adjoint_undone simple_right simple_left (λ x i. x.base ⁽ pred-suc x.exponent i ⁾)

pub right_of_left : (X : PregroupType) → right_adjoint (left_adjoint X) ≡ X
right_of_left = adjoint_undone simple_left simple_right (λ x i. x.base ⁽ suc-pred x.exponent i ⁾)
