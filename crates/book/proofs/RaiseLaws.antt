-- An exponent's byte, raised by the bias, is held as that exponent; and every exponent of a listed type is listed.
use Prim.Native.Nat.{ℕ, zero, suc, ◌+◌, ◌-◌, ◌*◌, ◌%◌, ◌≤◌, ◌<◌}
use native.Mathlib.Omega.{arith}
use native.Mathlib.Decide.{dec_lt}
use mathlib.Core.Path.{◌≡◌, refl, sym, ap, ◌∙◌}
use mathlib.Core.Bool.{Bool, true, false, cond, false≢true}
use lib.Dec.{ltb}
use lib.IntN.{pos, negsuc, ◌-ℤ◌}
use lib.ListN.{length, get_or, drop}
use borrow.Author.Tests.{lt-ltb, le-ltb, ltb-true}
use Rattle.pregroup.specs.Types.{Simple}
use Rattle.pregroup.specs.Held.{bias}
use Rattle.format.specs.Records.{Bytes, every}
use Rattle.rules.specs.Layouts.{exponent_of, simples_of}
use Rattle.rules.specs.Rules.{exponents, exponent_listed}
use Rattle.rules.proofs.Simples.{simple_from, simples_stop, simples_pass}

plain : (e : ℕ) → pos (e + 8) -ℤ pos bias ≡ pos e
plain e =
    ap (λ (t : Bool). cond t (negsuc (8 - suc (e + 8))) (pos (e + 8 - 8))) (le-ltb (e + 8) 8 (omega arith)) ∙ ap (λ (n : ℕ). pos n) same
  where
    same : e + 8 - 8 ≡ e
    same = omega arith

pub raise_low : (e : ℕ) → e < 248 → exponent_listed (exponent_of e) ≡ true → pos (e + 8) -ℤ pos bias ≡ exponent_of e
unfolding exponent_of exponent_listed
raise_low e h listed = go (dec_lt e 128)
  where
    go : Dec (e < 128) → pos (e + 8) -ℤ pos bias ≡ cond (ltb e 128) (pos e) (negsuc (255 - e))
    go (yes low) = rw (lt-ltb e 128 low) (plain e)
    go (no high) =
        let t : exponent_listed (cond false (pos e) (negsuc (255 - e))) ≡ true = rw (le-ltb e 128 (omega (arith, high))) at listed in
        let u : 255 - e < 8 = ltb-true (255 - e) 8 t in
        absurd (omega (arith, u))

pub raise_high : (e : ℕ) → 248 ≤ e → e < 256 → pos (e - 248) -ℤ pos bias ≡ exponent_of e
unfolding exponent_of
raise_high e h k =
    ap (λ (t : Bool). cond t (negsuc (8 - suc (e - 248))) (pos (e - 248 - 8))) (lt-ltb (e - 248) 8 (omega arith))
    ∙ ap (λ (n : ℕ). negsuc n) same
    ∙ sym (ap (λ (t : Bool). cond t (pos e) (negsuc (255 - e))) (le-ltb e 128 (omega arith)))
  where
    same : 8 - suc (e - 248) ≡ 255 - e
    same = omega arith

module _ (part : Bytes) (pairs : length part % 2 ≡ 0) (listed : every exponent_listed (exponents (simples_of part)) ≡ true) where
  abbrev test_at : ℕ → Bool
  test_at i = exponent_listed (simple_from part i).exponent

  abbrev rest : ℕ → Bool
  rest i = every exponent_listed (exponents (simples_of (drop i part)))

  -- All exponents from the k-th simple type on.
  listed_from : (k : ℕ) → 2 * k ≤ length part → rest (2 * k) ≡ true
  listed_from zero h = listed
  listed_from (suc k) h = go (listed_from k (omega arith)) (test_at (2 * k)) refl
    where
      next : 2 * k + 2 ≡ 2 * suc k
      next = omega arith

      go : rest (2 * k) ≡ true → (t : Bool) → test_at (2 * k) ≡ t → rest (2 * suc k) ≡ true
      go all true e =
          ap rest (sym next) ∙ sym (simples_pass (λ (x : Simple). x.exponent) exponent_listed part (2 * k) (omega arith) e) ∙ all
      go all false e =
          absurd (false≢true (sym (simples_stop (λ (x : Simple). x.exponent) exponent_listed part (2 * k) (omega arith) e) ∙ all))

  pub listed_at : (k : ℕ) → 2 * k + 1 < length part → exponent_listed (exponent_of (get_or {A = ℕ} part (2 * k + 1) 0)) ≡ true
  listed_at k h = go (test_at (2 * k)) refl
    where
      go : (t : Bool) → test_at (2 * k) ≡ t → test_at (2 * k) ≡ true
      go true e = e
      go false e =
          absurd
          (false≢true
          (sym (simples_stop (λ (x : Simple). x.exponent) exponent_listed part (2 * k) (omega arith) e) ∙ listed_from k (omega arith)))
