-- What `given` comes to.
use Prim.Native.Nat.{ℕ, ◌≤◌, ◌<◌}
use native.Mathlib.Omega.{arith}
use mathlib.Core.Path.{◌≡◌, sym, ap, ◌∙◌}
use mathlib.Core.List.{List, ◌++◌}
use mathlib.Core.Option.{Option, some}
use lib.ListN.{length, drop}
use borrow.Author.Tests.{lt-ltb, le-ltb}
use Rattle.linking.specs.Reading.{Answer}
use Rattle.std.specs.Prelude.{Ok, Err}
use Rattle.figures.specs.Refusals.{Refused}
use Rattle.answer.specs.Answers.{LineAnswer, values_of, given, Gives}

-- An answer is no refusal.
pub read_refused : {C : Type 0} {n number value : ℕ} → Ok n ≡ Refused number value → C
read_refused e = let z : ◌≡◌ {A = ℕ} 0 1 = cc in absurd (omega arith)

-- The number of a refusal, and the value returned with it.
abbrev refusal_of : LineAnswer → ℕ × ℕ
refusal_of (Ok n) = (0, 0)
refusal_of (Err r) = (r.number, r.value)

-- Refusals that are the same have the same number and the same value.
pub refused_number : {m n v w : ℕ} → Refused {A = ℕ} m v ≡ Refused n w → m ≡ n
refused_number e = ap (λ (a : LineAnswer). (refusal_of a).0) e

pub refused_value : {m n v w : ℕ} → Refused {A = ℕ} m v ≡ Refused n w → v ≡ w
refused_value e = ap (λ (a : LineAnswer). (refusal_of a).1) e

module _ (before : List ℕ) where
  pub gives_short : {o : Option Answer} {a : Answer} {v : ℕ} → o ≡ some a → length (values_of a) ≡ v → length before < v → Gives (given o before) (Refused 16 v) before
  unfolding given
  gives_short {a = a} e n l =
      let k = lt-ltb (length before) (length (values_of a)) (omega arith) in
      record { returned = rw (e, k, n); left = rw (e, k) }

  pub gives_read : {o : Option Answer} {a : Answer} {v : ℕ} {after : List ℕ} → o ≡ some a → length (values_of a) ≡ v → v ≤ length before → after ≡ values_of a ++ drop v before
      → Gives (given o before) (Ok v) after
  unfolding given
  gives_read {a = a} e n l w =
      let k = le-ltb (length before) (length (values_of a)) (omega arith) in
      record { returned = rw (e, k, n); left = rw (e, k) (w ∙ ap (λ (j : ℕ). values_of a ++ drop j before) (sym n)) }
