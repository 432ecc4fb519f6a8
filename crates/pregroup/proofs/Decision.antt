-- The tests of specs/Tests are right: over a test that decides the order, `contracts` decides which simple types could contract, and
-- `vanishes` decides what vanishes. `closes` searches the machine's runs.
use mathlib.Core.Path.{◌≡◌, refl, ap}
use mathlib.Core.Logic.{◌↔◌, ◌⊎◌, inl, inr, ⊎_elim}
use mathlib.Core.Bool.{Bool, true, false, cond, ◌&&◌, false≢true}
use mathlib.Core.List.{[], ◌∷◌}
use borrow.Author.Tests.{eqb-true, eq-eqb}
use lib.IntN.{ℤ, pos, negsuc, suc_ℤ}
use Rattle.pregroup.specs.Types.{Basic, Simple, PregroupType, even}
use Rattle.pregroup.specs.Order.{Relation, Turned}
use Rattle.pregroup.specs.Vanish.{Contracts, Vanish}
use Rattle.pregroup.specs.Tests.{Test, Decides, same_exponent, contracts, closes, vanishes}
use Rattle.pregroup.proofs.Machine.{Run, stop, put, close, vanish_iff_run}

pub same_exponent_iff : (y z : ℤ) → (same_exponent y z ≡ true) ↔ (y ≡ z)
unfolding same_exponent
same_exponent_iff (pos m) (pos n) = (λ h. ap pos (eqb-true m n h), λ e. eq-eqb m n (cc))
same_exponent_iff (pos m) (negsuc n) = (λ h. absurd (false≢true h), λ e. cc)
same_exponent_iff (negsuc m) (pos n) = (λ h. absurd (false≢true h), λ e. cc)
same_exponent_iff (negsuc m) (negsuc n) = (λ h. ap negsuc (eqb-true m n h), λ e. eq-eqb m n (cc))

pub and_iff : (a b : Bool) → (a && b ≡ true) ↔ ((a ≡ true) × (b ≡ true))
and_iff true b = (λ h. (refl, h), λ t. t.1)
and_iff false b = (λ h. (h, absurd (false≢true h)), λ t. t.0)

-- A search that closes the top where it may and where that ends well, and puts otherwise.
either : (k c p : Bool) → (cond k (cond c true p) p ≡ true) ↔ (((k ≡ true) × (c ≡ true)) ⊎ (p ≡ true))
either true true p = (λ h. inl (refl, refl), λ h. refl)
either true false p = (λ h. inr h, ⊎_elim (λ t. absurd (false≢true t.1)) (λ h. h))
either false c p = (λ h. inr h, ⊎_elim (λ t. absurd (false≢true t.0)) (λ h. h))

module _ {le : Test} {Le : Relation} (decides : Decides le Le) where
  turned_right : (t : Bool) (a b : Basic) → (cond t (le a b) (le b a) ≡ true) ↔ Turned Le t a b
  turned_right true a b = decides a b
  turned_right false a b = decides b a

  pub contracts_iff : (x y : Simple) → (contracts le x y ≡ true) ↔ Contracts Le x y
  unfolding contracts
  contracts_iff x y =
      let parts = and_iff (same_exponent y.exponent (suc_ℤ x.exponent)) (cond (even x.exponent) (le x.base y.base) (le y.base x.base)) in
      let raise = same_exponent_iff y.exponent (suc_ℤ x.exponent) in
      let fit = turned_right (even x.exponent) x.base y.base in
      (λ h. record { raised = raise.0 (parts.0 h).0; fits = fit.0 (parts.0 h).1 }, λ c. parts.1 (raise.1 c.raised, fit.1 c.fits))

  run_of_closes : (S X : PregroupType) → closes le S X ≡ true → Run Le S X []
  unfolding closes
  run_of_closes [] [] h = stop
  run_of_closes (s ∷ S) [] h = absurd (false≢true h)
  run_of_closes [] (x ∷ X) h = put (run_of_closes (x ∷ []) X h)
  run_of_closes (s ∷ S) (x ∷ X) h =
      ⊎_elim (λ t. close ((contracts_iff s x).0 t.0) (run_of_closes S X t.1)) (λ p. put (run_of_closes (x ∷ s ∷ S) X p))
      ((either (contracts le s x) (closes le S X) (closes le (x ∷ s ∷ S) X)).0 h)

  closes_put : (S : PregroupType) (x : Simple) (X : PregroupType) → closes le (x ∷ S) X ≡ true → closes le S (x ∷ X) ≡ true
  unfolding closes
  closes_put [] x X h = h
  closes_put (s ∷ S) x X h = (either (contracts le s x) (closes le S X) (closes le (x ∷ s ∷ S) X)).1 (inr h)

  closes_of_run : {S X : PregroupType} → Run Le S X [] → closes le S X ≡ true
  unfolding closes
  closes_of_run stop = refl
  closes_of_run (put {x} {S} {X} r) = closes_put S x X (closes_of_run r)
  closes_of_run (close {s} {x} {S} {X} c r) =
      (either (contracts le s x) (closes le S X) (closes le (x ∷ s ∷ S) X)).1 (inl ((contracts_iff s x).1 c, closes_of_run r))

  pub vanishes_iff : (X : PregroupType) → (vanishes le X ≡ true) ↔ Vanish Le X
  unfolding vanishes
  vanishes_iff X = (λ h. vanish_iff_run.1 (run_of_closes [] X h), λ v. closes_of_run (vanish_iff_run.0 v))
