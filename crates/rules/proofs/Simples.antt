-- A loop over the simple types of an entry, two bytes each: as in Every, for a test of one part of each simple type.
use Prim.Native.Nat.{ℕ, suc, ◌+◌, ◌*◌, ◌≤◌, ◌<◌}
use native.Mathlib.Numerals.{add-one, add-two}
use native.Mathlib.Omega.{arith}
use mathlib.Core.Path.{◌≡◌, ap, ◌∙◌}
use mathlib.Core.Bool.{Bool, true, false, ◌&&◌}
use mathlib.Core.List.{◌∷◌, map}
use lib.ListN.{length, get_or, drop, drop_of_length-le}
use lib.Seq.{drop-cons}
use Rattle.pregroup.specs.Types.{Simple, ◌⁽◌⁾}
use Rattle.format.specs.Records.{Bytes, every}
use Rattle.rules.specs.Layouts.{exponent_of, simples_of}

-- The simple type of the two bytes from an offset on.
abbrev pub simple_from : Bytes → ℕ → Simple
simple_from part i = get_or {A = ℕ} part i 0 ⁽ exponent_of (get_or {A = ℕ} part (i + 1) 0) ⁾

pub simples_step : (part : Bytes) (i : ℕ) → i + 1 < length part → simples_of (drop i part) ≡ simple_from part i ∷ simples_of (drop (i + 2) part)
unfolding simples_of
simples_step part i h = rw (drop-cons part i 0 (omega arith), drop-cons part (suc i) 0 (omega arith), add-two i, add-one i)

module _ {A : Type 0} (f : Simple → A) (test : A → Bool) (part : Bytes) where
  simples_at : (i : ℕ) → i + 1 < length part → every test (map f (simples_of (drop i part))) ≡ test (f (simple_from part i)) && every test (map f (simples_of (drop (i + 2) part)))
  unfolding every
  simples_at i h = rw (simples_step part i h)

  pub simples_stop : (i : ℕ) → i + 1 < length part → test (f (simple_from part i)) ≡ false → every test (map f (simples_of (drop i part))) ≡ false
  simples_stop i h e = simples_at i h ∙ ap (λ (b : Bool). b && every test (map f (simples_of (drop (i + 2) part)))) e

  pub simples_pass :
      (i : ℕ) → i + 1 < length part → test (f (simple_from part i)) ≡ true
      → every test (map f (simples_of (drop i part))) ≡ every test (map f (simples_of (drop (i + 2) part)))
  simples_pass i h e = simples_at i h ∙ ap (λ (b : Bool). b && every test (map f (simples_of (drop (i + 2) part)))) e

  -- The same from a pair to the next.
  pub pairs_pass :
      (k : ℕ) → 2 * k + 1 < length part → test (f (simple_from part (2 * k))) ≡ true
      → every test (map f (simples_of (drop (2 * k) part))) ≡ every test (map f (simples_of (drop (2 * (k + 1)) part)))
  pairs_pass k h e =
      let next : 2 * k + 2 ≡ 2 * (k + 1) = omega arith in
      simples_pass (2 * k) h e ∙ ap (λ (i : ℕ). every test (map f (simples_of (drop i part)))) next

  pub simples_end : (i : ℕ) → length part ≤ i → every test (map f (simples_of (drop i part))) ≡ true
  unfolding every simples_of
  simples_end i h = rw (drop_of_length-le part h)
