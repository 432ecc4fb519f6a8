-- `book::entries::raise` meets its contract: below 248 the bias is added, and from 248 on the byte wraps.
use native.Mathlib.Omega.{arith}
use native.Mathlib.Decide.{dec_lt}
use Prim.Native.Nat.{ℕ, ◌+◌, ◌-◌, ◌%◌, ◌<◌}
use mathlib.Core.Path.{◌≡◌, ap, ◌∙◌}
use mathlib.Core.Bool.{true}
use lib.IntN.{pos, ◌-ℤ◌}
use Rattle.pregroup.specs.Held.{bias}
use Rattle.rules.specs.Layouts.{exponent_of}
use Rattle.rules.specs.Rules.{exponent_listed}
use Rattle.book.proofs.RaiseLaws.{raise_low, raise_high}
use Rattle.book.proofs.entries.raise.Goals as goal

raised : (e : ℕ) → e < 256 → exponent_listed (exponent_of e) ≡ true → pos ((e + 8) % 256) -ℤ pos bias ≡ exponent_of e
raised e fits listed = go (dec_lt e 248)
  where
    go : Dec (e < 248) → pos ((e + 8) % 256) -ℤ pos bias ≡ exponent_of e
    go (yes low) =
        let same : (e + 8) % 256 ≡ e + 8 = omega arith in
        ap (λ (n : ℕ). pos n -ℤ pos bias) same ∙ raise_low e low listed
    go (no high) =
        let same : (e + 8) % 256 ≡ e - 248 = omega (arith, high) in
        ap (λ (n : ℕ). pos n -ℤ pos bias) same ∙ raise_high e (omega (arith, high)) fits

pub returns : goal.returns
returns c = raised c.args.exponent (omega arith) c.requires
