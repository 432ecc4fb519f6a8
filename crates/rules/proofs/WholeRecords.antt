-- The fault of the record at an offset: cut short, or that of its body by its kind.
use Prim.Native.Nat.{ℕ, ◌+◌, ◌≤◌, ◌<◌}
use native.Mathlib.Omega.{arith}
use native.Mathlib.Decide.{dec_lt}
use mathlib.Core.Path.{◌≡◌, refl, sym, ap, ◌∙◌}
use mathlib.Core.Bool.{Bool, true, false, ◌||◌, true≢false}
use mathlib.Core.List.{List}
use lib.Dec.{ltb}
use lib.ListN.{length}
use borrow.Author.Tests.{lt-ltb, le-ltb}
use Rattle.figures.specs.Refusals.{cut_short}
use Rattle.format.specs.Records.{Bytes, head_length, kind_at, body_at, next_at}
use Rattle.rules.specs.Layouts.{Kind, kind_number}
use Rattle.rules.specs.Rules.{kind_rules, body_rules, record_rules, first_broken}
use Rattle.rules.proofs.KindLaws.{kind_rules_lem}

or_true : (b : Bool) → b || true ≡ true
or_true true = refl
or_true false = refl

-- Head or body is cut short.
unfoldable pub is_cut : Bytes → ℕ → Bool
is_cut bytes at = ltb (length bytes) (at + head_length) || ltb (length bytes) (next_at bytes at)

pub cut_head : (bytes : Bytes) (at : ℕ) → length bytes < at + head_length → is_cut bytes at ≡ true
unfolding is_cut
cut_head bytes at h = rw (lt-ltb (length bytes) (at + head_length) h)

pub cut_body : (bytes : Bytes) (at : ℕ) → length bytes < next_at bytes at → is_cut bytes at ≡ true
unfolding is_cut
cut_body bytes at h = rw (lt-ltb (length bytes) (next_at bytes at) h, or_true (ltb (length bytes) (at + head_length)))

pub not_cut : (bytes : Bytes) (at : ℕ) → next_at bytes at ≤ length bytes → is_cut bytes at ≡ false
unfolding is_cut
not_cut bytes at h = rw (le-ltb (length bytes) (at + head_length) (omega arith), le-ltb (length bytes) (next_at bytes at) h)

pub cut_whole : (bytes : Bytes) (at : ℕ) → is_cut bytes at ≡ false → next_at bytes at ≤ length bytes
cut_whole bytes at h = go (dec_lt (length bytes) (next_at bytes at))
  where
    go : Dec (length bytes < next_at bytes at) → next_at bytes at ≤ length bytes
    go (yes l) = absurd (true≢false (sym (cut_body bytes at l) ∙ h))
    go (no n) = omega (arith, n)

module _ (bytes : Bytes) (at : ℕ) (names : List Bytes) (entries : ℕ) (targets : ℕ) where
  pub record_cut : is_cut bytes at ≡ true → cut_short ≡ first_broken (record_rules bytes at names entries targets)
  unfolding record_rules first_broken is_cut
  record_cut h = rw h

  -- A whole record has the fault of its body ..
  pub record_whole : {number : ℕ} → next_at bytes at ≤ length bytes → kind_at bytes at ≡ number → first_broken (body_rules number (body_at bytes at) names entries targets) ≡ first_broken (record_rules bytes at names entries targets)
  unfolding record_rules first_broken is_cut
  record_whole h k = rw (not_cut bytes at h, k)

  -- .. by the rules for its kind.
  pub kind_whole : (kind : Kind) → next_at bytes at ≤ length bytes → kind_at bytes at ≡ kind_number kind → first_broken (kind_rules kind (body_at bytes at) names entries targets) ≡ first_broken (record_rules bytes at names entries targets)
  kind_whole kind h k = ap first_broken (sym (kind_rules_lem kind (body_at bytes at) names entries targets)) ∙ record_whole h k
