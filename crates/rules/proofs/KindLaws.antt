-- The rules for a number are those for the kind that has it. For a number that no kind has there is one rule, which is broken.
use Prim.Native.Nat.{ℕ}
use mathlib.Core.Path.{◌≡◌, refl}
use mathlib.Core.Bool.{Bool, true, false, cond}
use mathlib.Core.Option.{Option, none, some}
use mathlib.Core.List.{List, [], ◌∷◌}
use lib.Dec.{eqb}
use borrow.Author.Tests.{eqb-true}
use Rattle.figures.specs.Refusals.{kind_not_listed}
use Rattle.format.specs.Records.{Bytes}
use Rattle.rules.specs.Layouts.{Kind, basic_type, order_pair, entry, target, slashed_entry, kind_number, kinds, first_with}
use Rattle.rules.specs.Rules.{kind_rules, body_rules}

-- A number that is that of no kind.
abbrev pub Unlisted : ℕ → Type 0
Unlisted number = (kind : Kind) → number ≡ kind_number kind → ⊥

pub unlisted : {n : ℕ}
    → (n ≡ kind_number basic_type → ⊥) → (n ≡ kind_number order_pair → ⊥) → (n ≡ kind_number entry → ⊥) → (n ≡ kind_number target → ⊥)
    → (n ≡ kind_number slashed_entry → ⊥)
    → Unlisted n
unlisted a b c d e basic_type = a
unlisted a b c d e order_pair = b
unlisted a b c d e entry = c
unlisted a b c d e target = d
unlisted a b c d e slashed_entry = e

pub kind_rules_lem : (kind : Kind) (body : Bytes) (names : List Bytes) (entries targets : ℕ) → body_rules (kind_number kind) body names entries targets ≡ kind_rules kind body names entries targets
unfolding body_rules
kind_rules_lem basic_type body names entries targets = refl
kind_rules_lem order_pair body names entries targets = refl
kind_rules_lem entry body names entries targets = refl
kind_rules_lem target body names entries targets = refl
kind_rules_lem slashed_entry body names entries targets = refl

-- What holds of the rule for a kind that is not listed, and of the rules for each kind, holds of the rules for any number.
pub any_rules : (P : List (ℕ × Bool) → Type 0) (number : ℕ) (body : Bytes) (names : List Bytes) (entries targets : ℕ) → P ((kind_not_listed, true) ∷ [])
    → ((kind : Kind) → number ≡ kind_number kind → P (kind_rules kind body names entries targets)) → P (body_rules number body names entries targets)
unfolding body_rules
any_rules P number body names entries targets other each = go kinds
  where
    rules : Option Kind → List (ℕ × Bool)
    rules o = elim o [ none ↦ (kind_not_listed, true) ∷ [] | some kind ↦ kind_rules kind body names entries targets ]

    by : (kind : Kind) (rest : Option Kind) (t : Bool) → eqb number (kind_number kind) ≡ t → P (rules rest) → P (rules (cond t (some kind) rest))
    by kind rest true e h = each kind (eqb-true number (kind_number kind) e)
    by kind rest false e h = h

    go : (more : List Kind) → P (rules (first_with number more))
    go [] = other
    go (kind ∷ more) = by kind (first_with number more) (eqb number (kind_number kind)) refl (go more)
