-- What the letters say of a linking, in the paper's terms.
use Rattle.std.specs.Prelude.{ℕ, ◌<◌, ◌≡◌, ◌↔◌, ◌⊎◌, List}
use Rattle.pregroup.specs.Types.{Basic, PregroupType, plain, simple_right}
use Rattle.pregroup.specs.Order.{Relation}
use Rattle.pregroup.specs.Vanish.{NeedsOrder}
use Rattle.linking.specs.Linking.{Position, simple_at, partner}
use Rattle.letters.specs.Letters.{e, t}

-- A letter is one of two.
abbrev pub IsLetter : ℕ → Type 0
IsLetter c = (c ≡ e) ⊎ (c ≡ t)

-- `letter` gives the letter of each position of X, linked by P with target s.
pub record Lettered (Le : Relation) (s : Basic) (X : PregroupType) (P : List ℕ) (letter : ℕ → ℕ) : Type 0 where
  pub either : (i : ℕ) → Position X i → IsLetter (letter i)
  -- Both ends of a link carry its letter.
  pub both_ends : (i : ℕ) → Position X i → letter (partner P i) ≡ letter i
  -- It is `e` exactly where the basic types are the same, by their numbers ..
  pub same : (i : ℕ) → Position X i → i < partner P i → (letter i ≡ e) ↔ ((simple_at X i).base ≡ (simple_at X (partner P i)).base)
  pub unlinked_same : (i : ℕ) → Position X i → partner P i ≡ i → (letter i ≡ e) ↔ ((simple_at X i).base ≡ s)
  -- .. and `t` exactly where the two could not contract were the order equality alone.
  pub needs_order : (i : ℕ) → Position X i → i < partner P i → (letter i ≡ t) ↔ NeedsOrder Le (simple_at X i) (simple_at X (partner P i))
  pub unlinked_needs_order : (i : ℕ) → Position X i → partner P i ≡ i → (letter i ≡ t) ↔ NeedsOrder Le (simple_at X i) (simple_right (plain s))
