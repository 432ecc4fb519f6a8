-- Laws of the letters: the cases of a link and of a letter, and how the list of letters grows by one.
use Prim.Native.Nat.{ℕ, zero, suc, ◌+◌, ◌-◌, ◌≤◌, ◌<◌}
use native.Mathlib.Omega.{arith}
use mathlib.Core.Path.{◌≡◌, refl, ◌∙◌}
use mathlib.Core.List.{List, [], ◌∷◌, map}
use lib.ListN.{length, get_or, take, set}
use lib.Seq.{take-suc-set}
use borrow.Author.Tests.{lt-ltb, le-ltb, eq-eqb, ne_eqb, le-leb}
use Rattle.pregroup.specs.Types.{Basic, PregroupType, plain, simple_right}
use Rattle.pregroup.specs.Tests.{Test, link_kind}
use Rattle.pregroup.specs.Held.{held}
use Rattle.linking.specs.Linking.{simple_at, partner}
use Rattle.letters.specs.Letters.{t, letter_of, link_at, next_letter, letters}

-- What is there does not depend on what counts where nothing is there.
pub get_d_any {ℓ} : {A : Type ℓ} (l : List A) (n : ℕ) (a b : A) → n < length l → get_or l n a ≡ get_or l n b
get_d_any [] n a b h = absurd (omega arith)
get_d_any (x ∷ l) zero a b h = refl
get_d_any (x ∷ l) (suc n) a b h = get_d_any l n a b (omega arith)

module _ (le : Test) (s : Basic) (X : PregroupType) (i k : ℕ) where
  -- The two cases of `link_at` where there is a link.
  pub link_own : k ≡ i → link_at le s X i k ≡ link_kind le (simple_at X i) (simple_right (plain s))
  link_own e = rw (eq-eqb k i e) refl

  pub link_there : (k ≡ i → ⊥) → k ≤ length X → link_at le s X i k ≡ link_kind le (simple_at X i) (simple_at X k)
  link_there e h = rw (ne_eqb k i e, le-leb k (length X) h) refl

module _ (le : Test) (s : Basic) (X : PregroupType) (P before : List ℕ) (i : ℕ) where
  -- The two cases of `next_letter`.
  pub letter_carried : partner P i < i → next_letter le s X P before i ≡ get_or {A = ℕ} before (partner P i) t
  letter_carried h = rw (lt-ltb (partner P i) i h) refl

  pub letter_linked : i ≤ partner P i → next_letter le s X P before i ≡ letter_of (link_at le s X i (partner P i))
  letter_linked h = rw (le-ltb (partner P i) i h) refl

-- The positions before i, of those from 1 on, have their letters.
pub record Lettering (le : Test) (s : Basic) (string P row : List ℕ) (i : ℕ) : Type 0 where
  pub within : i ≤ suc (length string)
  pub so_far : take i row ≡ letters le s (map held string) P (i - 1)

module _ (le : Test) (s : Basic) (string P row : List ℕ) where
  pub lettering_start : 0 < length row → Lettering le s string P (set row 0 t) 1
  unfolding letters
  lettering_start h = record { within = omega arith; so_far = take-suc-set row 0 t h }

  lettering_more : (n i : ℕ) → i ≡ suc n → take i row ≡ letters le s (map held string) P n → i < length row → {letter : ℕ}
      → letter ≡ next_letter le s (map held string) P (take i row) i → take (suc i) (set row i letter) ≡ letters le s (map held string) P i
  unfolding letters
  lettering_more n i at so_far fits {letter} e =
      take-suc-set row i letter fits ∙ rw (e, so_far, at) refl

  pub lettering_next : (i : ℕ) → Lettering le s string P row i → 1 ≤ i → i ≤ length string → i < length row → {letter : ℕ}
      → letter ≡ next_letter le s (map held string) P (take i row) i → Lettering le s string P (set row i letter) (i + 1)
  lettering_next i l first more fits e =
      let place : i ≡ suc (i - 1) = omega arith in
      let next : i + 1 ≡ suc i = omega arith in
      let back : suc i - 1 ≡ i = omega arith in
      rw next (record { within = omega arith; so_far = rw back (lettering_more (i - 1) i place l.so_far fits e) })

  -- Behind the last position the letters are whole.
  pub lettering_whole : (i : ℕ) → Lettering le s string P row i → length string < i → take (suc (length string)) row ≡ letters le s (map held string) P (length string)
  lettering_whole i l h =
      let w = l.within in
      let all : i ≡ suc (length string) = omega arith in
      let back : suc (length string) - 1 ≡ length string = omega arith in
      let whole = l.so_far in
      rw (all, back) at whole
