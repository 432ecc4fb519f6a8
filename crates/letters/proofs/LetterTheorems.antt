-- What the letters say: those of a linking are as `Lettered` has it, over any test that decides the order. The letter of a position is the one
-- written for it, whatever is written behind it, so that each field is a fact of one link.
use Prim.Native.Nat.{ℕ, zero, suc, ◌-◌, ◌≤◌, ◌<◌}
use native.Mathlib.Omega.{arith}
use mathlib.Core.Path.{◌≡◌, refl, sym, ap, fun_ext, ◌∙◌}
use mathlib.Core.Logic.{◌↔◌, inl, inr}
use mathlib.Core.Bool.{Bool, true, false, cond}
use mathlib.Core.List.{List, [], ◌∷◌, ◌++◌}
use lib.Dec.{ltb}
use lib.ListN.{length, get_or, length-append, get_or-append}
use lib.Seq.{get_or_at}
use Rattle.pregroup.specs.Types.{Basic, Simple, PregroupType, plain, simple_right, even}
use Rattle.pregroup.specs.Order.{Relation}
use Rattle.pregroup.specs.Vanish.{Contracts, NeedsOrder, Remains}
use Rattle.pregroup.specs.Tests.{Test, Decides, link_kind}
use Rattle.pregroup.specs.declared.LinkKind.{LinkKind}
use Rattle.pregroup.specs.declared.LinkKind.TheVariants.{Not, Same, Different}
use Rattle.pregroup.proofs.LinkKinds.{kind_not, kind_same, kind_needs_order}
use Rattle.linking.specs.Linking.{Position, simple_at, partner, IsLinking}
use Rattle.linking.proofs.Numbers.{Placed, under, same, over, placed}
use Rattle.letters.specs.Letters.{e, t, letter_of, link_at, next_letter, letters}
use Rattle.letters.specs.Lettered.{IsLetter, Lettered}
use Rattle.letters.proofs.LetterLaws.{link_own, link_there, letter_carried, letter_linked}

-- A letter says of which kind its link is.
e_same : (k : LinkKind) → letter_of k ≡ e → k ≡ Same
e_same Not h = absurd (omega arith)
e_same Same h = refl
e_same Different h = absurd (omega arith)

t_different : (k : LinkKind) → (k ≡ Not → ⊥) → letter_of k ≡ t → k ≡ Different
t_different Not linked h = absurd (linked refl)
t_different Same linked h = absurd (omega arith)
t_different Different linked h = refl

-- Of two that contract: `e` where the basic type is the same, `t` where the link needs the order.
module _ {le : Test} {Le : Relation} (decides : Decides le Le) {x y : Simple} (may : Contracts Le x y) where
  e_of_link : (letter_of (link_kind le x y) ≡ e) ↔ (x.base ≡ y.base)
  e_of_link = (λ h. ((kind_same decides x y).0 (e_same (link_kind le x y) h)).1, λ h. ap letter_of ((kind_same decides x y).1 (may, h)))

  t_of_link : (letter_of (link_kind le x y) ≡ t) ↔ NeedsOrder Le x y
  t_of_link = (
    λ h. (kind_needs_order decides x y).0 (t_different (link_kind le x y) (λ n. (kind_not decides x y).0 n may) h),
    λ n. ap letter_of ((kind_needs_order decides x y).1 n),
  )

-- What may remain is plain, and so contracts with the right adjoint of the target.
remains_contracts : {Le : Relation} {s : Basic} {x : Simple} → Remains Le s x → Contracts Le x (simple_right (plain s))
unfolding even
remains_contracts r = record { raised = rw r.is_plain refl; fits = rw r.is_plain r.below }

-- It is one of two ..
letter_either : (k : LinkKind) → IsLetter (letter_of k)
letter_either Not = inr refl
letter_either Same = inl refl
letter_either Different = inr refl

-- .. and so is each letter of a list with one more behind.
either_behind : (l : List ℕ) (c : ℕ) → ((i : ℕ) → IsLetter (get_or {A = ℕ} l i t)) → IsLetter c → (i : ℕ) → IsLetter (get_or {A = ℕ} (l ++ (c ∷ [])) i t)
either_behind [] c all one zero = one
either_behind [] c all one (suc i) = inr refl
either_behind (a ∷ l) c all one zero = all 0
either_behind (a ∷ l) c all one (suc i) = either_behind l c (λ j. all (suc j)) one i

either_by : (b : Bool) (x y : ℕ) → IsLetter x → IsLetter y → IsLetter (cond b x y)
either_by true x y h k = h
either_by false x y h k = k

-- Whatever values are listed, each row has one of the two letters.
pub each_letter : (le : Test) (s : Basic) (X : PregroupType) (P : List ℕ) (n i : ℕ) → IsLetter (get_or {A = ℕ} (letters le s X P n) i t)
unfolding letters
each_letter le s X P zero zero = inr refl
each_letter le s X P zero (suc i) = inr refl
each_letter le s X P (suc n) i =
    let before = letters le s X P n in
    let k = partner P (suc n) in
    let next = either_by (ltb k (suc n)) (get_or {A = ℕ} before k t) (letter_of (link_at le s X (suc n) k)) (each_letter le s X P n k) (letter_either (link_at le s X (suc n) k)) in
    either_behind before (next_letter le s X P before (suc n)) (each_letter le s X P n) next i

module _ (le : Test) (s : Basic) (X : PregroupType) (P : List ℕ) where
  letters_length : (n : ℕ) → length (letters le s X P n) ≡ suc n
  unfolding letters
  letters_length zero = refl
  letters_length (suc n) =
      omega (arith, length-append (letters le s X P n) (next_letter le s X P (letters le s X P n) (suc n) ∷ []), letters_length n)

  -- A letter stays as it was written.
  letter_kept : (n i : ℕ) → i ≤ n → get_or {A = ℕ} (letters le s X P n) i t ≡ get_or {A = ℕ} (letters le s X P i) i t
  unfolding letters
  letter_kept zero i h =
      let start : i ≡ 0 = omega arith in
      rw start refl
  letter_kept (suc n) i h = at (placed i (suc n)) (letter_kept n i)
    where
      at : Placed i (suc n) → (i ≤ n → get_or {A = ℕ} (letters le s X P n) i t ≡ get_or {A = ℕ} (letters le s X P i) i t)
          → get_or {A = ℕ} (letters le s X P (suc n)) i t ≡ get_or {A = ℕ} (letters le s X P i) i t
      at (under b) ih = get_or-append (letters le s X P n) _ t i (omega (arith, letters_length n)) ∙ ih (omega arith)
      at (same q) ih = rw q refl
      at (over b) ih = absurd (omega arith)

  -- It is written from those before it.
  letter_written : (i : ℕ) → 1 ≤ i → get_or {A = ℕ} (letters le s X P i) i t ≡ next_letter le s X P (letters le s X P (i - 1)) i
  unfolding letters
  letter_written zero h = absurd (omega arith)
  letter_written (suc n) h =
      let down : suc n - 1 ≡ n = omega arith in
      rw down (get_or_at (letters le s X P n) _ [] t (suc n) (letters_length n))

  abbrev letter : ℕ → ℕ
  letter i = get_or {A = ℕ} (letters le s X P (length X)) i t

  -- A position whose partner stands before it carries its partner's letter, and any other that of its link.
  letter_of_earlier : (i : ℕ) → Position X i → partner P i < i → letter i ≡ letter (partner P i)
  letter_of_earlier i p h =
      letter_kept (length X) i p.1 ∙ letter_written i p.0 ∙ letter_carried le s X P (letters le s X P (i - 1)) i h
      ∙ letter_kept (i - 1) (partner P i) (omega arith) ∙ sym (letter_kept (length X) (partner P i) (omega arith))

  letter_of_later : (i : ℕ) → Position X i → i ≤ partner P i → letter i ≡ letter_of (link_at le s X i (partner P i))
  letter_of_later i p h = letter_kept (length X) i p.1 ∙ letter_written i p.0 ∙ letter_linked le s X P (letters le s X P (i - 1)) i h

module _ {le : Test} {Le : Relation} (decides : Decides le Le) {s : Basic} {X : PregroupType} {P : List ℕ} (L : IsLinking Le s X P) where
  -- The letter of a link, at its earlier end, and that of the unlinked simple type.
  of_link : (i : ℕ) → Position X i → i < partner P i → letter le s X P i ≡ letter_of (link_kind le (simple_at X i) (simple_at X (partner P i)))
  of_link i p h =
      letter_of_later le s X P i p (omega arith) ∙ ap letter_of (link_there le s X i (partner P i) (omega arith) (L.within i p).1)

  of_unlinked : (i : ℕ) → Position X i → partner P i ≡ i → letter le s X P i ≡ letter_of (link_kind le (simple_at X i) (simple_right (plain s)))
  of_unlinked i p h = letter_of_later le s X P i p (omega arith) ∙ ap letter_of (link_own le s X i (partner P i) h)

  -- That one contracts with the right adjoint of the target.
  remains : (i : ℕ) → Position X i → partner P i ≡ i → Contracts Le (simple_at X i) (simple_right (plain s))
  remains i p h = rw (L.only i p h) (remains_contracts (record { is_plain = L.is_plain; below = L.below }))

  -- Both ends of a link carry the letter of the earlier one.
  ends : (i : ℕ) → Position X i → letter le s X P (partner P i) ≡ letter le s X P i
  ends i p = at (placed (partner P i) i)
    where
      at : Placed (partner P i) i → letter le s X P (partner P i) ≡ letter le s X P i
      at (under h) = sym (letter_of_earlier le s X P i p h)
      at (same h) = ap (letter le s X P) h
      at (over h) =
          letter_of_earlier le s X P (partner P i) (L.within i p) (rw (L.involutive i p) h)
          ∙ ap (letter le s X P) (L.involutive i p)

  -- The letters of a linking say what they should.
  pub linking_lettered : Lettered Le s X P (λ i. get_or {A = ℕ} (letters le s X P (length X)) i t)
  linking_lettered = record {
    either = λ i p. each_letter le s X P (length X) i;
    both_ends = ends;
    same = λ i p h. rw (of_link i p h) (e_of_link decides (L.contract i p h));
    unlinked_same = λ i p h. rw (of_unlinked i p h) (e_of_link decides (remains i p h));
    needs_order = λ i p h. rw (of_link i p h) (t_of_link decides (L.contract i p h));
    unlinked_needs_order = λ i p h. rw (of_unlinked i p h) (t_of_link decides (remains i p h));
  }

-- Two tests that agree give the same letters.
pub letters_agree :
    {le le' : Test} (s : Basic) (X : PregroupType) (P : List ℕ) → ((a b : ℕ) → le a b ≡ le' a b) → (n : ℕ) → letters le s X P n ≡ letters le' s X P n
letters_agree s X P agree n = ap (λ (f : Test). letters f s X P n) (fun_ext (λ a. fun_ext (λ b. agree a b)))
