-- What `first_reading` gives by what each target has, in their order, and what that says of books that differ in their targets.
-- `first_reading_at`: the first target that has a reading decides; `no_target_reads`: there is none where no target has one.
-- `one_target_reads`: with one target a line has the readings it has for that target, with 0 in front, and the first is the first of these.
-- `repeated_target`: a target repeated behind the others changes nothing.
use Prim.Native.Nat.{ℕ, zero, suc, ◌<◌}
use native.Mathlib.Omega.{arith}
use mathlib.Core.Path.{◌≡◌, refl, sym, ap, subst, ◌∙◌}
use mathlib.Core.Logic.{◌↔◌}
use mathlib.Core.Option.{Option, none, some, map}
use mathlib.Core.List.{List, [], ◌∷◌, ◌++◌}
use lib.ListN.{length}
use Rattle.pregroup.specs.Types.{Basic, PregroupType}
use Rattle.pregroup.specs.Order.{Relation}
use Rattle.pregroup.specs.Tests.{Test}
use Rattle.linking.specs.Linking.{IsLinking, AtMost, equal, first, later}
use Rattle.linking.specs.Reading.{Words, Choice, target_at, IsReading, IsFirst, answer, Selection, raised, first_for, first_target, first_reading}

module _ (le : Test) (words : Words) where
  here : (s : Basic) (targets : List Basic) (a : Selection) → first_for le s words ≡ some a → first_reading le (s ∷ targets) words ≡ some (answer 0 a.0 a.1)
  unfolding first_reading first_target
  here s targets a e = rw e

  behind : (s : Basic) (targets : List Basic) → first_for le s words ≡ none → first_reading le (s ∷ targets) words ≡ map raised (first_reading le targets words)
  unfolding first_reading first_target
  behind s targets e = rw e refl

  pub no_target_reads : (targets : List Basic) → ((t : ℕ) → t < length targets → first_for le (target_at targets t) words ≡ none) → first_reading le targets words ≡ none
  unfolding first_reading
  no_target_reads [] n = refl
  no_target_reads (s ∷ targets) n =
      behind s targets (n 0 (omega arith)) ∙ ap (map raised) (no_target_reads targets (λ t l. n (suc t) (omega arith)))

  pub first_reading_at : (targets : List Basic) (t : ℕ) (a : Selection) → t < length targets → ((u : ℕ) → u < t → first_for le (target_at targets u) words ≡ none)
      → first_for le (target_at targets t) words ≡ some a → first_reading le targets words ≡ some (answer t a.0 a.1)
  first_reading_at [] t a l n e = absurd (omega arith)
  first_reading_at (s ∷ targets) zero a l n e = here s targets a e
  first_reading_at (s ∷ targets) (suc t) a l n e =
      behind s targets (n 0 (omega arith)) ∙ ap (map raised) (first_reading_at targets t a (omega arith) (λ u h. n (suc u) (omega arith)) e)

  -- A target without a reading behind the others changes nothing.
  unread_last : (targets : List Basic) (s : Basic) → first_for le s words ≡ none → first_reading le (targets ++ (s ∷ [])) words ≡ first_reading le targets words
  unfolding first_reading
  unread_last [] s e = behind s [] e
  unread_last (r ∷ targets) s e = go (unread_last targets s e) (first_for le r words) refl
    where
      go : first_reading le (targets ++ (s ∷ [])) words ≡ first_reading le targets words → (o : Option Selection) → first_for le r words ≡ o
          → first_reading le (r ∷ (targets ++ (s ∷ []))) words ≡ first_reading le (r ∷ targets) words
      go same (some a) h = here r (targets ++ (s ∷ [])) a h ∙ sym (here r targets a h)
      go same none h = behind r (targets ++ (s ∷ [])) h ∙ ap (map raised) same ∙ sym (behind r targets h)

  pub repeated_target : (targets : List Basic) (t : ℕ) → t < length targets
      → first_reading le (targets ++ (target_at targets t ∷ [])) words ≡ first_reading le targets words
  repeated_target [] t l = absurd (omega arith)
  repeated_target (r ∷ targets) t l = go (repeated_target targets) t l (first_for le r words) refl
    where
      go : ((u : ℕ) → u < length targets → first_reading le (targets ++ (target_at targets u ∷ [])) words ≡ first_reading le targets words)
          → (u : ℕ) → u < length (r ∷ targets) → (o : Option Selection) → first_for le r words ≡ o
          → first_reading le (r ∷ (targets ++ (target_at (r ∷ targets) u ∷ []))) words ≡ first_reading le (r ∷ targets) words
      go same u h (some a) e = here r (targets ++ (target_at (r ∷ targets) u ∷ [])) a e ∙ sym (here r targets a e)
      go same zero h none e = behind r (targets ++ (r ∷ [])) e ∙ ap (map raised) (unread_last targets r e) ∙ sym (behind r targets e)
      go same (suc u) h none e = behind r (targets ++ (target_at targets u ∷ [])) e ∙ ap (map raised) (same u (omega arith)) ∙ sym (behind r targets e)

-- The first reading for one target (document 01): entry numbers of a choice and a linking of its type, the least by the entry list and then
-- by the partner list.
pub record IsFirstFor (Le : Relation) (s : Basic) (words : Words) (ns P : List ℕ) : Type 0 where
  pub type : PregroupType
  pub chosen : Choice words ns type
  pub linking : IsLinking Le s type P
  pub least : (ns' P' : List ℕ) (X : PregroupType) → Choice words ns' X → IsLinking Le s X P' → AtMost (ns ++ P) (ns' ++ P')

-- Lists that begin alike are compared by what follows.
behind_first : {X Y A B : List ℕ} → AtMost X Y → (t : ℕ) → X ≡ t ∷ A → Y ≡ t ∷ B → AtMost A B
behind_first {A = A} {B = B} equal t e f = let same : A ≡ B = cc in subst (λ (L : List ℕ). AtMost A L) same equal
behind_first (first {a} {b} l) t e f = let same : a ≡ b = cc in absurd (omega arith)
behind_first {A = A} {B = B} (later {A = C} {B = D} m) t e f =
    let left : C ≡ A = cc in
    let right : D ≡ B = cc in
    rw (← left, ← right) m

module _ {Le : Relation} {s : Basic} {words : Words} where
  reading_for : {ns P : List ℕ} {X : PregroupType} → Choice words ns X → IsLinking Le s X P → IsReading Le (s ∷ []) words 0 ns P
  reading_for {X} c l = record { target_there = omega arith; type = X; chosen = c; linking = l }

  pub one_target_reads : {t : ℕ} {ns P : List ℕ} → IsFirst Le (s ∷ []) words t ns P ↔ ((t ≡ 0) × IsFirstFor Le s words ns P)
  one_target_reads = (at _, back _)
    where
      at : (t : ℕ) {ns P : List ℕ} → IsFirst Le (s ∷ []) words t ns P → (t ≡ 0) × IsFirstFor Le s words ns P
      at zero i = (
        refl,
        record {
          type = i.reading.type;
          chosen = i.reading.chosen;
          linking = i.reading.linking;
          least = λ ns' P' X c l. behind_first (i.least 0 ns' P' (reading_for c l)) 0 refl refl;
        },
      )
      at (suc t) i = absurd (omega (arith, i.reading.target_there))

      back : (t : ℕ) {ns P : List ℕ} → (t ≡ 0) × IsFirstFor Le s words ns P → IsFirst Le (s ∷ []) words t ns P
      back zero {ns} {P} k = record { reading = reading_for k.1.chosen k.1.linking; least = λ t' ns' P' r. below t' r }
        where
          below : (t' : ℕ) {ns' P' : List ℕ} → IsReading Le (s ∷ []) words t' ns' P' → AtMost (0 ∷ (ns ++ P)) (t' ∷ (ns' ++ P'))
          below zero {ns'} {P'} r = later (k.1.least ns' P' r.type r.chosen r.linking)
          below (suc t') r = first {a = 0} {b = suc t'} (omega arith)
      back (suc t) k = absurd (omega (arith, k.0))
