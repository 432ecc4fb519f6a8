-- `first_reading` is right, over a test that decides the order and for words whose entry numbers ascend.
-- `first_reading_some`, `first_reading_none`: what it gives is the first reading, and it gives none exactly when there is none.
-- `first_reading_unique`: any first reading is what it gives.
use Prim.Native.Nat.{ℕ, zero, suc, ◌<◌}
use native.Mathlib.Omega.{arith}
use mathlib.Core.Path.{◌≡◌, refl, sym, ap, ◌∙◌}
use mathlib.Core.Logic.{◌↔◌}
use mathlib.Core.Option.{Option, none, some, some-ne-none}
use mathlib.Core.List.Memᴰ
use mathlib.Core.List.{List, [], ◌∷◌, ◌++◌, append-nil, append_assoc, Memᴰ}
use lib.ListN.{length, get_or, drop, take as take-front}
use lib.Seq.{take-append_seam, drop-append_seam}
use Rattle.pregroup.specs.Types.{Basic, PregroupType}
use Rattle.pregroup.specs.Order.{Relation}
use Rattle.pregroup.specs.Tests.{Test, Decides}
use Rattle.linking.specs.Linking.{IsLinking, AtMost, first, later}
use Rattle.linking.specs.Reading.{NumberedEntry, Words, Choice, empty, take, IsReading, IsFirst, Answer, answer, Selection, first_entry, first_behind, first_target, first_reading}
use Rattle.linking.specs.Ascending.{Ascending, empty, more, AllAscending}
use Rattle.linking.proofs.Comparison.{at_most_both, at_most_raised}
use Rattle.linking.proofs.FirstLinking.{FirstLinking, least, no_linking, first_linking_lem}

-- What is said of the outcome of a search over the choices of some words, joined behind A: the first entry numbers and linking, or that
-- there are none.
data Behind (Le : Relation) (s : Basic) (words : Words) (A : PregroupType) : Option Selection → Type 0 where
  read : {ns P : List ℕ} {X : PregroupType} → Choice words ns X → IsLinking Le s (A ++ X) P
      → ((ns' P' : List ℕ) (X' : PregroupType) → Choice words ns' X' → IsLinking Le s (A ++ X') P' → AtMost (ns ++ P) (ns' ++ P'))
      → Behind Le s words A (some (ns, P))
  unread : ((ns P : List ℕ) (X : PregroupType) → Choice words ns X → IsLinking Le s (A ++ X) P → ⊥) → Behind Le s words A none

-- A choice whose first word has the entry e and others takes this one or another.
data Chosen (e : NumberedEntry) (es : List NumberedEntry) (rest : Words) : List ℕ → PregroupType → Type 0 where
  this : {ns : List ℕ} {X : PregroupType} → Choice rest ns X → Chosen e es rest (e.number ∷ ns) (e.type ++ X)
  other : {f : NumberedEntry} {ns : List ℕ} {X : PregroupType} → Memᴰ f es → Choice rest ns X → Chosen e es rest (f.number ∷ ns) (f.type ++ X)

chosen : {e : NumberedEntry} {es : List NumberedEntry} {rest : Words} {ns : List ℕ} {X : PregroupType} → Choice ((e ∷ es) ∷ rest) ns X → Chosen e es rest ns X
chosen (take (Memᴰ.head h) c) = rw h (this c)
chosen (take (Memᴰ.tail m) c) = other m c

module _ {Le : Relation} {s : Basic} {A : PregroupType} where
  -- No word is left: the linkings of A.
  behind_end : {o : Option (List ℕ)} → FirstLinking Le s A o → Behind Le s [] A (elim o [ none ↦ none | some P ↦ some ([], P) ])
  behind_end (least {P = P} t f) = read {P = P} {X = []} empty (rw append-nil t) (at_end f)
    where
      at_end : {P : List ℕ} → ((Q : List ℕ) → IsLinking Le s A Q → AtMost P Q) → (ns' P' : List ℕ) (X' : PregroupType) → Choice [] ns' X'
          → IsLinking Le s (A ++ X') P' → AtMost P (ns' ++ P')
      at_end g ns' P' X' empty t' = g P' (rw append-nil at t')
  behind_end (no_linking n) = unread (at_end n)
    where
      at_end : ((P : List ℕ) → IsLinking Le s A P → ⊥) → (ns P : List ℕ) (X : PregroupType) → Choice [] ns X → IsLinking Le s (A ++ X) P → ⊥
      at_end g ns P X empty t = g P (rw append-nil at t)

  -- An entry whose type, behind A, has no reading with the rest: the other entries decide.
  behind_other :
      {e : NumberedEntry} {es : List NumberedEntry} {rest : Words} {o : Option Selection}
      → ((ns P : List ℕ) (X : PregroupType) → Choice rest ns X → IsLinking Le s ((A ++ e.type) ++ X) P → ⊥) → Behind Le s (es ∷ rest) A o
      → Behind Le s ((e ∷ es) ∷ rest) A o
  behind_other {e} {es} {rest} n (read {ns} {P} (take m c) t f) = read (take (Memᴰ.tail m) c) t (λ ns' P' X' d. at P' (chosen d))
    where
      at : {ns' : List ℕ} (P' : List ℕ) {X' : PregroupType} → Chosen e es rest ns' X' → IsLinking Le s (A ++ X') P' → AtMost (ns ++ P) (ns' ++ P')
      at P' (this {ns = ns'} {X = X'} d) t' = absurd (n ns' P' X' d (rw append_assoc t'))
      at P' (other {f = g} {ns = ns'} {X = X'} m' d) t' = f (g.number ∷ ns') P' (g.type ++ X') (take m' d) t'
  behind_other {e} {es} {rest} n (unread f) = unread (λ ns P X d. at P (chosen d))
    where
      at : {ns : List ℕ} (P : List ℕ) {X : PregroupType} → Chosen e es rest ns X → IsLinking Le s (A ++ X) P → ⊥
      at P (this {ns} {X} d) t = n ns P X d (rw append_assoc t)
      at P (other {f = g} {ns} {X} m d) t = f (g.number ∷ ns) P (g.type ++ X) (take m d) t

  -- The first entry of a word whose type, behind A, has a reading with the rest comes first.
  behind_this :
      {e : NumberedEntry} {es : List NumberedEntry} {rest : Words} {ns P : List ℕ} {X : PregroupType} → ((f : NumberedEntry) → Memᴰ f es → e.number < f.number)
      → Choice rest ns X → IsLinking Le s ((A ++ e.type) ++ X) P
      → ((ns' P' : List ℕ) (X' : PregroupType) → Choice rest ns' X' → IsLinking Le s ((A ++ e.type) ++ X') P' → AtMost (ns ++ P) (ns' ++ P'))
      → Behind Le s ((e ∷ es) ∷ rest) A (some (e.number ∷ ns, P))
  behind_this {e} {es} {rest} {ns} {P} {X} lower c t f =
      read (take (Memᴰ.head refl) c) (rw append_assoc at t) (λ ns' P' X' d. at P' (chosen d))
    where
      at : {ns' : List ℕ} (P' : List ℕ) {X' : PregroupType} → Chosen e es rest ns' X' → IsLinking Le s (A ++ X') P' → AtMost (e.number ∷ (ns ++ P)) (ns' ++ P')
      at P' (this {ns = ns'} {X = X'} d) t' = later (f ns' P' X' d (rw append_assoc t'))
      at P' (other {f = g} m d) t' = first (lower g m)

  -- One entry, then the others of the word.
  behind_step :
      {e : NumberedEntry} {es : List NumberedEntry} {rest : Words} {o r : Option Selection} → ((f : NumberedEntry) → Memᴰ f es → e.number < f.number)
      → Behind Le s rest (A ++ e.type) o → Behind Le s (es ∷ rest) A r
      → Behind Le s ((e ∷ es) ∷ rest) A (elim o [ none ↦ r | some a ↦ some (e.number ∷ a.0, a.1) ])
  behind_step lower (read c t f) others = behind_this lower c t f
  behind_step lower (unread n) others = behind_other n others

  behind_no_entry : {rest : Words} → Behind Le s ([] ∷ rest) A none
  behind_no_entry = unread (λ ns P X c. at c)
    where
      at : {rest : Words} {ns : List ℕ} {X : PregroupType} {P : List ℕ} → Choice ([] ∷ rest) ns X → IsLinking Le s (A ++ X) P → ⊥
      at (take m c) t = Memᴰ.not-nil m

  -- `first_entry` is right where the search over the rest is.
  first_entry_lem :
      {rest : Words} {f : PregroupType → Option Selection} {es : List NumberedEntry} → ((Y : PregroupType) → Behind Le s rest Y (f Y)) → Ascending es
      → Behind Le s (es ∷ rest) A (first_entry f A es)
  unfolding first_entry
  first_entry_lem b empty = behind_no_entry
  first_entry_lem b (more {e} lower up) = behind_step lower (b (A ++ e.type)) (first_entry_lem b up)

module _ {le : Test} {Le : Relation} (decides : Decides le Le) (s : Basic) where
  first_behind_lem : {words : Words} → AllAscending words → (A : PregroupType) → Behind Le s words A (first_behind le s words A)
  unfolding first_behind
  first_behind_lem empty A = behind_end (first_linking_lem decides s A)
  first_behind_lem (more up ups) A = first_entry_lem (λ Y. first_behind_lem ups Y) up

-- What is said of the outcome of a search for the first reading: the first reading, or that there is none.
pub data FirstReading (Le : Relation) (targets : List Basic) (words : Words) : Option Answer → Type 0 where
  is_first : {t : ℕ} {ns P : List ℕ} → IsFirst Le targets words t ns P → FirstReading Le targets words (some (answer t ns P))
  no_reading : ((t : ℕ) (ns P : List ℕ) → IsReading Le targets words t ns P → ⊥) → FirstReading Le targets words none

-- A reading for one of some targets is for the first of them or for one of the others, where its number is one less.
data For (Le : Relation) (s : Basic) (targets : List Basic) (words : Words) (ns P : List ℕ) : ℕ → Type 0 where
  first_one : {X : PregroupType} → Choice words ns X → IsLinking Le s X P → For Le s targets words ns P 0
  another : {t : ℕ} → IsReading Le targets words t ns P → For Le s targets words ns P (suc t)

module _ {Le : Relation} {s : Basic} {targets : List Basic} {words : Words} where
  reading_for : {ns P : List ℕ} (t : ℕ) → IsReading Le (s ∷ targets) words t ns P → For Le s targets words ns P t
  reading_for zero r = first_one r.chosen r.linking
  reading_for (suc t) r = another {t = t} (record { target_there = omega (arith, r.target_there); type = r.type; chosen = r.chosen; linking = r.linking })

  reading_of_another : {ns P : List ℕ} {t : ℕ} → IsReading Le targets words t ns P → IsReading Le (s ∷ targets) words (suc t) ns P
  reading_of_another r = record { target_there = omega (arith, r.target_there); type = r.type; chosen = r.chosen; linking = r.linking }

  -- The first target has a reading: its first one is the first of all.
  first_here : {ns P : List ℕ} {X : PregroupType} → Choice words ns X → IsLinking Le s X P
      → ((ns' P' : List ℕ) (X' : PregroupType) → Choice words ns' X' → IsLinking Le s X' P' → AtMost (ns ++ P) (ns' ++ P'))
      → IsFirst Le (s ∷ targets) words 0 ns P
  first_here {ns} {P} {X} c l f = record {
    reading = record { target_there = omega arith; type = X; chosen = c; linking = l };
    least = λ t' ns' P' r. at (reading_for t' r);
  }
    where
      at : {t' : ℕ} {ns' P' : List ℕ} → For Le s targets words ns' P' t' → AtMost (0 ∷ (ns ++ P)) (t' ∷ (ns' ++ P'))
      at {ns'} {P'} (first_one {X = X'} c' l') = later (f ns' P' X' c' l')
      at (another {t} r) = first {a = 0} {b = suc t} (omega arith)

  -- It has none: the first reading for the others is the first of all.
  first_of_others : {t : ℕ} {ns P : List ℕ} → ((ns P : List ℕ) (X : PregroupType) → Choice words ns X → IsLinking Le s X P → ⊥) → IsFirst Le targets words t ns P
      → IsFirst Le (s ∷ targets) words (suc t) ns P
  first_of_others {t} {ns} {P} n i = record { reading = reading_of_another i.reading; least = λ t' ns' P' r. at (reading_for t' r) }
    where
      at : {t' : ℕ} {ns' P' : List ℕ} → For Le s targets words ns' P' t' → AtMost (suc t ∷ (ns ++ P)) (t' ∷ (ns' ++ P'))
      at {ns'} {P'} (first_one {X} c l) = absurd (n ns' P' X c l)
      at {ns'} {P'} (another {t = t'} r) = at_most_raised (i.least t' ns' P' r)

  none_of_others : ((ns P : List ℕ) (X : PregroupType) → Choice words ns X → IsLinking Le s X P → ⊥) → ((t : ℕ) (ns P : List ℕ) → IsReading Le targets words t ns P → ⊥)
      → (t : ℕ) (ns P : List ℕ) → IsReading Le (s ∷ targets) words t ns P → ⊥
  none_of_others n m t ns P r = at (reading_for t r)
    where
      at : {t : ℕ} → For Le s targets words ns P t → ⊥
      at (first_one {X} c l) = n ns P X c l
      at (another {t} r') = m t ns P r'

  -- One target, then the others.
  first_step : {o : Option Selection} {r : Option Answer} → Behind Le s words [] o → FirstReading Le targets words r → FirstReading Le (s ∷ targets) words (first_target o r)
  unfolding first_target
  first_step (read c l f) others = is_first (first_here c l f)
  first_step (unread n) (is_first i) = is_first (first_of_others n i)
  first_step (unread n) (no_reading m) = no_reading (none_of_others n m)

pub choice_length : {words : Words} {ns : List ℕ} {X : PregroupType} → Choice words ns X → length ns ≡ length words
choice_length empty = refl
choice_length (take m c) = ap suc (choice_length c)

-- Entry lists of one length, joined with partner lists to the same list, are the same, and so are these.
joined_same : (ns P ns' P' : List ℕ) → length ns ≡ length ns' → ns ++ P ≡ ns' ++ P' → (ns ≡ ns') × (P ≡ P')
joined_same ns P ns' P' n e = (
  sym (take-append_seam ns P) ∙ ap (take-front (length ns)) e ∙ ap (λ (k : ℕ). take-front k (ns' ++ P')) n ∙ take-append_seam ns' P',
  sym (drop-append_seam ns P) ∙ ap (drop (length ns)) e ∙ ap (λ (k : ℕ). drop k (ns' ++ P')) n ∙ drop-append_seam ns' P',
)

none_iff : {Le : Relation} {targets : List Basic} {words : Words} {o : Option Answer} → FirstReading Le targets words o
    → (o ≡ none) ↔ ((t : ℕ) (ns P : List ℕ) → IsReading Le targets words t ns P → ⊥)
none_iff (is_first {t} {ns} {P} f) = (λ e. absurd (some-ne-none (answer t ns P) e), λ n. absurd (n t ns P f.reading))
none_iff (no_reading n) = (λ e. n, λ m. refl)

module _ {Le : Relation} {targets : List Basic} {words : Words} {t : ℕ} {ns P : List ℕ} where
  some_first : FirstReading Le targets words (some (answer t ns P)) → IsFirst Le targets words t ns P
  some_first (is_first f) = f

  -- At most one reading is the first.
  unique : {o : Option Answer} → FirstReading Le targets words o → IsFirst Le targets words t ns P → o ≡ some (answer t ns P)
  unique (is_first {t = t'} {ns = ns'} {P = P'} f) i =
      let length-same = choice_length f.reading.chosen ∙ sym (choice_length i.reading.chosen) in
      let both = at_most_both (f.least t ns P i.reading) (i.least t' ns' P' f.reading) in
      let e = joined_same ns' P' ns P length-same (ap (drop 1) both) in
      let e₀ : t' ≡ t = ap (λ (l : List ℕ). get_or l 0 0) both in
      let e₁ = e.0 in
      let e₂ = e.1 in
      cc
  unique (no_reading n) i = absurd (n t ns P i.reading)

module _ {le : Test} {Le : Relation} (decides : Decides le Le) {words : Words} (ascending : AllAscending words) where
  pub first_reading_lem : (targets : List Basic) → FirstReading Le targets words (first_reading le targets words)
  unfolding first_reading
  first_reading_lem [] = no_reading (λ t ns P r. absurd (omega (arith, r.target_there)))
  first_reading_lem (s ∷ targets) = first_step (first_behind_lem decides s ascending []) (first_reading_lem targets)

  module _ {targets : List Basic} where
    -- What `first_reading` gives is the first reading.
    pub first_reading_some : {t : ℕ} {ns P : List ℕ} → first_reading le targets words ≡ some (answer t ns P) → IsFirst Le targets words t ns P
    first_reading_some e = some_first (rw e at (first_reading_lem targets))

    -- It gives none exactly when there is no reading.
    pub first_reading_none : (first_reading le targets words ≡ none) ↔ ((t : ℕ) (ns P : List ℕ) → IsReading Le targets words t ns P → ⊥)
    first_reading_none = none_iff (first_reading_lem targets)

    -- Any first reading is what it gives.
    pub first_reading_unique : {t : ℕ} {ns P : List ℕ} → IsFirst Le targets words t ns P → first_reading le targets words ≡ some (answer t ns P)
    first_reading_unique i = unique (first_reading_lem targets) i
