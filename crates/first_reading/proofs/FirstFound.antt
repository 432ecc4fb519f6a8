-- From the first choice in a line's graph up to one target's end to the values of its answer: which numbers are written for the entries, which
-- string is linked, that it reduces to the target, and that the first reading for it is what the entries and any first linking of the string
-- make.
use Prim.Native.Nat.{ℕ, ◌+◌, ◌≤◌}
use native.Mathlib.Omega.{arith}
use mathlib.Core.Path.{◌≡◌, refl, sym, ap, subst, ◌∙◌}
use mathlib.Core.Logic.{◌↔◌}
use mathlib.Core.List.{List, [], ◌∷◌, ◌++◌, map}
use mathlib.Core.Option.{Option, none, some}
use lib.IntN.{pos}
use lib.ListN.{length, take, length-append}
use lib.Seq.{take-take, take_at, length-take-le}
use Rattle.pregroup.specs.Types.{Basic, PregroupType, ◌⁽◌⁾}
use Rattle.pregroup.specs.Order.{Relation}
use Rattle.pregroup.specs.Vanish.{Vanish, Reduces}
use Rattle.pregroup.specs.Tests.{Test, Decides}
use Rattle.pregroup.proofs.Switching.{reduces_iff_vanish}
use Rattle.linking.specs.Linking.{first_linking}
use Rattle.linking.specs.Reading.{Words, first_for}
use Rattle.line.specs.Passing.{AllKnown}
use Rattle.graph.specs.Graph.{Graph, number_at, EntersBy, VanishTo, along, Boundary}
use Rattle.choice.specs.Completion.{Finishes, finishes, Completes, completes}
use Rattle.table.specs.Table.{string_of}
use Rattle.table.proofs.Stretches.{length_string, take_string}
use Rattle.choice.specs.First.{Chose}
use Rattle.graph.specs.Layout.{Laid}
use Rattle.first_reading.proofs.Selection.{with_number, with_numbers, last_answer, Answered, laid_none, scanned_answers}

with_numbers_lem : (ns Q : List ℕ) → with_numbers ns (some ([], Q)) ≡ some (ns, Q)
with_numbers_lem [] Q = refl
with_numbers_lem (n ∷ ns) Q = ap (with_number n) (with_numbers_lem ns Q)

module _ {Le : Relation} {g : Graph} {u end : ℕ} where
  finishes_of : VanishTo Le g u end → Finishes Le g [] u end
  finishes_of (along p v) = finishes p v

  vanish_of : Finishes Le g [] u end → VanishTo Le g u end
  vanish_of (finishes p v) = along p v

-- What is known of a line once its first choice is found.
pub record FirstFound (le : Test) (Le : Relation) (g : Graph) (t : Basic) (words : Words) (string chosen : List ℕ) (count places : ℕ) : Type 0 where
  pub m : ℕ
  pub places_are : places ≡ m + 1
  pub long : length (string_of string m) ≡ m
  pub reduces : Reduces Le t (string_of string m)
  pub taken : count ≡ length words + 1
  pub first : (Q : List ℕ) → first_linking le t (string_of string m) ≡ some Q → first_for le t words ≡ some (map (λ (s : ℕ). number_at g.slots s) (take (length words) chosen), Q)

module _ {le : Test} {Le : Relation} (decides : Decides le Le) (g : Graph) (t : Basic) (end : ℕ) (last : Boundary g end)
    (closed : (s w : ℕ) → EntersBy g end s w → ⊥) {words : Words} (laid : Laid g t 0 words end) (known_words : AllKnown words) where
  -- No reading for the target exactly when the chart has no way from the first node to its end.
  pub unread_iff : (first_for le t words ≡ none) ↔ (VanishTo Le g 0 end → ⊥)
  unread_iff = let h = laid_none decides g t end last closed laid known_words [] in (λ e v. h.0 e (finishes_of v), λ n. h.1 (λ f. n (vanish_of f)))

  module _ {string chosen table : List ℕ} {count places : ℕ} (c : Chose Le g string chosen table end count places) (room : count ≤ length chosen) where
    answered : Answered decides g t end last closed [] 0 words (take count chosen)
    answered = scanned_answers decides g t end last closed laid known_words [] (take count chosen) c.scanned

    whole : (string_of string places ≡ answered.string ++ (t ⁽ pos 1 ⁾ ∷ [])) × (length (take count chosen) ≡ length words + 1)
    whole = answered.spelt (string_of string places) c.spelled

    -- How many simple types the choice has, without the target's.
    abbrev m : ℕ
    m = length answered.string

    places_are : places ≡ m + 1
    places_are =
        sym (length_string string places) ∙ ap length whole.0 ∙ length-append answered.string (t ⁽ pos 1 ⁾ ∷ [])

    string_is : string_of string m ≡ answered.string
    string_is =
        sym (take_string string m places (omega (arith, places_are))) ∙ ap (take m) whole.0 ∙ take_at answered.string (t ⁽ pos 1 ⁾ ∷ []) m refl

    vanishes : Completes Le g [] 0 (take count chosen) end → Vanish Le (answered.string ++ (t ⁽ pos 1 ⁾ ∷ []))
    vanishes (completes {X} k v) = subst (λ (Y : PregroupType). Vanish Le Y) (answered.spelt X k).0 v

    numbers_are : answered.ns ≡ map (λ (s : ℕ). number_at g.slots s) (take (length words) chosen)
    numbers_are =
        answered.numbers_are
        ∙ ap (map (λ (s : ℕ). number_at g.slots s)) (take-take (length words) count chosen (omega (arith, whole.1, length-take-le count chosen room)))

    pub first_found : FirstFound le Le g t words string chosen count places
    first_found = record {
      m = m;
      places_are = places_are;
      long = ap length string_is;
      reduces = (reduces_iff_vanish (string_of string m)).1 (rw string_is (vanishes c.first.reads));
      taken = sym (length-take-le count chosen room) ∙ whole.1;
      first = λ Q e.
          answered.answer ∙ ap (λ (o : Option (List ℕ)). with_numbers answered.ns (last_answer o)) (ap (first_linking le t) (sym string_is) ∙ e)
          ∙ with_numbers_lem answered.ns Q ∙ ap (λ (ns : List ℕ). some (ns, Q)) numbers_are;
    }
