-- From the graph of a line to its first reading for one target: a line laid out as a graph has one exactly when its graph can be finished up
-- to that target's end, and the slots that are scanned, first to last, give the entries that the definition takes.
use Prim.Native.Nat.{ℕ, ◌+◌, ◌≤◌, ◌<◌}
use native.Mathlib.Omega.{arith}
use native.Mathlib.Decide.{ℕ_discrete}
use mathlib.Core.Path.{◌≡◌, refl, sym, ap, subst, ◌∙◌}
use mathlib.Core.Logic.{◌↔◌}
use mathlib.Core.Bool.{Bool, true, false, false≢true}
use mathlib.Core.List.{List, [], ◌∷◌, ◌++◌, map, append-nil, append_assoc}
use mathlib.Core.Option.{Option, none, some}
use lib.IntN.{pos}
use lib.ListN.{length, take}
use Rattle.pregroup.specs.Types.{Basic, PregroupType, ◌⁽◌⁾}
use Rattle.pregroup.specs.Order.{Relation}
use Rattle.pregroup.specs.Vanish.{Vanish}
use Rattle.pregroup.specs.Tests.{Test, Decides}
use Rattle.pregroup.proofs.Switching.{reduces_iff_vanish}
use Rattle.linking.specs.Linking.{first_linking}
use Rattle.linking.specs.Reading.{NumberedEntry, Words, Selection, first_entry, first_behind}
use Rattle.linking.proofs.Reduction.{linking_iff_reduces}
use Rattle.linking.proofs.FirstLinking.{first_linking_none}
use Rattle.line.specs.Passing.{AllKnown, known}
use Rattle.graph.specs.Graph.{Graph, next_at, from_at, to_at, entered_at, number_at, EntersBy, by, here, take as take-node, enter, Boundary, Spells}
use Rattle.graph.proofs.TargetLaws.{target_adjoint}
use Rattle.choice.specs.Completion.{Finishes, finishes, SlotChoice, done, choose, Completes, completes, Scanned, ends, takes}
use Rattle.choice.proofs.Completion.{finishes_iff_behind}
use Rattle.choice.proofs.Choices.{SameEntry, same_entry, entry_same, path_of_choice, scanned_is_first}
use Rattle.graph.specs.Layout.{has_none, slotted, Slots, none as no_slot, slot, Laid, goal, word}
use Rattle.first_reading.proofs.Brief.{Only, goal_there}

-- An answer with one entry number more in front.
abbrev pub with_number : ℕ → Option Selection → Option Selection
with_number n none = none
with_number n (some a) = some (n ∷ a.0, a.1)

abbrev pub with_numbers : List ℕ → Option Selection → Option Selection
with_numbers [] o = o
with_numbers (n ∷ ns) o = with_number n (with_numbers ns o)

-- What a word gives by its first entry's outcome.
abbrev by_outcome : NumberedEntry → Option Selection → Option Selection → Option Selection
by_outcome e none rest = rest
by_outcome e (some a) rest = some (e.number ∷ a.0, a.1)

empty_of_none : (T : PregroupType) → has_none T ≡ true → T ≡ []
empty_of_none [] h = refl
empty_of_none (x ∷ T) h = absurd (false≢true h)

-- An entry with the empty type behind one that was of no use is of no use: leaving out the entries without a slot changes nothing.
module _ (rest : PregroupType → Option Selection) (X : PregroupType) where
  entry_step : (e : NumberedEntry) (es : List NumberedEntry) (o : Option Selection) → rest (X ++ e.type) ≡ o → first_entry rest X (e ∷ es) ≡ by_outcome e o (first_entry rest X es)
  unfolding first_entry
  entry_step e es none h = rw (h, first_entry)
  entry_step e es (some a) h = rw (h, first_entry)

  entry_cong : (e : NumberedEntry) (es fs : List NumberedEntry) → first_entry rest X es ≡ first_entry rest X fs → first_entry rest X (e ∷ es) ≡ first_entry rest X (e ∷ fs)
  entry_cong e es fs h =
      let o = rest (X ++ e.type) in
      entry_step e es o refl ∙ ap (by_outcome e o) h ∙ sym (entry_step e fs o refl)

  -- An empty entry is of no use where the empty type was of none.
  skip_empty : (e : NumberedEntry) (es : List NumberedEntry) → e.type ≡ [] → rest (X ++ []) ≡ none → first_entry rest X (e ∷ es) ≡ first_entry rest X es
  skip_empty e es t h = entry_step e es none (ap (λ (T : PregroupType). rest (X ++ T)) t ∙ h)

  keep_empty :
      (e : NumberedEntry) (es fs : List NumberedEntry) (o : Option Selection) → e.type ≡ [] → rest (X ++ []) ≡ o
      → (rest (X ++ []) ≡ none → first_entry rest X es ≡ first_entry rest X fs) → first_entry rest X (e ∷ es) ≡ first_entry rest X (e ∷ fs)
  keep_empty e es fs none t h same = entry_cong e es fs (same h)
  keep_empty e es fs (some a) t h same =
      let here = ap (λ (T : PregroupType). rest (X ++ T)) t ∙ h in
      entry_step e es (some a) here ∙ sym (entry_step e fs (some a) here)

  slotted_same : (seen : Bool) (es : List NumberedEntry) → (seen ≡ true → rest (X ++ []) ≡ none) → first_entry rest X (slotted seen es) ≡ first_entry rest X es
  unfolding slotted
  slotted_same seen [] h = refl
  slotted_same seen (e ∷ es) h = go seen (has_none e.type) refl h (λ b k. slotted_same b es k)
    where
      go : (b n : Bool) → has_none e.type ≡ n → (b ≡ true → rest (X ++ []) ≡ none) → ((c : Bool) → (c ≡ true → rest (X ++ []) ≡ none) → first_entry rest X (slotted c es) ≡ first_entry rest X es)
          → first_entry rest X (elim n [ true ↦ elim b [ true ↦ slotted true es | false ↦ e ∷ slotted true es ] | false ↦ e ∷ slotted b es ]) ≡ first_entry rest X (e ∷ es)
      go b false q k ih = entry_cong e (slotted b es) es (ih b k)
      go true true q k ih = ih true k ∙ sym (skip_empty e es (empty_of_none e.type q) (k refl))
      go false true q k ih = keep_empty e (slotted true es) es (rest (X ++ [])) (empty_of_none e.type q) refl (λ z. ih true (λ r. z))

-- The answer for no more words, by the first linking.
abbrev pub last_answer : Option (List ℕ) → Option Selection
last_answer none = none
last_answer (some Q) = some ([], Q)

behind_none : (le : Test) (t : Basic) (P : PregroupType) → first_behind le t [] P ≡ last_answer (first_linking le t P)
unfolding first_behind
behind_none le t P = go (first_linking le t P)
  where
    go : (o : Option (List ℕ)) → elim o [ none ↦ none | some Q ↦ some ([], Q) ] ≡ last_answer o
    go none = refl
    go (some Q) = refl

no_answer : (o : Option (List ℕ)) → last_answer o ≡ none → o ≡ none
no_answer none h = refl
no_answer (some Q) h = let z : ◌≡◌ {A = ℕ} 0 1 = cc in absurd (omega arith)

slots_le : {g : Graph} {b s to : ℕ} {es : List NumberedEntry} → Slots g b s to es → s ≤ to
slots_le (no_slot e) = omega arith
slots_le (slot n t rest) = let h = slots_le rest in omega arith

-- The first entry of a word has a slot.
slots_some : {g : Graph} {b s to : ℕ} (e : NumberedEntry) (es : List NumberedEntry) → Slots g b s to (slotted false (e ∷ es)) → s < to
unfolding slotted
slots_some {g} {b} {s} {to} e es slots = go (has_none e.type) slots
  where
    some_slot : {fs : List NumberedEntry} → Slots g b s to (e ∷ fs) → s < to
    some_slot (slot m k rest) = let h = slots_le rest in omega arith

    go : (n : Bool) → Slots g b s to (elim n [ true ↦ elim false [ true ↦ slotted true es | false ↦ e ∷ slotted true es ] | false ↦ e ∷ slotted false es ]) → s < to
    go true k = some_slot k
    go false k = some_slot k

module _ {le : Test} {Le : Relation} (decides : Decides le Le) (g : Graph) (t : Basic) (end : ℕ) (last : Boundary g end) (closed : (s w : ℕ) → EntersBy g end s w → ⊥) where
  -- From the end nothing more is spelt.
  vanish_of_end : {P : PregroupType} {u : ℕ} → u ≡ end → Finishes Le g P u end → Vanish Le P
  vanish_of_end q (finishes here v) = rw append-nil at v
  vanish_of_end q (finishes (take-node l p) v) = absurd (omega (arith, l.simple, ap (next_at g.nodes) q))
  vanish_of_end q (finishes (enter (by s e) p) v) = absurd (closed s _ (rw q at e))

  -- From any other boundary a slot is taken.
  pub record Taken (P : PregroupType) (u : ℕ) : Type 0 where
    pub slot_taken : ℕ
    pub leads : ℕ
    pub enters : EntersBy g u slot_taken leads
    pub finished : Finishes Le g P leads end

  taken : {P : PregroupType} {u : ℕ} → Boundary g u → (u ≡ end → ⊥) → Finishes Le g P u end → Taken P u
  taken b apart (finishes here v) = absurd (apart refl)
  taken b apart (finishes (take-node l p) v) = absurd (omega (arith, l.simple))
  taken b apart (finishes (enter (by s e) p) v) = record { slot_taken = s; leads = _; enters = e; finished = finishes p v }

  finishes_enter : {P : PregroupType} {u s w : ℕ} → EntersBy g u s w → Finishes Le g P w end → Finishes Le g P u end
  finishes_enter {s} e (finishes p v) = finishes (enter (by s e) p) v

  -- The target's part: P is finished from there exactly when it reduces to the target.
  goal_iff : {u s v : ℕ} (P : PregroupType) → EntersBy g u s v → Spells g v (t ⁽ pos 1 ⁾ ∷ []) end → Only g u s end
      → Finishes Le g P u end ↔ Vanish Le (P ++ (t ⁽ pos 1 ⁾ ∷ []))
  goal_iff {u} {s} {v} P e entry only =
      let apart : u ≡ end → ⊥ = λ q. closed s v (subst (λ (n : ℕ). EntersBy g n s v) q e) in (
        λ f. let k = taken e.boundary apart f in by_slot_of k.enters k.finished,
        λ x. finishes_enter e ((finishes_iff_behind last entry).1 (finishes here (rw (append-nil (P ++ (t ⁽ pos 1 ⁾ ∷ []))) x))),
      )
    where
      by_slot_of : {r w : ℕ} → EntersBy g u r w → Finishes Le g P w end → Vanish Le (P ++ (t ⁽ pos 1 ⁾ ∷ []))
      by_slot_of {r} {w} k (finishes {X} p x) =
          let there : w ≡ v = k.entered ∙ ap (λ (n : ℕ). entered_at g.slots n) (only r w X k p) ∙ sym e.entered in
          vanish_of_end refl ((finishes_iff_behind last entry).0 (subst (λ (n : ℕ). Finishes Le g P n end) there (finishes p x)))

  -- The definition's answer for no more words.
  none_iff_unlinked : (P : PregroupType) → (first_behind le t [] P ≡ none) ↔ (Vanish Le (P ++ (t ⁽ pos 1 ⁾ ∷ [])) → ⊥)
  none_iff_unlinked P = (
    λ h v. (first_linking_none decides t P).0 (no_answer (first_linking le t P) (sym (behind_none le t P) ∙ h)) _ (linking_iff_reduces.0 ((reduces_iff_vanish P).1 v)).1,
    λ n. behind_none le t P ∙ ap last_answer ((first_linking_none decides t P).1 (λ Q k. n ((reduces_iff_vanish P).0 (linking_iff_reduces.1 (Q, k))))),
  )

  module _ (b : ℕ) (words : Words) (rest : (P : PregroupType) → (first_behind le t words P ≡ none) ↔ (Finishes Le g P b end → ⊥)) (P : PregroupType) where
    abbrev go_on : PregroupType → Option Selection
    go_on Y = first_behind le t words Y

    -- A slot whose node does not finish P is of no use.
    useless : {w : ℕ} (e : NumberedEntry) → Spells g w e.type b → (Finishes Le g P w end → ⊥) → first_behind le t words (P ++ e.type) ≡ none
    useless e k n = (rest (P ++ e.type)).1 (λ f. n ((finishes_iff_behind last k).1 f))

    scan_none : {s to : ℕ} {es : List NumberedEntry} → Slots g b s to es
        → ((r : ℕ) → s ≤ r → r < to → Finishes Le g P (entered_at g.slots r) end → ⊥) → first_entry go_on P es ≡ none
    unfolding first_entry
    scan_none (no_slot e) n = refl
    scan_none {s} (slot {e} {es} m k slots) n =
        let h = slots_le slots in
        entry_step go_on P e es none (useless e k (n s (omega arith) (omega arith))) ∙ scan_none slots (λ r i j. n r (omega arith) j)

    -- The first slot whose node finishes P is taken: what that gives for the entries es.
    pub record Picked (k : ℕ) (T : PregroupType) (c : ℕ) (es : List NumberedEntry) : Type 0 where
      pub behind : c ≡ b
      pub answer : first_entry go_on P es ≡ with_number (number_at g.slots k) (go_on (P ++ T))

    some_number : (e : NumberedEntry) (es : List NumberedEntry) (n : ℕ) (o : Option Selection) → n ≡ e.number → (o ≡ none → ⊥) → go_on (P ++ e.type) ≡ o → first_entry go_on P (e ∷ es) ≡ with_number n o
    some_number e es n none m not_None h = absurd (not_None refl)
    some_number e es n (some a) m not_None h = entry_step go_on P e es (some a) h ∙ ap (λ (k : ℕ). some (k ∷ a.0, a.1)) (sym m)

    picked_here : {s : ℕ} (e : NumberedEntry) (es : List NumberedEntry) {T : PregroupType} {c : ℕ} → number_at g.slots s ≡ e.number → Finishes Le g (P ++ e.type) b end → SameEntry e.type b T c → Picked s T c (e ∷ es)
    picked_here e es m f same_entry =
        record { behind = refl; answer = some_number e es _ (go_on (P ++ e.type)) m (λ z. (rest (P ++ e.type)).0 z f) refl }

    scan_first : {s to : ℕ} {es : List NumberedEntry} → Slots g b s to es → (k : ℕ) (T : PregroupType) (c : ℕ) → s ≤ k → k < to
        → ((r : ℕ) → s ≤ r → r < k → Finishes Le g P (entered_at g.slots r) end → ⊥) → Finishes Le g P (entered_at g.slots k) end
        → Spells g (entered_at g.slots k) T c → Picked k T c es
    scan_first (no_slot e) k T c h l n f q = absurd (omega arith)
    scan_first {s} (slot {e} {es} m w slots) k T c h l n f q = at (λ i. scan_first slots k T c i l (λ r x y. n r (omega arith) y) f q) (ℕ_discrete k s)
      where
        at : (s + 1 ≤ k → Picked k T c es) → Dec (k ≡ s) → Picked k T c (e ∷ es)
        at later (yes i) =
            let f' : Finishes Le g P (entered_at g.slots s) end = subst (λ (j : ℕ). Finishes Le g P (entered_at g.slots j) end) i f in
            let q' : Spells g (entered_at g.slots s) T c = subst (λ (j : ℕ). Spells g (entered_at g.slots j) T c) i q in
            subst (λ (j : ℕ). Picked j T c (e ∷ es)) (sym i) (picked_here e es m ((finishes_iff_behind last w).0 f') (entry_same w q'))
        at later (no d) =
            let p = later (omega (arith, d)) in
            record {
              behind = p.behind;
              answer = entry_step go_on P e es none (useless e w (n s (omega arith) (omega (arith, d)))) ∙ p.answer;
            }

    -- Where there is no answer, no slot finishes P.
    none_each : {s to : ℕ} {es : List NumberedEntry} → Slots g b s to es → first_entry go_on P es ≡ none → (r : ℕ) → s ≤ r → r < to
        → Finishes Le g P (entered_at g.slots r) end → ⊥
    none_each (no_slot e) h r i j f = omega arith
    none_each {s} {to} (slot {e} {es} m w slots) h r i j f = at (go_on (P ++ e.type)) refl (λ z a. none_each slots z r a j f) (ℕ_discrete r s)
      where
        at : (o : Option Selection) → go_on (P ++ e.type) ≡ o → (first_entry go_on P es ≡ none → s + 1 ≤ r → ⊥) → Dec (r ≡ s) → ⊥
        at (some a) k later d = let z : ◌≡◌ {A = ℕ} 0 1 = cc (sym (entry_step go_on P e es (some a) k) ∙ h) in omega arith
        at none k later (yes q) = (rest (P ++ e.type)).0 k ((finishes_iff_behind last w).0 (subst (λ (n : ℕ). Finishes Le g P (entered_at g.slots n) end) q f))
        at none k later (no d) = later (sym (entry_step go_on P e es none k) ∙ h) (omega (arith, d))

  -- The answer for one word more, by its slotted entries.
  behind_word : (es : List NumberedEntry) (words : Words) (P : PregroupType) → first_behind le t (es ∷ words) P ≡ first_entry (λ Y. first_behind le t words Y) P (slotted false es)
  unfolding first_behind
  behind_word es words P = sym (slotted_same (λ Y. first_behind le t words Y) P false es (λ h. absurd (false≢true h)))

  -- A line has no answer exactly when its graph can't be finished.
  pub laid_none : {u : ℕ} {words : Words} → Laid g t u words end → AllKnown words → (P : PregroupType) → (first_behind le t words P ≡ none) ↔ (Finishes Le g P u end → ⊥)
  laid_none (goal e entry only) known_words P =
      let spelt = rw (target_adjoint t) at entry in
      (λ h f. (none_iff_unlinked P).0 h ((goal_iff P e spelt only).0 f), λ n. (none_iff_unlinked P).1 (λ v. n ((goal_iff P e spelt only).1 v)))
  laid_none {u} (word {b = c} {words = words} b slots rest) (known {e} {es} ks) P =
      let k : (Q : PregroupType) → (first_behind le t words Q ≡ none) ↔ (Finishes Le g Q c end → ⊥) = λ Q. laid_none rest ks Q in
      let s = from_at g.nodes u in
      let here-slot : EntersBy g u s (entered_at g.slots s) = record { boundary = b; from_on = omega arith; before = slots_some e es slots; entered = refl } in
      let apart : u ≡ end → ⊥ = λ q. closed s _ (subst (λ (n : ℕ). EntersBy g n s (entered_at g.slots s)) q here-slot) in (
        λ h f.
            let x = taken b apart f in
            none_each c words k P slots (sym (behind_word (e ∷ es) words P) ∙ h) x.slot_taken x.enters.from_on x.enters.before
            (subst (λ (n : ℕ). Finishes Le g P n end) x.enters.entered x.finished),
        λ n. behind_word (e ∷ es) words P ∙ scan_none c words k P slots (λ r i j f. n (finishes_enter (record { boundary = b; from_on = i; before = j; entered = refl }) f)),
      )

  -- What is scanned of a line gives the definition's answer: the numbers of the entries, and the first linking of what they spell. Whatever
  -- the slots spell behind P is that string, and then the target's right adjoint.
  pub record Answered (P : PregroupType) (u : ℕ) (words : Words) (slots : List ℕ) : Type 0 where
    pub ns : List ℕ
    pub string : PregroupType
    pub numbers_are : ns ≡ map (λ (s : ℕ). number_at g.slots s) (take (length words) slots)
    pub spelt : (X : PregroupType) → SlotChoice g u slots X end → (P ++ X ≡ string ++ (t ⁽ pos 1 ⁾ ∷ [])) × (length slots ≡ length words + 1)
    pub answer : first_behind le t words P ≡ with_numbers ns (last_answer (first_linking le t string))

  -- A choice at the end has no slot.
  choice_at_end : {v : ℕ} {slots : List ℕ} {X : PregroupType} → v ≡ end → SlotChoice g v slots X end → (slots ≡ []) × (X ≡ [])
  choice_at_end q (done b) = (refl, refl)
  choice_at_end q (choose {s} {w} e r c) = absurd (closed s w (subst (λ (n : ℕ). EntersBy g n s w) q e))

  -- Of the targets' word the one slot that leads to the end spells the target's right adjoint.
  goal_spelt : {u s v : ℕ} {slots : List ℕ} (P X : PregroupType) → EntersBy g u s v → Spells g v (t ⁽ pos 1 ⁾ ∷ []) end → Only g u s end
      → SlotChoice g u slots X end → (P ++ X ≡ P ++ (t ⁽ pos 1 ⁾ ∷ [])) × (length slots ≡ 1)
  goal_spelt {s = s} {v} P X e entry only (done h) = absurd (closed s v e)
  goal_spelt {u} P X e entry only (choose {s = r} {b = c} {T} {X = Y} {slots = more} k spelt others) =
      go (entry_same entry (subst (λ (n : ℕ). Spells g n T c) (goal_there e only k spelt others) spelt)) others
    where
      go : {T : PregroupType} {c : ℕ} → SameEntry (t ⁽ pos 1 ⁾ ∷ []) end T c → SlotChoice g c more Y end → (P ++ (T ++ Y) ≡ P ++ (t ⁽ pos 1 ⁾ ∷ [])) × (length (r ∷ more) ≡ 1)
      go same_entry c =
          let empty = choice_at_end refl c in
          (ap (λ (Z : PregroupType). P ++ (t ⁽ pos 1 ⁾ ∷ Z)) empty.1, ap (λ (l : List ℕ). length (r ∷ l)) empty.0)

  -- What a word's slot spells, and then the rest.
  word_spelt : {u s w b n : ℕ} {T X Z : PregroupType} {slots : List ℕ} (P : PregroupType) → EntersBy g u s w → Spells g w T b
      → ((Y : PregroupType) → SlotChoice g b slots Y end → ((P ++ T) ++ Y ≡ Z) × (length slots ≡ n)) → SlotChoice g u (s ∷ slots) X end → (P ++ X ≡ Z) × (length (s ∷ slots) ≡ n + 1)
  word_spelt {s} {w} {b} {n} {T} {Z} {slots} P enters entry rest (choose {b = c} {T = R} {X = Y} e r k) =
      go (entry_same entry (subst (λ (v : ℕ). Spells g v R c) (e.entered ∙ sym enters.entered) r)) k
    where
      go : {R : PregroupType} {c : ℕ} → SameEntry T b R c → SlotChoice g c slots Y end → (P ++ (R ++ Y) ≡ Z) × (length (s ∷ slots) ≡ n + 1)
      go same_entry c = let h = rest Y c in (sym (append_assoc P T Y) ∙ h.0, omega (arith, h.1))

  finishes_scanned : {P : PregroupType} {u : ℕ} {slots : List ℕ} → Scanned Le g end P u slots → Finishes Le g P u end
  finishes_scanned r = go (scanned_is_first last closed r).reads
    where
      go : {P : PregroupType} {u : ℕ} {slots : List ℕ} → Completes Le g P u slots end → Finishes Le g P u end
      go (completes c v) = finishes (path_of_choice c) v

  module _
      {c : ℕ} (e : NumberedEntry) (es : List NumberedEntry) (words : Words) (k : (Q : PregroupType) → (first_behind le t words Q ≡ none) ↔ (Finishes Le g Q c end → ⊥))
      (rest : (Q : PregroupType) (others : List ℕ) → Scanned Le g end Q c others → Answered Q c words others) where
    taken_word :
        {P T : PregroupType} {u s w b : ℕ} {slots : List ℕ} → Slots g c (from_at g.nodes u) (to_at g.nodes u) (slotted false (e ∷ es)) → Boundary g u
        → EntersBy g u s w → Spells g w T b → ((r v : ℕ) → r < s → EntersBy g u r v → Finishes Le g P v end → ⊥) → Scanned Le g end (P ++ T) b slots
        → Answered P u ((e ∷ es) ∷ words) (s ∷ slots)
    taken_word {P} {T} {u} {s} {w} {b} {slots} slots-of bound enters entry earlier more =
        let at_slot = enters.entered in
        let f : Finishes Le g P w end = (finishes_iff_behind last entry).1 (finishes_scanned more) in
        let p = scan_first c words k P slots-of s T b enters.from_on enters.before
        (λ r i j h. earlier r (entered_at g.slots r) j (record { boundary = bound; from_on = i; before = omega (arith, enters.before); entered = refl }) h)
        (subst (λ (n : ℕ). Finishes Le g P n end) at_slot f) (subst (λ (n : ℕ). Spells g n T b) at_slot entry) in
        let a = rest (P ++ T) slots (subst (λ (n : ℕ). Scanned Le g end (P ++ T) n slots) p.behind more) in
        record {
          ns = number_at g.slots s ∷ a.ns;
          string = a.string;
          numbers_are = ap (λ (l : List ℕ). number_at g.slots s ∷ l) a.numbers_are;
          spelt = λ X h. let x = word_spelt P enters (subst (λ (n : ℕ). Spells g w T n) p.behind entry) a.spelt h in (x.0, omega (arith, x.1));
          answer = behind_word (e ∷ es) words P ∙ p.answer ∙ ap (with_number (number_at g.slots s)) a.answer;
        }

    scanned_word :
        {P : PregroupType} {u : ℕ} {slots : List ℕ} → Slots g c (from_at g.nodes u) (to_at g.nodes u) (slotted false (e ∷ es)) → Boundary g u
        → Scanned Le g end P u slots → Answered P u ((e ∷ es) ∷ words) slots
    scanned_word slots-of bound (ends v) =
        absurd (closed (from_at g.nodes end) _ (record { boundary = bound; from_on = omega arith; before = slots_some e es slots-of; entered = refl }))
    scanned_word slots-of bound (takes enters entry earlier more) = taken_word slots-of bound enters entry earlier more

  pub scanned_answers : {u : ℕ} {words : Words} → Laid g t u words end → AllKnown words → (P : PregroupType) (slots : List ℕ) → Scanned Le g end P u slots → Answered P u words slots
  scanned_answers (goal e entry only) ks P slots r = record { ns = []; string = P; numbers_are = refl; spelt = λ X c. goal_spelt P X e (rw (target_adjoint t) at entry) only c; answer = behind_none le t P }
  scanned_answers (word {words = words} b slots-of rest) (known {e} {es} ks) P slots r =
      scanned_word e es words (λ Q. laid_none rest ks Q) (λ Q others s. scanned_answers rest ks Q others s) slots-of b r
