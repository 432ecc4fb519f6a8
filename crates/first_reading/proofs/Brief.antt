-- No path through a line's graph has more simple types than a choice of its entries and a target: 12 for each word, and one.
use Prim.Native.Nat.{ℕ, ◌+◌, ◌*◌, ◌≤◌, ◌<◌}
use native.Mathlib.Omega.{arith}
use native.Mathlib.Decide.{ℕ_discrete}
use mathlib.Core.Path.{◌≡◌, refl, sym, ap, subst, ◌∙◌}
use mathlib.Core.Bool.{Bool, true, false}
use mathlib.Core.List.Memᴰ
use mathlib.Core.List.{List, [], ◌∷◌, ◌++◌}
use lib.IntN.{pos}
use lib.ListN.{length, length-append}
use Rattle.figures.specs.Limits.{max_entry_simples}
use Rattle.pregroup.specs.Types.{Basic, PregroupType, ◌⁽◌⁾}
use Rattle.linking.specs.Reading.{NumberedEntry, Words}
use Rattle.line.specs.Passing.{Brief, AllBrief, brief}
use Rattle.line.proofs.Passed.{brief_cons}
use Rattle.graph.specs.Graph.{Graph, from_at, to_at, entered_at, EntersBy, Path, Spells}
use Rattle.graph.specs.Layout.{has_none, slotted, Slots, none as no_slot, slot, Laid, goal, word}
use Rattle.graph.proofs.TargetLaws.{target_adjoint}
use Rattle.choice.specs.Completion.{SlotChoice, done, choose}
use Rattle.chart.proofs.Recurrence.{path_append}
use Rattle.choice.proofs.Completion.{path_of_entry}
use Rattle.choice.proofs.Choices.{SameEntry, same_entry, entry_same, path_of_choice}

-- The entries with a slot are among all.
slotted_brief : (seen : Bool) (es : List NumberedEntry) → Brief es → Brief (slotted seen es)
unfolding slotted
slotted_brief seen [] b = b
slotted_brief seen (e ∷ es) b = go seen (has_none e.type) (λ c. slotted_brief c es (λ f m. b f (Memᴰ.tail m)))
  where
    first : length e.type ≤ max_entry_simples
    first = b e (Memᴰ.head refl)

    go : (s n : Bool) → ((c : Bool) → Brief (slotted c es))
        → Brief (elim n [ true ↦ elim s [ true ↦ slotted true es | false ↦ e ∷ slotted true es ] | false ↦ e ∷ slotted s es ])
    go true true rest = rest true
    go false true rest = brief_cons e (slotted true es) first (rest true)
    go s false rest = brief_cons e (slotted s es) first (rest s)

-- What a slot of a word spells.
same_brief : {T R : PregroupType} {b c : ℕ} → length T ≤ max_entry_simples → SameEntry T b R c → (length R ≤ max_entry_simples) × (c ≡ b)
same_brief h same_entry = (h, refl)

module _ {g : Graph} where
  slot_brief :
      {b s to : ℕ} {es : List NumberedEntry} → Slots g b s to es → Brief es → (r : ℕ) → s ≤ r → r < to → {T : PregroupType} {c : ℕ}
      → Spells g (entered_at g.slots r) T c → (length T ≤ max_entry_simples) × (c ≡ b)
  slot_brief (no_slot e) b r h l q = absurd (omega arith)
  slot_brief {b = d} {s = s} (slot {e} {es} m w slots) b r h l {T} {c} q = at (ℕ_discrete r s) (λ i. slot_brief slots (λ f k. b f (Memᴰ.tail k)) r i l q)
    where
      at : Dec (r ≡ s) → (s + 1 ≤ r → (length T ≤ max_entry_simples) × (c ≡ d)) → (length T ≤ max_entry_simples) × (c ≡ d)
      at (yes i) later = same_brief (b e (Memᴰ.head refl)) (entry_same w (subst (λ (j : ℕ). Spells g (entered_at g.slots j) T c) i q))
      at (no d) later = later (omega (arith, d))

-- Only slot s of the boundary u leads to the end.
abbrev pub Only : Graph → ℕ → ℕ → ℕ → Type 0
Only g u s end = (r w : ℕ) (X : PregroupType) → EntersBy g u r w → Path g w X end → r ≡ s

-- So a choice that comes to the end from u enters where s does.
pub goal_there :
    {g : Graph} {u s v r w b end : ℕ} {T X : PregroupType} {slots : List ℕ} → EntersBy g u s v → Only g u s end → EntersBy g u r w → Spells g w T b
    → SlotChoice g b slots X end → w ≡ v
goal_there {g} {r = r} {w} {T = T} {X} entered only e t c =
    e.entered ∙ ap (λ (n : ℕ). entered_at g.slots n) (only r w (T ++ X) e (path_append (path_of_entry t) (path_of_choice c))) ∙ sym entered.entered

module _ {g : Graph} {end : ℕ} (closed : (s w : ℕ) → EntersBy g end s w → ⊥) where
  -- From the end nothing more is chosen.
  end_brief : {v : ℕ} {slots : List ℕ} {X : PregroupType} → v ≡ end → SlotChoice g v slots X end → length X ≤ 0
  end_brief q (done b) = omega arith
  end_brief q (choose {s} {w} e r c) = absurd (closed s w (subst (λ (n : ℕ). EntersBy g n s w) q e))

  goal_brief : {t : Basic} {T Y : PregroupType} {c : ℕ} {slots : List ℕ} → SameEntry (t ⁽ pos 1 ⁾ ∷ []) end T c → SlotChoice g c slots Y end → length (T ++ Y) ≤ 1
  goal_brief {Y = Y} same_entry k = let h = end_brief refl k in omega arith

  goal_choice :
      {t : Basic} {u s v : ℕ} → EntersBy g u s v → Spells g v (t ⁽ pos 1 ⁾ ∷ []) end → Only g u s end → {slots : List ℕ} {X : PregroupType}
      → SlotChoice g u slots X end → length X ≤ 1
  goal_choice entered entry only (done h) = omega arith
  goal_choice entered entry only (choose {b = c} {T} e r k) =
      goal_brief (entry_same entry (subst (λ (n : ℕ). Spells g n T c) (goal_there entered only e r k) r)) k

  word_choice :
      {b u : ℕ} {es : List NumberedEntry} → Slots g b (from_at g.nodes u) (to_at g.nodes u) es → Brief es → (k : ℕ)
      → ((slots : List ℕ) (X : PregroupType) → SlotChoice g b slots X end → length X ≤ k) → {slots : List ℕ} {X : PregroupType}
      → SlotChoice g u slots X end → length X ≤ max_entry_simples + k
  word_choice slots few k rest (done h) = omega arith
  word_choice slots few k rest (choose {s} {b = c} {T} {X = Y} {slots = others} e r o) =
      let taken = slot_brief slots few s e.from_on e.before (subst (λ (n : ℕ). Spells g n T c) e.entered r) in
      let behind = rest others Y (subst (λ (n : ℕ). SlotChoice g n others Y end) taken.1 o) in
      omega (arith, length-append T Y, taken.0)

  pub laid_brief :
      {t : Basic} {u : ℕ} {words : Words} → Laid g t u words end → AllBrief words → {slots : List ℕ} {X : PregroupType}
      → SlotChoice g u slots X end → length X ≤ max_entry_simples * length words + 1
  laid_brief {t} (goal entered entry only) b c = let k = goal_choice entered (rw (target_adjoint t) at entry) only c in omega arith
  laid_brief (word {es = es} {words = words} h slots rest) (brief b bs) c =
      let k = word_choice slots (slotted_brief false es b) (max_entry_simples * length words + 1) (λ others X o. laid_brief rest bs o) c in
      omega arith
