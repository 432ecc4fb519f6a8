-- Choices of entries and paths are the same between boundaries; a slot can be chosen on the way to a complete choice exactly when the prefix
-- is finished from its first node; and taking the first such slot at each boundary gives the first choice.
use Prim.Native.Nat.{ℕ, ◌≤◌, ◌<◌}
use native.Mathlib.Omega.{arith}
use mathlib.Core.Path.{◌≡◌, refl, sym, ap, ◌∙◌, subst}
use mathlib.Core.Logic.{◌↔◌, ◌⊎◌, inl, inr}
use mathlib.Core.List.{List, [], ◌∷◌, ◌++◌, append_assoc, append-nil}
use Rattle.pregroup.specs.Types.{Simple, PregroupType}
use Rattle.pregroup.specs.Order.{Relation}
use Rattle.pregroup.specs.Vanish.{Vanish}
use Rattle.graph.specs.Graph.{Graph, entered_at, Labelled, EntersBy, by, Path, here, take, enter, Boundary, Spells, ended, more}
use Rattle.linking.specs.Linking.{AtMost, equal, first as smaller, later}
use Rattle.choice.specs.Completion.{Finishes, finishes, SlotChoice, done, choose, Completes, completes, CompletableBy, by_slot, FirstChoice, Scanned, ends, takes}
use Rattle.chart.proofs.Recurrence.{path_append}
use Rattle.choice.proofs.Completion.{path_of_entry}
use Rattle.bits.proofs.Cases.{less_or_not, same_or_not}

-- From any node: the rest of an entry, and then a choice.
data Onward (g : Graph) (u : ℕ) : PregroupType → ℕ → Type 0 where
  onward : {b end : ℕ} {T X : PregroupType} {slots : List ℕ} → Spells g u T b → SlotChoice g b slots X end → Onward g u (T ++ X) end

module _ {g : Graph} where
  pub path_of_choice : {u end : ℕ} {X : PregroupType} {slots : List ℕ} → SlotChoice g u slots X end → Path g u X end
  path_of_choice (done b) = here
  path_of_choice (choose {s} e t c) = enter (by s e) (path_append (path_of_entry t) (path_of_choice c))

  onward_take : {u n end : ℕ} {x : Simple} {X : PregroupType} → Labelled g u x n → Onward g n X end → Onward g u (x ∷ X) end
  onward_take l (onward t c) = onward (more l t) c

  onward_enter : {u s w end : ℕ} {X : PregroupType} → EntersBy g u s w → Onward g w X end → Onward g u X end
  onward_enter e (onward t c) = onward (ended e.boundary) (choose e t c)

  path_onward : {u end : ℕ} {X : PregroupType} → Boundary g end → Path g u X end → Onward g u X end
  path_onward last here = onward (ended last) (done last)
  path_onward last (take l p) = onward_take l (path_onward last p)
  path_onward last (enter (by s e) p) = onward_enter e (path_onward last p)

-- A path between boundaries is that of a choice.
module _ {g : Graph} where
  choice_onward : {u end : ℕ} {X : PregroupType} → Boundary g u → Onward g u X end → (slots : List ℕ) × SlotChoice g u slots X end
  choice_onward b (onward (ended h) c) = (_, c)
  choice_onward b (onward (more l t) c) = absurd (omega (arith, l.simple))

  pub choice_of_path : {u end : ℕ} {X : PregroupType} → Boundary g u → Boundary g end → Path g u X end → (slots : List ℕ) × SlotChoice g u slots X end
  choice_of_path b last p = choice_onward b (path_onward last p)

module _ {Le : Relation} {g : Graph} where
  completable_onward : {P X : PregroupType} {u s w end : ℕ} → EntersBy g u s w → Vanish Le (P ++ X) → Onward g w X end → CompletableBy Le g P u s end
  completable_onward e v (onward t c) = by_slot (completes (choose e t c) v)

  finishes_chosen :
      {P : PregroupType} {u s w end : ℕ} {slots : List ℕ} → EntersBy g u s w → Completes Le g P u (s ∷ slots) end → Finishes Le g P w end
  finishes_chosen {end} e (completes (choose {T} {X} f t c) v) =
      finishes (subst (λ (n : ℕ). Path g n (T ++ X) end) (f.entered ∙ sym e.entered) (path_append (path_of_entry t) (path_of_choice c))) v

  completable_slot : {P : PregroupType} {u s w end : ℕ} → Boundary g end → EntersBy g u s w → Finishes Le g P w end → CompletableBy Le g P u s end
  completable_slot last e (finishes p v) = completable_onward e v (path_onward last p)

  finishes_slot : {P : PregroupType} {u s w end : ℕ} → EntersBy g u s w → CompletableBy Le g P u s end → Finishes Le g P w end
  finishes_slot e (by_slot c) = finishes_chosen e c

  -- P is finished from the node that a slot enters exactly when some choice that takes this slot first completes P.
  pub slot_completes :
      {P : PregroupType} {u s w end : ℕ} → Boundary g end → EntersBy g u s w → Finishes Le g P w end ↔ CompletableBy Le g P u s end
  slot_completes last e = (completable_slot last e, finishes_slot e)

-- Two entries from one node are the same.
pub data SameEntry (T : PregroupType) (b : ℕ) : PregroupType → ℕ → Type 0 where
  same_entry : SameEntry T b T b

same_more : {x y : Simple} {T R : PregroupType} {b c : ℕ} → x ≡ y → SameEntry T b R c → SameEntry (x ∷ T) b (y ∷ R) c
same_more e same_entry = rw e same_entry

module _ {g : Graph} where
  pub entry_same : {u b c : ℕ} {T R : PregroupType} → Spells g u T b → Spells g u R c → SameEntry T b R c
  entry_same (ended b) (ended h) = same_entry
  entry_same (ended b) (more m r) = absurd (omega (arith, m.simple))
  entry_same (more l t) (ended h) = absurd (omega (arith, l.simple))
  entry_same {c} (more l t) (more {T = R} m r) =
      same_more (l.label ∙ sym m.label) (entry_same t (subst (λ (n : ℕ). Spells g n R c) (m.next ∙ sym l.next) r))

-- A choice stays where it is or leaves by a slot.
data Leaves (g : Graph) : ℕ → List ℕ → PregroupType → ℕ → Type 0 where
  stays : {u v : ℕ} → u ≡ v → Leaves g u [] [] v
  leaves :
      {u s w b v : ℕ} {T X : PregroupType} {slots : List ℕ} → EntersBy g u s w → Spells g w T b → SlotChoice g b slots X v
      → Leaves g u (s ∷ slots) (T ++ X) v

leaves_of : {g : Graph} {u v : ℕ} {X : PregroupType} {slots : List ℕ} → SlotChoice g u slots X v → Leaves g u slots X v
leaves_of (done b) = stays refl
leaves_of (choose e t c) = leaves e t c

module _ {g : Graph} {end : ℕ} (closed : (s w : ℕ) → EntersBy g end s w → ⊥) where
  -- Nothing leaves the end.
  first_at_end : {X : PregroupType} {others : List ℕ} → Leaves g end others X end → AtMost [] others
  first_at_end (stays e) = equal
  first_at_end (leaves {s} {w} e t c) = absurd (closed s w e)

module _ {Le : Relation} {g : Graph} {end : ℕ} (last : Boundary g end) (closed : (s w : ℕ) → EntersBy g end s w → ⊥) where
  reads_more :
      {P T : PregroupType} {u s w b : ℕ} {slots : List ℕ} → EntersBy g u s w → Spells g w T b → Completes Le g (P ++ T) b slots end
      → Completes Le g P u (s ∷ slots) end
  reads_more e t (completes c v) = completes (choose e t c) (rw append_assoc at v)

  scanned_reads : {P : PregroupType} {u : ℕ} {slots : List ℕ} → Scanned Le g end P u slots → Completes Le g P u slots end
  scanned_reads (ends v) = completes (done last) (rw append-nil v)
  scanned_reads (takes e t none rest) = reads_more e t (scanned_reads rest)

  -- The same slot: the rest decides.
  first_behind_lem :
      (P : PregroupType) {T R X : PregroupType} {b c : ℕ} {slots others : List ℕ}
      → ((rest : List ℕ) → Completes Le g (P ++ T) b rest end → AtMost slots rest) → SameEntry T b R c → SlotChoice g c others X end
      → Vanish Le (P ++ (R ++ X)) → AtMost slots others
  first_behind_lem P {others} first same_entry k v = first others (completes k (rw append_assoc v))

  module _ (P : PregroupType) {T : PregroupType} {u s w b : ℕ} {slots : List ℕ} (e : EntersBy g u s w) (t : Spells g w T b)
      (none : (r v : ℕ) → r < s → EntersBy g u r v → Finishes Le g P v end → ⊥)
      (first : (rest : List ℕ) → Completes Le g (P ++ T) b rest end → AtMost slots rest) where
    first_by :
        {r v c : ℕ} {R X : PregroupType} {others : List ℕ} → (r < s) ⊎ (s ≤ r) → (r ≡ s) ⊎ (r ≡ s → ⊥) → EntersBy g u r v → Spells g v R c
        → SlotChoice g c others X end → Vanish Le (P ++ (R ++ X)) → AtMost (s ∷ slots) (r ∷ others)
    first_by {r} {v} (inl l) q f h k x = absurd (none r v l f (finishes (path_append (path_of_entry h) (path_of_choice k)) x))
    first_by {c} {R} (inr l) (inl q) f h k x =
        let at = f.entered ∙ ap (λ (n : ℕ). entered_at g.slots n) q ∙ sym e.entered in
        rw q (later (first_behind_lem P first (entry_same t (subst (λ (n : ℕ). Spells g n R c) at h)) k x))
    first_by {r} (inr l) (inr q) f h k x = let less : s < r = omega arith in smaller less

    first_here : {others : List ℕ} {X : PregroupType} → Leaves g u others X end → Vanish Le (P ++ X) → AtMost (s ∷ slots) others
    first_here (stays q) x = absurd (closed s w (subst (λ (n : ℕ). EntersBy g n s w) q e))
    first_here (leaves {s = r} f h k) x = first_by (less_or_not r s) (same_or_not r s) f h k x

  scanned_first : {P : PregroupType} {u : ℕ} {slots : List ℕ} → Scanned Le g end P u slots → (others : List ℕ) → Completes Le g P u others end → AtMost slots others
  scanned_first (ends v) others (completes c x) = first_at_end closed (leaves_of c)
  scanned_first (takes {P} e t none rest) others (completes c x) = first_here P e t none (λ o k. scanned_first rest o k) (leaves_of c) x

  -- The slots that are scanned are the first choice that completes P.
  pub scanned_is_first : {P : PregroupType} {u : ℕ} {slots : List ℕ} → Scanned Le g end P u slots → FirstChoice Le g P u slots end
  scanned_is_first r = record { reads = scanned_reads r; first = scanned_first r }
