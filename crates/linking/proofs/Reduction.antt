-- `linking_iff_reduces`: a type has a linking exactly when it reduces to the target, that is, when it is L q R, where q is plain, q ≤ s, and
-- L and R vanish.
use Prim.Native.Nat.{ℕ, suc, ◌+◌}
use mathlib.Core.Path.{◌≡◌, sym, ◌∙◌, ap, subst}
use mathlib.Core.Logic.{◌↔◌}
use mathlib.Core.List.{List, ◌∷◌, ◌++◌}
use native.Mathlib.Omega.{arith}
use lib.IntN.{ℤ, pos}
use lib.ListN.{length, length-append}
use Rattle.pregroup.specs.Types.{Basic, Simple, PregroupType, ◌⁽◌⁾, plain}
use Rattle.pregroup.specs.Order.{Relation}
use Rattle.pregroup.specs.Vanish.{Vanish, Reduces, leaves}
use Rattle.linking.specs.Linking.{simple_at, stretch, IsLinking}
use Rattle.linking.proofs.Stretches.{stretch_cons, stretch_append, stretch_all, Reads, reads_head, reads_tail, reads_front, reads_back, reads_self}
use Rattle.linking.proofs.Linked.{Parted, vanish_of_linked, partners_of, partners_length, linked_of_vanish}
use Rattle.linking.proofs.Positions.{linking_iff_parted}

reduces_at :
    {Le : Relation} {s : Basic} (L : PregroupType) (c : Simple) (R : PregroupType) → Vanish Le L → c.exponent ≡ pos 0 → Le c.base s
    → Vanish Le R → Reduces Le s (L ++ (c ∷ R))
reduces_at {Le} {s} L c R l e b r =
    subst (λ (z : ℤ). Reduces Le s (L ++ (c.base ⁽ z ⁾ ∷ R))) (sym e) (leaves c.base l b r)

reduces_of_parted : {Le : Relation} {s : Basic} {X : PregroupType} {P : List ℕ} → Parted Le s X P 1 → Reduces Le s X
reduces_of_parted {Le} {s} {X} t =
    let u = t.unlinked in
    let end = suc (length X) in
    let split : X ≡ stretch X 1 u ++ (simple_at X u ∷ stretch X (suc u) end) =
    sym (stretch_all X) ∙ stretch_append X 1 u end (omega arith) (omega arith) (omega arith)
    ∙ ap (λ (Z : PregroupType). stretch X 1 u ++ Z) (stretch_cons X u end (omega arith) (omega arith) (omega arith)) in
    subst (Reduces Le s) (sym split)
    (reduces_at (stretch X 1 u) (simple_at X u) (stretch X (suc u) end) (vanish_of_linked t.before (omega arith) (omega arith)) t.is_plain t.below
    (vanish_of_linked t.behind (omega arith) (omega arith)))

parted_of_reduces : {Le : Relation} {s : Basic} {X : PregroupType} → Reduces Le s X → (P : List ℕ) × (length P ≡ length X) × Parted Le s X P 1
parted_of_reduces {Le} {s} (leaves {L} {R} q l b r) =
    let u = suc (length L) in
    let before = partners_of l 1 in
    let behind = u ∷ partners_of r (suc u) in
    let X = L ++ (plain q ∷ R) in
    let P = before ++ behind in
    let e₁ : length before ≡ length L = partners_length l 1 in
    let e₂ : length (partners_of r (suc u)) ≡ length R = partners_length r (suc u) in
    let e₃ : length X ≡ length L + suc (length R) = length-append L (plain q ∷ R) in
    let e₄ : length P ≡ length before + suc (length (partners_of r (suc u))) = length-append before behind in
    let rx : Reads (plain 0) X 1 X = reads_self X in
    let rp : Reads 0 P 1 P = reads_self P in
    let ru : Reads (plain 0) X u (plain q ∷ R) = reads_back L (plain q ∷ R) u (omega arith) rx in
    let pu : Reads 0 P u behind = reads_back before behind u (omega arith) rp in (
      P,
      omega arith,
      record {
        unlinked = u;
        unlinked_place = (omega arith, omega arith);
        own = reads_head pu;
        is_plain = ap (λ (c : Simple). c.exponent) (reads_head ru);
        below = rw (reads_head ru) b;
        before = linked_of_vanish l u (omega arith) (reads_front L (plain q ∷ R) rx) (reads_front before behind rp);
        behind = linked_of_vanish r (suc (length X)) (omega arith) (reads_tail ru) (reads_tail pu);
      },
    )

-- A type has a linking exactly when it reduces to the target.
pub linking_iff_reduces : {Le : Relation} {s : Basic} {X : PregroupType} → Reduces Le s X ↔ ((P : List ℕ) × IsLinking Le s X P)
linking_iff_reduces =
    (λ r. let t = parted_of_reduces r in (t.0, linking_iff_parted.1 (t.1, t.2)), λ t. reduces_of_parted (linking_iff_parted.0 t.1).1)
