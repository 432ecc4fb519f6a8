-- What is written is the first linking: the m partners from `at` on link the string greedily.
use Prim.Native.Nat.{ℕ, ◌+◌, ◌-◌, ◌≤◌}
use native.Mathlib.Omega.{arith}
use mathlib.Core.Path.{◌≡◌, sym, ap, ap₂, ◌∙◌}
use mathlib.Core.Logic.{inl, inr}
use mathlib.Core.List.{List, ◌++◌}
use lib.ListN.{length, take, drop, length-drop, take-append-drop}
use lib.Seq.{length-take-le, get_or-take, get_or-drop, drop-drop, ext_get_or}
use Rattle.pregroup.specs.Types.{Basic, PregroupType}
use Rattle.pregroup.specs.Order.{Relation}
use Rattle.pregroup.specs.Vanish.{Reduces}
use Rattle.linking.specs.Linking.{partner}
use Rattle.linking.proofs.Positions.{linking_iff_parted}
use Rattle.linking.proofs.Reduction.{linking_iff_reduces}
use Rattle.linking.specs.Greedy.{ReducesFrom, GreedyFrom, stays, links}
use Rattle.linking.proofs.Greedy.{greedy_agree, parted_of_greedy, reduces_of_parted}
use Rattle.bits.specs.Rows.{InRow, HasRow, RowSays}
use Rattle.bits.specs.Gathered.{Gathered, RowPart}
use Rattle.table.specs.Table.{string_of, Right}
use Rattle.answer.specs.Links.{Stays, KeptOutside, LinkedFrom, ReducingThere, FirstLinked}
use Rattle.table.proofs.Stretches.{length_string}
use Rattle.answer.proofs.Reducing.{reducing_says}

-- A string that reduces, reduces from its first position on.
pub reduces_from_start : {Le : Relation} {s : Basic} {X : PregroupType} → Reduces Le s X → ReducesFrom Le s X 1
reduces_from_start r = let t = linking_iff_reduces.0 r in reduces_of_parted (linking_iff_parted.0 t.1).1 (omega arith)

-- The row that the code gathers is what the linking asks.
pub reducing_there :
    {Le : Relation} {s : Basic} {table : List ℕ} {m : ℕ} (string staying none words : List ℕ) → HasRow words 0 → Right Le (string_of string m) table m
    → Reduces Le s (string_of string m) → RowSays staying 0 (Stays Le s string table m) → RowSays none 0 (λ v. ⊥)
    → RowSays words 0 (Gathered (InRow none 0) (RowPart staying table)) → ReducingThere Le s (string_of string m) words 0
reducing_there {table = table} {m} string staying none words room right reduces stays-say empty_row says =
    let reducing = reducing_says string table m right staying none words stays-say empty_row says in
    record { room = room; says = reducing; here = (reducing 0).1 (reduces_from_start reduces) }

-- What P holds outside the string does not matter.
greedy_from_agree :
    {Le : Relation} {s : Basic} {X : PregroupType} {P Q : List ℕ} {i : ℕ} → GreedyFrom Le s X P i
    → ((p : ℕ) → i ≤ p → p ≤ length X → partner P p ≡ partner Q p) → GreedyFrom Le s X Q i
greedy_from_agree {i = i} (stays e t g) same =
    stays (sym (same i (omega arith) t.fits) ∙ e) t (greedy_agree g (λ p h l. same p (omega arith) (omega arith)))
greedy_from_agree {i = i} (links k l n m u w) same =
    let a = l.ahead in
    let b = (parted_of_greedy w).unlinked_place in
    let first = same i (omega arith) (omega arith) in
    let last = same k (omega arith) (omega arith) in
    links k (record { ahead = a; forth = sym first ∙ l.forth; back = sym last ∙ l.back; contract = l.contract }) n m
    (greedy_agree u (λ p h c. same p (omega arith) (omega arith))) (greedy_from_agree w (λ p h c. same p (omega arith) c))

-- Lists that agree outside a part.
kept_front : (before after : List ℕ) (at m : ℕ) → length after ≡ length before → at + m ≤ length before → KeptOutside before after at (at + m)
    → take at after ≡ take at before
kept_front before after at m size space kept =
    let long = length-take-le at after (omega arith) in
    let also = length-take-le at before (omega arith) in
    ext_get_or 0 (take at after) (take at before) (omega arith)
    (λ i h. get_or-take at after i 0 (omega arith) ∙ kept i (inl (omega arith)) ∙ sym (get_or-take at before i 0 (omega arith)))

kept_back : (before after : List ℕ) (at m : ℕ) → length after ≡ length before → KeptOutside before after at (at + m)
    → drop (at + m) after ≡ drop (at + m) before
kept_back before after at m size kept =
    ext_get_or 0 (drop (at + m) after) (drop (at + m) before) (omega (arith, length-drop (at + m) after, length-drop (at + m) before))
    (λ i h. get_or-drop (at + m) after i 0 ∙ kept (at + m + i) (inr (omega arith)) ∙ sym (get_or-drop (at + m) before i 0))

kept_parts :
    (before after : List ℕ) (at m : ℕ) → length after ≡ length before → at + m ≤ length before → KeptOutside before after at (at + m)
    → after ≡ take at before ++ (take m (drop at after) ++ drop (at + m) before)
kept_parts before after at m size space kept =
    sym (take-append-drop at after)
    ∙ ap₂ ◌++◌ (kept_front before after at m size space kept)
    (sym (take-append-drop m (drop at after))
    ∙ ap (λ (l : List ℕ). take m (drop at after) ++ l) (drop-drop m at after ∙ kept_back before after at m size kept))

pub first_linked :
    {Le : Relation} {s : Basic} (string before after : List ℕ) (at m : ℕ) → length after ≡ length before → at + m ≤ length before
    → LinkedFrom Le s string before after at m 0 → FirstLinked Le s (string_of string m) before after at
first_linked {Le} {s} string before after at m size space linked =
    let X = string_of string m in
    let P = take m (drop at after) in
    let whole : length X ≡ m = length_string string m in
    let from : at + 0 ≡ at = omega arith in
    let kept : KeptOutside before after at (at + m) = rw from at linked.kept in
    record {
      partners = P;
      whole = length-take-le m (drop at after) (omega (arith, length-drop at after)) ∙ sym whole;
      greedy = greedy_from_agree linked.greedy (λ p h l. sym (get_or-take m (drop at after) (p - 1) 0 (omega arith)));
      written = rw whole (kept_parts before after at m size space kept);
    }
