-- What is written where: a link, what stands between its ends and what stands behind it make up the whole.
use Prim.Native.Nat.{ℕ, suc, ◌+◌, ◌-◌, ◌≤◌, ◌<◌}
use native.Mathlib.Omega.{arith}
use mathlib.Core.Path.{◌≡◌, refl, sym, ap, ◌∙◌}
use mathlib.Core.Logic.{inl, inr, ⊎_elim}
use mathlib.Core.List.{List}
use lib.ListN.{get_or, length, drop, set, length-set}
use lib.Seq.{get_or-drop, get_or-set_same, get_or-set_other}
use Rattle.pregroup.specs.Types.{Basic, PregroupType}
use Rattle.pregroup.specs.Order.{Relation}
use Rattle.pregroup.specs.Vanish.{Contracts}
use Rattle.linking.specs.Linking.{simple_at, partner}
use Rattle.linking.specs.Greedy.{Link}
use Rattle.linking.specs.Greedy.{Stay, VanishBehind, ReducesFrom, Greedy, done, nearest, GreedyFrom, stays, links}
use Rattle.linking.proofs.Greedy.{greedy_agree}
use Rattle.table.specs.Table.{string_of}
use Rattle.answer.specs.Links.{with_link, KeptOutside, LinkedWithin, LinkedFrom}
use Rattle.table.proofs.Stretches.{length_string}
use Rattle.answer.proofs.Nearest.{Chosen}

-- A partner that stands in a part of a list.
pub partner_at : (A : List ℕ) (at i : ℕ) → partner (drop at A) (suc i) ≡ get_or A (at + i) 0
partner_at A at i = let e : suc i - 1 ≡ i = omega arith in rw e (get_or-drop at A i 0)

-- Where two lists agree on a stretch, so do the partners there.
partners_same :
    (A B : List ℕ) (at i j : ℕ) → ((q : ℕ) → i ≤ q → q < j → get_or A (at + q) 0 ≡ get_or B (at + q) 0) → (p : ℕ) → suc i ≤ p → p < suc j
    → partner (drop at A) p ≡ partner (drop at B) p
partners_same A B at i j same p h g =
    let e : p ≡ suc (p - 1) = omega arith in
    rw e (partner_at A at (p - 1) ∙ same (p - 1) (omega arith) (omega arith) ∙ sym (partner_at B at (p - 1)))

-- Nothing is written in an empty stretch.
pub linked_none : {Le : Relation} {string : List ℕ} (A : List ℕ) (at i j : ℕ) → i ≡ j → LinkedWithin Le string A A at i j
linked_none A at i j e = record { kept = λ p h. refl; greedy = λ n h. done (ap suc e) }

-- The ends of a link are written, then what stands between them, then what stands behind.
module _ (before between after : List ℕ) (at i j k : ℕ) (ahead : i < k) (inside : k < j) (space : at + j ≤ length before)
    (first : KeptOutside (with_link before at i k) between (at + (i + 1)) (at + k)) (second : KeptOutside between after (at + (k + 1)) (at + j)) where
  link_kept : KeptOutside before after (at + i) (at + j)
  link_kept p h =
      second p (⊎_elim (λ (l : p < at + i). inl (omega arith)) inr h)
      ∙ first p (⊎_elim (λ (l : p < at + i). inl (omega arith)) (λ (l : at + j ≤ p). inr (omega arith)) h)
      ∙ get_or-set_other (set before (at + i) (k + 1)) (at + k) p (i + 1) 0
      (λ e. ⊎_elim (λ (l : p < at + i). omega arith) (λ (l : at + j ≤ p). omega arith) h)
      ∙ get_or-set_other before (at + i) p (k + 1) 0 (λ e. ⊎_elim (λ (l : p < at + i). omega arith) (λ (l : at + j ≤ p). omega arith) h)

  link_forth : partner (drop at after) (suc i) ≡ suc k
  link_forth =
      partner_at after at i ∙ second (at + i) (inl (omega arith)) ∙ first (at + i) (inl (omega arith))
      ∙ get_or-set_other (set before (at + i) (k + 1)) (at + k) (at + i) (i + 1) 0 (λ e. omega arith)
      ∙ get_or-set_same before (at + i) (k + 1) 0 (omega arith) ∙ omega arith

  link_back : partner (drop at after) (suc k) ≡ suc i
  link_back =
      partner_at after at k ∙ second (at + k) (inl (omega arith)) ∙ first (at + k) (inr (omega arith))
      ∙ get_or-set_same (set before (at + i) (k + 1)) (at + k) (i + 1) 0 (omega (arith, length-set before (at + i) (k + 1))) ∙ omega arith

  link_made : {Le : Relation} {X : PregroupType} → Contracts Le (simple_at X (suc i)) (simple_at X (suc k)) → Link Le X (drop at after) (suc i) (suc k)
  link_made c = record { ahead = omega arith; forth = link_forth; back = link_back; contract = c }

  link_inner : {Le : Relation} {X : PregroupType} → Greedy Le X (drop at between) (suc (i + 1)) (suc k) → Greedy Le X (drop at after) (suc (suc i)) (suc k)
  link_inner g =
      let e : i + 1 ≡ suc i = omega arith in
      greedy_agree (rw e at g) (partners_same between after at (suc i) k (λ q h l. sym (second (at + q) (inl (omega arith)))))

module _ {Le : Relation} {string written between after : List ℕ} {at j k : ℕ} (before : List ℕ) (i : ℕ)
    (space : at + j ≤ length before) (link : written ≡ with_link before at i k)
    (inner : LinkedWithin Le string written between at (i + 1) k) where
  -- Within a stretch that vanishes.
  pub linked_within :
      ((n : ℕ) → j ≤ n → Chosen Le (string_of string n) (VanishBehind Le (string_of string n) (suc j)) j i k)
      → LinkedWithin Le string between after at (k + 1) j → LinkedWithin Le string before after at i j
  linked_within choice second =
      let first : LinkedWithin Le string (with_link before at i k) between at (i + 1) k = rw link at inner in
      let here = choice j (omega arith) in
      let ahead = here.ahead in
      let inside = here.inside in
      record {
        kept = link_kept before between after at i j k ahead inside space first.kept second.kept;
        greedy = λ n h.
            let one : k + 1 ≡ suc k = omega arith in
            let X = string_of string n in
            let chosen = choice n h in
            let rest : Greedy Le X (drop at after) (suc (suc k)) (suc j) = rw one at (second.greedy n h) in
            nearest {j = suc j} (suc k)
            (link_made before between after at i j k ahead inside space first.kept second.kept chosen.candidate.contract)
            (omega arith) chosen.nearest
            (link_inner before between after at i j k ahead inside space first.kept second.kept (first.greedy n (omega arith))) rest;
      }

  -- In a string that reduces to the target.
  pub linked_from :
      {s : Basic} → Chosen Le (string_of string j) (λ p. ReducesFrom Le s (string_of string j) (suc p)) j i k
      → (Stay Le s (string_of string j) (suc i) (suc i) → ⊥) → LinkedFrom Le s string between after at j (k + 1)
      → LinkedFrom Le s string before after at j i
  linked_from {s} chosen moves second =
      let first : LinkedWithin Le string (with_link before at i k) between at (i + 1) k = rw link at inner in
      let ahead = chosen.ahead in
      let inside = chosen.inside in
      let one : k + 1 ≡ suc k = omega arith in
      let X = string_of string j in
      let rest : GreedyFrom Le s X (drop at after) (suc (suc k)) = rw one at second.greedy in
      record {
        kept = link_kept before between after at i j k ahead inside space first.kept second.kept;
        greedy =
            links (suc k)
            (link_made before between after at i j k ahead inside space first.kept second.kept chosen.candidate.contract)
            moves chosen.nearest
            (link_inner before between after at i j k ahead inside space first.kept second.kept (first.greedy j (omega arith))) rest;
      }

-- The unlinked position is written, then what stands behind it.
pub linked_stay :
    {Le : Relation} {s : Basic} {string written after : List ℕ} {at m : ℕ} (before : List ℕ) (i : ℕ) → i < m → at + m ≤ length before
    → Stay Le s (string_of string m) (suc i) (suc i) → written ≡ set before (at + i) (i + 1)
    → LinkedWithin Le string written after at (i + 1) m → LinkedFrom Le s string before after at m i
linked_stay {Le} {s} {string} {written} {after} {at} {m} before i inside space stay own within =
    let rest : LinkedWithin Le string (set before (at + i) (i + 1)) after at (i + 1) m = rw own at within in
    let one : i + 1 ≡ suc i = omega arith in
    let X = string_of string m in
    let end : suc m ≡ suc (length X) = ap suc (sym (length_string string m)) in
    let behind : Greedy Le X (drop at after) (suc (suc i)) (suc (length X)) = rw (one, end) at (rest.greedy m (omega arith)) in
    record {
      kept = λ p h.
          rest.kept p (⊎_elim (λ (l : p < at + i). inl (omega arith)) inr h)
          ∙ get_or-set_other before (at + i) p (i + 1) 0 (λ e. ⊎_elim (λ (l : p < at + i). omega arith) (λ (l : at + m ≤ p). omega arith) h);
      greedy =
          stays
          (partner_at after at i ∙ rest.kept (at + i) (inl (omega arith)) ∙ get_or-set_same before (at + i) (i + 1) 0 (omega arith) ∙ omega arith)
          stay behind;
    }
