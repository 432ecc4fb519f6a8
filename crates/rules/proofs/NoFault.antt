-- What a record that breaks no rule says, kind by kind: whatever the code asks before it keeps the record.
use Prim.Native.Nat.{ℕ, zero, suc, ◌≤◌, ◌<◌}
use native.Mathlib.Omega.{arith}
use mathlib.Core.Path.{◌≡◌, refl, sym, ap, ◌∙◌}
use mathlib.Core.Bool.{Bool, true, false, cond, ◌&&◌}
use mathlib.Core.List.{List, [], ◌∷◌}
use lib.Dec.{ltb}
use lib.ListN.{length, get_or}
use borrow.Author.Tests.{not-false, eqb-true, ltb-true, ltb-false, leb-false}
use Rattle.figures.specs.Limits.{max_types, max_entries, max_targets, max_entry_simples}
use Rattle.figures.specs.Refusals.{cut_short}
use Rattle.format.specs.Records.{Bytes, every, kind_at, body_at, next_at}
use Rattle.format.specs.Names.{is_name, is_among}
use Rattle.notation.specs.Brackets.{too_deep}
use Rattle.notation.specs.Trees.{has_tree, text_type}
use Rattle.rules.specs.Layouts.{Kind, basic_type, order_pair, entry, target, slashed_entry, kind_number, is_worded, is_entry, simples_of, type_part}
use Rattle.rules.specs.Rules.{declared_among, bases, exponents, exponent_listed, kind_rules, body_rules, record_rules, first_broken}
use Rattle.format.proofs.Bools.{both}
use Rattle.rules.proofs.KindLaws.{kind_rules_lem, any_rules}
use Rattle.rules.proofs.Faults.{every_one, every_two}
use Rattle.rules.proofs.WholeRecords.{is_cut, cut_whole}

-- A choice between a number that is not 0 and n is 0: the test is false, and n is 0.
none : (t : Bool) (k n : ℕ) → 0 < k → cond t k n ≡ 0 → (t ≡ false) × (n ≡ 0)
none true k n h e = absurd (omega arith)
none false k n h e = (refl, e)

-- Where the first broken rule is none, no rule is broken, as long as no rule has the number 0.
abbrev numbered : List (ℕ × Bool) → Bool
numbered [] = true
numbered (rule ∷ rules) = ltb 0 rule.0 && numbered rules

abbrev broken : List (ℕ × Bool) → ℕ → Bool
broken [] i = false
broken (rule ∷ rules) zero = rule.1
broken (rule ∷ rules) (suc i) = broken rules i

unbroken : (rules : List (ℕ × Bool)) → numbered rules ≡ true → first_broken rules ≡ 0 → (i : ℕ) → broken rules i ≡ false
unfolding first_broken
unbroken [] n e i = refl
unbroken (rule ∷ rules) n e i =
    let t = both (ltb 0 rule.0) (numbered rules) n in
    let first = none rule.1 rule.0 (first_broken rules) (ltb-true 0 rule.0 t.0) e in
    go first.0 (unbroken rules t.1 first.1) i
  where
    go : rule.1 ≡ false → ((i : ℕ) → broken rules i ≡ false) → (i : ℕ) → broken (rule ∷ rules) i ≡ false
    go here later zero = here
    go here later (suc i) = later i

module _ (bytes : Bytes) (at : ℕ) (names : List Bytes) (entries : ℕ) (targets : ℕ) where
  parts : first_broken (record_rules bytes at names entries targets) ≡ 0
      → (is_cut bytes at ≡ false) × (first_broken (body_rules (kind_at bytes at) (body_at bytes at) names entries targets) ≡ 0)
  unfolding record_rules first_broken is_cut
  parts h = none (is_cut bytes at) cut_short (first_broken (body_rules (kind_at bytes at) (body_at bytes at) names entries targets)) (omega arith) h

  pub no_fault_whole : first_broken (record_rules bytes at names entries targets) ≡ 0 → next_at bytes at ≤ length bytes
  no_fault_whole h = cut_whole bytes at (parts h).0

  pub no_fault_body : {number : ℕ} → first_broken (record_rules bytes at names entries targets) ≡ 0 → kind_at bytes at ≡ number → first_broken (body_rules number (body_at bytes at) names entries targets) ≡ 0
  no_fault_body h k = rw k at (parts h).1

module _ (body : Bytes) (names : List Bytes) (entries : ℕ) (targets : ℕ) where
  -- The number is that of a listed kind.
  pub no_fault_kind : (number : ℕ) → first_broken (body_rules number body names entries targets) ≡ 0 → (kind : Kind) × (number ≡ kind_number kind)
  unfolding first_broken
  no_fault_kind number =
      any_rules (λ rules. first_broken rules ≡ 0 → (kind : Kind) × (number ≡ kind_number kind)) number body names entries targets (λ h. absurd (omega arith)) (λ kind e h. (kind, e))

  -- No rule for its kind is broken.
  fine : (kind : Kind) → numbered (kind_rules kind body names entries targets) ≡ true → first_broken (body_rules (kind_number kind) body names entries targets) ≡ 0
      → (i : ℕ) → broken (kind_rules kind body names entries targets) i ≡ false
  fine kind some h = unbroken (kind_rules kind body names entries targets) some (ap first_broken (sym (kind_rules_lem kind body names entries targets)) ∙ h)

  pub name_no_fault : first_broken (body_rules (kind_number basic_type) body names entries targets) ≡ 0 → (is_name body ≡ true) × (is_among names body ≡ false) × (length names < max_types)
  name_no_fault h = let t = fine basic_type refl h in (not-false _ (t 0), t 1, leb-false _ _ (t 2))

  pub pair_no_fault : first_broken (body_rules (kind_number order_pair) body names entries targets) ≡ 0 → (length body ≡ 2) × (get_or {A = ℕ} body 0 0 < length names) × (get_or {A = ℕ} body 1 0 < length names)
  pair_no_fault h =
      let t = fine order_pair refl h in
      let two = eqb-true (length body) 2 (not-false _ (t 0)) in
      let each = both _ _ (sym (every_two (declared_among (length names)) body two) ∙ not-false _ (t 1)) in
      (two, ltb-true _ _ each.0, ltb-true _ _ each.1)

  pub entry_no_fault : first_broken (body_rules (kind_number entry) body names entries targets) ≡ 0
      → (is_entry body ≡ true) × (every (declared_among (length names)) (bases (simples_of (type_part body))) ≡ true)
      × (every exponent_listed (exponents (simples_of (type_part body))) ≡ true)
      × (entries < max_entries)
  entry_no_fault h = let t = fine entry refl h in (not-false _ (t 0), not-false _ (t 1), not-false _ (t 2), leb-false _ _ (t 3))

  pub target_no_fault : first_broken (body_rules (kind_number target) body names entries targets) ≡ 0 → (length body ≡ 1) × (get_or {A = ℕ} body 0 0 < length names) × (targets < max_targets)
  target_no_fault h =
      let t = fine target refl h in
      let one = eqb-true (length body) 1 (not-false _ (t 0)) in
      (one, ltb-true _ _ (sym (every_one (declared_among (length names)) body one) ∙ not-false _ (t 1)), leb-false _ _ (t 2))

  pub slashed_no_fault : first_broken (body_rules (kind_number slashed_entry) body names entries targets) ≡ 0
      → (is_worded body ≡ true) × (too_deep (type_part body) ≡ false) × (has_tree (type_part body) ≡ true)
      × (every (declared_among (length names)) (bases (text_type names (type_part body))) ≡ true)
      × (every exponent_listed (exponents (text_type names (type_part body))) ≡ true)
      × (length (text_type names (type_part body)) ≤ max_entry_simples)
      × (entries < max_entries)
  slashed_no_fault h =
      let t = fine slashed_entry refl h in
      (not-false _ (t 0), t 1, not-false _ (t 2), not-false _ (t 3), not-false _ (t 4), ltb-false _ _ (t 5), leb-false _ _ (t 6))
