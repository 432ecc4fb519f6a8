-- Which rules each kind of record can break, in their order: the fault of a body, kind by kind.
use Prim.Native.Nat.{ℕ, ◌≤◌, ◌<◌}
use native.Mathlib.Omega.{arith}
use mathlib.Core.Path.{◌≡◌, refl, ◌∙◌}
use mathlib.Core.Bool.{Bool, true, false, not, cond, ◌&&◌}
use mathlib.Core.List.{List, [], ◌∷◌}
use lib.Dec.{leb, ltb, eqb}
use borrow.Author.Tests.{lt-ltb, le-ltb}
use lib.ListN.{length, get_or}
use Rattle.figures.specs.Limits.{max_types, max_entries, max_targets, max_entry_simples}
use Rattle.figures.specs.Refusals.{kind_not_listed, bad_layout, undeclared_type, exponent_outside, name_used, too_many_targets, too_many_records, brackets_too_deep, not_a_type, type_too_long}
use Rattle.format.proofs.Bools.{and_true}
use Rattle.format.specs.Records.{Bytes, every}
use Rattle.format.specs.Names.{is_name, is_among}
use Rattle.notation.specs.Brackets.{too_deep}
use Rattle.notation.specs.Trees.{has_tree, text_type}
use Rattle.rules.specs.Layouts.{basic_type, order_pair, entry, target, slashed_entry, is_worded, is_entry, simples_of, type_part}
use Rattle.rules.specs.Rules.{declared_among, exponent_listed, kind_rules, body_rules, first_broken, bases, exponents}
use Rattle.rules.proofs.KindLaws.{Unlisted, any_rules}

-- Every one of one, and of two.
pub every_one : (test : ℕ → Bool) (body : Bytes) → length body ≡ 1 → every test body ≡ test (get_or {A = ℕ} body 0 0)
unfolding every
every_one test [] h = absurd (omega arith)
every_one test (x ∷ []) h = and_true (test x)
every_one test (x ∷ y ∷ body) h = absurd (omega arith)

pub every_two : (test : ℕ → Bool) (body : Bytes) → length body ≡ 2 → every test body ≡ test (get_or {A = ℕ} body 0 0) && test (get_or {A = ℕ} body 1 0)
unfolding every
every_two test [] h = absurd (omega arith)
every_two test (x ∷ []) h = absurd (omega arith)
every_two test (x ∷ y ∷ []) h = rw (and_true (test y))
every_two test (x ∷ y ∷ z ∷ body) h = absurd (omega arith)

-- Whether one number, and whether two, are declared among n.
module _ (n : ℕ) (body : Bytes) where
  pub one_no : length body ≡ 1 → n ≤ get_or {A = ℕ} body 0 0 → every (declared_among n) body ≡ false
  one_no h l = every_one (declared_among n) body h ∙ le-ltb _ _ l

  pub one_yes : length body ≡ 1 → get_or {A = ℕ} body 0 0 < n → every (declared_among n) body ≡ true
  one_yes h l = every_one (declared_among n) body h ∙ lt-ltb _ _ l

  pub two_first_no : length body ≡ 2 → n ≤ get_or {A = ℕ} body 0 0 → every (declared_among n) body ≡ false
  two_first_no h l = rw (every_two (declared_among n) body h, le-ltb (get_or {A = ℕ} body 0 0) n l)

  pub two_second_no : length body ≡ 2 → get_or {A = ℕ} body 0 0 < n → n ≤ get_or {A = ℕ} body 1 0 → every (declared_among n) body ≡ false
  two_second_no h k l = rw (every_two (declared_among n) body h, lt-ltb (get_or {A = ℕ} body 0 0) n k, le-ltb (get_or {A = ℕ} body 1 0) n l)

  pub two_yes : length body ≡ 2 → get_or {A = ℕ} body 0 0 < n → get_or {A = ℕ} body 1 0 < n → every (declared_among n) body ≡ true
  two_yes h k l = rw (every_two (declared_among n) body h, lt-ltb (get_or {A = ℕ} body 0 0) n k, lt-ltb (get_or {A = ℕ} body 1 0) n l)

module _ (body : Bytes) (names : List Bytes) (entries : ℕ) (targets : ℕ) where
  pub name_faults :
      {layout used full : Bool} → is_name body ≡ layout → is_among names body ≡ used → leb max_types (length names) ≡ full
      → first_broken (kind_rules basic_type body names entries targets) ≡ cond (not layout) bad_layout (cond used name_used (cond full too_many_records 0))
  unfolding first_broken
  name_faults l u f = rw (l, u, f)

  pub pair_faults :
      {layout declared : Bool} → eqb (length body) 2 ≡ layout → every (declared_among (length names)) body ≡ declared
      → first_broken (kind_rules order_pair body names entries targets) ≡ cond (not layout) bad_layout (cond (not declared) undeclared_type 0)
  unfolding first_broken
  pair_faults l d = rw (l, d)

  pub entry_faults :
      {layout declared listed full : Bool} → is_entry body ≡ layout
      → every (declared_among (length names)) (bases (simples_of (type_part body))) ≡ declared
      → every exponent_listed (exponents (simples_of (type_part body))) ≡ listed → leb max_entries entries ≡ full
      → first_broken (kind_rules entry body names entries targets) ≡ cond (not layout) bad_layout (cond (not declared) undeclared_type (cond (not listed) exponent_outside (cond full too_many_records 0)))
  unfolding first_broken
  entry_faults l d e f = rw (l, d, e, f)

  pub target_faults :
      {layout declared full : Bool} → eqb (length body) 1 ≡ layout → every (declared_among (length names)) body ≡ declared → leb max_targets targets ≡ full
      → first_broken (kind_rules target body names entries targets) ≡ cond (not layout) bad_layout (cond (not declared) undeclared_type (cond full too_many_targets 0))
  unfolding first_broken
  target_faults l d f = rw (l, d, f)

  pub slashed_faults :
      {layout deep tree declared listed long full : Bool} → is_worded body ≡ layout → too_deep (type_part body) ≡ deep → has_tree (type_part body) ≡ tree
      → every (declared_among (length names)) (bases (text_type names (type_part body))) ≡ declared
      → every exponent_listed (exponents (text_type names (type_part body))) ≡ listed
      → ltb max_entry_simples (length (text_type names (type_part body))) ≡ long → leb max_entries entries ≡ full
      → first_broken (kind_rules slashed_entry body names entries targets)
      ≡ cond (not layout) bad_layout
      (cond deep brackets_too_deep
      (cond (not tree) not_a_type
      (cond (not declared) undeclared_type (cond (not listed) exponent_outside (cond long type_too_long (cond full too_many_records 0))))))
  unfolding first_broken
  slashed_faults l b t d e s f = rw (l, b, t, d, e, s, f)

  pub unlisted_faults : (number : ℕ) → Unlisted number → kind_not_listed ≡ first_broken (body_rules number body names entries targets)
  unfolding first_broken
  unlisted_faults number never = any_rules (λ rules. kind_not_listed ≡ first_broken rules) number body names entries targets refl (λ kind e. absurd (never kind e))
