-- The rules for a slashed entry by the grammar: each test of the computed tree says what the paper says of the text. A rule of a list is broken exactly
-- when some rule with its number fires, which computes where the numbers are written out.
use Prim.Native.Nat.{ℕ, ◌<◌}
use mathlib.Core.Path.{◌≡◌, refl, sym, ap, ap₂, subst, ◌∙◌}
use mathlib.Core.Logic.{◌↔◌, ⊎_elim}
use mathlib.Core.Bool.{Bool, true, false, not, ◌&&◌, ◌||◌, and_assoc, and_comm, and-false, or-true, or-false, true≢false, false≢true}
use mathlib.Core.Option.{Option, none, some}
use mathlib.Core.List.Memᴰ
use mathlib.Core.List.{List, [], ◌∷◌, ◌++◌, Memᴰ}
use lib.Dec.{ltb, eqb}
use lib.ListN.{length}
use borrow.Author.Tests.{ltb-true, eqb-true, not-true, lt-ltb, eq-eqb}
use Rattle.figures.specs.Limits.{max_entry_simples}
use Rattle.figures.specs.Refusals.{undeclared_type, exponent_outside, brackets_too_deep, not_a_type, type_too_long}
use Rattle.pregroup.specs.Types.{Simple, PregroupType, simple_left, simple_right, adjoint_by, left_adjoint, right_adjoint}
use Rattle.format.specs.Records.{Bytes, every}
use Rattle.format.specs.Names.{is_among}
use Rattle.format.proofs.Bools.{and_true, both}
use Rattle.notation.specs.Grammar.{Tree, named, over, under, IsType, meaning}
use Rattle.notation.specs.Brackets.{TooDeep, too_deep}
use Rattle.notation.specs.Trees.{tree_of, is_some, has_tree, meaning_of, text_type}
use Rattle.notation.proofs.BracketLaws.{deep_exactly}
use Rattle.notation.proofs.TreeLaws.{tree_sound, tree_complete, no_tree}
use Rattle.rules.specs.Layouts.{type_part, slashed}
use Rattle.rules.specs.Rules.{bases, exponents, declared_among, exponent_listed, body_rules}
use Rattle.rules.specs.TextRules.{Names, here, over_first, over_second, under_first, under_second, TextRuled}
use Rattle.rules.proofs.Texts.{text_exponents_listed}

-- Some rule with this number fires.
unfoldable fires : List (ℕ × Bool) → ℕ → Bool
fires [] n = false
fires (rule ∷ rules) n = eqb n rule.0 && rule.1 || fires rules n

broken_fires : (rules : List (ℕ × Bool)) (n : ℕ) → Memᴰ (n, true) rules → fires rules n ≡ true
unfolding fires
broken_fires [] n m = absurd (Memᴰ.not-nil m)
broken_fires (rule ∷ rules) n m =
    ⊎_elim (λ (e : (n, true) ≡ rule). subst (λ (r : ℕ × Bool). eqb n r.0 && r.1 || fires rules n ≡ true) e (now n))
    (λ (l : Memᴰ (n, true) rules). later (broken_fires rules n l)) (Memᴰ.cases_cons m)
  where
    now : (k : ℕ) → eqb k k && true || fires rules k ≡ true
    now k = rw (eq-eqb k k refl)

    later : fires rules n ≡ true → eqb n rule.0 && rule.1 || fires rules n ≡ true
    later h = rw (h, or-true (eqb n rule.0 && rule.1))

fires_broken : (rules : List (ℕ × Bool)) (n : ℕ) → fires rules n ≡ true → Memᴰ (n, true) rules
unfolding fires
fires_broken [] n h = absurd (false≢true h)
fires_broken (rule ∷ rules) n h = go (eqb n rule.0 && rule.1) refl h (fires_broken rules n)
  where
    go : (t : Bool) → eqb n rule.0 && rule.1 ≡ t → t || fires rules n ≡ true → (fires rules n ≡ true → Memᴰ (n, true) rules) → Memᴰ (n, true) (rule ∷ rules)
    go true e h later =
        let t = both (eqb n rule.0) rule.1 e in
        Memᴰ.head (ap₂ (λ (k : ℕ) (b : Bool). (k, b)) (eqb-true n rule.0 t.0) (sym t.1))
    go false e h later = Memᴰ.tail (later h)

-- A rule by its test, the only one with its number.
by_test : {P : Type 0} (rules : List (ℕ × Bool)) (n : ℕ) (test : Bool) → fires rules n ≡ test || false → (test ≡ true) ↔ P → Memᴰ (n, true) rules ↔ P
by_test rules n test e same =
    let is : fires rules n ≡ test = e ∙ or-false test in
    (λ m. same.0 (sym is ∙ broken_fires rules n m), λ p. fires_broken rules n (is ∙ same.1 p))

-- Where both do not hold, the first or the second does not, and the other way round.
one_fails : {P : Type 0} (a b : Bool) → a && b ≡ false → (a ≡ false → P) → (b ≡ false → P) → P
one_fails true b h first second = second h
one_fails false b h first second = first refl

first_fails : (a b : Bool) → a ≡ false → a && b ≡ false
first_fails a b e = rw e

second_fails : (a b : Bool) → b ≡ false → a && b ≡ false
second_fails a b e = rw (e, and-false a)

module _ (names : List Bytes) where
  -- All basic types of a type are declared.
  abbrev declared : PregroupType → Bool
  declared X = every (declared_among (length names)) (bases X)

  declared_append : (X Y : PregroupType) → declared (X ++ Y) ≡ declared X && declared Y
  unfolding every
  declared_append [] Y = refl
  declared_append (x ∷ X) Y =
      let test : Bool = declared_among (length names) x.base in
      ap (λ (t : Bool). test && t) (declared_append X Y) ∙ sym (and_assoc test (declared X) (declared Y))

  declared_adjoint : (f : Simple → Simple) → ((x : Simple) → (f x).base ≡ x.base) → (X : PregroupType) → declared (adjoint_by f X) ≡ declared X
  unfolding every adjoint_by
  declared_adjoint f same [] = refl
  declared_adjoint f same (x ∷ X) =
      let test : Bool = declared_among (length names) x.base in
      let last : declared_among (length names) (f x).base && true ≡ test = and_true _ ∙ ap (declared_among (length names)) (same x) in
      declared_append (adjoint_by f X) (f x ∷ []) ∙ ap₂ (λ (a b : Bool). a && b) (declared_adjoint f same X) last ∙ and_comm (declared X) test

  -- A tree's type is declared where its parts are.
  declared_over : (A B : Tree) → declared (meaning names (over A B)) ≡ declared (meaning names A) && declared (meaning names B)
  unfolding meaning
  declared_over A B =
      declared_append (meaning names A) (left_adjoint (meaning names B))
      ∙ ap (λ (b : Bool). declared (meaning names A) && b) (declared_adjoint simple_left (λ x. refl) (meaning names B))

  declared_under : (B A : Tree) → declared (meaning names (under B A)) ≡ declared (meaning names B) && declared (meaning names A)
  unfolding meaning
  declared_under B A =
      declared_append (right_adjoint (meaning names B)) (meaning names A)
      ∙ ap (λ (b : Bool). b && declared (meaning names A)) (declared_adjoint simple_right (λ x. refl) (meaning names B))

  declared_named : (name : Bytes) → declared (meaning names (named name)) ≡ is_among names name
  unfolding meaning every
  declared_named name = and_true (is_among names name)

  -- A name in a tree that is not declared.
  abbrev Undeclared : Tree → Type 0
  Undeclared T = (name : Bytes) × Names name T × (is_among names name ≡ false)

  undeclared_name : (T : Tree) → declared (meaning names T) ≡ false → Undeclared T
  undeclared_name (named name) h = (name, here, sym (declared_named name) ∙ h)
  undeclared_name (over A B) h =
      one_fails (declared (meaning names A)) (declared (meaning names B)) (sym (declared_over A B) ∙ h)
      (λ e. let u = undeclared_name A e in (u.0, over_first u.1, u.2)) (λ e. let u = undeclared_name B e in (u.0, over_second u.1, u.2))
  undeclared_name (under B A) h =
      one_fails (declared (meaning names B)) (declared (meaning names A)) (sym (declared_under B A) ∙ h)
      (λ e. let u = undeclared_name B e in (u.0, under_first u.1, u.2)) (λ e. let u = undeclared_name A e in (u.0, under_second u.1, u.2))

  name_undeclared : {name : Bytes} {T : Tree} → Names name T → is_among names name ≡ false → declared (meaning names T) ≡ false
  name_undeclared {name} here e = declared_named name ∙ e
  name_undeclared (over_first {A = A} {B} m) e = declared_over A B ∙ first_fails _ _ (name_undeclared m e)
  name_undeclared (over_second {A = A} {B} m) e = declared_over A B ∙ second_fails (declared (meaning names A)) _ (name_undeclared m e)
  name_undeclared (under_first {B = B} {A} m) e = declared_under B A ∙ first_fails _ _ (name_undeclared m e)
  name_undeclared (under_second {B = B} {A} m) e = declared_under B A ∙ second_fails (declared (meaning names B)) _ (name_undeclared m e)

  -- The tests of a text.
  module _ (text : Bytes) where
    tree_test : (not (has_tree text) ≡ true) ↔ ((T : Tree) → IsType text T → ⊥)
    unfolding is_some
    tree_test =
        (λ h. (no_tree text).0 (missing (tree_of text) h), λ never. ap (λ (o : Option Tree). not (is_some o)) ((no_tree text).1 never))
      where
        missing : (o : Option Tree) → not (is_some o) ≡ true → o ≡ none
        missing none h = refl
        missing (some T) h = absurd (false≢true h)

    -- A test of a text's type that the empty type does not pass is a test of the meaning of its tree.
    type_test : (test : PregroupType → Bool) → test [] ≡ false → (test (text_type names text) ≡ true) ↔ ((T : Tree) × IsType text T × (test (meaning names T) ≡ true))
    unfolding meaning_of
    type_test test none-no = (λ h. go (tree_of text) refl h, λ t. ap (λ (o : Option Tree). test (meaning_of names o)) (tree_complete text t.0 t.1) ∙ t.2)
      where
        go : (o : Option Tree) → tree_of text ≡ o → test (meaning_of names o) ≡ true → (T : Tree) × IsType text T × (test (meaning names T) ≡ true)
        go none e h = absurd (true≢false (sym h ∙ none-no))
        go (some T) e h = (T, tree_sound text T e, h)

    declared_test : (not (declared (text_type names text)) ≡ true) ↔ ((T : Tree) × IsType text T × Undeclared T)
    unfolding every
    declared_test =
        let t = type_test (λ X. not (declared X)) refl in (
          λ h. let r = t.0 h in (r.0, r.1, undeclared_name r.0 (not-true _ r.2)),
          λ r. t.1 (r.0, r.1, ap not (name_undeclared r.2.1 r.2.2)),
        )

    length_test : (ltb max_entry_simples (length (text_type names text)) ≡ true) ↔ ((T : Tree) × IsType text T × (max_entry_simples < length (meaning names T)))
    length_test =
        let t = type_test (λ X. ltb max_entry_simples (length X)) refl in
        (λ h. let r = t.0 h in (r.0, r.1, ltb-true _ _ r.2), λ r. t.1 (r.0, r.1, lt-ltb _ _ r.2))

    exponent_test : not (every exponent_listed (exponents (text_type names text))) ≡ true → TooDeep text
    exponent_test h = go (too_deep text) refl
      where
        go : (deep : Bool) → too_deep text ≡ deep → TooDeep text
        go true e = (deep_exactly text).0 e
        go false e = absurd (true≢false (sym (text_exponents_listed names text e) ∙ not-true _ h))

-- What the rules say of a slashed entry.
pub text_ruled : (body : Bytes) (names : List Bytes) (entries targets : ℕ) → TextRuled names (type_part body) (λ n. Memᴰ (n, true) (body_rules slashed body names entries targets))
unfolding body_rules fires
text_ruled body names entries targets =
    let part = type_part body in
    let rules = body_rules slashed body names entries targets in
    record {
      is_too_deep = by_test rules brackets_too_deep (too_deep part) refl (deep_exactly part);
      no_type = by_test rules not_a_type (not (has_tree part)) refl (tree_test names part);
      undeclared = by_test rules undeclared_type (not (declared names (text_type names part))) refl (declared_test names part);
      too_long = by_test rules type_too_long (ltb max_entry_simples (length (text_type names part))) refl (length_test names part);
      no_exponent = λ m. exponent_test names part (sym (or-false _) ∙ broken_fires rules exponent_outside m);
    }
