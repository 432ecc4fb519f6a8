-- Texts as types. A text whose brackets are not too deep and that has a tree has one simple type more than slashes, and listed exponents; any other is
-- read as no simple type. What the rules say of a slashed entry then goes by what is read of its text.
use Prim.Native.Nat.{ℕ, suc, ◌≤◌, ◌<◌}
use native.Mathlib.Omega.{arith}
use mathlib.Core.Path.{◌≡◌, refl, sym, ap, subst, ◌∙◌}
use mathlib.Core.Bool.{Bool, true, false, cond, not, false≢true}
use mathlib.Core.Option.{Option, none, some}
use mathlib.Core.List.{List, [], ◌∷◌, Memᴰ}
use lib.Dec.{leb, ltb}
use lib.IntN.{ℤ, pos, negsuc}
use lib.ListN.{length}
use borrow.Author.Tests.{le-leb, lt-leb, lt-ltb, le-ltb}
use Rattle.figures.specs.Limits.{max_entries, max_entry_simples, max_exponent, max_depth}
use Rattle.figures.specs.Refusals.{undeclared_type, exponent_outside, too_many_records, brackets_too_deep, not_a_type, type_too_long}
use Rattle.pregroup.specs.Types.{Simple, PregroupType}
use Rattle.format.specs.Records.{Bytes, every}
use Rattle.notation.specs.Grammar.{Tree}
use Rattle.notation.specs.Brackets.{too_deep}
use Rattle.notation.specs.Trees.{tree_of, is_some, has_tree, meaning_of, text_type, shallow_type, slashes}
use Rattle.notation.specs.Places.{Holds}
use Rattle.slash.specs.Parsing.{room, TextSays}
use Rattle.notation.proofs.TreeLaws.{tree_sound}
use Rattle.notation.proofs.MeaningLaws.{ExponentWithin, exponents_within, simples_count}
use Rattle.rules.specs.Layouts.{slashed_entry, type_part, is_worded}
use Rattle.rules.specs.Rules.{bases, declared_among, exponents, exponent_listed, kind_rules, first_broken}
use Rattle.rules.proofs.Faults.{slashed_faults}

-- There is room for the longest type of a text.
pub room_all : room (suc max_depth) ≡ 128
unfolding room
room_all = refl

module _ (names : List Bytes) (text : Bytes) where
  pub text_length : has_tree text ≡ true → length (text_type names text) ≡ suc (slashes text)
  unfolding is_some meaning_of
  text_length h = go (tree_of text) refl h
    where
      go : (o : Option Tree) → tree_of text ≡ o → is_some o ≡ true → length (meaning_of names o) ≡ suc (slashes text)
      go none e h = absurd (false≢true h)
      go (some T) e h = simples_count names (tree_sound text T e)

  -- No simple types, no tree; some, a tree.
  text_treeless : length (text_type names text) ≡ 0 → has_tree text ≡ false
  unfolding is_some meaning_of
  text_treeless h = go (tree_of text) refl h
    where
      go : (o : Option Tree) → tree_of text ≡ o → length (meaning_of names o) ≡ 0 → is_some o ≡ false
      go none e h = refl
      go (some T) e h = absurd (omega (arith, simples_count names (tree_sound text T e)))

  text_tree : (length (text_type names text) ≡ 0 → ⊥) → has_tree text ≡ true
  unfolding is_some meaning_of
  text_tree h = go (tree_of text) h
    where
      go : (o : Option Tree) → (length (meaning_of names o) ≡ 0 → ⊥) → is_some o ≡ true
      go none h = absurd (h refl)
      go (some T) h = refl

within_listed : (z : ℤ) → ExponentWithin 7 z → exponent_listed z ≡ true
unfolding exponent_listed
within_listed (pos n) h = le-leb n max_exponent (omega arith)
within_listed (negsuc n) h = lt-ltb n max_exponent (omega arith)

each_listed : (X : PregroupType) → ((x : Simple) → Memᴰ x X → ExponentWithin 7 x.exponent) → every exponent_listed (exponents X) ≡ true
unfolding every
each_listed [] h = refl
each_listed (x ∷ X) h = rw (within_listed x.exponent (h x (Memᴰ.head refl)), each_listed X (λ y m. h y (Memᴰ.tail m)))

pub text_exponents_listed : (names : List Bytes) (text : Bytes) → too_deep text ≡ false → every exponent_listed (exponents (text_type names text)) ≡ true
unfolding every meaning_of
text_exponents_listed names text shallow = go (tree_of text) refl
  where
    go : (o : Option Tree) → tree_of text ≡ o → every exponent_listed (exponents (meaning_of names o)) ≡ true
    go none e = refl
    go (some T) e = each_listed (meaning_of names (some T)) (λ x m. exponents_within names text T (tree_sound text T e) shallow x m)

-- A text that is read: its type stands at the first places.
pub record Shown (names : List Bytes) (text : Bytes) (places : List ℕ) (count : ℕ) : Type 0 where
  pub shallow : too_deep text ≡ false
  pub tree : has_tree text ≡ true
  pub size : count ≡ length (text_type names text)
  pub holds : Holds places 0 (text_type names text)

module _ (names : List Bytes) (text : Bytes) where
  abbrev type_if : Bool → PregroupType
  type_if deep = cond deep [] (text_type names text)

  pub text_shown : {places : List ℕ} {count : ℕ} → TextSays names text places count → (count ≡ 0 → ⊥) → Shown names text places count
  text_shown {places} {count} t some-simples = go (too_deep text) refl
    where
      go : (deep : Bool) → too_deep text ≡ deep → Shown names text places count
      go true e = absurd (some-simples (t.all ∙ ap (λ (b : Bool). length (type_if b)) e))
      go false e =
          let size : count ≡ length (text_type names text) = t.all ∙ ap (λ (b : Bool). length (type_if b)) e in
          record {
            shallow = e;
            tree = text_tree names text (λ z. some-simples (size ∙ z));
            size = size;
            holds = subst (Holds places 0) (ap type_if e) t.holds;
          }

  pub shallow_shown : {places : List ℕ} {count : ℕ} → TextSays names text places count → too_deep text ≡ false → (count ≡ length (text_type names text)) × Holds places 0 (text_type names text)
  shallow_shown {places} {count} t e =
      (t.all ∙ ap (λ (b : Bool). length (type_if b)) e, subst (Holds places 0) (ap type_if e) t.holds)

-- The rules for a slashed entry by its text.
module _ (names : List Bytes) (text : Bytes) (body : Bytes) (entries : ℕ) (targets : ℕ) (worded : is_worded body ≡ true) (is : type_part body ≡ text) where
  text_faults :
      {deep tree declared listed long full : Bool} → too_deep text ≡ deep → has_tree text ≡ tree
      → every (declared_among (length names)) (bases (text_type names text)) ≡ declared
      → every exponent_listed (exponents (text_type names text)) ≡ listed
      → ltb max_entry_simples (length (text_type names text)) ≡ long → leb max_entries entries ≡ full
      → first_broken (kind_rules slashed_entry body names entries targets)
      ≡ cond deep brackets_too_deep
      (cond (not tree) not_a_type
      (cond (not declared) undeclared_type (cond (not listed) exponent_outside (cond long type_too_long (cond full too_many_records 0)))))
  text_faults b t d e s f =
      slashed_faults body names entries targets worded (ap (λ (x : Bytes). too_deep x) is ∙ b) (ap (λ (x : Bytes). has_tree x) is ∙ t)
      (ap (λ (x : Bytes). every (declared_among (length names)) (bases (text_type names x))) is ∙ d)
      (ap (λ (x : Bytes). every exponent_listed (exponents (text_type names x))) is ∙ e)
      (ap (λ (x : Bytes). ltb max_entry_simples (length (text_type names x))) is ∙ s) f

  pub text_unread : length (shallow_type names text) ≡ 0 → cond (too_deep text) brackets_too_deep not_a_type ≡ first_broken (kind_rules slashed_entry body names entries targets)
  text_unread h = go (too_deep text) refl
    where
      go : (deep : Bool) → too_deep text ≡ deep → cond deep brackets_too_deep not_a_type ≡ first_broken (kind_rules slashed_entry body names entries targets)
      go true e = sym (text_faults e refl refl refl refl refl)
      go false e =
          sym (text_faults e (text_treeless names text (sym (ap (λ (b : Bool). length (type_if names text b)) e) ∙ h)) refl refl refl refl)

  module _ {places : List ℕ} {count : ℕ} (s : Shown names text places count) where
    pub text_undeclared : every (declared_among (length names)) (bases (text_type names text)) ≡ false → undeclared_type ≡ first_broken (kind_rules slashed_entry body names entries targets)
    text_undeclared d = sym (text_faults s.shallow s.tree d refl refl refl)

    module _ (declared : every (declared_among (length names)) (bases (text_type names text)) ≡ true) where
      text_declared :
          {long full : Bool} → ltb max_entry_simples (length (text_type names text)) ≡ long → leb max_entries entries ≡ full
          → cond long type_too_long (cond full too_many_records 0) ≡ first_broken (kind_rules slashed_entry body names entries targets)
      text_declared l f = sym (text_faults s.shallow s.tree declared (text_exponents_listed names text s.shallow) l f)

      pub text_long : max_entry_simples < count → type_too_long ≡ first_broken (kind_rules slashed_entry body names entries targets)
      text_long h = text_declared (lt-ltb max_entry_simples (length (text_type names text)) (omega (arith, s.size))) refl

      pub text_full : count ≤ max_entry_simples → max_entries ≤ entries → too_many_records ≡ first_broken (kind_rules slashed_entry body names entries targets)
      text_full h k =
          text_declared (le-ltb max_entry_simples (length (text_type names text)) (omega (arith, s.size))) (le-leb max_entries entries k)

      pub text_clean : count ≤ max_entry_simples → entries < max_entries → 0 ≡ first_broken (kind_rules slashed_entry body names entries targets)
      text_clean h k =
          text_declared (le-ltb max_entry_simples (length (text_type names text)) (omega (arith, s.size))) (lt-leb max_entries entries k)
