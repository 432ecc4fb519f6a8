-- The computed tree of a text is its tree by the grammar: sound and complete, one at most, and found at the greatest depth that texts may have.
use Prim.Native.Nat.{ℕ}
use native.Mathlib.Omega.{arith}
use mathlib.Core.Path.{◌≡◌, refl, sym, ap, subst, ◌∙◌}
use mathlib.Core.Logic.{◌↔◌}
use mathlib.Core.Bool.{true, false}
use mathlib.Core.Option.{Option, none, some, some-injective, none-ne-some}
use mathlib.Core.List.{[], ◌∷◌, append-nil}
use lib.ListN.{length}
use Rattle.figures.specs.Limits.{max_depth}
use Rattle.format.specs.Records.{Bytes}
use Rattle.notation.specs.Grammar.{Tree, IsType, IsUnit, alone}
use Rattle.notation.specs.Brackets.{too_deep}
use Rattle.notation.specs.Trees.{Front, front, type_at, whole_by, whole, tree_of}
use Rattle.notation.proofs.BracketLaws.{deep_exactly}
use Rattle.notation.proofs.Counting.{Shallow, shallow_length, not_deep_shallow}
use Rattle.notation.proofs.Fronts.{type_sound}
use Rattle.notation.proofs.Completeness.{type_complete}

-- A whole tree is one with nothing behind it.
whole_front : (o : Option Front) (T : Tree) → whole o ≡ some T → o ≡ some (front T [])
unfolding whole whole_by
whole_front none T e = absurd (none-ne-some T e)
whole_front (some f) T e = go f.tree f.behind e
  where
    go : (U : Tree) (behind : Bytes) → whole_by U behind ≡ some T → some (front U behind) ≡ some (front T [])
    go U [] k = ap (λ (X : Tree). some (front X [])) (some-injective U T k)
    go U (b ∷ behind) k = absurd (none-ne-some T k)

module _ (d : ℕ) (text : Bytes) where
  whole_sound : (T : Tree) → whole (type_at d text) ≡ some T → IsType text T × Shallow d text
  whole_sound T e =
      let t = type_sound d text T [] (whole_front (type_at d text) T e) in
      subst (λ (p : Bytes). IsType p T × Shallow d p) (sym (t.3 ∙ append-nil t.0)) (t.1, t.2)

  whole_complete : (T : Tree) → Shallow d text → IsType text T → whole (type_at d text) ≡ some T
  unfolding whole whole_by
  whole_complete T s t = ap (λ (p : Bytes). whole (type_at d p)) (sym (append-nil text)) ∙ ap whole (type_complete t d s [] tt)

-- A computed tree is the text's by the grammar ..
pub tree_sound : (text : Bytes) (T : Tree) → tree_of text ≡ some T → IsType text T
unfolding tree_of
tree_sound text T e = (whole_sound (length text) text T e).0

-- .. and a tree by the grammar is computed.
pub tree_complete : (text : Bytes) (T : Tree) → IsType text T → tree_of text ≡ some T
unfolding tree_of
tree_complete text T t = whole_complete (length text) text T (shallow_length text) t

-- No text has two trees, as a type ..
pub one_tree : {text : Bytes} {T U : Tree} → IsType text T → IsType text U → T ≡ U
one_tree {text} {T} {U} t u = some-injective T U (sym (tree_complete text T t) ∙ tree_complete text U u)

-- .. or as a unit.
pub one_unit : {text : Bytes} {T U : Tree} → IsUnit text T → IsUnit text U → T ≡ U
one_unit t u = one_tree (alone t) (alone u)

-- No tree is computed exactly where there is none.
pub no_tree : (text : Bytes) → (tree_of text ≡ none) ↔ ((T : Tree) → IsType text T → ⊥)
no_tree text = (λ e T t. none-ne-some T (sym e ∙ tree_complete text T t), λ never. go never (tree_of text) refl)
  where
    go : ((T : Tree) → IsType text T → ⊥) → (o : Option Tree) → tree_of text ≡ o → o ≡ none
    go never none e = refl
    go never (some T) e = absurd (never T (tree_sound text T e))

-- Two results that give the same trees.
same_trees : (o r : Option Tree) → ((T : Tree) → o ≡ some T → r ≡ some T) → ((T : Tree) → r ≡ some T → o ≡ some T) → o ≡ r
same_trees none none h k = refl
same_trees none (some T) h k = k T refl
same_trees (some T) r h k = sym (h T refl)

-- Where a text is not too deep, reading it as deep as texts may be is enough.
pub shallow_tree : (text : Bytes) → too_deep text ≡ false → whole (type_at max_depth text) ≡ tree_of text
shallow_tree text h =
    same_trees (whole (type_at max_depth text)) (tree_of text) (λ T e. tree_complete text T (whole_sound max_depth text T e).0)
    (λ T e. whole_complete max_depth text T (not_deep_shallow text h) (tree_sound text T e))

-- Where it is too deep, nothing is read so.
pub deep_not_read : (text : Bytes) → too_deep text ≡ true → whole (type_at max_depth text) ≡ none
deep_not_read text h = go (whole (type_at max_depth text)) refl
  where
    go : (o : Option Tree) → whole (type_at max_depth text) ≡ o → o ≡ none
    go none e = refl
    go (some T) e =
        let deep = (deep_exactly text).0 h in
        absurd (omega (arith, deep.outnumber, (whole_sound max_depth text T e).1.fronts deep.up_to))
