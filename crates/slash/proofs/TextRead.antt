-- A whole text, by what stands at its front as a type: it has that type where nothing is left behind it, and no type else, or too deep brackets.
use Prim.Native.Nat.{ℕ, suc, ◌≤◌, ◌<◌}
use native.Mathlib.Omega.{arith}
use mathlib.Core.Path.{◌≡◌, refl, sym, ap, ◌∙◌}
use mathlib.Core.Bool.{Bool, true, false, cond}
use mathlib.Core.Option.{none, some}
use mathlib.Core.List.{List, []}
use lib.ListN.{length, drop, drop_of_length-le}
use lib.Seq.{drop-cons}
use Rattle.figures.specs.Limits.{max_depth}
use Rattle.pregroup.specs.Types.{PregroupType}
use Rattle.format.specs.Records.{Bytes}
use Rattle.notation.specs.Grammar.{Tree, meaning}
use Rattle.notation.specs.Brackets.{too_deep}
use Rattle.notation.specs.Trees.{type_at, whole_by, whole, meaning_of, text_type, shallow_type}
use Rattle.slash.specs.Parsing.{TextSays}
use Rattle.slash.specs.declared.Found.{Found}
use Rattle.notation.proofs.TreeLaws.{shallow_tree, deep_not_read}
use Rattle.slash.proofs.ParserLaws.{Read}

-- A tree with the rest of a text behind it.
module _ (T : Tree) (text : Bytes) (behind : ℕ) where
  whole_more : behind < length text → whole_by T (drop behind text) ≡ none
  unfolding whole_by
  whole_more h = rw (drop-cons text behind 0 h)

  whole_all : length text ≤ behind → whole_by T (drop behind text) ≡ some T
  unfolding whole_by
  whole_all h = rw (drop_of_length-le text h)

-- A text's type is that of the tree that is read, if any.
type_read : (names : List Bytes) (text : Bytes) → shallow_type names text ≡ meaning_of names (whole (type_at max_depth text))
unfolding meaning_of
type_read names text = go (too_deep text) refl
  where
    go : (t : Bool) → too_deep text ≡ t → cond t [] (text_type names text) ≡ meaning_of names (whole (type_at max_depth text))
    go true e = rw (deep_not_read text e)
    go false e = ap (meaning_of names) (sym (shallow_tree text e))

-- Where no tree is read there are no simple types.
none_read : {names : List Bytes} {text : Bytes} {places : List ℕ} → whole (type_at max_depth text) ≡ none → TextSays names text places 0
unfolding meaning_of
none_read {names} {text} e =
    let is : shallow_type names text ≡ [] = type_read names text ∙ ap (meaning_of names) e in
    record { all = rw is; few = omega arith; holds = rw is (record { each = λ k l. absurd (omega arith) }) }

-- A whole text, by the type at its front and what stands behind it.
pub text_nothing : {names : List Bytes} {text : Bytes} {places : List ℕ} → type_at max_depth text ≡ none → TextSays names text places 0
unfolding whole
text_nothing e = none_read (ap whole e)

tree_read :
    {sense : Tree → PregroupType} {text : Bytes} {n m from : ℕ} {places places' : List ℕ} {r : Found}
    (t : Read sense text (type_at max_depth text) n m from places places' r)
    → whole (type_at max_depth text) ≡ whole_by t.front.tree (drop r.behind text)
unfolding whole
tree_read t = ap whole t.is ∙ ap (whole_by t.front.tree) (sym t.how.left)

module _ {names : List Bytes} {text : Bytes} {places places' : List ℕ} {r : Found}
    (t : Read (meaning names) text (type_at max_depth text) (suc max_depth) (suc max_depth) 0 places places' r) where
  pub text_more : r.behind < length text → TextSays names text places' 0
  text_more h = none_read (tree_read t ∙ whole_more t.front.tree text r.behind h)

  pub text_all : length text ≤ r.behind → (0 < r.end) × TextSays names text places' r.end
  unfolding meaning_of
  text_all h =
      let tree = tree_read t ∙ whole_all t.front.tree text r.behind h in
      let is : shallow_type names text ≡ meaning names t.front.tree = type_read names text ∙ ap (meaning_of names) tree in
      (t.how.filled, record { all = rw is (omega (arith, t.how.count)); few = omega (arith, t.how.few); holds = rw is t.how.holds })
