-- Texts at work, by evaluation: what they mean, which have no tree, and which are too deep.
use Prim.Native.Nat.{ℕ}
use mathlib.Core.Path.{◌≡◌, refl}
use mathlib.Core.Bool.{Bool, true, false}
use mathlib.Core.Option.{none}
use mathlib.Core.List.{List, [], ◌∷◌, ◌++◌, map}
use lib.ListN.{replicate}
use lib.IntN.{pos, negsuc}
use Rattle.figures.specs.Limits.{max_depth}
use Rattle.pregroup.specs.Types.{PregroupType, ◌⁽◌⁾, plain, adjoint_by}
use Rattle.format.specs.Records.{Bytes, every, same_bytes}
use Rattle.format.specs.Names.{name_byte, is_name, name_front, name_behind, number_of}
use Rattle.notation.specs.Grammar.{Tree, named, over, IsType, meaning}
use Rattle.notation.specs.Brackets.{deep_behind, too_deep}
use Rattle.notation.specs.Trees.{name_at, closed_by, closed, unit_by, joined, second_by, behind_first, unit_at, type_at, whole_by, whole, tree_of, meaning_of, text_type}
use Rattle.notation.proofs.TreeLaws.{tree_sound, no_tree}

-- Texts: x / y, x \ y, and ( x ).
infixl 60 ◌⟋◌ ◌⟍◌
abbrev ◌⟋◌ : Bytes → Bytes → Bytes
x ⟋ y = x ++ (47 ∷ y)

abbrev ◌⟍◌ : Bytes → Bytes → Bytes
x ⟍ y = x ++ (92 ∷ y)

abbrev ⦅◌⦆ : Bytes → Bytes
⦅ x ⦆ = 40 ∷ (x ++ (41 ∷ []))

-- So many opening brackets before a text, and so many pairs around it.
abbrev openings : ℕ → Bytes → Bytes
openings n x = replicate n 40 ++ x

abbrev deep : ℕ → Bytes → Bytes
deep n x = replicate n 40 ++ x ++ replicate n 41

abbrev o : Bytes
o = 111 ∷ []

abbrev p : Bytes
p = 112 ∷ []

abbrev w : Bytes
w = 119 ∷ []

abbrev u : Bytes
u = 117 ∷ []

abbrev a : Bytes
a = 97 ∷ []

abbrev b : Bytes
b = 98 ∷ []

abbrev c : Bytes
c = 99 ∷ []

abbrev a1 : Bytes
a1 = 97 ∷ 49 ∷ []

abbrev a11 : Bytes
a11 = 97 ∷ 49 ∷ 49 ∷ []

abbrev ab : Bytes
ab = 97 ∷ 98 ∷ []

-- The names of document 01's first book, three letters, and names that begin alike.
abbrev book : List Bytes
book = o ∷ p ∷ w ∷ u ∷ []

abbrev letters : List Bytes
letters = a ∷ b ∷ c ∷ []

abbrev alike : List Bytes
alike = ab ∷ a11 ∷ a1 ∷ a ∷ []

-- a/(a/(.. a/a ..)), and ((.. a\a ..)\a)\a, with six pairs of brackets.
abbrev leftmost : Bytes
leftmost = a ⟋ ⦅ a ⟋ ⦅ a ⟋ ⦅ a ⟋ ⦅ a ⟋ ⦅ a ⟋ ⦅ a ⟋ a ⦆ ⦆ ⦆ ⦆ ⦆ ⦆

abbrev rightmost : Bytes
rightmost = ⦅ ⦅ ⦅ ⦅ ⦅ ⦅ a ⟍ a ⦆ ⟍ a ⦆ ⟍ a ⦆ ⟍ a ⦆ ⟍ a ⦆ ⟍ a ⦆ ⟍ a

-- Names, a text, and its type. The exponent −1 is `negsuc 0`.
abbrev Row : Type 0
Row = List Bytes × Bytes × PregroupType

abbrev rows : List Row
rows =
    (book, ⦅ o ⟋ w ⦆ ⟋ p, plain 0 ∷ 2 ⁽ negsuc 0 ⁾ ∷ 1 ⁽ negsuc 0 ⁾ ∷ [])
    ∷ (book, o ⟋ ⦅ p ⟋ w ⦆, plain 0 ∷ 2 ⁽ negsuc 1 ⁾ ∷ 1 ⁽ negsuc 0 ⁾ ∷ [])
    ∷ (book, o ⟍ o, 0 ⁽ pos 1 ⁾ ∷ plain 0 ∷ [])
    ∷ (book, u, plain 3 ∷ [])
    -- brackets leave no trace
    ∷ (letters, a, plain 0 ∷ [])
    ∷ (letters, ⦅ a ⦆, plain 0 ∷ [])
    ∷ (letters, ⦅ ⦅ a ⦆ ⦆, plain 0 ∷ [])
    ∷ (letters, deep 6 a, plain 0 ∷ [])
    ∷ (letters, ⦅ a ⦆ ⟋ ⦅ ⦅ b ⦆ ⦆, plain 0 ∷ 1 ⁽ negsuc 0 ⁾ ∷ [])
    -- one slash, and two
    ∷ (letters, a ⟋ b, plain 0 ∷ 1 ⁽ negsuc 0 ⁾ ∷ [])
    ∷ (letters, a ⟍ b, 0 ⁽ pos 1 ⁾ ∷ plain 1 ∷ [])
    ∷ (letters, ⦅ a ⟍ b ⦆ ⟋ c, 0 ⁽ pos 1 ⁾ ∷ plain 1 ∷ 2 ⁽ negsuc 0 ⁾ ∷ [])
    ∷ (letters, a ⟍ ⦅ b ⟋ c ⦆, 0 ⁽ pos 1 ⁾ ∷ plain 1 ∷ 2 ⁽ negsuc 0 ⁾ ∷ [])
    ∷ (letters, ⦅ a ⟍ b ⦆ ⟍ c, 1 ⁽ pos 1 ⁾ ∷ 0 ⁽ pos 2 ⁾ ∷ plain 2 ∷ [])
    -- a left and a right adjoint that undo each other
    ∷ (letters, ⦅ a ⟋ b ⦆ ⟍ c, plain 1 ∷ 0 ⁽ pos 1 ⁾ ∷ plain 2 ∷ [])
    ∷ (letters, a ⟋ ⦅ b ⟍ c ⦆, plain 0 ∷ 2 ⁽ negsuc 0 ⁾ ∷ plain 1 ∷ [])
    ∷ (letters, ⦅ a ⟍ b ⦆ ⟋ ⦅ a ⟍ b ⦆, 0 ⁽ pos 1 ⁾ ∷ plain 1 ∷ 1 ⁽ negsuc 0 ⁾ ∷ plain 0 ∷ [])
    ∷ (letters, ⦅ ⦅ a ⟋ b ⦆ ⟋ c ⦆ ⟍ a, plain 2 ∷ plain 1 ∷ 0 ⁽ pos 1 ⁾ ∷ plain 0 ∷ [])
    -- names that begin alike, and one that is not declared
    ∷ (alike, a, plain 3 ∷ [])
    ∷ (alike, a ⟋ ⦅ a1 ⟍ a11 ⦆, plain 3 ∷ 1 ⁽ negsuc 0 ⁾ ∷ plain 2 ∷ [])
    ∷ (alike, ab ⟍ a, 0 ⁽ pos 1 ⁾ ∷ plain 3 ∷ [])
    ∷ (alike, a ⟋ b, plain 3 ∷ 4 ⁽ negsuc 0 ⁾ ∷ [])
    -- the least and the greatest exponent
    ∷ (
      letters,
      leftmost,
      plain 0 ∷ 0 ⁽ negsuc 1 ⁾ ∷ 0 ⁽ negsuc 3 ⁾ ∷ 0 ⁽ negsuc 5 ⁾ ∷ 0 ⁽ negsuc 6 ⁾ ∷ 0 ⁽ negsuc 4 ⁾ ∷ 0 ⁽ negsuc 2 ⁾ ∷ 0 ⁽ negsuc 0 ⁾ ∷ [],
    )
    ∷ (
      letters,
      rightmost,
      0 ⁽ pos 1 ⁾ ∷ 0 ⁽ pos 3 ⁾ ∷ 0 ⁽ pos 5 ⁾ ∷ 0 ⁽ pos 7 ⁾ ∷ 0 ⁽ pos 6 ⁾ ∷ 0 ⁽ pos 4 ⁾ ∷ 0 ⁽ pos 2 ⁾ ∷ plain 0 ∷ [],
    )
    -- a name of 15 bytes; a tree may have deeper brackets than a text may
    ∷ (replicate 15 97 ∷ [], replicate 15 97, plain 0 ∷ [])
    ∷ (letters, deep 7 b, plain 1 ∷ [])
    ∷ []

meant : map (λ (r : Row). text_type r.0 r.1) rows ≡ map (λ (r : Row). r.2) rows
unfolding every same_bytes name_byte is_name number_of adjoint_by meaning name_front name_behind name_at closed_by closed unit_by joined second_by behind_first unit_at whole_by whole tree_of meaning_of
meant = refl

-- Texts without a tree.
abbrev treeless : List Bytes
treeless =
    []
    ∷ (a ⟋ b ⟋ c)
    ∷ (a ⟍ b ⟍ c)
    ∷ (a ⟋ b ⟍ c)
    ∷ ⦅ a ⟋ b ⟋ c ⦆
    ∷ ⦅ [] ⦆
    ∷ ([] ⟋ a)
    ∷ (a ⟋ [])
    ∷ ([] ⟍ a)
    ∷ (a ⟍ [])
    ∷ (a ⟋ [] ⟋ b)
    ∷ (a ⟋ [] ⟍ b)
    ∷ openings 1 a
    ∷ (a ++ (41 ∷ []))
    ∷ openings 1 ⦅ a ⦆
    ∷ (⦅ a ⦆ ++ (41 ∷ []))
    ∷ (a ++ ⦅ b ⦆)
    ∷ (⦅ a ⦆ ++ b)
    ∷ (⦅ a ⦆ ++ ⦅ b ⦆)
    ∷ (41 ∷ openings 7 [])
    -- A, 1a, a b, a name of 16 bytes
    ∷ (65 ∷ [])
    ∷ (49 ∷ 97 ∷ [])
    ∷ (97 ∷ 32 ∷ 98 ∷ [])
    ∷ replicate 16 97
    ∷ []

none_there : map tree_of treeless ≡ map (λ (text : Bytes). none) treeless
unfolding every name_byte is_name name_front name_behind name_at closed_by closed unit_by joined second_by behind_first unit_at whole_by whole tree_of
none_there = refl

-- A text, and whether it is too deep.
abbrev DepthRow : Type 0
DepthRow = Bytes × Bool

abbrev depths : List DepthRow
depths =
    ([], false)
    ∷ (deep 6 a, false)
    ∷ (deep 7 a, true)
    ∷ (leftmost, false)
    ∷ (rightmost, false)
    ∷ (⦅ leftmost ⦆, true)
    ∷ (deep 6 a ⟋ deep 6 a, false)
    ∷ (openings 6 [], false)
    ∷ (openings 7 [], true)
    -- a closing bracket makes room for one more, whether or not one was open; what comes too late does not
    ∷ (41 ∷ openings 7 [], false)
    ∷ (41 ∷ openings 8 [], true)
    ∷ (openings 7 (41 ∷ []), true)
    ∷ []

measured : map (λ (r : DepthRow). too_deep r.0) depths ≡ map (λ (r : DepthRow). r.1) depths
unfolding deep_behind
measured = refl

-- Read no deeper than texts may be, seven pairs of brackets have no tree.
too_deep_to_read : whole (type_at max_depth (deep 7 a)) ≡ none
unfolding every name_byte is_name name_front name_behind name_at closed_by closed unit_by joined second_by behind_first unit_at whole_by whole
too_deep_to_read = refl

-- What the theorems say of two of them: a tree by the grammar, and that there is none.
fetch_from : IsType (⦅ o ⟋ w ⦆ ⟋ p) (over (over (named o) (named w)) (named p))
unfolding every name_byte is_name name_front name_behind name_at closed_by closed unit_by joined second_by behind_first unit_at whole_by whole tree_of
fetch_from = tree_sound (⦅ o ⟋ w ⦆ ⟋ p) (over (over (named o) (named w)) (named p)) refl

two_slashes : (T : Tree) → IsType (a ⟋ b ⟋ c) T → ⊥
unfolding every name_byte is_name name_front name_behind name_at closed_by closed unit_by joined second_by behind_first unit_at whole_by whole tree_of
two_slashes = (no_tree (a ⟋ b ⟋ c)).0 refl
