-- Document 02, 2.7: the letter that ends a simple type's row in a listing. `e`: its link joins the same basic type; `t`: it joins different ones.
use Rattle.std.specs.Prelude.{ℕ, zero, suc, cond, List, [], ◌∷◌, ◌++◌, eqb, leb, ltb, length, get_or}
use Rattle.pregroup.specs.Types.{Basic, PregroupType, plain, simple_right}
use Rattle.pregroup.specs.Tests.{Test, link_kind}
use Rattle.pregroup.specs.declared.LinkKind.{LinkKind}
use Rattle.pregroup.specs.declared.LinkKind.TheVariants.{Not, Same, Different}
use Rattle.linking.specs.Linking.{simple_at, partner}

-- `e` and `t`, in ASCII.
abbrev pub e : ℕ
e = 101

abbrev pub t : ℕ
t = 116

-- The letter of each kind. Two that do not contract, which no reading links, would not were the order equality alone.
abbrev pub letter_of : LinkKind → ℕ
letter_of Not = t
letter_of Same = e
letter_of Different = t

-- How position i of X is linked to k, which does not stand before it. The unlinked simple type is its own partner: it may remain exactly where it
-- contracts with the right adjoint of the target s. A position that is not there is linked to nothing.
abbrev pub link_at : Test → Basic → PregroupType → ℕ → ℕ → LinkKind
link_at le s X i k =
    cond (eqb k i) (link_kind le (simple_at X i) (simple_right (plain s)))
    (cond (leb k (length X)) (link_kind le (simple_at X i) (simple_at X k)) Not)

-- The letter of position i, with the letters of those before it: its partner's, where that stands before it, and else that of its link.
abbrev pub next_letter : Test → Basic → PregroupType → List ℕ → List ℕ → ℕ → ℕ
next_letter le s X P before i = cond (ltb (partner P i) i) (get_or {A = ℕ} before (partner P i) t) (letter_of (link_at le s X i (partner P i)))

-- The letters of the positions from 0 to n. Positions count from 1: that of 0, which no simple type has, serves what has no partner.
unfoldable pub letters : Test → Basic → PregroupType → List ℕ → ℕ → List ℕ
letters le s X P zero = t ∷ []
letters le s X P (suc n) = letters le s X P n ++ (next_letter le s X P (letters le s X P n) (suc n) ∷ [])
