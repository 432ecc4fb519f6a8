-- 6 cannot fall on a slashed entry: the exponents of a text whose brackets are not too deep go from −7 to 7.
use Prim.Native.Nat.{ℕ}
use native.Mathlib.Omega.{arith}
use mathlib.Core.Path.{◌≡◌, refl}
use mathlib.Core.Bool.{Bool, true, false, not, cond, false≢true}
use mathlib.Core.List.{List}
use lib.Dec.{leb, ltb}
use lib.ListN.{length}
use Rattle.figures.specs.Limits.{max_entries, max_entry_simples}
use Rattle.figures.specs.Refusals.{bad_layout, undeclared_type, exponent_outside, too_many_records, brackets_too_deep, not_a_type, type_too_long}
use Rattle.format.specs.Records.{Bytes, every}
use Rattle.notation.specs.Brackets.{too_deep}
use Rattle.notation.specs.Trees.{has_tree, text_type}
use Rattle.rules.proofs.Texts.{text_exponents_listed}
use Rattle.rules.specs.Layouts.{type_part, is_worded, slashed}
use Rattle.rules.specs.Rules.{bases, exponents, declared_among, exponent_listed, body_rules, first_broken}

-- The rules for a slashed entry by the answers of their tests: where every text that is not too deep has listed exponents, 6 is not reached.
not_reached :
    (worded deep tree declared listed long full : Bool) → (deep ≡ false → listed ≡ true)
    → cond (not worded) bad_layout (cond deep brackets_too_deep (cond (not tree) not_a_type (cond (not declared) undeclared_type (cond (not listed) exponent_outside (cond long type_too_long (cond full too_many_records 0))))))
    ≡ exponent_outside
    → ⊥
not_reached false deep tree declared listed long full h e = omega arith
not_reached true true tree declared listed long full h e = omega arith
not_reached true false false declared listed long full h e = omega arith
not_reached true false true false listed long full h e = omega arith
not_reached true false true true false long full h e = false≢true (h refl)
not_reached true false true true true true full h e = omega arith
not_reached true false true true true false true h e = omega arith
not_reached true false true true true false false h e = omega arith

pub no_exponent_fault : (body : Bytes) (names : List Bytes) (entries targets : ℕ) → first_broken (body_rules slashed body names entries targets) ≡ exponent_outside → ⊥
unfolding body_rules first_broken
no_exponent_fault body names entries targets e =
    let part = type_part body in
    let meant = text_type names part in
    not_reached (is_worded body) (too_deep part) (has_tree part) (every (declared_among (length names)) (bases meant)) (every exponent_listed (exponents meant)) (ltb max_entry_simples (length meant)) (leb max_entries entries)
    (text_exponents_listed names part) e
