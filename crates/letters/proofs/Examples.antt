-- The letters at work, by evaluation: the paper's first case, types that stand below each other, the unlinked type of both kinds, odd exponents, and
-- values that are no linking.
use mathlib.Core.Path.{◌≡◌, refl}
use mathlib.Core.Bool.{true, false, cond}
use mathlib.Core.List.{[], ◌∷◌}
use lib.Dec.{eqb}
use lib.IntN.{pos, negsuc}
use Rattle.pregroup.specs.Types.{◌⁽◌⁾, plain, even}
use Rattle.pregroup.specs.Tests.{Test, same_exponent, contracts, link_kind}
use Rattle.pregroup.specs.declared.LinkKind.TheVariants.{Not, Different}
use Rattle.letters.specs.Letters.{e, t, letters}

-- The paper's first book: u (3) below w (2), and each type below itself.
abbrev u_below_w : Test
u_below_w a b = cond (eqb a b) true (cond (eqb a 3) (eqb b 2) false)

-- "fetch bed4 ward7": o w^l p^l p u, with target o: `t` on the rows of w and u.
first_case : letters u_below_w 0 (plain 0 ∷ 2 ⁽ negsuc 0 ⁾ ∷ 1 ⁽ negsuc 0 ⁾ ∷ plain 1 ∷ plain 3 ∷ []) (1 ∷ 5 ∷ 4 ∷ 3 ∷ 2 ∷ []) 5 ≡ t ∷ e ∷ t ∷ e ∷ e ∷ t ∷ []
unfolding letters link_kind contracts same_exponent even
first_case = refl

-- Two types, 1 and 2, that stand below each other: linked to the other `t`, linked to itself `e` ..
abbrev each_other : Test
each_other a b = cond (eqb a b) true (cond (eqb a 1) (eqb b 2) (cond (eqb a 2) (eqb b 1) false))

each_below_the_other : letters each_other 0 (plain 0 ∷ plain 1 ∷ 2 ⁽ pos 1 ⁾ ∷ plain 2 ∷ 1 ⁽ pos 1 ⁾ ∷ []) (1 ∷ 3 ∷ 2 ∷ 5 ∷ 4 ∷ []) 5 ≡ t ∷ e ∷ t ∷ t ∷ t ∷ t ∷ []
unfolding letters link_kind contracts same_exponent even
each_below_the_other = refl

each_below_itself : letters each_other 0 (plain 0 ∷ plain 1 ∷ 1 ⁽ pos 1 ⁾ ∷ plain 2 ∷ 2 ⁽ pos 1 ⁾ ∷ []) (1 ∷ 3 ∷ 2 ∷ 5 ∷ 4 ∷ []) 5 ≡ t ∷ e ∷ e ∷ e ∷ e ∷ e ∷ []
unfolding letters link_kind contracts same_exponent even
each_below_itself = refl

-- .. and left over, with the other or itself as target.
other_is_the_target : letters each_other 2 (plain 1 ∷ []) (1 ∷ []) 1 ≡ t ∷ t ∷ []
unfolding letters link_kind contracts same_exponent even
other_is_the_target = refl

itself_is_the_target : letters each_other 1 (plain 1 ∷ []) (1 ∷ []) 1 ≡ t ∷ e ∷ []
unfolding letters link_kind contracts same_exponent even
itself_is_the_target = refl

-- The unlinked type below the target, behind a link, and equal to it.
unlinked_below : letters u_below_w 2 (plain 3 ∷ 3 ⁽ pos 1 ⁾ ∷ plain 3 ∷ []) (2 ∷ 1 ∷ 3 ∷ []) 3 ≡ t ∷ e ∷ e ∷ t ∷ []
unfolding letters link_kind contracts same_exponent even
unlinked_below = refl

unlinked_equal : letters u_below_w 3 (plain 3 ∷ 2 ⁽ pos 1 ⁾ ∷ plain 3 ∷ []) (2 ∷ 1 ∷ 3 ∷ []) 3 ≡ t ∷ t ∷ t ∷ e ∷ []
unfolding letters link_kind contracts same_exponent even
unlinked_equal = refl

-- An odd exponent turns the order round: w^(1) links to u^(2), and u^(1) does not link to w^(2).
odd_exponent : letters u_below_w 0 (plain 0 ∷ 2 ⁽ pos 1 ⁾ ∷ 3 ⁽ pos 2 ⁾ ∷ 2 ⁽ pos 1 ⁾ ∷ 2 ⁽ pos 2 ⁾ ∷ []) (1 ∷ 3 ∷ 2 ∷ 5 ∷ 4 ∷ []) 5 ≡ t ∷ e ∷ t ∷ t ∷ e ∷ e ∷ []
unfolding letters link_kind contracts same_exponent even
odd_exponent = refl

odd_links : link_kind u_below_w (2 ⁽ pos 1 ⁾) (3 ⁽ pos 2 ⁾) ≡ Different
unfolding link_kind contracts same_exponent even
odd_links = refl

odd_does_not : link_kind u_below_w (3 ⁽ pos 1 ⁾) (2 ⁽ pos 2 ⁾) ≡ Not
unfolding link_kind contracts same_exponent even
odd_does_not = refl

-- No linkings: a partner 0, a partner behind the string, and no partner at all, have `t` ..
partner_nowhere : letters u_below_w 0 (plain 0 ∷ plain 0 ∷ plain 0 ∷ []) (0 ∷ 4 ∷ []) 3 ≡ t ∷ t ∷ t ∷ t ∷ []
unfolding letters link_kind contracts same_exponent even
partner_nowhere = refl

-- .. and a partner before that has another one still hands on its letter.
partner_of_another : letters u_below_w 0 (plain 0 ∷ plain 2 ∷ []) (1 ∷ 1 ∷ []) 2 ≡ t ∷ e ∷ e ∷ []
unfolding letters link_kind contracts same_exponent even
partner_of_another = refl
