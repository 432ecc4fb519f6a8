-- `answer::links::link_from` meets its contract, by recursion on the length of what is left of the string.
use Prim.Native.Nat.{◌+◌, ◌-◌}
use native.Mathlib.Omega.{arith}
use mathlib.Core.Path.{◌≡◌, sym, ◌∙◌}
use mathlib.Core.Bool.{Bool, true, false, true≢false}
use mathlib.Core.Logic.{◌↔◌}
use lib.ListN.{length}
use Rattle.answer.proofs.LinkSteps.{there_within, from_inside, reducing_ends_there, reducing_from, from_stays, from_chosen, from_step}
use Rattle.answer.proofs.LinkWriting.{linked_stay, linked_from}
use Rattle.answer.proofs.links.+link_from.Goals as goal

-- What a right test denies does not hold.
denied : {A : Type 0} {told : Bool} → (told ≡ true) ↔ A → told ≡ false → A → ⊥
denied says failed a = true≢false (sym (says.1 a) ∙ failed)

pub may_stay-requires : goal.may_stay-requires
may_stay-requires t c =
    record { i_in_bounds = from_inside c.requires.linking_there c.requires.reducing_there; string_there = c.requires.linking_there.string_there; has_row = c.requires.linking_there.room }

pub write_stay-requires : goal.write_stay-requires
write_stay-requires t c =
    let inside = from_inside c.requires.linking_there c.requires.reducing_there in
    record { i_lt_max_places = omega (arith, c.requires.linking_there.string_there.few); i_in_bounds = omega (arith, c.requires.linking_there.space) }

pub overflow_add-i : goal.overflow_add-i
overflow_add-i t c =
    let inside = from_inside c.requires.linking_there c.requires.reducing_there in
    omega (arith, inside)

pub link_within-requires : goal.link_within-requires
link_within-requires t c =
    let stays = c.may_stay.ensures.0 c.if-may_stay.true in
    record { linking_there = there_within c.requires.linking_there _ (length c.args.string.now) (omega arith) c.write_stay.auto.answer; in_row = stays.behind }

pub nearest-k-requires : goal.nearest-k-requires
nearest-k-requires t c =
    let inside = from_inside c.requires.linking_there c.requires.reducing_there in
    record { i_lt_max_places = omega (arith, c.requires.linking_there.string_there.few); end_row_there = reducing_ends_there c.requires.linking_there c.requires.reducing_there }

pub write_link-requires : goal.write_link-requires
write_link-requires t c =
    let moves = denied c.may_stay.ensures c.if-may_stay.false in
    let link = from_step c.requires.linking_there c.requires.reducing_there c.nearest-k.result moves c.nearest-k.ensures in
    record { i_lt_k = (link.ahead, link.small); k_in_bounds = omega (arith, link.inside, c.requires.linking_there.space) }

pub overflow_add-i-else-may_stay : goal.overflow_add-i-else-may_stay
overflow_add-i-else-may_stay t c =
    let moves = denied c.may_stay.ensures c.if-may_stay.false in
    let link = from_step c.requires.linking_there c.requires.reducing_there c.nearest-k.result moves c.nearest-k.ensures in
    omega (arith, link.ahead, link.small)

pub link_within-requires-else-may_stay : goal.link_within-requires-else-may_stay
link_within-requires-else-may_stay t c =
    let moves = denied c.may_stay.ensures c.if-may_stay.false in
    let link = from_step c.requires.linking_there c.requires.reducing_there c.nearest-k.result moves c.nearest-k.ensures in
    record { linking_there = there_within c.requires.linking_there _ c.nearest-k.result (omega (arith, link.inside)) c.write_link.auto.answer; in_row = link.between }

pub overflow_add-k : goal.overflow_add-k
overflow_add-k t c =
    let moves = denied c.may_stay.ensures c.if-may_stay.false in
    let link = from_step c.requires.linking_there c.requires.reducing_there c.nearest-k.result moves c.nearest-k.ensures in
    omega (arith, link.small)

pub link_from-requires : goal.link_from-requires
link_from-requires t c =
    let moves = denied c.may_stay.ensures c.if-may_stay.false in
    let link = from_step c.requires.linking_there c.requires.reducing_there c.nearest-k.result moves c.nearest-k.ensures in
    let between-length : length c.link_within-else-may_stay.new.answer ≡ length c.args.answer.now = c.link_within-else-may_stay.auto.answer ∙ c.write_link.auto.answer in
    let measure : length c.args.string.now - c.args.i ≡ t = omega arith in
    (omega (arith, link.ahead, link.inside), (there_within c.requires.linking_there _ (length c.args.string.now) (omega arith) between-length, reducing_from c.requires.linking_there c.requires.reducing_there (c.nearest-k.result + 1) link.behind))

pub shape_of-answer-then-may_stay : goal.shape_of-answer-then-may_stay
shape_of-answer-then-may_stay t c = c.link_within.auto.answer ∙ c.write_stay.auto.answer

pub returns-then-may_stay : goal.returns-then-may_stay
returns-then-may_stay t c =
    let inside = from_inside c.requires.linking_there c.requires.reducing_there in
    let stays = c.may_stay.ensures.0 c.if-may_stay.true in
    linked_stay c.args.answer.now c.args.i inside c.requires.linking_there.space ((from_stays c.requires.linking_there c.requires.reducing_there).0 stays) c.write_stay.ensures c.link_within.ensures

pub shape_of-answer-else-may_stay : goal.shape_of-answer-else-may_stay
shape_of-answer-else-may_stay t c =
    let between-length : length c.link_within-else-may_stay.new.answer ≡ length c.args.answer.now = c.link_within-else-may_stay.auto.answer ∙ c.write_link.auto.answer in
    c.link_from.auto.answer ∙ between-length

pub returns-else-may_stay : goal.returns-else-may_stay
returns-else-may_stay t c =
    let moves = denied c.may_stay.ensures c.if-may_stay.false in
    linked_from c.args.answer.now c.args.i c.requires.linking_there.space c.write_link.ensures c.link_within-else-may_stay.ensures (from_chosen c.requires.linking_there c.requires.reducing_there c.nearest-k.result moves c.nearest-k.ensures) (λ h. moves ((from_stays c.requires.linking_there c.requires.reducing_there).1 h)) c.link_from.ensures
