-- `answer::links::link_within` meets its contract, by recursion on the length of the stretch.
use Prim.Native.Nat.{◌-◌}
use native.Mathlib.Omega.{arith}
use mathlib.Core.Path.{◌≡◌, ◌∙◌}
use lib.ListN.{length}
use Rattle.answer.proofs.LinkSteps.{there_within, row_ends_there, within_chosen, within_step}
use Rattle.answer.proofs.LinkWriting.{linked_none, linked_within}
use Rattle.answer.proofs.links.+link_within.Goals as goal

pub nearest-k-requires : goal.nearest-k-requires
nearest-k-requires t c =
    record { i_lt_max_places = omega (arith, c.requires.linking_there.string_there.few); end_row_there = row_ends_there c.requires.linking_there }

pub write_link-requires : goal.write_link-requires
write_link-requires t c =
    let link = within_step c.requires.linking_there c.args.i c.nearest-k.result c.if-i-j.true c.requires.in_row c.nearest-k.ensures in
    record { i_lt_k = (link.ahead, link.small); k_in_bounds = omega (arith, link.inside, c.requires.linking_there.space) }

pub link_within-requires : goal.link_within-requires
link_within-requires t c =
    let link = within_step c.requires.linking_there c.args.i c.nearest-k.result c.if-i-j.true c.requires.in_row c.nearest-k.ensures in
    let measure : c.args.j - c.args.i ≡ t = omega arith in
    (omega (arith, link.ahead, link.inside), (there_within c.requires.linking_there _ c.nearest-k.result (omega (arith, link.inside)) c.write_link.auto.answer, link.between))

pub overflow_add-k : goal.overflow_add-k
overflow_add-k t c =
    let link = within_step c.requires.linking_there c.args.i c.nearest-k.result c.if-i-j.true c.requires.in_row c.nearest-k.ensures in
    omega (arith, link.small)

pub link_within-requires-then-i-j : goal.link_within-requires-then-i-j
link_within-requires-then-i-j t c =
    let link = within_step c.requires.linking_there c.args.i c.nearest-k.result c.if-i-j.true c.requires.in_row c.nearest-k.ensures in
    let between-length : length c.link_within.new.answer ≡ length c.args.answer.now = c.link_within.auto.answer ∙ c.write_link.auto.answer in
    let measure : c.args.j - c.args.i ≡ t = omega arith in
    (omega (arith, link.ahead, link.inside), (there_within c.requires.linking_there _ c.args.j (omega arith) between-length, link.behind))

pub shape_of-answer : goal.shape_of-answer
shape_of-answer t c =
    let between-length : length c.link_within.new.answer ≡ length c.args.answer.now = c.link_within.auto.answer ∙ c.write_link.auto.answer in
    c.link_within-then-i-j.auto.answer ∙ between-length

pub returns-then-i-j : goal.returns-then-i-j
returns-then-i-j t c =
    linked_within c.args.answer.now c.args.i c.requires.linking_there.space c.write_link.ensures c.link_within.ensures (within_chosen c.requires.linking_there c.args.i c.nearest-k.result c.if-i-j.true c.requires.in_row c.nearest-k.ensures) c.link_within-then-i-j.ensures

pub returns-else-i-j : goal.returns-else-i-j
returns-else-i-j t c =
    let ordered = ((c.requires.linking_there.right c.args.j (omega arith) c.args.i).0 c.requires.in_row).ordered in
    linked_none _ _ _ _ (omega arith)
