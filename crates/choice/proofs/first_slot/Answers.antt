-- `choice::first_slot` meets its contract: the search over slots, and over the words of a row, passes those that do not meet what is needed.
use native.Mathlib.Omega.{arith}
use mathlib.Core.Path.{◌≡◌, sym, ◌∙◌}
use mathlib.Core.Bool.{true≢false}
use Rattle.graph.specs.Graph.{entered_at}
use Rattle.figures.specs.Limits.{row_words}
use Rattle.choice.proofs.Meeting.{Apart, apart_one, apart_all, meets_whole}
use Rattle.choice.proofs.Searching.{pass_slot, search_found, search_fails}
use Rattle.choice.proofs.first_slot.Goals as goal

pub loop-k-preserved : goal.loop-k-preserved
loop-k-preserved c =
    let i = c.loop-k.invariant in
    (i.0, i.1, apart_one _ _ _ _ c.loop-k.k i.2 (λ m. true≢false (sym (c.meets_in.ensures.1 m) ∙ c.if-meets_in.false)))

pub search-preserved : goal.search-preserved
search-preserved c =
    let i = c.loop-k.invariant in
    let a = c.args in
    let all : c.loop-k.k ≡ row_words = omega arith in
    let apart : Apart a.chart.now (entered_at a.slots.now c.search.s) a.needs.now a.n row_words = rw (all, i.1) at i.2 in
    (i.0, pass_slot _ _ _ _ _ c.search.s c.search.invariant.1 (apart_all _ _ _ _ apart))

pub returns-after-search : goal.returns-after-search
returns-after-search c = search_fails _ _ _ _ _ c.search.s c.search.invariant.1 _ _ c.search-test.false c.search.invariant.0

pub returns-then-meets_in : goal.returns-then-meets_in
returns-then-meets_in c =
    let met = meets_whole _ _ _ _ (c.meets_in.ensures.0 c.if-meets_in.true) in
    search_found _ _ _ _ _ c.search.s c.search.invariant.1 _ (rw c.loop-k.invariant.1 at met)
