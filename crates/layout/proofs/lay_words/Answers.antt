-- `layout::lay_words` meets its contract: the words passed are laid, and those left are the rest.
use Rattle.graph.specs.Graph.{graph}
use Rattle.layout.proofs.LineLaws.{Lining, lining_fits, lining_next, lining_end}
use Rattle.layout.proofs.lay_words.Goals as goal

pub lay_word-place-requires : goal.lay_word-place-requires
lay_word-place-requires c =
    let lining : let a = c.args in
    let l = c.loop-first in
    Lining a.book.now a.names.now a.types a.entries.now a.same.now a.firsts.now (graph a.nodes.now a.slots.now) c.requires.words l.place (graph l.nodes l.slots) l.first-index = c.loop-first.invariant c.requires.words c.requires.found in
    rw c.from.ensures (lining_fits lining c.loop-first-test.true c.requires.found)

pub loop-first-preserved : goal.loop-first-preserved
loop-first-preserved c =
    let word = rw c.from.ensures at c.lay_word-place.ensures in
    λ ws found. lining_next (c.loop-first.invariant ws found) c.loop-first-test.true word c.lay_word-place.auto.nodes c.lay_word-place.auto.slots

pub returns : goal.returns
returns c = λ ws found. lining_end (c.loop-first.invariant ws found) c.loop-first-test.false
