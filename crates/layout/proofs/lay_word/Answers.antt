-- `layout::lay_word` meets its contract: the number of simple types gives the next boundary, and the slots of the entries the range.
use native.Mathlib.Omega.{arith}
use Prim.Native.Nat.{ℕ, ◌+◌, ◌<◌}
use mathlib.Core.Path.{◌≡◌, ap}
use mathlib.Core.List.{List}
use Rattle.figures.specs.Limits.{max_nodes}
use Rattle.linking.specs.Reading.{NumberedEntry}
use Rattle.lookup.specs.Entries.{simples_in}
use Rattle.format.specs.Records.{bodies_at}
use Rattle.lookup.specs.Threads.{Thread}
use Rattle.layout.proofs.WordLaws.{word_lined}
use Rattle.layout.proofs.lay_word.Goals as goal

pub returns : goal.returns
returns c =
    let next : let a = c.args in
    (es : List NumberedEntry) → Thread a.book.now (bodies_at a.book.now a.names.now a.types) a.entries.now a.same.now a.first es → (c.args.p.node + 1 + c.tally.result) ≡ a.p.node + 1 + simples_in es = λ es t. ap (λ (m : ℕ). c.args.p.node + 1 + m) (c.tally.ensures _ es c.requires.vocabulary.lexicon t).total in
    let low : (c.args.p.node + 1 + c.tally.result) < max_nodes = omega (arith, next c.requires.all c.requires.thread, c.requires.fits) in
    λ es t rest. word_lined c.requires.standing es (next es t) low (c.lay_entries-last.ensures es t) _ c.boundary_node.ensures.0 c.boundary_node.ensures.1 c.boundary_node.ensures.2 rest
