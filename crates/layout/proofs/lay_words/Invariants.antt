use Rattle.linking.specs.Reading.{Words}
use Rattle.graph.specs.Graph.{graph}
use Rattle.line.specs.FoundWords.{ThreadedWords}
use Rattle.layout.proofs.LineLaws.{Lining}
use Rattle.layout.proofs.lay_words.Given as goal

abbrev pub invariant-loop-first : goal.invariant-loop-first
invariant-loop-first l =
    (ws : Words) → ThreadedWords l.book l.names l.types l.entries l.same l.firsts ws → Lining l.book l.names l.types l.entries l.same l.firsts (graph l.initial.nodes l.initial.slots) ws l.place (graph l.nodes l.slots) l.first-index
