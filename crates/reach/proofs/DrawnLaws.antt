-- The graph of words that are looked up and laid out.
use Prim.Native.Nat.{ℕ, ◌≤◌}
use native.Mathlib.Omega.{arith}
use mathlib.Core.List.{List}
use lib.ListN.{length}
use lib.Seq.{length-take-le}
use Rattle.figures.specs.Limits.{max_nodes}
use Rattle.pregroup.specs.Tests.{Test}
use Rattle.pregroup.specs.Held.{InRows}
use Rattle.linking.specs.Reading.{Words}
use Rattle.format.specs.Records.{Bytes}
use Rattle.line.specs.FoundWords.{FoundWords}
use Rattle.graph.specs.Graph.{Graph}
use Rattle.layout.specs.LineLayout.{nodes_with, line_graph, LaidOut}
use Rattle.reach.specs.Charted.{Drawn}

pub found_drawn :
    {bytes : Bytes} {names entries same firsts order targets : List ℕ} {le : Test} {words : Words} {g : Graph} {last : ℕ}
    → FoundWords bytes names entries same firsts order targets le words → LaidOut words targets g last → max_nodes ≤ length g.nodes
    → Drawn le (InRows order) (line_graph last (length targets) g) targets last words
found_drawn {targets = targets} {g = g} {last} f out room =
    let long = length-take-le (nodes_with last (length targets)) g.nodes (omega (arith, out.few)) in
    record {
      upward = out.upward;
      nodes = long;
      few = omega (arith, long, out.few);
      few_targets = f.few_targets;
      few_words = omega (arith, f.threaded.few, f.threaded.as_many);
      decides = f.decides;
      ends = out.ends;
      laid = out.laid;
      known_words = f.threaded.known_words;
      brief_words = f.threaded.brief_words;
    }
