-- What is told where no reading is written: that there is none, or, where it is only asked for one, that there is one.
use Prim.Native.Nat.{ℕ, ◌≤◌, ◌<◌}
use native.Mathlib.Omega.{arith}
use mathlib.Core.Path.{◌≡◌}
use mathlib.Core.List.{List}
use mathlib.Core.Bool.{Bool, true, false}
use mathlib.Core.Option.{Option, none, some}
use lib.ListN.{length, take}
use lib.Seq.{length-take-le}
use Rattle.figures.specs.Limits.{max_nodes, chart_words}
use Rattle.pregroup.specs.Types.{Basic}
use Rattle.pregroup.specs.Order.{Relation}
use Rattle.pregroup.specs.Tests.{Test}
use Rattle.pregroup.specs.Held.{InRows}
use Rattle.format.specs.Records.{Bytes}
use Rattle.line.specs.FoundWords.{FoundWords}
use Rattle.linking.specs.Reading.{Words, Answer, first_reading}
use Rattle.graph.specs.Graph.{Graph, graph}
use Rattle.std.specs.Prelude.{Ok}
use Rattle.figures.specs.Refusals.{Refused}
use Rattle.answer.specs.Answers.{given, Gives}
use Rattle.layout.specs.LineLayout.{nodes_with, line_graph, LaidOut}
use Rattle.chart.specs.Chart.{Fillable, FilledFrom}
use Rattle.reach.specs.Charted.{FirstEnd, Charted}
use Rattle.reach.proofs.DrawnLaws.{found_drawn}
use Rattle.first_reading.proofs.ReadingLaws.{no_first, some_first}
use Rattle.words.specs.Readings.{asked}

module _ (before : List ℕ) where
  gives_none : {o : Option Answer} → o ≡ none → (whole : Bool) → Gives (asked whole o before) (Refused 15 0) before
  unfolding given
  gives_none e true = record { returned = rw e; left = rw e }
  gives_none e false = record { returned = rw e; left = rw e }

  -- It is asked no further.
  gives_some : {o : Option Answer} {a : Answer} → o ≡ some a → Gives (asked false o before) (Ok 0) before
  gives_some e = record { returned = rw e; left = rw e }

-- The graph of a line that is laid out can be charted.
pub can_fill :
    {words : Words} {targets : List Basic} {g : Graph} {last : ℕ} {chart : List ℕ} → LaidOut words targets g last → max_nodes ≤ length g.nodes
    → length chart ≡ chart_words → Fillable (line_graph last (length targets) g) chart
can_fill {targets = targets} {g} {last} out room long =
    let whole = length-take-le (nodes_with last (length targets)) g.nodes (omega (arith, out.few)) in
    record { upward = out.upward; room = λ u h. omega (arith, out.few, whole) }

-- Words that are found, laid out on so many nodes and charted up to the first target.
pub found_charted :
    {bytes : Bytes} {names entries same firsts order targets : List ℕ} {le : Test} {words : Words} {g : Graph} {last count t : ℕ} {chart : List ℕ}
    → FoundWords bytes names entries same firsts order targets le words → LaidOut words targets g last → max_nodes ≤ length g.nodes
    → count ≡ nodes_with last (length targets) → FilledFrom (InRows order) (graph (take count g.nodes) g.slots) chart 0 → FirstEnd chart last (length targets) t
    → Charted le (InRows order) (graph (take count g.nodes) g.slots) targets last words chart t
found_charted found out room counted filled first = record { drawn = rw counted (found_drawn found out room); filled = filled; first = first }

-- Words that are charted.
module _ {le : Test} {Le : Relation} {g : Graph} {targets : List Basic} {last : ℕ} {words : Words} {chart : List ℕ} {t : ℕ}
    (charted : Charted le Le g targets last words chart t) where
  -- 15: there is no reading for any target.
  pub answers_none : t ≡ length targets → (whole : Bool) (before : List ℕ) → Gives (asked whole (first_reading le targets words) before) (Refused 15 0) before
  answers_none all whole before = gives_none before (no_first charted all) whole

  -- There is one for the target that is reached.
  pub answers_some : t < length targets → (before : List ℕ) → Gives (asked false (first_reading le targets words) before) (Ok 0) before
  answers_some there before = gives_some before (some_first charted there).1
