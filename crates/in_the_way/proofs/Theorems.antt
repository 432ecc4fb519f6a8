-- The results on the words in the way, each in full and proved elsewhere under the name on its last line.
use Prim.Native.Nat.{ℕ, ◌<◌}
use mathlib.Core.Path.{◌≡◌}
use mathlib.Core.Logic.{◌↔◌}
use mathlib.Core.List.{List}
use lib.ListN.{length}
use Rattle.figures.specs.Refusals.{no_reading, Refused}
use Rattle.bits.specs.Bits.{Has}
use Rattle.order.specs.Closed.{below}
use Rattle.format.specs.Records.{Bytes}
use Rattle.book.specs.Format.{Book}
use Rattle.linking.specs.Reading.{Words}
use Rattle.line.specs.LineFaults.{passed, line_check}
use Rattle.line.specs.Remaining.{without, IsWithout}
use Rattle.line.proofs.Remaining.{without_passes}
use Rattle.answer.specs.Answers.{Gives}
use Rattle.reader.specs.Outcome.{outcome}
use Rattle.reader.specs.Demands.{Readable}
use Rattle.in_the_way.specs.declared.WayAnswer.{WayAnswer}
use Rattle.left_out.specs.LeftOut.{way_of}
use Rattle.in_the_way.specs.Way.{way_outcome}
use Rattle.in_the_way.specs.WayDemands.{InTheWay, WayPromised}
use Rattle.in_the_way.proofs.WayPromises.{in_the_way, other_line, way_promised}
use Rattle.in_the_way.proofs.OneAnswer.{only_answer}

-- A line that breaks none of 11 to 14 breaks none of them without one of its words, however the others are spaced, and has their entries.
pub passes_without_a_word : (B : Book) (line other : Bytes) (k : ℕ) (words : Words) → line_check B line ≡ passed words → IsWithout k line other
    → line_check B other ≡ passed (without k words)
passes_without_a_word = without_passes

module _ (book line : Bytes) (B : Book) (words : Words) (readable : Readable book line B words) where
  -- The defined number tells of the line's words, by readings, by chains and by lines.
  pub number_tells : InTheWay book line B words (way_of (below (length B.names) B.pairs) B.targets words)
  number_tells = in_the_way book line B words readable

  -- Every line that has the other words, in their order and however they are spaced, is refused with 15 exactly when bit k is not set.
  pub fifteen_without_a_word : (k : ℕ) → k < length words → (other : Bytes) → IsWithout k line other → (lent : List ℕ)
      → ((outcome book other lent).answer ≡ Refused no_reading 0) ↔ (Has (way_of (below (length B.names) B.pairs) B.targets words) k → ⊥)
  fifteen_without_a_word = other_line book line B words readable

module _ (book line : Bytes) (buffer : List ℕ) where
  -- What `way_outcome` defines keeps every promise, and nothing else does.
  pub way_promises_kept : WayPromised book line buffer (way_outcome book line buffer).answer (way_outcome book line buffer).buffer
  way_promises_kept = way_promised book line buffer

  pub one_way_answer : (answer : WayAnswer) (after : List ℕ) → WayPromised book line buffer answer after → Gives (way_outcome book line buffer) answer after
  one_way_answer answer after = only_answer book line buffer
