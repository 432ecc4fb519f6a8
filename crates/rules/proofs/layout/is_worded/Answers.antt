-- `rules::layout::is_worded` meets its contract: where its tests pass, its word decides.
use native.Mathlib.Omega.{arith}
use mathlib.Core.Path.{ap, ◌∙◌}
use Rattle.format.specs.Records.{Bytes, every, between}
use Rattle.rules.proofs.Bools.{all_every}
use Rattle.rules.proofs.Layouts.{worded_end}
use Rattle.rules.proofs.layout.is_worded.Goals as goal

pub returns-then-length-body : goal.returns-then-length-body
returns-then-length-body c =
    let first = c.in-Some.ensures.item.3.1 0 in
    let word = c.word_part in
    worded_end _ (omega arith, omega arith) (omega arith) _ (c.all_word_bytes.ensures ∙ all_every (between 33 126) word.result.now ∙ ap (λ (w : Bytes). every (between 33 126) w) word.ensures)
