-- `first_reading::write_reading` meets its contract: what the first choice up to the target's end and its first linking say is what the first reading of the words
-- comes to.
use native.Mathlib.Omega.{arith}
use mathlib.Core.Path.{refl, sym}
use lib.Seq.{length-take-le}
use Rattle.first_reading.proofs.ReadingLaws.{can_choose, has_room, some_places, some_words, few_words, answers_short, can_link, can_write, answers_read}
use Rattle.first_reading.proofs.write_reading.Goals as goal

pub end_at-end-requires : goal.end_at-end-requires
end_at-end-requires c = omega (arith, c.requires.target_there, c.requires.charted.drawn.nodes, c.requires.charted.drawn.few)

pub choose-choice-requires : goal.choose-choice-requires
choose-choice-requires c =
    record { choosable = rw c.end_at-end.ensures (can_choose c.requires.charted c.requires.target_there c.requires.chart_room); roomy = has_room c.requires.charted c.requires.target_there refl refl refl refl }

pub overflow_sub-words : goal.overflow_sub-words
overflow_sub-words c =
    let chose = rw c.end_at-end.ensures at c.choose-choice.ensures in
    let made = c.choose-choice.auto in
    some_words c.requires.charted c.requires.target_there chose made.string made.chosen made.table

pub overflow_sub-m : goal.overflow_sub-m
overflow_sub-m c =
    let chose = rw c.end_at-end.ensures at c.choose-choice.ensures in
    let made = c.choose-choice.auto in
    some_places c.requires.charted c.requires.target_there chose made.string made.chosen made.table

pub answer_length-needed-requires : goal.answer_length-needed-requires
answer_length-needed-requires c =
    let chose = rw c.end_at-end.ensures at c.choose-choice.ensures in
    let made = c.choose-choice.auto in
    (few_words c.requires.charted c.requires.target_there chose made.string made.chosen made.table, omega (arith, chose.few_places))

pub returns-then-answer-needed : goal.returns-then-answer-needed
returns-then-answer-needed c =
    let chose = rw c.end_at-end.ensures at c.choose-choice.ensures in
    let made = c.choose-choice.auto in
    λ le words_ charted. rw (c.with.ensures, c.answer_length-needed.ensures) (answers_short charted c.requires.target_there chose made.string made.chosen made.table c.args.answer.now (omega (arith, c.if-answer-needed.true, c.answer_length-needed.ensures)))

pub slice_bounds-string-end : goal.slice_bounds-string-end
slice_bounds-string-end c =
    let chose = rw c.end_at-end.ensures at c.choose-choice.ensures in
    let made = c.choose-choice.auto in
    omega (arith, chose.few_places, made.string)

pub slice_bounds-write_answer-end : goal.slice_bounds-write_answer-end
slice_bounds-write_answer-end c =
    let chose = rw c.end_at-end.ensures at c.choose-choice.ensures in
    let made = c.choose-choice.auto in
    sym (length-take-le _ _ (omega (arith, chose.few_places, made.string)))

pub slice_bounds-chosen-end : goal.slice_bounds-chosen-end
slice_bounds-chosen-end c =
    let chose = rw c.end_at-end.ensures at c.choose-choice.ensures in
    let made = c.choose-choice.auto in
    omega (arith, few_words c.requires.charted c.requires.target_there chose made.string made.chosen made.table, made.chosen)

pub slice_bounds-write_answer-end-3 : goal.slice_bounds-write_answer-end-3
slice_bounds-write_answer-end-3 c =
    let chose = rw c.end_at-end.ensures at c.choose-choice.ensures in
    let made = c.choose-choice.auto in
    sym (length-take-le _ _ (omega (arith, few_words c.requires.charted c.requires.target_there chose made.string made.chosen made.table, made.chosen)))

pub write_answer-requires : goal.write_answer-requires
write_answer-requires c =
    let chose = rw c.end_at-end.ensures at c.choose-choice.ensures in
    let made = c.choose-choice.auto in
    record { linkable = can_link c.requires.charted c.requires.target_there chose made.string made.chosen made.table; writable = can_write c.requires.charted c.requires.target_there chose made.string made.chosen made.table _ (omega (arith, c.if-answer-needed.false, c.answer_length-needed.ensures)) }

pub returns : goal.returns
returns c =
    let chose = rw c.end_at-end.ensures at c.choose-choice.ensures in
    let made = c.choose-choice.auto in
    λ le words_ charted. rw c.answer_length-needed.ensures (answers_read charted c.requires.target_there chose made.string made.chosen made.table c.args.answer.now _ (omega (arith, c.if-answer-needed.false, c.answer_length-needed.ensures)) c.write_answer.ensures)
