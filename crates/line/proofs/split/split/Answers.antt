-- `line::split::split` meets its contract: the words kept and the words that the rest holds are always those of the line.
use native.Mathlib.Omega.{arith}
use Prim.Native.Nat.{◌≤◌}
use lib.ListN.{length}
use Rattle.figures.specs.Limits.{max_words}
use Rattle.line.proofs.WordLaws.{word_found, bad_found, none_bad}
use Rattle.line.proofs.SplitLaws.{splitting_start, splitting_long, splitting_many, splitting_next, splitting_end}
use Rattle.line.specs.Split.{at_byte}
use Rattle.line.proofs.split.split.Goals as goal

pub returns-in-Some : goal.returns-in-Some
returns-in-Some c = rw c.with.ensures (at_byte (bad_found c.args.line.now c.in-Some.bad c.in-Some.ensures))

pub loop-at-init : goal.loop-at-init
loop-at-init c =
    let a = c.args in
    splitting_start a.line.now a.starts.now a.ends.now _ (none_bad a.line.now c.in_default.ensures) c.skip_spaces-at.ensures

pub overflow_sub-end : goal.overflow_sub-end
overflow_sub-end c =
    let word = word_found _ _ _ c.loop-at-test.true (c.loop-at.invariant.stops c.loop-at-test.true) c.find_byte-end.ensures in
    omega (arith, word.some_bytes)

pub shape_of-starts-then-end-at-gt-MAX_WORD : goal.shape_of-starts-then-end-at-gt-MAX_WORD
shape_of-starts-then-end-at-gt-MAX_WORD c = c.loop-at.invariant.starts_length

pub shape_of-ends-then-end-at-gt-MAX_WORD : goal.shape_of-ends-then-end-at-gt-MAX_WORD
shape_of-ends-then-end-at-gt-MAX_WORD c = c.loop-at.invariant.ends_length

pub returns-then-end-at-gt-MAX_WORD : goal.returns-then-end-at-gt-MAX_WORD
returns-then-end-at-gt-MAX_WORD c =
    let word = word_found _ _ _ c.loop-at-test.true (c.loop-at.invariant.stops c.loop-at-test.true) c.find_byte-end.ensures in
    let l = c.loop-at in
    rw c.with-then-end-at-gt-MAX_WORD.ensures (splitting_long _ _ _ l.starts l.ends l.count l.at l.invariant _ word c.if-end-at-gt-MAX_WORD.true)

pub shape_of-starts-then-count-ge-MAX_WORDS : goal.shape_of-starts-then-count-ge-MAX_WORDS
shape_of-starts-then-count-ge-MAX_WORDS c = c.loop-at.invariant.starts_length

pub shape_of-ends-then-count-ge-MAX_WORDS : goal.shape_of-ends-then-count-ge-MAX_WORDS
shape_of-ends-then-count-ge-MAX_WORDS c = c.loop-at.invariant.ends_length

pub returns-then-count-ge-MAX_WORDS : goal.returns-then-count-ge-MAX_WORDS
returns-then-count-ge-MAX_WORDS c =
    let word = word_found _ _ _ c.loop-at-test.true (c.loop-at.invariant.stops c.loop-at-test.true) c.find_byte-end.ensures in
    let l = c.loop-at in
    rw c.with-then-count-ge-MAX_WORDS.ensures (splitting_many _ _ _ l.starts l.ends l.count l.at l.invariant _ word (omega arith) c.if-count-ge-MAX_WORDS.true)

pub bounds-starts-count : goal.bounds-starts-count
bounds-starts-count c = omega (arith, c.loop-at.invariant.starts_length, c.requires.0)

pub bounds-ends-count : goal.bounds-ends-count
bounds-ends-count c = omega (arith, c.loop-at.invariant.ends_length, c.requires.1)

pub skip_spaces-at-requires-in-loop-at : goal.skip_spaces-at-requires-in-loop-at
skip_spaces-at-requires-in-loop-at c =
    let word = word_found _ _ _ c.loop-at-test.true (c.loop-at.invariant.stops c.loop-at-test.true) c.find_byte-end.ensures in
    word.inside

pub loop-at-smaller : goal.loop-at-smaller
loop-at-smaller c =
    let word = word_found _ _ _ c.loop-at-test.true (c.loop-at.invariant.stops c.loop-at-test.true) c.find_byte-end.ensures in
    omega (arith, word.some_bytes, word.inside, c.skip_spaces-at-in-loop-at.ensures.forth, c.skip_spaces-at-in-loop-at.ensures.inside)

pub loop-at-preserved : goal.loop-at-preserved
loop-at-preserved c =
    let word = word_found _ _ _ c.loop-at-test.true (c.loop-at.invariant.stops c.loop-at-test.true) c.find_byte-end.ensures in
    let l = c.loop-at in
    splitting_next _ _ _ l.starts l.ends l.count l.at l.invariant _ word (omega arith) (omega arith) _ c.skip_spaces-at-in-loop-at.ensures (omega (arith, l.invariant.starts_length, c.requires.0)) (omega (arith, l.invariant.ends_length, c.requires.1))

pub shape_of-starts : goal.shape_of-starts
shape_of-starts c = c.loop-at.invariant.starts_length

pub shape_of-ends : goal.shape_of-ends
shape_of-ends c = c.loop-at.invariant.ends_length

pub returns : goal.returns
returns c =
    let l = c.loop-at in
    let room : max_words ≤ length l.starts = omega (arith, l.invariant.starts_length, c.requires.0) in
    let room' : max_words ≤ length l.ends = omega (arith, l.invariant.ends_length, c.requires.1) in
    (splitting_end _ _ _ l.starts l.ends l.count l.at l.invariant room room' (omega arith), omega (arith, room, l.invariant.few), omega (arith, room', l.invariant.few))
