-- `line::words::look_up` meets its contract: every word passed has an entry, its entries are threaded, and their simple types are summed.
use native.Mathlib.Omega.{arith}
use Prim.Native.Nat.{◌*◌, ◌≤◌, ◌<◌}
use mathlib.Core.Path.{◌≡◌, refl, ◌∙◌}
use lib.ListN.{length, length-set}
use Rattle.lookup.proofs.FindLaws.{found_thread}
use Rattle.figures.specs.Limits.{max_entries, max_entry_simples}
use Rattle.book.specs.Format.{Book}
use Rattle.lookup.specs.Entries.{KeptOf}
use Rattle.lookup.specs.Threads.{Thread}
use Rattle.line.specs.LineFaults.{entries_of}
use Rattle.line.proofs.LineLaws.{word, found_more, looking_start, looking_none, looking_next, looking_full, looking_end, word_range, word_thread}
use Rattle.line.proofs.words.look_up.Goals as goal

pub loop-k-init : goal.loop-k-init
loop-k-init c =
    record { inside = omega arith; small = omega arith; firsts_length = refl; same_length = refl; threaded = c.requires.2; found = λ s j h. absurd (omega arith); looking = λ B kept s. looking_start _ _ _ s B }

pub offset_bounds-starts-k : goal.offset_bounds-starts-k
offset_bounds-starts-k c = omega (arith, c.loop-k-test.true, c.requires.3.few)

pub bounds-starts-k : goal.bounds-starts-k
bounds-starts-k c = omega (arith, c.loop-k-test.true)

pub offset_bounds-ends-k : goal.offset_bounds-ends-k
offset_bounds-ends-k c = omega (arith, c.loop-k-test.true, c.requires.3.few)

pub bounds-ends-k : goal.bounds-ends-k
bounds-ends-k c = omega (arith, c.loop-k-test.true, c.requires.3.as_many)

pub slice_bounds-find_word-count : goal.slice_bounds-find_word-count
slice_bounds-find_word-count c =
    let lies = c.requires.3.lying c.loop-k.k c.loop-k-test.true in
    omega (arith, lies.0)

pub slice_bounds-find_word-start : goal.slice_bounds-find_word-start
slice_bounds-find_word-start c =
    let lies = c.requires.3.lying c.loop-k.k c.loop-k-test.true in
    omega (arith, lies.0)

pub slice_bounds-find_word-end : goal.slice_bounds-find_word-end
slice_bounds-find_word-end c =
    let lies = c.requires.3.lying c.loop-k.k c.loop-k-test.true in
    omega (arith, lies.1)

pub find_word-first-requires : goal.find_word-first-requires
find_word-first-requires c =
    let range = word_range _ _ _ c.requires.3 c.loop-k.k c.loop-k-test.true in
    (c.requires.0.1.lexicon.kept, c.requires.1, c.loop-k.invariant.threaded, range.0, range.1)

pub shape_of-firsts-then-entries-first : goal.shape_of-firsts-then-entries-first
shape_of-firsts-then-entries-first c = c.loop-k.invariant.firsts_length

pub shape_of-same-then-entries-first : goal.shape_of-same-then-entries-first
shape_of-same-then-entries-first c = c.find_word-first.auto.same ∙ c.loop-k.invariant.same_length

pub returns-then-entries-first : goal.returns-then-entries-first
returns-then-entries-first c =
    let thread : (B : Book) → KeptOf c.args.book.now c.args.entries.now B → Thread c.args.book.now B.names c.args.entries.now c.find_word-first.new.same c.find_word-first.result (entries_of B (word c.args.line.now c.args.starts.now c.args.ends.now c.requires.3 c.loop-k.k)) = λ B kept. word_thread _ _ _ c.requires.3 B kept c.loop-k.k c.find_word-first.ensures.found in
    let s = c.requires.3 in
    rw c.with.ensures (record { threaded = c.find_word-first.ensures.threaded; looked_up = λ B kept. looking_none _ _ _ s B (c.loop-k.invariant.looking B kept s) c.loop-k-test.true (thread B kept) (omega (arith, c.if-entries-first.true)) })

pub overflow_cast-firsts : goal.overflow_cast-firsts
overflow_cast-firsts c = omega (arith, c.find_word-first.ensures.low)

pub offset_bounds-firsts-k : goal.offset_bounds-firsts-k
offset_bounds-firsts-k c = omega (arith, c.loop-k-test.true, c.requires.3.few)

pub bounds-firsts-k : goal.bounds-firsts-k
bounds-firsts-k c = omega (arith, c.loop-k-test.true, c.requires.3.few, c.requires.4, c.loop-k.invariant.firsts_length)

pub tally-sum-requires : goal.tally-sum-requires
tally-sum-requires c =
    (c.find_word-first.ensures.threaded.room, (_, c.requires.0.1.lexicon, (_, found_thread _ _ _ _ c.find_word-first.ensures.found)))

pub overflow_add-sum : goal.overflow_add-sum
overflow_add-sum c =
    let small : c.tally-sum.result ≤ max_entries * max_entry_simples = (c.tally-sum.ensures _ _ c.requires.0.1.lexicon (found_thread _ _ _ _ c.find_word-first.ensures.found)).small in
    omega (arith, c.loop-k.invariant.small, c.loop-k-test.true, c.requires.3.few, small)

pub loop-k-preserved : goal.loop-k-preserved
loop-k-preserved c =
    let inside-firsts : c.loop-k.k < length c.loop-k.firsts = omega (arith, c.loop-k-test.true, c.requires.3.few, c.requires.4, c.loop-k.invariant.firsts_length) in
    let thread : (B : Book) → KeptOf c.args.book.now c.args.entries.now B → Thread c.args.book.now B.names c.args.entries.now c.find_word-first.new.same c.find_word-first.result (entries_of B (word c.args.line.now c.args.starts.now c.args.ends.now c.requires.3 c.loop-k.k)) = λ B kept. word_thread _ _ _ c.requires.3 B kept c.loop-k.k c.find_word-first.ensures.found in
    let small : c.tally-sum.result ≤ max_entries * max_entry_simples = (c.tally-sum.ensures _ _ c.requires.0.1.lexicon (found_thread _ _ _ _ c.find_word-first.ensures.found)).small in
    let found = c.find_word-first in
    let l = c.loop-k in
    record { inside = omega (arith, c.loop-k-test.true); small = omega (arith, l.invariant.small, small); firsts_length = length-set l.firsts l.k found.result ∙ l.invariant.firsts_length; same_length = found.auto.same ∙ l.invariant.same_length; threaded = found.ensures.threaded; found = λ s. found_more _ _ _ s _ _ l.same _ l.firsts l.k found.result (l.invariant.found s) inside-firsts found.ensures; looking = λ B kept s. looking_next _ _ _ s B (l.invariant.looking B kept s) c.loop-k-test.true (thread B kept) (omega arith) (c.tally-sum.ensures _ _ kept.lexicon (thread B kept)) }

pub shape_of-firsts-then-sum-gt-MAX_LINE_SIMPLES : goal.shape_of-firsts-then-sum-gt-MAX_LINE_SIMPLES
shape_of-firsts-then-sum-gt-MAX_LINE_SIMPLES c = c.loop-k.invariant.firsts_length

pub shape_of-same-then-sum-gt-MAX_LINE_SIMPLES : goal.shape_of-same-then-sum-gt-MAX_LINE_SIMPLES
shape_of-same-then-sum-gt-MAX_LINE_SIMPLES c = c.loop-k.invariant.same_length

pub returns-then-sum-gt-MAX_LINE_SIMPLES : goal.returns-then-sum-gt-MAX_LINE_SIMPLES
returns-then-sum-gt-MAX_LINE_SIMPLES c =
    let s = c.requires.3 in
    rw c.with-then-sum-gt-MAX_LINE_SIMPLES.ensures (record { threaded = c.loop-k.invariant.threaded; looked_up = λ B kept. looking_full _ _ _ s B _ _ (c.loop-k.invariant.looking B kept s) (omega arith) c.if-sum-gt-MAX_LINE_SIMPLES.true })

pub shape_of-firsts : goal.shape_of-firsts
shape_of-firsts c = c.loop-k.invariant.firsts_length

pub shape_of-same : goal.shape_of-same
shape_of-same c = c.loop-k.invariant.same_length

pub returns : goal.returns
returns c =
    let inv = c.loop-k.invariant in
    let all : c.loop-k.k ≡ length c.args.starts.now = omega (arith, inv.inside) in
    let room : length c.args.starts.now ≤ length c.loop-k.firsts = omega (arith, c.requires.3.few, c.requires.4, inv.firsts_length) in
    record { threaded = inv.threaded; looked_up = λ B kept. (room, looking_end _ _ _ c.requires.3 B kept _ _ _ room (inv.looking B kept c.requires.3) (omega arith) (omega arith) (rw all at (inv.found c.requires.3))) }
