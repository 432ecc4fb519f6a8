-- `lookup::find::find_word` meets its contract: the first entry is sought on the thread of the word's key, and the rest is threaded where it was not.
use Prim.Native.Nat.{ℕ, ◌+◌}
use mathlib.Core.Path.{◌≡◌}
use mathlib.Core.List.{List}
use lib.ListN.{length, get_or}
use Rattle.figures.specs.Limits.{max_entries}
use Rattle.format.specs.Records.{Bytes}
use Rattle.bytewise.specs.First.{First}
use Rattle.lookup.specs.Threads.{key, OfWord, OfKey, Alike}
use Rattle.lookup.proofs.KeyLaws.{key_below}
use Rattle.lookup.proofs.FindLaws.{finds_none, finds_known, finds_joined}
use Rattle.lookup.proofs.find.find_word.Goals as goal
use Rattle.lookup.proofs.find.find_word.Goals.{else-first-entries-via-then-first-entries+else-same-first-eq0, else-first-entries-via-else-first-entries}

-- What is sought from the head of the word's key is the first of the word's entries.
sought : (book : Bytes) (entries : List ℕ) (word : Bytes) {alike : List ℕ} {k head first : ℕ} → Alike book entries alike → k ≡ key word
    → head ≡ get_or {A = ℕ} alike (max_entries + k) 0
    → ((a : ℕ) → First (OfKey book entries (key word)) a (length entries) head → First (OfWord book entries word) a (length entries) first)
    → First (OfWord book entries word) 0 (length entries) first
sought book entries word threads own at_head seeks = seeks 0 (rw (at_head, own) (threads.heads (key word) (key_below word)))

pub join-requires : goal.join-requires
join-requires c =
    let first = sought c.args.book.now c.args.entries.now c.args.word.now c.requires.1 c.key_of.ensures c.from-head.ensures c.seek-first.ensures.by_index in
    (c.requires.0, c.requires.1, c.requires.2.room, first)

pub returns-then-same-first-eq0 : goal.returns-then-same-first-eq0
returns-then-same-first-eq0 c =
    let first = sought c.args.book.now c.args.entries.now c.args.word.now c.requires.1 c.key_of.ensures c.from-head.ensures c.seek-first.ensures.by_index in
    finds_joined _ _ _ c.seek-first.ensures.upper_bound c.requires.2 first c.join.auto.same c.join.ensures

pub returns-else-first-entries : goal.returns-else-first-entries
returns-else-first-entries c =
    let low = c.seek-first.ensures.upper_bound in
    let first = sought c.args.book.now c.args.entries.now c.args.word.now c.requires.1 c.key_of.ensures c.from-head.ensures c.seek-first.ensures.by_index in
    elim c.else-first-entries.branch [
      | else-first-entries-via-then-first-entries+else-same-first-eq0 w ↦ finds_known _ _ _ low c.requires.2 first w.if-first-entries.true w.if-same-first-eq0.false
      | else-first-entries-via-else-first-entries w ↦ finds_none _ _ _ low c.requires.2 first w.if-first-entries.false
    ]
