-- `printing::put_word_rows` meets its contract: what is left to put are the rows of the words from the k-th on.
use Rattle.std.proofs.Common.{◌≡◌, ◌<◌, ◌+◌, ◌++◌, ◌∷◌, [], length, get_or, ◌∙◌, arith, rules}
use Rattle.std.proofs.lemmas.List.{length_push}
use Rattle.std.specs.List.{zip}
use Rattle.std.proofs.lemmas.Iterator.{YieldsList-from_slice, YieldsList-from_zip}
use Rattle.std.proofs.lemmas.Iterator.Consumers.{YieldsList-from_enumerate, YieldsList-turn, YieldsList-end}
use Rattle.std.proofs.lemmas.List.FromFn.{length-enumerate_from}
use Rattle.std.proofs.lemmas.Slice.Zip.{length-zip}
use Rattle.printing.proofs.RowLaws.{numbered_pair, word_countable, word_put, words_put}
use Rattle.printing.proofs.put_word_rows.Goals as goal
use Rattle.printing.proofs.put_word_rows.Goals.{After-value_at}

-- The word of a turn.
turn : (c : After-value_at) → (length c.loop-k.yielded < length c.args.starts.now) × (c.in-Some.k ≡ length c.loop-k.yielded) × (c.in-Some.start.now ≡ get_or c.args.starts.now (length c.loop-k.yielded) 0) × (c.in-Some.end.now ≡ get_or c.args.ends.now (length c.loop-k.yielded) 0)
turn c =
    let t =
    YieldsList-turn
    (YieldsList-from_enumerate {s = c.into_iter-k-iterator.result} (YieldsList-from_zip (YieldsList-from_slice c.args.starts.now cc) (YieldsList-from_slice c.args.ends.now cc)) (cc))
    c.loop-k.yielded c.loop-k.k-iterator c.loop-k.yielded_by _ c.next.new.self (c.in-Some.k, (c.in-Some.start, c.in-Some.end)) c.in-Some.is c.next.ensures.steps in
    numbered_pair c.args.starts.now c.args.ends.now _ _ _ _ c.requires.split_into.as_many t.0 t.1

pub put_word_row-requires : goal.put_word_row-requires
put_word_row-requires c =
    let t = turn (goal.at.put_word_row-requires c).After-value_at in
    rw (c.value_at.ensures, t.1, t.2, t.3)
    (word_countable c.args.entries.now c.requires.split_into (length c.loop-k.yielded) c.loop-k.invariant.going t.0)

pub loop-k-preserved : goal.loop-k-preserved
loop-k-preserved c =
    let t = turn (goal.at.loop-k-preserved c).After-value_at in
    let row = rw (c.value_at.ensures, t.1, t.2, t.3) at c.put_word_row.ensures.placed in
    let one : length (c.loop-k.yielded ++ ((c.in-Some.k, (c.in-Some.start, c.in-Some.end)) ∷ [])) ≡ length c.loop-k.yielded + 1 = length_push _ _ in
    record {
      can_next = search rules;
      is_finite = search rules;
      lent = c.put_word_row.ensures.lent ∙ c.loop-k.invariant.lent;
      going = rw one (word_put c.args.entries.now c.requires.split_into (length c.loop-k.yielded) c.loop-k.invariant.going t.0 row);
    }

pub returns-clause-placed : goal.returns-clause-placed
returns-clause-placed c =
    let e =
    YieldsList-end
    (YieldsList-from_enumerate {s = c.into_iter-k-iterator.result} (YieldsList-from_zip (YieldsList-from_slice c.args.starts.now cc) (YieldsList-from_slice c.args.ends.now cc)) (cc))
    c.loop-k.yielded c.loop-k.k-iterator c.loop-k.yielded_by _ c.next.new.self c.in-None.is c.next.ensures.steps in
    words_put c.args.entries.now c.requires.split_into (length c.loop-k.yielded) c.loop-k.invariant.going (omega (arith, e.1, length-enumerate_from 0 (zip c.args.starts.now c.args.ends.now), length-zip c.args.starts.now c.args.ends.now, c.requires.split_into.as_many))
