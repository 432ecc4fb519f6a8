-- `listing::render_line` meets its contract: a line is split, or its refusal is rendered; the string of its entries is joined, its letters are written,
-- and the rows are those that are listed.
use native.Mathlib.Omega.{arith}
use Prim.Native.Nat.{suc, ◌+◌}
use mathlib.Core.Path.{◌≡◌, ap, ◌∙◌}
use lib.ListN.{length, take, length-take}
use lib.Seq.{length-take-le}
use Rattle.linking.specs.Reading.{target_at}
use Rattle.listing.proofs.Rendering.{line_stopped, lexicon_kept, kept_countable, kept_listed}
use Rattle.listing.proofs.render_line.Goals as goal

pub join_types-simples-requires : goal.join_types-simples-requires
join_types-simples-requires c =
    let split = c.in-Ok.ensures in
    let shown = ap length c.first_values-shown.ensures ∙ length-take c.in-Ok.words c.entries_of.result.now in
    let words = length-take-le c.in-Ok.words c.split.new.starts split.1 in
    record {
      named = (c.requires.1.named, lexicon_kept c.requires.1);
      max_entry_simples_in_bounds = omega (arith, shown, split.0.few, words);
    }

pub render_rows-requires : goal.render_rows-requires
render_rows-requires c =
    let kept = c.requires.1 in
    let split = c.in-Ok.ensures in
    let simples = c.join_types-simples.result in
    let string = take simples c.join_types-simples.new.string in
    let letters = take (simples + 1) c.link_letters.new.letters in
    let spells = rw (c.first_values-shown.ensures, c.entries_of.ensures) at c.join_types-simples.ensures.1 in
    record {
      named = kept.named.whole;
      split = split.0;
      lettered =
          omega (
            arith,
            c.join_types-simples.ensures.0,
            length-take-le simples c.join_types-simples.new.string c.join_types-simples.ensures.0,
            length-take (simples + 1) c.link_letters.new.letters,
          );
      countable =
          kept_countable kept split.0 c.args.values.now string letters (rw (length-take-le c.in-Ok.words c.split.new.starts split.1) spells)
          (λ i. omega (arith, c.type_inv.values i));
    }

pub returns-in-Err : goal.returns-in-Err
returns-in-Err c =
    let a = c.args in
    let stopped = c.in-Err.ensures in
    rw (← line_stopped a.book.bytes.now a.line.now a.values.now c.requires.1.parsed stopped) c.render_refusal.ensures

pub returns : goal.returns
returns c =
    let kept = c.requires.1 in
    let split = c.in-Ok.ensures in
    let simples = c.join_types-simples.result in
    let string = take simples c.join_types-simples.new.string in
    let letters = take (simples + 1) c.link_letters.new.letters in
    let spells = rw (c.first_values-shown.ensures, c.entries_of.ensures) at c.join_types-simples.ensures.1 in
    let target = c.target_at-goal.ensures ∙ ap (target_at c.args.book.targets.now) c.target_of-target.ensures in
    let many : simples + 1 ≡ suc (length string) = omega (arith, length-take-le simples c.join_types-simples.new.string c.join_types-simples.ensures.0) in
    let told = rw c.partners_of-partners.ensures at c.link_letters.ensures in
    rw
    (← kept_listed
    kept
    split.0
    c.args.values.now
    string
    letters
    (rw (length-take-le c.in-Ok.words c.split.new.starts split.1) spells)
    target
    (rw many told))
    c.render_rows.ensures
