use Rattle.std.proofs.Common.{◌≡◌, length, drop}
use Rattle.line.specs.LineWords.{words_of}
use Rattle.printing.specs.Rows.{word_rows}
use Rattle.writing.proofs.Placing.{Going}
use Rattle.printing.proofs.put_word_rows.Given as goal

abbrev pub invariant-loop-k : goal.invariant-loop-k
invariant-loop-k l = record {
  can_next : (goal.iterator-loop-k).can_next l.k-iterator;
  is_finite : (goal.iterator-loop-k).is_finite l.k-iterator;
  lent : l.text.bytes.ghost_name ≡ l.initial.text.bytes.ghost_name;
  going :
      Going l.initial.text.bytes.now l.initial.text.place (word_rows l.entries 0 (words_of l.line)) l.text.bytes.now l.text.place
      (word_rows l.entries (length l.yielded) (drop (length l.yielded) (words_of l.line)));
}
