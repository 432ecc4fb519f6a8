use Rattle.std.proofs.Common.{◌≡◌, length, map, drop}
use Rattle.pregroup.specs.Held.{held}
use Rattle.format.specs.Records.{bodies_at}
use Rattle.printing.specs.Rows.{type_rows}
use Rattle.writing.proofs.Placing.{Going}
use Rattle.printing.proofs.put_type_rows.Given as goal

abbrev pub invariant-loop-k : goal.invariant-loop-k
invariant-loop-k l = record {
  lent : l.text.bytes.ghost_name ≡ l.initial.text.bytes.ghost_name;
  going :
      Going l.initial.text.bytes.now l.initial.text.place (type_rows (bodies_at l.book l.names (length l.names)) l.letters l.partners 0 (map held l.string))
      l.text.bytes.now l.text.place (type_rows (bodies_at l.book l.names (length l.names)) l.letters l.partners l.k (map held (drop l.k l.string)));
}
