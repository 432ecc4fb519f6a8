use Rattle.std.proofs.Common.{◌≡◌, drop}
use Rattle.writing.proofs.Placing.{Going}
use Rattle.writing.proofs.Text.put_bytes.Given as goal

abbrev pub invariant-loop-byte : goal.invariant-loop-byte
invariant-loop-byte l = record {
  lent : l.self.bytes.ghost_name ≡ l.initial.self.bytes.ghost_name;
  going : Going l.initial.self.bytes.now l.initial.self.place l.bytes l.self.bytes.now l.self.place (drop l.byte-index l.bytes);
}
