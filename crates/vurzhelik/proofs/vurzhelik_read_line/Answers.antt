-- `vurzhelik::vurzhelik_read_line` meets its contract: what reading the line answers is handed on as numbers.
use Rattle.vurzhelik.proofs.Numbers.{line_handed}
use Rattle.vurzhelik.proofs.vurzhelik_read_line.Goals as goal

pub returns : goal.returns
returns c =
    let said = c.read_line.ensures in
    let handed = line_handed c.args.book.now c.args.line.now c.args.answer.now c.hand_on.ensures (said.gives, said.promised) in
    record { gives = handed.0; promised = handed.1 }
