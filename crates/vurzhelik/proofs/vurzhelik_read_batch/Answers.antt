-- `vurzhelik::vurzhelik_read_batch` meets its contract: what reading the batch answers is handed on as numbers.
use mathlib.Core.Path.{sym}
use Rattle.vurzhelik.proofs.Numbers.{refused_batch}
use Rattle.vurzhelik.proofs.vurzhelik_read_batch.Goals as goal

pub returns-in-Err : goal.returns-in-Err
returns-in-Err c =
    let said = c.in-Err.ensures in
    record {
      gives = rw (sym (refused_batch _ _ _ _ _ said.gives.returned)) said.gives;
      batch_promised = rw (sym (refused_batch _ _ _ _ _ said.gives.returned)) said.batch_promised;
    }
