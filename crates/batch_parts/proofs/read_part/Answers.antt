-- `batch_parts::read_part` meets its contract: what is lent behind the first two values is an ample buffer, so that what is put before the answer makes it the
-- line's part.
use native.Mathlib.Omega.{arith}
use Prim.Native.Nat.{◌-◌}
use lib.ListN.{length, drop}
use Rattle.batch_parts.proofs.PartLaws.{lent_room, refusal_small, read_counted, put_refused, put_read}
use Rattle.batch_parts.proofs.read_part.Goals as goal

pub put_refusal-requires : goal.put_refusal-requires
put_refusal-requires c =
    let g = c.in-Err.ensures.gives in
    let small = refusal_small c.args.book.bytes.now c.args.line.now _ (lent_room c.args.part.now c.requires.line_len_bound.1) c.requires.fact.0.1.parsed c.requires.line_len_bound.0 c.in-Err.refusal.number c.in-Err.refusal.value g in
    (omega arith, small.0, small.1)

pub put_head-requires : goal.put_head-requires
put_head-requires c =
    let g = c.in-Ok.ensures.gives in
    let few = (read_counted c.args.book.bytes.now c.args.line.now _ (lent_room c.args.part.now c.requires.line_len_bound.1) c.in-Ok.values g).0 in
    (omega arith, omega arith)

pub returns-in-Err : goal.returns-in-Err
returns-in-Err c =
    let part = c.args.part.now in
    let g = c.in-Err.ensures.gives in
    let p = put_refused c.args.book.bytes.now c.args.line.now _ (lent_room part c.requires.line_len_bound.1) part (drop (length part - 2) (drop 2 part)) c.in-Err.refusal.number c.in-Err.refusal.value g (omega arith) in
    record { threaded = c.read_open.ensures.threaded; put = rw (c.put_refusal.ensures.0, c.put_refusal.ensures.1) p }

pub returns-in-Ok : goal.returns-in-Ok
returns-in-Ok c =
    let part = c.args.part.now in
    let g = c.in-Ok.ensures.gives in
    let p = put_read c.args.book.bytes.now c.args.line.now _ (lent_room part c.requires.line_len_bound.1) part (drop (length part - 2) (drop 2 part)) c.in-Ok.values (omega arith) g in
    record { threaded = c.read_open.ensures.threaded; put = rw (c.put_head.ensures.0, c.put_head.ensures.1) p }
