-- `printing::put_type_rows` meets its contract: what is left to put are the rows of the simple types from the k-th on.
use Rattle.std.proofs.Common.{◌≡◌, length, ◌+◌, ◌/◌, ◌%◌, ℕ, List, get_or, ap, ◌∙◌, arith}
use Rattle.letters.specs.Letters.{t}
use Rattle.std.proofs.lemmas.List.{get_or_default}
use Rattle.format.specs.Records.{bodies_at}
use Rattle.printing.proofs.RowLaws.{simple_countable, simple_put, simples_put}
use Rattle.printing.proofs.put_type_rows.Goals as goal
use Rattle.printing.proofs.put_type_rows.Goals.{After-value_at}

-- The two bytes of a simple type.
base_read : (c : After-value_at) → c.from.result ≡ get_or c.args.string.now c.loop-k.k 0 % 256
base_read c = c.from.ensures ∙ ap (λ (l : List ℕ). get_or l 0 0) c.to_le_bytes.ensures ∙ omega arith

raised_read : (c : After-value_at) → c.from-in-loop-k.result ≡ get_or c.args.string.now c.loop-k.k 0 / 256
raised_read c =
    c.from-in-loop-k.ensures ∙ ap (λ (l : List ℕ). get_or l 1 0) c.to_le_bytes.ensures ∙ omega (arith, c.type_inv.string c.loop-k.k)

pub put_type_row-requires : goal.put_type_row-requires
put_type_row-requires c =
    let a = c.args in
    let lettered = get_or_default a.letters.now (c.loop-k.k + 1) 0 t (omega (arith, c.requires.whole.1)) in
    rw (c.value_at.ensures, c.name_of-name.ensures, base_read (goal.at.put_type_row-requires c).After-value_at, raised_read (goal.at.put_type_row-requires c).After-value_at, lettered)
    (simple_countable (bodies_at a.book.now a.names.now (length a.names.now)) a.letters.now a.partners.now a.string.now c.loop-k.k c.loop-k.invariant.going (omega arith))

pub loop-k-preserved : goal.loop-k-preserved
loop-k-preserved c =
    let a = c.args in
    let lettered = get_or_default a.letters.now (c.loop-k.k + 1) 0 t (omega (arith, c.requires.whole.1)) in
    let row = rw (c.value_at.ensures, c.name_of-name.ensures, base_read (goal.at.loop-k-preserved c).After-value_at, raised_read (goal.at.loop-k-preserved c).After-value_at, lettered) at c.put_type_row.ensures.placed in
    record {
      lent = c.put_type_row.ensures.lent ∙ c.loop-k.invariant.lent;
      going = simple_put (bodies_at a.book.now a.names.now (length a.names.now)) a.letters.now a.partners.now a.string.now c.loop-k.k c.loop-k.invariant.going (omega arith) row;
    }

pub returns-clause-placed : goal.returns-clause-placed
returns-clause-placed c =
    let a = c.args in
    simples_put (bodies_at a.book.now a.names.now (length a.names.now)) a.letters.now a.partners.now a.string.now c.loop-k.k c.loop-k.invariant.going (omega arith)
