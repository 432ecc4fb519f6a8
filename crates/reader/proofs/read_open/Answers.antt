-- `reader::read_open` meets its contract: a line that passes its check has the words that are looked up, and what reading these gives is what the definition
-- answers.
use native.Mathlib.Omega.{arith}
use mathlib.Core.Path.{sym}
use lib.Seq.{length-take-le}
use Rattle.std.proofs.lemmas.Result.{err_from_is_err_and}
use Rattle.opening.proofs.OpeningLaws.{line_found}
use Rattle.reader.proofs.Given.{gives_line_refused, gives_outcome}
use Rattle.reader.proofs.read_open.Goals as goal

pub check_line-requires : goal.check_line-requires
check_line-requires c =
    let open-book = c.requires.fact.0 in
    ((open-book.0, open-book.1.kept), open-book.1.threaded, c.requires.fact.1, omega arith)

pub returns-in_err-words : goal.returns-in_err-words
returns-in_err-words c =
    let o = c.requires.fact.0.1 in
    let p = err_from_is_err_and c.from_residual.result c.from_residual.ensures.1 in
    rw (p.1, p.2) (record { threaded = c.check_line.ensures.threaded; gives = gives_line_refused _ _ _ o.parsed (c.in_err-words.ensures.line_says _ o.kept) })

pub slice_bounds-firsts-end : goal.slice_bounds-firsts-end
slice_bounds-firsts-end c =
    let says = c.in_ok-words.ensures.line_says _ c.requires.fact.0.1.kept in
    omega (arith, says.1)

pub slice_bounds-read_words-end : goal.slice_bounds-read_words-end
slice_bounds-read_words-end c =
    let says = c.in_ok-words.ensures.line_says _ c.requires.fact.0.1.kept in
    sym (length-take-le _ _ says.1)

pub read_words-requires : goal.read_words-requires
read_words-requires c =
    let says = c.in_ok-words.ensures.line_says _ c.requires.fact.0.1.kept in
    let found = line_found c.requires.fact.0.1 c.check_line.ensures.threaded says.0 says.2 in
    record { are_found = (_, _, found); chart_len = c.requires.chart_len }

pub returns : goal.returns
returns c =
    let says = c.in_ok-words.ensures.line_says _ c.requires.fact.0.1.kept in
    let found = line_found c.requires.fact.0.1 c.check_line.ensures.threaded says.0 says.2 in
    let o = c.requires.fact.0.1 in
    record { threaded = c.check_line.ensures.threaded; gives = gives_outcome _ _ _ o.parsed says.0 o.chosen (c.read_words.ensures _ _ found) }
