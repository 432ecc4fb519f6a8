-- `in_the_way::read_or_try` meets its contract: what reading the words that are looked up gives is returned as it is, and with 15 the number for these words.
use Prim.Native.Nat.{ℕ}
use native.Mathlib.Omega.{arith}
use mathlib.Core.Path.{sym, ◌∙◌}
use lib.ListN.{length-replicate}
use lib.Seq.{length-take-le}
use Rattle.figures.specs.Limits.{chart_words}
use Rattle.opening.proofs.OpeningLaws.{none_threaded, line_found}
use Rattle.reader.proofs.Given.{gives_outcome}
use Rattle.in_the_way.proofs.StepLaws.{gives_read, gives_other, gives_fifteen, gives_bad_line, way_is}
use Rattle.in_the_way.proofs.read_or_try.Goals as goal

pub check_line-requires : goal.check_line-requires
check_line-requires c =
    ((c.requires.0, c.requires.1.kept), c.requires.1.threaded, none_threaded c.requires.1.kept.lexicon.kept, omega arith)

pub returns-in-Err : goal.returns-in-Err
returns-in-Err c =
    let said = c.in-Err.ensures.line_says in
    gives_bad_line _ _ _ c.requires.1.parsed (said _ c.requires.1.kept)

pub slice_bounds-firsts-end : goal.slice_bounds-firsts-end
slice_bounds-firsts-end c =
    let says = c.in-Ok.ensures.line_says _ c.requires.1.kept in
    omega (arith, says.1)

pub slice_bounds-read_words-end-2 : goal.slice_bounds-read_words-end-2
slice_bounds-read_words-end-2 c =
    let says = c.in-Ok.ensures.line_says _ c.requires.1.kept in
    sym (length-take-le _ _ says.1)

pub read_words-read-requires : goal.read_words-read-requires
read_words-read-requires c =
    let says = c.in-Ok.ensures.line_says _ c.requires.1.kept in
    let found = line_found c.requires.1 c.check_line.ensures.threaded says.0 says.2 in
    record { are_found = (_, _, found); chart_len = length-replicate {A = ℕ} chart_words 0 }

pub returns-in_default : goal.returns-in_default
returns-in_default c =
    let says = c.in-Ok.ensures.line_says _ c.requires.1.kept in
    let found = line_found c.requires.1 c.check_line.ensures.threaded says.0 says.2 in
    let read_line = gives_outcome _ _ _ c.requires.1.parsed says.0 c.requires.1.chosen (c.read_words-read.ensures _ _ found) in
    gives_read _ _ _ read_line c.in_default.is

pub returns-then-refusal-number : goal.returns-then-refusal-number
returns-then-refusal-number c =
    let says = c.in-Ok.ensures.line_says _ c.requires.1.kept in
    let found = line_found c.requires.1 c.check_line.ensures.threaded says.0 says.2 in
    let read_line = gives_outcome _ _ _ c.requires.1.parsed says.0 c.requires.1.chosen (c.read_words-read.ensures _ _ found) in
    gives_other _ _ _ read_line c.in-Err-read.is (λ e. omega (arith, e, c.number.ensures, c.if-refusal-number.true))

pub slice_bounds-firsts-end-2 : goal.slice_bounds-firsts-end-2
slice_bounds-firsts-end-2 c =
    let says = c.in-Ok.ensures.line_says _ c.requires.1.kept in
    omega (arith, says.1)

pub slice_bounds-try_each-end-2 : goal.slice_bounds-try_each-end-2
slice_bounds-try_each-end-2 c =
    let says = c.in-Ok.ensures.line_says _ c.requires.1.kept in
    sym (length-take-le _ _ says.1)

pub try_each-number-requires : goal.try_each-number-requires
try_each-number-requires c =
    let says = c.in-Ok.ensures.line_says _ c.requires.1.kept in
    let found = line_found c.requires.1 c.check_line.ensures.threaded says.0 says.2 in
    record { are_found = (_, _, found); chart_len = c.read_words-read.auto.chart ∙ length-replicate {A = ℕ} chart_words 0 }

pub returns : goal.returns
returns c =
    let says = c.in-Ok.ensures.line_says _ c.requires.1.kept in
    let found = line_found c.requires.1 c.check_line.ensures.threaded says.0 says.2 in
    let read_line = gives_outcome _ _ _ c.requires.1.parsed says.0 c.requires.1.chosen (c.read_words-read.ensures _ _ found) in
    gives_fifteen _ _ _ read_line c.in-Err-read.is (omega (arith, c.number.ensures, c.if-refusal-number.false)) (way_is _ _ c.requires.1.parsed says.0 c.requires.1.chosen (c.try_each-number.ensures _ _ found))
