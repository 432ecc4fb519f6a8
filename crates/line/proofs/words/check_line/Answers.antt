-- `line::words::check_line` meets its contract: what splitting and looking up found says what the line is.
use native.Mathlib.Omega.{arith}
use mathlib.Core.Path.{sym}
use lib.Seq.{length-take-le}
use Rattle.std.proofs.lemmas.Result.{err_from_is_err_and}
use Rattle.line.proofs.LineLaws.{check_stopped, looked_up}
use Rattle.line.proofs.words.check_line.Goals as goal

pub slice_bounds-starts-end : goal.slice_bounds-starts-end
slice_bounds-starts-end c =
    let s = c.in_ok-words.ensures in
    omega (arith, s.1)

pub slice_bounds-look_up-end : goal.slice_bounds-look_up-end
slice_bounds-look_up-end c =
    let s = c.in_ok-words.ensures in
    sym (length-take-le _ _ s.1)

pub slice_bounds-ends-end : goal.slice_bounds-ends-end
slice_bounds-ends-end c =
    let s = c.in_ok-words.ensures in
    omega (arith, s.2)

pub slice_bounds-look_up-end-2 : goal.slice_bounds-look_up-end-2
slice_bounds-look_up-end-2 c =
    let s = c.in_ok-words.ensures in
    sym (length-take-le _ _ s.2)

pub look_up-requires : goal.look_up-requires
look_up-requires c =
    let s = c.in_ok-words.ensures in
    (c.requires.0, c.requires.1, c.requires.2, s.0, c.requires.3)

pub returns-in_err-words : goal.returns-in_err-words
returns-in_err-words c =
    let p = err_from_is_err_and c.from_residual.result c.from_residual.ensures.1 in
    rw (p.1, p.2) (record { threaded = c.requires.2; line_says = λ B kept. check_stopped B _ c.in_err-words.ensures })

pub returns : goal.returns
returns c =
    let s = c.in_ok-words.ensures in
    record { threaded = c.look_up.ensures.threaded; line_says = λ B kept. looked_up B _ _ _ _ _ _ _ s.0 c.look_up.result (c.look_up.ensures.looked_up B kept) }
