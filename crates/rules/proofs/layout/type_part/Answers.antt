-- `rules::layout::type_part` meets its contract: the layout of an entry leaves room for its word.
use native.Mathlib.Omega.{arith}
use Rattle.rules.proofs.Layouts.{word_shape}
use Rattle.rules.proofs.layout.type_part.Goals as goal

pub bounds-body-0 : goal.bounds-body-0
bounds-body-0 c =
    let s = word_shape _ c.requires in
    omega arith

pub slice_bounds-result-count : goal.slice_bounds-result-count
slice_bounds-result-count c =
    let s = word_shape _ c.requires in
    omega arith

pub slice_bounds-result-start : goal.slice_bounds-result-start
slice_bounds-result-start c =
    let s = word_shape _ c.requires in
    omega arith
