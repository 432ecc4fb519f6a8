-- `order::count_pairs` meets its contract: the rows' counts are summed, and there are few enough of them for the sum to fit.
use Rattle.std.proofs.Common.{◌≡◌, ◌*◌, ◌≤◌, ℕ, List, [], ◌∷◌, length, get_or, sum_by, refl, ap, ◌∙◌, arith, rules}
use Rattle.std.proofs.lemmas.Iterator.{YieldsList-from_slice, YieldsList-from_map}
use Rattle.std.proofs.lemmas.Iterator.Consumers.{fits_by_from_yields_list, sum_by_from_yields_List}
use Rattle.std.proofs.lemmas.List.Sums.{sum_by-cons}
use Rattle.bits.specs.Bits.{size}
use Rattle.bits.specs.Totals.{total}
use Rattle.bits.proofs.CountLaws.{size_at_most}
use Rattle.bits.proofs.TotalLaws.{total_first}
use Rattle.order.specs.Rows.{pairs_in}
use Rattle.order.proofs.count_pairs.Goals as goal

-- No row has more than 64 members.
sizes_at_most : (rows : List ℕ) → sum_by size rows ≤ 64 * length rows
sizes_at_most [] = omega arith
sizes_at_most (x ∷ rows) = omega (arith, sum_by-cons size x rows, sizes_at_most rows, size_at_most x)

-- A sum over the rows, row by row.
total_of_rows : (rows : List ℕ) → sum_by size rows ≡ total (λ p. size (get_or rows p 0)) (length rows)
unfolding total
total_of_rows [] = refl
total_of_rows (x ∷ rows) =
    omega (arith, sum_by-cons size x rows, total_of_rows rows, total_first (λ p. size (get_or (x ∷ rows) p 0)) (length rows))

pub sum-requires-clause-fits : goal.sum-requires-clause-fits
sum-requires-clause-fits c =
    let rows = c.args.order.rows in
    let few : length rows ≡ 64 = omega arith in
    fits_by_from_yields_list size rows c.map.result _ (YieldsList-from_map _ size (YieldsList-from_slice rows cc) c.map.ensures.closure (λ x r q k. search rules)) (omega (arith, sizes_at_most rows))

pub returns : goal.returns
unfolding pairs_in
returns c =
    let rows = c.args.order.rows in
    let few : length rows ≡ 64 = omega arith in
    let all : c.sum.result ≡ sum_by size rows = sum_by_from_yields_List size rows c.map.result _ c.sum.ensures.ran (YieldsList-from_map _ size (YieldsList-from_slice rows cc) c.map.ensures.closure (λ x r q k. search rules)) in
    all ∙ total_of_rows rows ∙ ap (total (λ p. size (get_or rows p 0))) few
