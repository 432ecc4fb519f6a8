-- `notation::brackets::count_simples` meets its contract: what the filter lets through are the slashes.
use Rattle.std.proofs.Common.{rules, ◌≡◌, count_by, arith}
use Rattle.notation.proofs.BracketLaws.{is_slash, slashes_counted}
use Rattle.notation.proofs.brackets.count_simples.Goals as goal

pub returns : goal.returns
returns c =
    let count : c.count.result ≡ count_by is_slash c.args.text.now = search rules in
    omega (arith, slashes_counted c.args.text.now)
