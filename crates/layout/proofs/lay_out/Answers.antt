-- `layout::lay_out` meets its contract: the words are laid, and the targets behind them.
use Rattle.layout.proofs.LineLaws.{out_laid}
use Rattle.layout.proofs.lay_out.Goals as goal

pub returns : goal.returns
returns c = out_laid c.args.targets.now c.requires.targets_len_bound c.lay_words-last.ensures c.lay_goals.ensures
