-- The parts of an answer's values, for any values at all: what is not there counts as 0, or as empty. `Answers` says which values an answer has.
use Rattle.std.specs.Prelude.{ℕ, suc, ◌+◌, ◌-◌, List, length, get_or, take, drop}
use Rattle.figures.specs.Limits.{answer_head}

-- The target's number.
abbrev pub target_part : List ℕ → ℕ
target_part values = get_or {A = ℕ} values (answer_head - 3) 0

-- The values that stand behind their count.
abbrev pub counted : List ℕ → ℕ → List ℕ
counted values at = take (get_or {A = ℕ} values at 0) (drop (suc at) values)

-- The entry numbers, and behind them the partners.
abbrev pub entries_part : List ℕ → List ℕ
entries_part values = counted values (answer_head - 2)

abbrev pub partners_part : List ℕ → List ℕ
partners_part values = counted values (length (entries_part values) + (answer_head - 1))
