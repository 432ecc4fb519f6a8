-- What the writes of an answer come to together.
use Prim.Native.Nat.{ℕ, ◌+◌, ◌≤◌}
use native.Mathlib.Omega.{arith}
use mathlib.Core.Path.{◌≡◌, ap, ◌∙◌}
use mathlib.Core.List.{List, ◌∷◌, ◌++◌}
use lib.ListN.{length, take, drop, set}
use Rattle.pregroup.specs.Types.{Basic}
use Rattle.pregroup.specs.Order.{Relation}
use Rattle.table.specs.Table.{string_of}
use Rattle.table.proofs.Stretches.{length_string}
use Rattle.answer.specs.Answers.{answer_length}
use Rattle.answer.specs.Entries.{entry_numbers}
use Rattle.answer.specs.Links.{FirstLinked}
use Rattle.answer.specs.Written.{WroteAnswer}
use Rattle.answer.proofs.ValueLaws.{entry_numbers_length, values_written}

-- The three writes make the answer.
pub wrote_answer :
    {Le : Relation} (string : List ℕ) {s : Basic} {t : ℕ} (slots chosen : List ℕ) {before entered counted after : List ℕ}
    → answer_length (length chosen) (length string) ≤ length before
    → entered ≡ t ∷ length chosen ∷ (entry_numbers slots chosen ++ drop (length chosen + 2) before)
    → counted ≡ set entered (length chosen + 2) (length string)
    → FirstLinked Le s (string_of string (length string)) counted after (length chosen + 3) → WroteAnswer Le string s t slots chosen before after
wrote_answer string {t = t} slots chosen {before} {entered} {counted} {after} space e c f =
    let n = length chosen in
    let m = length string in
    let long = length_string string m in
    let ns = entry_numbers slots chosen in
    let same : n + 3 + m ≡ answer_length n m = omega arith in
    let w = values_written before entered counted after ns f.partners t n m (entry_numbers_length slots chosen) (omega arith) e c
    (f.written ∙ ap (λ (k : ℕ). take (n + 3) counted ++ (f.partners ++ drop (n + 3 + k) counted)) long) in
    record {
      partners = f.partners;
      whole = f.whole ∙ long;
      greedy = f.greedy;
      written = w ∙ ap (λ (k : ℕ). (t ∷ n ∷ (ns ++ (m ∷ f.partners))) ++ drop k before) same;
    }
