-- Document 01, "When the screen says no", from 15 on: what reading answers, and what the answer buffer holds then.
use Rattle.std.specs.Prelude.{Result, Ok, Err, ℕ, ◌+◌, ◌≡◌, cond, List, ◌∷◌, ◌++◌, ltb, length, take, drop}
use Rattle.std.proofs.Math.Option.{Option, none, some}
use Rattle.figures.specs.Limits.{answer_head}
use Rattle.figures.specs.declared.refusals.Refusal.{Refusal}
use Rattle.figures.specs.Refusals.{Reply, refusal, Refused, no_reading, buffer_too_short}
use Rattle.linking.specs.Reading.{Answer}

-- What reading a line answers: how many values of the buffer are the answer's, or the refusal.
abbrev pub LineAnswer : Type 0
LineAnswer = Result ℕ Refusal

-- The paper's number and values for each answer, with the buffer behind it: 0 and the values written, or the number of the refusal and the
-- value returned with it.
abbrev pub line_reply : LineAnswer → List ℕ → Reply
line_reply (Ok n) buffer = record { number = 0; values = take n buffer }
line_reply (Err r) buffer = refusal r.number r.value

-- What an entry that answers an A returns, and what the buffer holds then.
pub record Outcome (A : Type 0) : Type 0 where
  pub answer : A
  pub buffer : List ℕ

-- The same of an outcome.
abbrev pub outcome_reply : Outcome LineAnswer → Reply
outcome_reply o = line_reply o.answer o.buffer

-- An answer of n words and m simple types: the target's number, n, the n entry numbers, m, the m partners.
abbrev pub values_of : Answer → List ℕ
values_of a = a.target ∷ length a.entries ∷ (a.entries ++ (length a.partners ∷ a.partners))

-- How many values that are.
abbrev pub answer_length : ℕ → ℕ → ℕ
answer_length n m = answer_head + n + m

-- 15: no reading. 16: answer buffer too short, with the values needed. Values behind an answer stay.
unfoldable pub given : Option Answer → List ℕ → Outcome LineAnswer
given none buffer = record { answer = Refused no_reading 0; buffer = buffer }
given (some a) buffer =
    let values = values_of a in
    cond (ltb (length buffer) (length values)) (record { answer = Refused buffer_too_short (length values); buffer = buffer })
    (record { answer = Ok (length values); buffer = values ++ drop (length values) buffer })

-- This is returned, and the buffer holds that.
pub record Gives {A : Type 0} (o : Outcome A) (answer : A) (after : List ℕ) : Type 0 where
  pub returned : answer ≡ o.answer
  pub left : after ≡ o.buffer
