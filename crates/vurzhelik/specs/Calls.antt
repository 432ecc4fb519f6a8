-- What a caller in C makes of the numbers it gets: 0 is success, any other number is a refusal's.
use Rattle.std.specs.Prelude.{Ok, Err, ℕ, ◌≡◌, cond, List, [], ◌∷◌, eqb}
use Rattle.figures.specs.Refusals.{Reply, no_reading, Refused}
use Rattle.answer.specs.Answers.{LineAnswer}
use Rattle.in_the_way.specs.declared.WayAnswer.{WayAnswer}
use Rattle.in_the_way.specs.declared.WayAnswer.TheVariants.{Ordinary, NoReading}
use Rattle.batch.specs.Batch.{BatchAnswer}

-- A book check's reply as a number, a value and three lent numbers. An accepted book's value is 0; a refusal leaves the three as they were.
pub record Checks (reply : Reply) (before : List ℕ) (number value : ℕ) (after : List ℕ) : Type 0 where
  pub same_number : number ≡ reply.number
  pub accepted : number ≡ 0 → (value ≡ 0) × (after ≡ reply.values)
  pub refused : (number ≡ 0 → ⊥) → (value ∷ [] ≡ reply.values) × (after ≡ before)

-- The number and the value that an answer to a line is handed on by.
abbrev pub number_for : LineAnswer → ℕ
number_for (Ok values) = 0
number_for (Err r) = r.number

abbrev pub value_for : LineAnswer → ℕ
value_for (Ok values) = values
value_for (Err r) = r.value

-- The answer to a line that a number and a value stand for.
abbrev pub answer_of : ℕ → ℕ → LineAnswer
answer_of number value = cond (eqb number 0) (Ok value) (Refused number value)

-- The answer of the words in the way that they stand for, with the words' number behind 15.
abbrev pub way_answer_of : ℕ → ℕ → ℕ → WayAnswer
way_answer_of number value words = cond (eqb number no_reading) (NoReading words) (Ordinary (answer_of number value))

-- With 15 the value is 0, and only then the words' number is written.
pub record WithFifteen (number value before after : ℕ) : Type 0 where
  pub no_value : number ≡ no_reading → value ≡ 0
  pub as_it_was : (number ≡ no_reading → ⊥) → after ≡ before

-- The answer to a batch that they stand for.
abbrev pub batch_answer_of : ℕ → ℕ → BatchAnswer
batch_answer_of number value = cond (eqb number 0) (Ok value) (Refused number value)
