-- What reading words that are looked up comes to, and asking whether they have a reading.
use Rattle.std.specs.Prelude.{ℕ, ◌≡◌, Bool, true, false, List, Ok}
use Rattle.std.proofs.Math.Option.{Option, none, some}
use Rattle.figures.specs.Refusals.{no_reading, Refused}
use Rattle.pregroup.specs.Tests.{Test}
use Rattle.linking.specs.Reading.{Words, Answer, first_reading, reads}
use Rattle.format.specs.Records.{Bytes}
use Rattle.answer.specs.Answers.{LineAnswer, Outcome, given, Gives}
use Rattle.line.specs.FoundWords.{FoundWords}

-- What reading words comes to where the reading is wanted whole, and where it is only asked whether there is one: an answer then has no values.
abbrev pub asked : Bool → Option Answer → List ℕ → Outcome LineAnswer
asked true o buffer = given o buffer
asked false none buffer = record { answer = Refused no_reading 0; buffer = buffer }
asked false (some a) buffer = record { answer = Ok 0; buffer = buffer }

abbrev pub ReadsOrAsks : Bytes → List ℕ → List ℕ → List ℕ → List ℕ → List ℕ → List ℕ → Bool → List ℕ → LineAnswer → List ℕ → Type 0
ReadsOrAsks bytes names entries same firsts order targets whole before answer after =
    (le : Test) (words : Words) → FoundWords bytes names entries same firsts order targets le words
    → Gives (asked whole (first_reading le targets words) before) answer after

-- What reading them gives: what their first reading comes to.
abbrev pub ReadsWords : Bytes → List ℕ → List ℕ → List ℕ → List ℕ → List ℕ → List ℕ → List ℕ → LineAnswer → List ℕ → Type 0
ReadsWords bytes names entries same firsts order targets before answer after =
    (le : Test) (words : Words) → FoundWords bytes names entries same firsts order targets le words
    → Gives (given (first_reading le targets words) before) answer after

-- Whether they have a reading.
abbrev pub SaysWhether : Bytes → List ℕ → List ℕ → List ℕ → List ℕ → List ℕ → List ℕ → Bool → Type 0
SaysWhether bytes names entries same firsts order targets says =
    (le : Test) (words : Words) → FoundWords bytes names entries same firsts order targets le words → says ≡ reads le targets words
