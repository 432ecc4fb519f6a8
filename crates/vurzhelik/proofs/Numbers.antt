-- Answers handed on as numbers stand for themselves: the number of a refusal is not 0.
use Prim.Native.Nat.{ℕ}
use native.Mathlib.Omega.{arith}
use mathlib.Core.Path.{◌≡◌, refl, sym, ap, subst}
use mathlib.Core.Logic.{⊎_elim}
use mathlib.Core.List.{List, [], ◌∷◌}
use borrow.Author.Tests.{ne_eqb}
use Rattle.figures.specs.Refusals.{Refused, no_reading}
use Rattle.format.specs.Records.{Bytes}
use Rattle.book.specs.Format.{Parsed, accepted, refused, parse}
use Rattle.book.specs.Check.{Accepted, book_check, answer_for, check_reply}
use Rattle.book.specs.declared.BookCheck.{BookCheck}
use Rattle.figures.specs.declared.refusals.Refusal.{Refusal}
use Rattle.answer.specs.Answers.{Gives, LineAnswer}
use Rattle.std.specs.Prelude.{Result, Ok, Err}
use Rattle.reader.specs.Outcome.{outcome}
use Rattle.reader.specs.Demands.{Promised}
use Rattle.reader.proofs.Refusals.{book_some, line_some, NamedParse, parse_named}
use Rattle.reader.proofs.Promises.{refusals_within}
use Rattle.batch.specs.Batch.{batch_outcome}
use Rattle.batch.proofs.BatchPromises.{batch_refusals}
use Rattle.in_the_way.specs.declared.WayAnswer.TheVariants.{Ordinary}
use Rattle.in_the_way.specs.Way.{way_parsed, way_outcome}
use Rattle.in_the_way.specs.WayDemands.{WayPromised}
use Rattle.in_the_way.proofs.WayPromises.{ordinary_apart}
use Rattle.vurzhelik.specs.Calls.{Checks, number_for, value_for, answer_of, batch_answer_of, way_answer_of, WithFifteen}

abbrev NamedCheck : Result BookCheck Refusal → Type 0
NamedCheck (Ok check) = Unit {0}
NamedCheck (Err r) = r.number ≡ 0 → ⊥

check_named : (bytes : Bytes) → NamedCheck (book_check bytes)
check_named bytes = go (parse bytes) (parse_named bytes)
  where
    go : (p : Parsed) → NamedParse p → NamedCheck (answer_for p)
    go (accepted B) named = tt
    go (refused number value) named = λ z. omega (arith, book_some named)

-- The laws that the functions use.

pub refused_checks : (bytes : Bytes) (before : List ℕ) (number value : ℕ) → Refused number value ≡ book_check bytes → Checks (check_reply (book_check bytes)) before number value before
refused_checks bytes before number value e =
    let named : number ≡ 0 → ⊥ = subst NamedCheck (sym e) (check_named bytes) in
    subst (λ check. Checks (check_reply check) before number value before) e
    (record { same_number = refl; accepted = λ z. absurd (named z); refused = λ _. (refl, refl) })

pub accepted_checks : (bytes : Bytes) (before : List ℕ) (types entries pairs : ℕ) → Accepted types entries pairs ≡ book_check bytes → Checks (check_reply (book_check bytes)) before 0 0 (types ∷ entries ∷ pairs ∷ [])
accepted_checks bytes before types entries pairs e =
    subst (λ check. Checks (check_reply check) before 0 0 (types ∷ entries ∷ pairs ∷ [])) e
    (record { same_number = refl; accepted = λ _. (refl, refl); refused = λ some. absurd (some refl) })

-- A number and a value that an answer is handed on by stand for that answer.
answer_handed : (book line : Bytes) (buffer : List ℕ) (a : LineAnswer) → a ≡ (outcome book line buffer).answer → answer_of (number_for a) (value_for a) ≡ a
answer_handed book line buffer (Ok values) e = refl
answer_handed book line buffer (Err r) e = rw (ne_eqb r.number 0 (λ z. omega (arith, line_some (refusals_within book line buffer r.number r.value (sym e))))) refl

pub line_handed : (book line : Bytes) (buffer : List ℕ) {a : LineAnswer} {after : List ℕ} {number value : ℕ} → (number ≡ number_for a) × (value ≡ value_for a)
    → Gives (outcome book line buffer) a after × Promised book line buffer a after
    → Gives (outcome book line buffer) (answer_of number value) after × Promised book line buffer (answer_of number value) after
line_handed book line buffer h said = rw (h.0, h.1, answer_handed book line buffer _ said.0.returned) said

-- The same with the words in the way, for an answer that has no number of theirs.
module _ (book line : Bytes) (buffer : List ℕ) where
  another : (a : LineAnswer) → Ordinary a ≡ (way_outcome book line buffer).answer → number_for a ≡ no_reading → ⊥
  another (Ok values) e z = omega arith
  another (Err r) e z = ordinary_apart (way_parsed (parse book) line) (outcome book line buffer).answer r.number r.value (sym e) z

  pub way_handed : {a : LineAnswer} {after : List ℕ} {number value : ℕ} (words : ℕ) → (number ≡ number_for a) × (value ≡ value_for a)
      → Gives (way_outcome book line buffer) (Ordinary a) after × WayPromised book line buffer (Ordinary a) after
      → Gives (way_outcome book line buffer) (way_answer_of number value words) after × (WayPromised book line buffer (way_answer_of number value words) after × WithFifteen number value words words)
  way_handed {a} words h said =
      let other = another a said.0.returned in
      rw (h.0, h.1, ne_eqb (number_for a) no_reading other, answer_handed book line buffer a said.1.as_read.returned)
      (said.0, (said.1, record { no_value = λ z. absurd (other z); as_it_was = λ _. refl }))

pub refused_batch : (book batch : Bytes) (buffer : List ℕ) (number value : ℕ) → Refused number value ≡ (batch_outcome book batch buffer).answer
    → Refused number value ≡ batch_answer_of number value
refused_batch book batch buffer number value e =
    rw (ne_eqb number 0 (λ z. ⊎_elim (λ named. omega (arith, book_some named)) (λ late. ⊎_elim (λ q. omega arith) (λ q. omega arith) late) (batch_refusals book batch buffer number value (sym e))))
