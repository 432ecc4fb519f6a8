-- What the book check answers: document 01's three numbers for an accepted book, or the number of the refusal and the value returned with it.
-- `book_check` computes the answer; `BookPromised` is what the paper promises of it, in the paper's own terms.
use Rattle.std.specs.Prelude.{Result, Ok, Err, ℕ, suc, ◌≤◌, ◌<◌, ◌≡◌, ◌↔◌, ◌⊎◌, true, cond, eqb, length}
use mathlib.Core.List.{List, [], ◌∷◌, Memᴰ}
use Rattle.figures.specs.Limits.{max_book}
use Rattle.figures.specs.declared.refusals.Refusal.{Refusal}
use Rattle.figures.specs.Refusals.{Reply, refusal, Refused, book_too_long, cut_short, kind_not_listed, bad_layout, undeclared_type, exponent_outside, name_used, too_many_targets, too_many_records, no_target, brackets_too_deep, not_a_type, type_too_long}
use Rattle.order.specs.Closed.{Closed, Listed, HasPairs, closed_count}
use Rattle.format.specs.Records.{Bytes, next_at}
use Rattle.book.specs.Format.{Book, Parsed, accepted, refused, parse, nothing_yet, next_rules, with_next}
use Rattle.book.specs.declared.BookCheck.{BookCheck}

-- The number of basic types, of entries, and of pairs p ≤ q in the closed order.
abbrev pub Accepted : ℕ → ℕ → ℕ → Result BookCheck Refusal
Accepted types entries pairs = Ok (record { types = types; entries = entries; pairs = pairs })

abbrev pub answer_for : Parsed → Result BookCheck Refusal
answer_for (accepted B) = Accepted (length B.names) (length B.entries) (closed_count (length B.names) B.pairs)
answer_for (refused number value) = Refused number value

abbrev pub book_check : Bytes → Result BookCheck Refusal
book_check bytes = answer_for (parse bytes)

-- An answer of the book check as the paper gives it.
abbrev pub check_reply : Result BookCheck Refusal → Reply
check_reply (Ok check) = record { number = 0; values = check.types ∷ check.entries ∷ check.pairs ∷ [] }
check_reply (Err r) = refusal r.number r.value

-- The record at an offset, behind records that hold B, breaks the rule with this number.
abbrev pub Breaks : Bytes → ℕ → Book → ℕ → Type 0
Breaks bytes at B number = Memᴰ (number, true) (next_rules bytes at B)

-- The order in which the rules for a record are tried (document 02, 2.5), and the place of a number in it.
abbrev pub rule_order : List ℕ
rule_order =
    cut_short ∷ kind_not_listed ∷ bad_layout ∷ brackets_too_deep ∷ not_a_type ∷ undeclared_type ∷ exponent_outside ∷ type_too_long ∷ name_used ∷ too_many_targets ∷ too_many_records ∷ []

unfoldable pub place_in : List ℕ → ℕ → ℕ
place_in [] number = 0
place_in (n ∷ numbers) number = cond (eqb number n) 0 (suc (place_in numbers number))

-- All records before an offset are good, and B is what they hold.
pub data GoodUpTo (bytes : Bytes) : ℕ → Book → Type 0 where
  start : GoodUpTo bytes 0 nothing_yet
  next : {at : ℕ} {B : Book} → GoodUpTo bytes at B → at < length bytes → ((n : ℕ) → Breaks bytes at B n → ⊥) → GoodUpTo bytes (next_at bytes at) (with_next bytes at B)

-- What is cause for a refusal, with its number and its value: the book's length (1); or else a record (2 to 9, 19 to 21), of which the earliest bad
-- one decides, and within it the first broken rule; or else a missing target (10).
pub data Cause (bytes : Bytes) : ℕ → ℕ → Type 0 where
  too_long : max_book < length bytes → Cause bytes book_too_long 0
  bad_record : {at n : ℕ} {B : Book} → length bytes ≤ max_book → GoodUpTo bytes at B → at < length bytes → Breaks bytes at B n → ((m : ℕ) → Breaks bytes at B m → place_in rule_order n ≤ place_in rule_order m) → Cause bytes n at
  without_target : {B : Book} → length bytes ≤ max_book → GoodUpTo bytes (length bytes) B → B.targets ≡ [] → Cause bytes no_target (length bytes)

-- The values of an accepted book: how many basic types its records hold, how many entries, and how many pairs p ≤ q their closed order has.
pub record AcceptedCounts (bytes : Bytes) (values : List ℕ) : Type 0 where
  pub contents : Book
  pub good : GoodUpTo bytes (length bytes) contents
  pub some_target : contents.targets ≡ [] → ⊥
  pub pairs : ℕ
  pub closed : HasPairs (Closed (length contents.names) (Listed contents.pairs)) pairs
  pub counts : values ≡ length contents.names ∷ length contents.entries ∷ pairs ∷ []

-- The promises. The answer is 0 exactly when nothing is cause for a refusal, and then has the three values; it is a refusal with a number and a
-- value exactly when there is that cause.
pub record BookPromised (bytes : Bytes) (reply : Reply) : Type 0 where
  pub accepts : (reply.number ≡ 0) ↔ ((n v : ℕ) → Cause bytes n v → ⊥)
  pub counts : reply.number ≡ 0 → AcceptedCounts bytes reply.values
  pub refuses : (n v : ℕ) → (reply ≡ refusal n v) ↔ Cause bytes n v

-- The numbers that a book is refused with: from 1 to 10, and from 19 to 21.
abbrev pub BookNumber : ℕ → Type 0
BookNumber n = ((0 < n) × (n ≤ no_target)) ⊎ ((brackets_too_deep ≤ n) × (n ≤ type_too_long))
