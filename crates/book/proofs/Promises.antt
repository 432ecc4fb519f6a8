-- The book check keeps its promises, for all bytes: whatever `parse` comes to has its cause, and no cause leads to anything else. And no other
-- answer keeps them.
use Prim.Native.Nat.{ℕ, ◌<◌}
use native.Mathlib.Omega.{arith}
use mathlib.Core.Path.{◌≡◌, refl, sym, ap, ◌∙◌}
use mathlib.Core.Logic.{inl}
use mathlib.Core.List.{List, [], ◌∷◌}
use lib.ListN.{length}
use Rattle.figures.specs.Refusals.{Reply}
use Rattle.pregroup.specs.Types.{Basic}
use Rattle.order.specs.Closed.{Closed, Listed, HasPairs, closed_count}
use Rattle.order.proofs.PairCount.{closed_has_pairs, pairs_unique}
use Rattle.format.specs.Records.{Bytes}
use Rattle.book.specs.Format.{Book, Parsed, accepted, refused, parse}
use Rattle.book.specs.Check.{answer_for, book_check, check_reply, Cause, too_long, bad_record, without_target, BookPromised, BookNumber}
use Rattle.book.proofs.FirstBroken.{number_positive, breaks_number}
use Rattle.book.proofs.Parsing.{end_parse, ended_some, cause_refuses, Comes, whole, stopped, parse_comes}
use Rattle.book.proofs.Accepted.{good_declares}

-- The numbers of all causes.
pub cause_within : {bytes : Bytes} {n v : ℕ} → Cause bytes n v → BookNumber n
cause_within (too_long h) = inl (omega arith)
cause_within {bytes} (bad_record {at} {n} {B} short good h b first) = breaks_number bytes at B n b
cause_within (without_target short good none) = inl (omega arith)

refused_number : (n m v w : ℕ) → refused n v ≡ refused m w → n ≡ m
refused_number n m v w e = cc

refused_value : (n m v w : ℕ) → refused n v ≡ refused m w → v ≡ w
refused_value n m v w e = cc

not_both : (B : Book) (n v : ℕ) → accepted B ≡ refused n v → ⊥
not_both B n v e = let z : ◌≡◌ {A = ℕ} 0 1 = cc in omega arith

same_book : (A B : Book) → accepted A ≡ accepted B → A ≡ B
same_book A B e = cc

some_length : (l : List Basic) → (l ≡ [] → ⊥) → 0 < length l
some_length [] h = absurd (h refl)
some_length (x ∷ l) h = omega arith

module _ (bytes : Bytes) where
  checked : {p : Parsed} → Comes bytes p → parse bytes ≡ p → BookPromised bytes (check_reply (answer_for p))
  checked (whole {B} short good some) parsed =
      let never : (n v : ℕ) → Cause bytes n v → ⊥ = λ n v cause. not_both _ n v (sym parsed ∙ cause_refuses bytes cause) in
      record {
        accepts = (λ z. never, λ free. refl);
        counts = λ z. record {
          contents = B;
          good = good;
          some_target = λ none. omega (arith, ap length none);
          pairs = closed_count (length B.names) B.pairs;
          closed = closed_has_pairs (length B.names) B.pairs (good_declares good).pairs;
          counts = refl;
        };
        refuses = λ n v. (λ q. let three : ◌≡◌ {A = ℕ} 3 1 = ap (λ (r : Reply). length r.values) q in absurd (omega arith), λ cause. absurd (never n v cause));
      }
  checked (stopped {n} {v} cause) parsed =
      let some = number_positive (cause_within cause) in
      record {
        accepts = (λ z. absurd (omega arith), λ free. absurd (free n v cause));
        counts = λ z. absurd (omega arith);
        refuses = λ m w. (
          λ q.
              let number : n ≡ m = ap (λ (r : Reply). r.number) q in
              let value : v ≡ w = cc (ap (λ (r : Reply). r.values) q) in
              rw (sym number, sym value) cause,
          λ other.
              let same = sym parsed ∙ cause_refuses bytes other in
              rw (refused_number n m v w same, refused_value n m v w same) refl,
        );
      }

  pub check_promised : BookPromised bytes (check_reply (book_check bytes))
  check_promised = checked (parse_comes bytes) refl

  module _ (reply : Reply) (promised : BookPromised bytes reply) where
    only : {p : Parsed} → Comes bytes p → parse bytes ≡ p → reply ≡ check_reply (answer_for p)
    only (stopped {n} {v} cause) parsed = (promised.refuses n v).1 cause
    only (whole {B} short good some) parsed =
        let zero = promised.accepts.1 (λ n v cause. not_both B n v (sym parsed ∙ cause_refuses bytes cause)) in
        let c = promised.counts zero in
        let held = same_book c.contents B (sym (end_parse bytes short c.good (omega arith) ∙ ended_some bytes c.contents (some_length _ c.some_target)) ∙ parsed) in
        let there : HasPairs (Closed (length B.names) (Listed B.pairs)) c.pairs = rw held at c.closed in
        let count = pairs_unique there (closed_has_pairs (length B.names) B.pairs (good_declares good).pairs) in
        let values : reply.values ≡ length B.names ∷ length B.entries ∷ closed_count (length B.names) B.pairs ∷ [] = c.counts ∙ rw (held, count) in
        λ i. record { number = zero i; values = values i }

    pub one_answer : reply ≡ check_reply (book_check bytes)
    one_answer = only (parse_comes bytes) refl
