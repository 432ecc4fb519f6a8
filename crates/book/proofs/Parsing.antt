-- `parse` by the records that are good: along good records it goes on from record to record, every cause of a refusal is what it comes to, and
-- whatever it comes to has its cause.
use Prim.Native.Nat.{ℕ, zero, suc, ◌+◌, ◌≤◌, ◌<◌}
use native.Mathlib.Omega.{arith}
use native.Mathlib.Decide.{dec_lt}
use mathlib.Core.Path.{◌≡◌, refl, sym, ap, subst, ◌∙◌}
use mathlib.Core.Bool.{cond}
use mathlib.Core.List.{List, [], ◌∷◌}
use lib.Dec.{eqb}
use lib.ListN.{length}
use borrow.Author.Tests.{lt-ltb, le-ltb, ne_eqb}
use Rattle.figures.specs.Limits.{max_book}
use Rattle.figures.specs.Refusals.{book_too_long, no_target}
use Rattle.pregroup.specs.Types.{Basic}
use Rattle.format.specs.Records.{Bytes, next_at}
use Rattle.book.specs.Format.{Book, Parsed, accepted, refused, parse, nothing_yet, records_from, ended, next_rules, with_next}
use Rattle.book.specs.Kept.{next_fault}
use Rattle.book.specs.Check.{GoodUpTo, start, next, Cause, too_long, bad_record, without_target}
use Rattle.rules.proofs.NoFault.{no_fault_whole}
use Rattle.book.proofs.FirstBroken.{Decided, clean, broken, fault_decided, fault_clean, fault_first, number_positive, breaks_number}

module _ (bytes : Bytes) where
  pub records_end : (more at : ℕ) (B : Book) → length bytes ≤ at → records_from more bytes at B ≡ ended bytes B
  unfolding records_from
  records_end zero at B h = refl
  records_end (suc more) at B h = rw (le-ltb at (length bytes) h)

  pub records_next :
      (more at : ℕ) (B : Book) → at < length bytes → next_fault bytes at B ≡ 0
      → records_from (suc more) bytes at B ≡ records_from more bytes (next_at bytes at) (with_next bytes at B)
  unfolding records_from
  records_next more at B h e = rw (lt-ltb at (length bytes) h, e)

  pub records_bad : (more at : ℕ) (B : Book) (n : ℕ) → at < length bytes → next_fault bytes at B ≡ n → 0 < n → records_from (suc more) bytes at B ≡ refused n at
  unfolding records_from
  records_bad more at B n h e real = rw (lt-ltb at (length bytes) h, e, ne_eqb n 0 (omega arith))

  -- One record more leaves the rest to smaller bounds.
  same_step :
      (m at : ℕ) (B : Book) → length bytes ≤ at + suc m
      → ((n : ℕ) → length bytes ≤ next_at bytes at + n → records_from m bytes (next_at bytes at) (with_next bytes at B) ≡ records_from n bytes (next_at bytes at) (with_next bytes at B))
      → (n : ℕ) → length bytes ≤ at + n → Dec (at < length bytes) → (fault : ℕ) → next_fault bytes at B ≡ fault → Decided (next_rules bytes at B) fault
      → records_from (suc m) bytes at B ≡ records_from n bytes at B
  same_step m at B h rest n k (no l) fault f t = records_end (suc m) at B (omega (arith, l)) ∙ sym (records_end n at B (omega (arith, l)))
  same_step m at B h rest zero k (yes l) fault f t = absurd (omega arith)
  same_step m at B h rest (suc n) k (yes l) fault f (clean e never) = records_next m at B l (f ∙ e) ∙ rest n (omega arith) ∙ sym (records_next n at B l (f ∙ e))
  same_step m at B h rest (suc n) k (yes l) fault f (broken real b first) = records_bad m at B fault l f real ∙ sym (records_bad n at B fault l f real)

  -- From an offset on, all bounds that reach the book's end give the same.
  records_same : (m n at : ℕ) (B : Book) → length bytes ≤ at + m → length bytes ≤ at + n → records_from m bytes at B ≡ records_from n bytes at B
  records_same zero n at B h k = records_end zero at B (omega arith) ∙ sym (records_end n at B (omega arith))
  records_same (suc m) n at B h k =
      same_step m at B h (λ n k. records_same m n (next_at bytes at) (with_next bytes at B) (omega arith) k) n k (dec_lt at (length bytes)) (next_fault bytes at B) refl (fault_decided bytes at B)

  -- The bound of `records_from` is never what ends a book: no greater one gives anything else.
  pub bound_never_ends : (more : ℕ) → length bytes ≤ more → records_from more bytes 0 nothing_yet ≡ records_from (length bytes) bytes 0 nothing_yet
  bound_never_ends more h = records_same more (length bytes) 0 nothing_yet (omega arith) (omega arith)

  pub long_refused : max_book < length bytes → parse bytes ≡ refused book_too_long 0
  unfolding parse
  long_refused h = rw (lt-ltb max_book (length bytes) h)

  -- So an accepted book is not too long.
  pub accepted_short : (B : Book) → parse bytes ≡ accepted B → length bytes ≤ max_book
  accepted_short B e = by (dec_lt max_book (length bytes))
    where
      by : Dec (max_book < length bytes) → length bytes ≤ max_book
      by (yes h) = let never = long_refused h in let z : ◌≡◌ {A = ℕ} 0 1 = cc in omega arith
      by (no h) = omega (arith, h)

  module _ (short : length bytes ≤ max_book) where
    pub parse_short : parse bytes ≡ records_from (length bytes) bytes 0 nothing_yet
    unfolding parse
    parse_short = rw (le-ltb max_book (length bytes) short)

    -- Behind good records, what is left decides.
    good_parse : {at : ℕ} {B : Book} → GoodUpTo bytes at B → records_from (length bytes) bytes at B ≡ parse bytes
    good_parse start = sym parse_short
    good_parse (next {at} {B} good h never) =
        sym (records_next (length bytes) at B h (fault_clean bytes at B never))
        ∙ records_same (suc (length bytes)) (length bytes) at B (omega arith) (omega arith)
        ∙ good_parse good

    bad_parse : (more at : ℕ) (B : Book) (n : ℕ) → length bytes ≤ at + more → at < length bytes → next_fault bytes at B ≡ n → 0 < n → records_from more bytes at B ≡ refused n at
    bad_parse zero at B n enough h e real = absurd (omega arith)
    bad_parse (suc more) at B n enough h e real = records_bad more at B n h e real

    pub bad_refuses : {at : ℕ} {B : Book} → GoodUpTo bytes at B → (n : ℕ) → at < length bytes → next_fault bytes at B ≡ n → 0 < n → parse bytes ≡ refused n at
    bad_refuses {at} {B} good n h e real = sym (good_parse good) ∙ bad_parse (length bytes) at B n (omega arith) h e real

    pub end_parse : {at : ℕ} {B : Book} → GoodUpTo bytes at B → length bytes ≤ at → parse bytes ≡ ended bytes B
    end_parse {at} {B} good h = sym (good_parse good) ∙ records_end (length bytes) at B h

  -- The book's end, without a target and with one.
  pub ended_none : (B : Book) → B.targets ≡ [] → ended bytes B ≡ refused no_target (length bytes)
  unfolding ended
  ended_none B none = ap (λ (targets : List Basic). cond (eqb (length targets) 0) (refused no_target (length bytes)) (accepted B)) none

  pub ended_some : (B : Book) → 0 < length B.targets → ended bytes B ≡ accepted B
  unfolding ended
  ended_some B h = rw (ne_eqb (length B.targets) 0 (omega arith))

  -- A cause for a refusal is what the book comes to.
  pub cause_refuses : {n v : ℕ} → Cause bytes n v → parse bytes ≡ refused n v
  cause_refuses (too_long h) = long_refused h
  cause_refuses (bad_record {at} {n} {B} short good h b first) =
      bad_refuses short good n h (fault_first bytes at B n b first) (number_positive (breaks_number bytes at B n b))
  cause_refuses (without_target {B} short good none) = end_parse short good (omega arith) ∙ ended_none B none

  -- What a book comes to, with its cause.
  pub data Comes : Parsed → Type 0 where
    whole : {B : Book} → length bytes ≤ max_book → GoodUpTo bytes (length bytes) B → 0 < length B.targets → Comes (accepted B)
    stopped : {n v : ℕ} → Cause bytes n v → Comes (refused n v)

  end_comes : (B : Book) → length bytes ≤ max_book → GoodUpTo bytes (length bytes) B → Comes (ended bytes B)
  end_comes B short good = by B.targets refl
    where
      by : (targets : List Basic) → B.targets ≡ targets → Comes (ended bytes B)
      by [] none = rw (ended_none B none) (stopped (without_target short good none))
      by (t ∷ targets) e = let h : 0 < length B.targets = omega (arith, ap length e) in rw (ended_some B h) (whole short good h)

  at_end : (at : ℕ) (B : Book) → length bytes ≤ max_book → at ≤ length bytes → length bytes ≤ at → GoodUpTo bytes at B → Comes (ended bytes B)
  at_end at B short inside h good =
      let e : at ≡ length bytes = omega arith in
      end_comes B short (rw e at good)

  come_step :
      (more at : ℕ) (B : Book) → length bytes ≤ max_book → at ≤ length bytes → GoodUpTo bytes at B
      → (next_fault bytes at B ≡ 0 → GoodUpTo bytes (next_at bytes at) (with_next bytes at B) → Comes (records_from more bytes (next_at bytes at) (with_next bytes at B)))
      → Dec (at < length bytes) → (fault : ℕ) → next_fault bytes at B ≡ fault → Decided (next_rules bytes at B) fault → Comes (records_from (suc more) bytes at B)
  come_step more at B short inside good rest (no l) fault f t = rw (records_end (suc more) at B (omega (arith, l))) (at_end at B short inside (omega (arith, l)) good)
  come_step more at B short inside good rest (yes l) fault f (clean e never) = rw (records_next more at B l (f ∙ e)) (rest (f ∙ e) (next good l never))
  come_step more at B short inside good rest (yes l) fault f (broken real b first) = rw (records_bad more at B fault l f real) (stopped (bad_record short good l b first))

  records_come : (more at : ℕ) (B : Book) → length bytes ≤ max_book → length bytes ≤ at + more → at ≤ length bytes → GoodUpTo bytes at B → Comes (records_from more bytes at B)
  records_come zero at B short enough inside good = rw (records_end zero at B (omega arith)) (at_end at B short inside (omega arith) good)
  records_come (suc more) at B short enough inside good =
      come_step more at B short inside good
      (λ e further. records_come more (next_at bytes at) (with_next bytes at B) short (omega arith) (no_fault_whole bytes at _ _ _ e) further)
      (dec_lt at (length bytes)) (next_fault bytes at B) refl (fault_decided bytes at B)

  pub parse_comes : Comes (parse bytes)
  parse_comes = go (dec_lt max_book (length bytes))
    where
      go : Dec (max_book < length bytes) → Comes (parse bytes)
      go (yes h) = rw (long_refused h) (stopped (too_long h))
      go (no h) =
          let short : length bytes ≤ max_book = omega (arith, h) in
          rw (parse_short short) (records_come (length bytes) 0 nothing_yet short (omega arith) (omega arith) start)

  -- All records of an accepted book are good, and it has a target.
  abbrev IfAccepted : Parsed → Type 0
  IfAccepted (accepted B) = GoodUpTo bytes (length bytes) B × (0 < length B.targets)
  IfAccepted (refused number value) = Unit {0}

  pub accepted_good : (B : Book) → parse bytes ≡ accepted B → GoodUpTo bytes (length bytes) B × (0 < length B.targets)
  accepted_good B e = subst IfAccepted e (go parse_comes)
    where
      go : {p : Parsed} → Comes p → IfAccepted p
      go (whole short good some) = (good, some)
      go (stopped cause) = tt
