-- A record of a declared target, put behind an accepted book with fewer than eight: the book is accepted, with this target behind its others. What
-- stands behind a record that is there whole changes nothing about it, so all records of the book stay good.
use Prim.Native.Nat.{ℕ, ◌+◌, ◌≤◌, ◌<◌}
use native.Mathlib.Omega.{arith}
use mathlib.Core.Path.{◌≡◌, refl, sym, ap, ap₂, subst, ◌∙◌}
use mathlib.Core.List.{[], ◌∷◌, ◌++◌}
use lib.ListN.{length, take, drop, length-append, length-drop, get_or-append}
use lib.Seq.{take-append-le, drop-append-le, drop-append_seam}
use borrow.Author.Tests.{lt-leb}
use Rattle.figures.specs.Limits.{max_book, max_targets}
use Rattle.pregroup.specs.Types.{Basic}
use Rattle.format.specs.Records.{Bytes, two_bytes, head_length, record_of, kind_at, body_at, next_at}
use Rattle.rules.specs.Layouts.{target, kind_number}
use Rattle.rules.specs.Rules.{kind_rules, body_rules, first_broken}
use Rattle.book.specs.Format.{Book, accepted, parse, add, with_next}
use Rattle.book.specs.Kept.{next_fault}
use Rattle.book.specs.Check.{GoodUpTo, start, next}
use Rattle.format.proofs.RecordLaws.{size_first, kind_first, body_first, size_at, kind_at_lem, body_at_lem}
use Rattle.rules.proofs.WholeRecords.{record_whole, kind_whole}
use Rattle.rules.proofs.Faults.{one_yes, target_faults}
use Rattle.rules.proofs.NoFault.{no_fault_whole}
use Rattle.book.proofs.FirstBroken.{fault_none, fault_clean}
use Rattle.book.proofs.Parsing.{end_parse, ended_some, accepted_good}

-- A record that is there whole, with more bytes behind the book.
module _ (book more : Bytes) (at : ℕ) (whole : next_at book at ≤ length book) where
  size_same : two_bytes (book ++ more) at ≡ two_bytes book at
  unfolding two_bytes
  size_same = rw (get_or-append book more 0 at (omega arith), get_or-append book more 0 (at + 1) (omega arith))

  kind_same : kind_at (book ++ more) at ≡ kind_at book at
  unfolding two_bytes
  kind_same = rw (get_or-append book more 0 (at + 2) (omega arith), get_or-append book more 0 (at + 2 + 1) (omega arith))

  body_same : body_at (book ++ more) at ≡ body_at book at
  body_same =
      ap (λ (n : ℕ). take n (drop (at + head_length) (book ++ more))) size_same
      ∙ ap (take (two_bytes book at)) (drop-append-le (at + head_length) book more (omega arith))
      ∙ take-append-le (two_bytes book at) (drop (at + head_length) book) more (omega (arith, length-drop (at + head_length) book))

  fault_same : (B : Book) → next_fault (book ++ more) at B ≡ next_fault book at B
  fault_same B =
      sym (record_whole (book ++ more) at B.names (length B.entries) (length B.targets) (omega (arith, size_same, length-append book more)) kind_same)
      ∙ ap (λ (body : Bytes). first_broken (body_rules (kind_at book at) body B.names (length B.entries) (length B.targets))) body_same
      ∙ record_whole book at B.names (length B.entries) (length B.targets) whole refl

  next_same : (B : Book) → GoodUpTo (book ++ more) (next_at (book ++ more) at) (with_next (book ++ more) at B) → GoodUpTo (book ++ more) (next_at book at) (with_next book at B)
  next_same B good =
      subst (λ (n : ℕ). GoodUpTo (book ++ more) n (with_next book at B)) (ap (λ (n : ℕ). at + head_length + n) size_same)
      (subst (λ (C : Book). GoodUpTo (book ++ more) (next_at (book ++ more) at) C) (ap₂ (λ (kind : ℕ) (body : Bytes). add kind body B) kind_same body_same) good)

-- Good records stay good.
pub good_longer : {book : Bytes} {at : ℕ} {B : Book} (more : Bytes) → GoodUpTo book at B → GoodUpTo (book ++ more) at B
good_longer more start = start
good_longer {book} more (next {at} {B} good h never) =
    let clean = fault_clean book at B never in
    let whole = no_fault_whole book at B.names (length B.entries) (length B.targets) clean in
    next_same book more at whole B
    (next (good_longer more good) (omega (arith, length-append book more)) (fault_none (book ++ more) at B (fault_same book more at whole B ∙ clean)))

-- A book with one target more.
abbrev pub with_target : Book → Basic → Book
with_target B s = record { names = B.names; pairs = B.pairs; entries = B.entries; targets = B.targets ++ (s ∷ []) }

-- The record that is added, read where it stands.
module _ (book : Bytes) (B : Book) (s : Basic) where
  abbrev longer : Bytes
  longer = book ++ record_of (kind_number target) (s ∷ [])

  longer_length : length longer ≡ length book + 5
  longer_length = length-append book (record_of (kind_number target) (s ∷ []))

  added : drop (length book) longer ≡ record_of (kind_number target) (s ∷ [])
  added = drop-append_seam book (record_of (kind_number target) (s ∷ []))

  added_size : two_bytes longer (length book) ≡ 1
  added_size = sym (size_at longer (length book)) ∙ ap (λ (l : Bytes). two_bytes l 0) added ∙ size_first (kind_number target) (s ∷ []) []

  added_kind : kind_at longer (length book) ≡ kind_number target
  added_kind = sym (kind_at_lem longer (length book)) ∙ ap (λ (l : Bytes). kind_at l 0) added ∙ kind_first (kind_number target) (s ∷ []) []

  added_body : body_at longer (length book) ≡ s ∷ []
  added_body = sym (body_at_lem longer (length book)) ∙ ap (λ (l : Bytes). body_at l 0) added ∙ body_first (kind_number target) (s ∷ []) []

  added_held : with_next longer (length book) B ≡ with_target B s
  unfolding add
  added_held = ap₂ (λ (kind : ℕ) (body : Bytes). add kind body B) added_kind added_body

  added_clean : s < length B.names → length B.targets < max_targets → next_fault longer (length book) B ≡ 0
  added_clean declared few =
      sym (kind_whole longer (length book) B.names (length B.entries) (length B.targets) target (omega (arith, added_size, longer_length)) added_kind)
      ∙ ap (λ (body : Bytes). first_broken (kind_rules target body B.names (length B.entries) (length B.targets))) added_body
      ∙ target_faults (s ∷ []) B.names (length B.entries) (length B.targets) refl (one_yes (length B.names) (s ∷ []) refl declared) (lt-leb max_targets (length B.targets) few)

  pub target_added :
      parse book ≡ accepted B → s < length B.names → length B.targets < max_targets → length book + 5 ≤ max_book
      → parse (book ++ record_of (kind_number target) (s ∷ [])) ≡ accepted (with_target B s)
  target_added e declared few short =
      let here = good_longer (record_of (kind_number target) (s ∷ [])) (accepted_good book B e).0 in
      let good = next here (omega (arith, longer_length)) (fault_none longer (length book) B (added_clean declared few)) in
      let held : GoodUpTo longer (next_at longer (length book)) (with_target B s) = subst (GoodUpTo longer (next_at longer (length book))) added_held good in
      end_parse longer (omega (arith, longer_length)) held (omega (arith, added_size, longer_length))
      ∙ ended_some longer (with_target B s) (omega (arith, length-append B.targets (s ∷ [])))
