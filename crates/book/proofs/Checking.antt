-- From what is kept of an accepted book to the three numbers of the book check.
use Prim.Native.Nat.{ℕ, zero, suc}
use mathlib.Core.Path.{◌≡◌, refl, ap, ◌∙◌}
use mathlib.Core.List.{List}
use lib.ListN.{length, get_or, take, replicate, length-map}
use lib.Seq.{length-take-le}
use Rattle.figures.specs.Refusals.{Refused}
use Rattle.bits.proofs.BitLaws.{empty_has_none}
use Rattle.pregroup.specs.Held.{InRows}
use Rattle.order.specs.Closed.{Closed, Listed, DeclaredPairs}
use Rattle.order.specs.Rows.{Hold, DeclaredRows, pairs_in}
use Rattle.order.proofs.ClosureLaws.{hold_closed}
use Rattle.order.proofs.Counting.{pairs_in_closed}
use Rattle.format.specs.Records.{Bytes}
use Rattle.book.specs.Format.{Book, refused, parse}
use Rattle.book.specs.Kept.{entry_from, Store, NoPairs, Opened}
use Rattle.book.specs.Check.{Accepted, book_check}
use Rattle.format.proofs.NameLaws.{bodies_length}

pub zeros : (n p : ℕ) → get_or {A = ℕ} (replicate n 0) p 0 ≡ 0
zeros zero p = refl
zeros (suc n) zero = refl
zeros (suc n) (suc p) = zeros n p

-- Rows of zeros hold no pair.
pub no_pairs : (n : ℕ) → NoPairs (replicate n 0)
unfolding InRows
no_pairs n p q h = empty_has_none q (rw (zeros n p) at h)

module _ (bytes : Bytes) (s : Store) (types count goals : ℕ) (B : Book) (o : Opened bytes s types count goals B) where
  pub opened_rows : DeclaredRows types s.direct
  opened_rows = record { few = o.named.few; within = o.within }

  pub opened_types : length B.names ≡ types
  opened_types = ap length o.names ∙ bodies_length bytes s.names types o.named.whole.room

  pub opened_entries : length B.entries ≡ count
  opened_entries =
      ap length o.entries ∙ length-map (take count s.entries) (entry_from bytes B.names) ∙ length-take-le count s.entries o.entries_whole.room

  pub opened_pairs : DeclaredPairs types B.pairs
  opened_pairs p q m = o.within p q ((o.pairs p q).1 m)

  -- The rows that close what is kept hold the closed order of the book.
  pub opened_order : (rows : List ℕ) → Hold rows (Closed types (InRows s.direct)) → Hold rows (Closed types (Listed B.pairs))
  opened_order rows hold = hold_closed s.direct rows o.pairs hold

  pub check_accepted : (rows : List ℕ) → Hold rows (Closed types (InRows s.direct)) → Accepted types count (pairs_in rows) ≡ book_check bytes
  check_accepted rows hold =
      let pairs = pairs_in_closed types B.pairs rows o.named.few opened_pairs (opened_order rows hold) in
      rw (o.parsed, opened_types, opened_entries, pairs)

pub check_refused : (bytes : Bytes) (number value : ℕ) → parse bytes ≡ refused number value → Refused number value ≡ book_check bytes
check_refused bytes number value e = rw e
