-- The types of the book's entries, and what counts where none is.
use Prim.Native.Nat.{ℕ, ◌≤◌, ◌<◌}
use native.Mathlib.Omega.{arith}
use mathlib.Core.Path.{◌≡◌, ap, ◌∙◌}
use mathlib.Core.List.{List, [], map}
use lib.ListN.{length, get_or, length-map, get_or-eq_default, get_or-map}
use Rattle.format.specs.Records.{Bytes}
use Rattle.book.specs.Format.{Entry}
use Rattle.book.specs.declared.EntryType.{EntryType}
use Rattle.book.specs.Kept.{entry_from, HeldType}
use Rattle.letters.proofs.LetterLaws.{get_d_any}
use Rattle.listing.specs.Listing.{type_of}

module _ (bytes : Bytes) (names : List Bytes) (entries : List ℕ) where
  abbrev none : Entry
  none = record { word = []; type = [] }

  abbrev all : List Entry
  all = map (entry_from bytes names) entries

  all_length : length all ≡ length entries
  all_length = length-map entries (entry_from bytes names)

  pub type_at : (i : ℕ) → i < length entries → type_of all i ≡ (entry_from bytes names (get_or {A = ℕ} entries i 0)).type
  type_at i h =
      ap (λ (x : Entry). x.type) (get_d_any all i none (entry_from bytes names 0) (omega (arith, all_length)) ∙ get_or-map (entry_from bytes names) entries i 0)

  pub no_type : (i : ℕ) → length entries ≤ i → type_of all i ≡ []
  no_type i h = ap (λ (x : Entry). x.type) (get_or-eq_default all none {n = i} (omega (arith, all_length)))

-- What holds nothing holds the empty type.
pub nothing_held : (t : EntryType) → t.count ≡ 0 → HeldType t []
nothing_held t e = record { count = e; short = omega arith; simples = record { each = λ k h. absurd (omega arith) } }
