-- A row is put field by field: each with the space behind it, and then the row of the others; the last with the byte that ends the row.
use Prim.Native.Nat.{ℕ}
use mathlib.Core.Path.{◌≡◌, sym}
use mathlib.Core.List.{List, [], ◌∷◌, ◌++◌, append_assoc}
use Rattle.format.specs.Records.{Bytes}
use Rattle.writing.specs.Placed.{Countable, Placed}
use Rattle.writing.proofs.Placing.{countable_front, countable_back, placed_append}
use Rattle.printing.specs.Text.{row}

row_parted : (field next : Bytes) (fields : List Bytes) → row (field ∷ next ∷ fields) ≡ (field ++ (32 ∷ [])) ++ row (next ∷ fields)
unfolding row
row_parted field next fields = sym (append_assoc field (32 ∷ []) (row (next ∷ fields)))

module _ (field next : Bytes) (fields : List Bytes) {at : ℕ} where
  pub field_countable : Countable at (row (field ∷ next ∷ fields)) → Countable at (field ++ (32 ∷ []))
  field_countable h = countable_front (row (next ∷ fields)) (rw (row_parted field next fields) at h)

  pub fields_countable : {text after : Bytes} {behind : ℕ} → Countable at (row (field ∷ next ∷ fields)) → Placed text at (field ++ (32 ∷ [])) after behind → Countable behind (row (next ∷ fields))
  fields_countable h p = countable_back (rw (row_parted field next fields) at h) p

  pub row_placed : {text after later : Bytes} {behind last : ℕ} → Placed text at (field ++ (32 ∷ [])) after behind → Placed after behind (row (next ∷ fields)) later last → Placed text at (row (field ∷ next ∷ fields)) later last
  row_placed p q = rw (row_parted field next fields) (placed_append p q)

pub last_countable : {at : ℕ} (field : Bytes) → Countable at (row (field ∷ [])) → Countable at (field ++ (10 ∷ []))
unfolding row
last_countable field h = h

pub last_placed : {text after : Bytes} {at behind : ℕ} (field : Bytes) → Placed text at (field ++ (10 ∷ [])) after behind → Placed text at (row (field ∷ [])) after behind
unfolding row
last_placed field p = p
