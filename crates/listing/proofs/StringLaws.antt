-- How the string of a reading is written: the simple types of one entry, and those of the entries one behind another.
use Prim.Native.Nat.{ℕ, zero, suc, ◌+◌, ◌≤◌, ◌<◌}
use native.Mathlib.Numerals.{add-one}
use native.Mathlib.Omega.{arith}
use mathlib.Core.Path.{◌≡◌, refl, sym, ap, ◌∙◌}
use mathlib.Core.List.{List, [], ◌∷◌, ◌++◌, map, append-nil, append_assoc, map-append}
use lib.ListN.{length, get_or, take, drop, drop_of_length-le}
use lib.Seq.{drop-cons}
use Rattle.pregroup.specs.Types.{PregroupType, plain}
use Rattle.pregroup.specs.Held.{held}
use Rattle.book.specs.Format.{Entry}
use Rattle.book.specs.declared.EntryType.{EntryType}
use Rattle.book.specs.Kept.{HeldType}
use Rattle.rules.proofs.HeldDeclared.{holds_at}
use Rattle.listing.specs.Listing.{type_of, joined}

-- The places that hold a type hold its simple types, one behind another.
held_taken :
    (places : List ℕ) (count : ℕ) (X : PregroupType) → count ≤ length places → count ≡ length X
    → ((i : ℕ) → i < length X → held (get_or {A = ℕ} places i 0) ≡ get_or X i (plain 0)) → map held (take count places) ≡ X
held_taken places zero [] room n h = refl
held_taken places zero (x ∷ X) room n h = absurd (omega arith)
held_taken places (suc count) [] room n h = absurd (omega arith)
held_taken [] (suc count) (x ∷ X) room n h = absurd (omega arith)
held_taken (p ∷ places) (suc count) (x ∷ X) room n h = rw (h 0 (omega arith), held_taken places count X (omega arith) (omega arith) (λ i l. h (suc i) (omega arith)))

-- So they stand behind the first places.
pub appended :
    (t : EntryType) (X : PregroupType) → HeldType t X → t.count ≤ length t.simples → (before after : List ℕ) (from : ℕ)
    → take (from + t.count) after ≡ take from before ++ take t.count t.simples → map held (take (from + t.count) after) ≡ map held (take from before) ++ X
appended t X holds room before after from e =
    ap (λ (l : List ℕ). map held l) e ∙ map-append held (take from before) (take t.count t.simples)
    ∙ ap (λ (Y : PregroupType). map held (take from before) ++ Y) (held_taken t.simples t.count X room holds.count (λ i l. holds_at holds.simples i l))

-- The types of the entries before the i-th are written; those from it on are left.
module _ (entries : List Entry) (chosen : List ℕ) where
  abbrev pub Joined : List ℕ → ℕ → ℕ → Type 0
  Joined string end i = map held (take end string) ++ joined entries (drop i chosen) ≡ joined entries chosen

  joined_at : (i : ℕ) → i < length chosen → joined entries (drop i chosen) ≡ type_of entries (get_or {A = ℕ} chosen i 0) ++ joined entries (drop (i + 1) chosen)
  unfolding joined
  joined_at i h = rw (drop-cons chosen i 0 h, add-one i)

  pub joined_next : (string after : List ℕ) (end behind i : ℕ) → i < length chosen → Joined string end i
      → map held (take behind after) ≡ map held (take end string) ++ type_of entries (get_or {A = ℕ} chosen i 0) → Joined after behind (i + 1)
  joined_next string after end behind i h j e =
      let X = type_of entries (get_or {A = ℕ} chosen i 0) in
      ap (λ (Y : PregroupType). Y ++ joined entries (drop (i + 1) chosen)) e
      ∙ append_assoc (map held (take end string)) X (joined entries (drop (i + 1) chosen))
      ∙ ap (λ (Y : PregroupType). map held (take end string) ++ Y) (sym (joined_at i h)) ∙ j

  pub joined_all : (string : List ℕ) (end i : ℕ) → length chosen ≤ i → Joined string end i → map held (take end string) ≡ joined entries chosen
  unfolding joined
  joined_all string end i h j =
      sym (append-nil (map held (take end string)))
      ∙ ap (λ (rest : List ℕ). map held (take end string) ++ joined entries rest) (sym (drop_of_length-le chosen {i = i} h)) ∙ j
