-- Pieces put one behind another are one piece. `Going` is how far a text has come: whatever puts the rest where it stands completes the
-- whole, and the places of the rest can be counted.
use Prim.Native.Nat.{ℕ, suc, ◌+◌, ◌≤◌, ◌<◌}
use native.Mathlib.Omega.{arith}
use mathlib.Core.Path.{◌≡◌, refl, sym, ap, ◌∙◌}
use mathlib.Core.List.{List, [], ◌∷◌, ◌++◌}
use native.Mathlib.Numerals.{add-one}
use lib.ListN.{length, drop, get_or, set, length-append, drop_of_length-le}
use lib.Seq.{sets, length-sets, drop-cons}
use Rattle.writing.specs.Placed.{Countable, Placed}

sets_append : (xs ys l : List ℕ) (i j : ℕ) → j ≡ i + length xs → sets l i (xs ++ ys) ≡ sets (sets l i xs) j ys
sets_append [] ys l i j e = let same : j ≡ i = omega arith in rw same
sets_append (a ∷ xs) ys l i j e = sets_append xs ys (set l i a) (suc i) j (omega arith)

pub placed_append : {text after later xs ys : List ℕ} {at behind last : ℕ} → Placed text at xs after behind → Placed after behind ys later last → Placed text at (xs ++ ys) later last
placed_append {text} {xs = xs} {ys} {at} {behind} p q =
    record {
      put = q.put ∙ (rw p.put (sym (sets_append xs ys text at behind p.next)));
      next = omega (arith, length-append xs ys, p.next, q.next);
    }

pub placed_length : {text after piece : List ℕ} {at behind : ℕ} → Placed text at piece after behind → length after ≡ length text
placed_length {text} {piece = piece} {at} p = ap length p.put ∙ length-sets text at piece

-- Of two pieces, the first can be put, and then the second.
pub countable_front : {at : ℕ} {xs : List ℕ} (ys : List ℕ) → Countable at (xs ++ ys) → Countable at xs
countable_front {xs = xs} ys h = record { small = omega (arith, h.small, length-append xs ys) }

pub countable_back : {text after xs ys : List ℕ} {at behind : ℕ} → Countable at (xs ++ ys) → Placed text at xs after behind → Countable behind ys
countable_back {xs = xs} {ys} h p = record { small = omega (arith, h.small, length-append xs ys, p.next) }

-- How far a text has come.
pub record Going (text : List ℕ) (at : ℕ) (whole now : List ℕ) (place : ℕ) (rest : List ℕ) : Type 0 where
  pub completes : (after : List ℕ) (behind : ℕ) → Placed now place rest after behind → Placed text at whole after behind
  pub countable : Countable place rest

module _ {text : List ℕ} {at : ℕ} {whole : List ℕ} where
  -- The next piece can be put, and what is left is the rest behind it.
  pub going_next : {now piece : List ℕ} {place : ℕ} (rest : List ℕ) → Going text at whole now place (piece ++ rest) → Countable place piece
  going_next rest g = countable_front rest g.countable

  pub going_on : {now after piece rest : List ℕ} {place behind : ℕ} → Going text at whole now place (piece ++ rest) → Placed now place piece after behind → Going text at whole after behind rest
  going_on g p =
      record {
        completes = λ after behind q. g.completes after behind (placed_append p q);
        countable = countable_back g.countable p;
      }

  pub going_done : {now : List ℕ} {place : ℕ} → Going text at whole now place [] → Placed text at whole now place
  going_done {now} {place} g = g.completes now place (record { put = refl; next = omega arith })

  -- One of several bytes that are put one by one.
  pub going_byte : {now after : List ℕ} {place behind : ℕ} (bytes : List ℕ) (i : ℕ) → i < length bytes
      → Going text at whole now place (drop i bytes) → Placed now place (get_or {A = ℕ} bytes i 0 ∷ []) after behind
      → Going text at whole after behind (drop (i + 1) bytes)
  going_byte bytes i h g p = going_on (rw (add-one i, ← drop-cons bytes i 0 h) g) p

  -- The last of them is put.
  pub going_end : {now : List ℕ} {place : ℕ} (bytes : List ℕ) (i : ℕ) → length bytes ≤ i → Going text at whole now place (drop i bytes) → Placed text at whole now place
  going_end bytes i h g = going_done (rw (drop_of_length-le bytes h) at g)
