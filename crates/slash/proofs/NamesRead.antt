-- The name at the front of a text: whether it is one goes by its length and its first byte, and it is written as one plain simple type.
use Prim.Native.Nat.{ℕ, zero, suc, ◌+◌, ◌-◌, ◌≤◌, ◌<◌, ◌/◌}
use native.Mathlib.Omega.{arith}
use native.Mathlib.Nat.{add-zero}
use mathlib.Core.Path.{◌≡◌, refl, sym, ap, ◌∙◌}
use mathlib.Core.Bool.{Bool, true, false, cond}
use mathlib.Core.Option.{none, some}
use mathlib.Core.List.{List, [], ◌∷◌}
use lib.ListN.{length, get_or, set, take, drop, length-drop}
use lib.Seq.{length-take-le, get_or-take, get_or-drop, drop-cons, get_or-set_same, get_or-set_other}
use Rattle.figures.specs.Limits.{max_name}
use Rattle.pregroup.specs.Types.{Simple, plain}
use Rattle.pregroup.specs.Held.{bias, lowered, held}
use Rattle.pregroup.proofs.HeldLaws.{held_plain}
use Rattle.format.specs.Records.{Bytes, every, between, bodies_at}
use Rattle.format.specs.Names.{name_byte, is_name, number_of, Named, name_front, NameEnds}
use Rattle.format.proofs.NameFronts.{front_bytes}
use Rattle.format.proofs.NameLaws.{bodies_length, name_length_no, name_first_no, name_rest, number_bound}
use Rattle.notation.specs.Grammar.{named, meaning}
use Rattle.notation.specs.Trees.{front, name_at}
use Rattle.notation.specs.Places.{Holds, Tame}
use Rattle.slash.specs.Parsing.{FrontWritten}
use Rattle.slash.proofs.PlaceLaws.{room_some}

-- A name's number is small enough for a byte.
pub number_small :
    {bytes : Bytes} {offsets : List ℕ} {count number : ℕ} (name : Bytes) → Named bytes offsets count → number ≡ number_of (bodies_at bytes offsets count) name → number < 256
number_small {bytes} {offsets} {count} name n is =
    omega (arith, number_bound (bodies_at bytes offsets count) name, bodies_length bytes offsets count n.whole.room, n.few)

-- Without a letter first there is no name.
pub name_other : (text : Bytes) (at : ℕ) → at < length text → between 97 122 (get_or {A = ℕ} text at 0) ≡ false → name_at (drop at text) ≡ none
unfolding name_at name_front
name_other text at h other = rw (drop-cons text at 0 h) (go (name_byte byte) refl)
  where
    byte : ℕ
    byte = get_or {A = ℕ} text at 0

    front_no : (t : Bool) → is_name (cond t (byte ∷ name_front (drop (suc at) text)) []) ≡ false
    front_no true = sym (name_first_no _ other)
    front_no false = sym (name_first_no [] refl)

    go : (t : Bool) → name_byte byte ≡ t → name_at (byte ∷ drop (suc at) text) ≡ none
    go t e = rw (front_no (name_byte byte))

module _ {text : Bytes} {at behind : ℕ} (e : NameEnds text at behind) where
  abbrev name : Bytes
  name = take (behind - at) (drop at text)

  name_size : length name ≡ behind - at
  name_size = length-take-le (behind - at) (drop at text) (omega (arith, length-drop at text, e.inside))

  pub name_long : max_name < behind - at → name_at (drop at text) ≡ none
  unfolding name_at
  name_long h =
      let k : is_name (name_front (drop at text)) ≡ false = ap is_name (sym e.name) ∙ sym (name_length_no name (λ l m. omega (arith, name_size))) in
      rw k

  module _ (size : (at < behind) × (behind - at ≤ max_name)) where
    sized : (1 ≤ length name) × (length name ≤ max_name)
    sized = (omega (arith, name_size, size.0), omega (arith, name_size, size.1))

    first_byte : get_or {A = ℕ} name 0 0 ≡ get_or {A = ℕ} text at 0
    first_byte =
        get_or-take (behind - at) (drop at text) 0 0 (omega (arith, size.0)) ∙ get_or-drop at text 0 0 ∙ ap (λ (k : ℕ). get_or {A = ℕ} text k 0) (add-zero at)

    pub name_there : between 97 122 (get_or {A = ℕ} text at 0) ≡ true → name_at (drop at text) ≡ some (front (named name) (drop behind text))
    unfolding name_at
    name_there h =
        let letter : between 97 122 (get_or {A = ℕ} name 0 0) ≡ true = ap (between 97 122) first_byte ∙ h in
        let k : is_name (name_front (drop at text)) ≡ true
        = ap is_name (sym e.name) ∙ sym (name_rest name sized letter) ∙ ap (every name_byte) e.name ∙ front_bytes (drop at text) in
        rw (k, e.name, e.left)

  -- One place, with the plain simple type of the name's number.
  module _ (names : List Bytes) (places : List ℕ) (from number simple : ℕ) (inside : from < length places) (is : number ≡ number_of names name)
      (plainly : held simple ≡ lowered number bias) where
    written_there : get_or {A = ℕ} (set places from simple) from 0 ≡ simple
    written_there = get_or-set_same places from simple 0 inside

    holds_name : Holds (set places from simple) from (meaning names (named name))
    unfolding meaning
    holds_name = record { each = go }
      where
        go : (k : ℕ) → k < 1 → held (get_or {A = ℕ} (set places from simple) (from + k) 0) ≡ get_or (plain (number_of names name) ∷ []) k (plain 0)
        go zero h = ap (λ (k : ℕ). held (get_or {A = ℕ} (set places from simple) k 0)) (add-zero from) ∙ ap held written_there ∙ plainly ∙ ap plain is
        go (suc k) h = absurd (omega arith)

    tame_name : Tame 0 (set places from simple) from (from + 1)
    tame_name =
        record {
          small = λ k l m.
              let same : k ≡ from = omega arith in
              let high : simple / 256 ≡ bias = (held_plain simple).0 (ap (λ (x : Simple). x.exponent) plainly) in
              rw (same, written_there) (omega arith, omega arith);
        }

    pub name_written : FrontWritten (meaning names) text (front (named name) (drop behind text)) 0 0 from places (set places from simple) behind (from + 1)
    unfolding meaning
    name_written =
        record {
          inside = e.inside;
          left = refl;
          count = refl;
          filled = omega arith;
          few = omega (arith, room_some 0);
          holds = holds_name;
          tame = tame_name;
          kept = λ k h. get_or-set_other places from k simple 0 (omega arith);
        }
