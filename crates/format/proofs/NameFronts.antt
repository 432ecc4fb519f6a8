-- The name at the front of a text, byte by byte: what has been passed and the name at the front of what is left are the name.
use Prim.Native.Nat.{ℕ, suc, ◌+◌, ◌-◌, ◌≤◌, ◌<◌}
use native.Mathlib.Numerals.{add-one}
use native.Mathlib.Omega.{arith}
use native.Mathlib.Decide.{ℕ_discrete}
use mathlib.Core.Path.{◌≡◌, refl, sym, subst, ap, ◌∙◌}
use mathlib.Core.Bool.{Bool, true, false, cond}
use mathlib.Core.List.{[], ◌∷◌, ◌++◌, append-nil, append_assoc}
use lib.ListN.{length, get_or, take, drop, length-drop, drop_of_length-le}
use lib.Seq.{take-suc, take_all, get_or-drop, drop-cons}
use lib.Dec.{eqb}
use borrow.Author.Tests.{eq-eqb, ne_eqb}
use Rattle.format.specs.Records.{Bytes, every, between}
use Rattle.format.specs.Names.{name_byte, name_front, name_behind, NameEnds}
use Rattle.format.proofs.Bools.{both}
use Rattle.format.proofs.NameLaws.{name_length_no, name_first_no, name_rest}

-- So far the name has gone on.
pub record NamePassed (text : Bytes) (at i : ℕ) : Type 0 where
  pub forth : at ≤ i
  pub inside : i ≤ length text
  pub front : take (i - at) (drop at text) ++ name_front (drop i text) ≡ name_front (drop at text)
  pub behind : name_behind (drop i text) ≡ name_behind (drop at text)

module _ {text : Bytes} {at i : ℕ} (p : NamePassed text at i) where
  pub name_next : i < length text → name_byte (get_or {A = ℕ} text i 0) ≡ true → NamePassed text at (i + 1)
  unfolding name_front name_behind
  name_next h e =
      record {
        forth = omega (arith, p.forth);
        inside = omega arith;
        front = ap (λ (l : Bytes). l ++ name_front (drop (i + 1) text)) one_more ∙ append_assoc (take (i - at) (drop at text)) _ _ ∙ ap (λ (l : Bytes). take (i - at) (drop at text) ++ l) (sym goes) ∙ p.front;
        behind = sym goes_behind ∙ p.behind;
      }
    where
      byte : ℕ
      byte = get_or {A = ℕ} text i 0

      goes : name_front (drop i text) ≡ byte ∷ name_front (drop (i + 1) text)
      goes = rw (add-one i, drop-cons text i 0 h, e)

      goes_behind : name_behind (drop i text) ≡ name_behind (drop (i + 1) text)
      goes_behind = rw (add-one i, drop-cons text i 0 h, e)

      one_more : take (i + 1 - at) (drop at text) ≡ take (i - at) (drop at text) ++ (byte ∷ [])
      one_more =
          let n : i + 1 - at ≡ suc (i - at) = omega (arith, p.forth) in
          let k : at + (i - at) ≡ i = omega (arith, p.forth) in
          ap (λ (m : ℕ). take m (drop at text)) n
          ∙ take-suc (drop at text) (i - at) 0 (omega (arith, length-drop at text, p.forth))
          ∙ ap (λ (b : ℕ). take (i - at) (drop at text) ++ (b ∷ [])) (get_or-drop at text (i - at) 0 ∙ ap (λ (m : ℕ). get_or {A = ℕ} text m 0) k)

  ended : name_front (drop i text) ≡ [] → name_behind (drop i text) ≡ drop i text → NameEnds text at i
  ended none rest =
      record {
        forth = p.forth;
        inside = p.inside;
        name = sym (append-nil (take (i - at) (drop at text))) ∙ ap (λ (l : Bytes). take (i - at) (drop at text) ++ l) (sym none) ∙ p.front;
        left = sym rest ∙ p.behind;
      }

  pub name_stop : i < length text → name_byte (get_or {A = ℕ} text i 0) ≡ false → NameEnds text at i
  unfolding name_front name_behind
  name_stop h e = ended (rw (drop-cons text i 0 h, e)) (rw (drop-cons text i 0 h, e))

  pub name_end : length text ≤ i → NameEnds text at (length text)
  unfolding name_front name_behind
  name_end h =
      let end : i ≡ length text = omega (arith, p.inside) in
      subst (λ (n : ℕ). NameEnds text at n) end (ended (rw (drop_of_length-le text h)) (rw (drop_of_length-le text h)))

-- A name that begins with a letter goes as far as the bytes behind the letter do.
pub name_begins :
    {text : Bytes} {at behind : ℕ} → at < length text → between 97 122 (get_or {A = ℕ} text at 0) ≡ true → NameEnds text (at + 1) behind → NameEnds text at behind
unfolding name_front name_behind name_byte
name_begins {text} {at} {behind} h letter e =
    let n : behind - at ≡ suc (behind - suc at) = omega (arith, e.forth) in
    record {
      forth = omega (arith, e.forth);
      inside = e.inside;
      name = rw (n, drop-cons text at 0 h, letter) (ap (λ (l : Bytes). get_or {A = ℕ} text at 0 ∷ l) (rw (add-one at) at e.name));
      left = rw (drop-cons text at 0 h, letter) (rw (add-one at) at e.left);
    }

-- All bytes of the name at the front are bytes of names.
pub front_bytes : (text : Bytes) → every name_byte (name_front text) ≡ true
unfolding name_front every
front_bytes [] = refl
front_bytes (b ∷ text) = go (name_byte b) refl (front_bytes text)
  where
    go : (t : Bool) → name_byte b ≡ t → every name_byte (name_front text) ≡ true → every name_byte (cond t (b ∷ name_front text) []) ≡ true
    go true e rest = rw (e, rest)
    go false e rest = refl

-- Where all bytes are those of a name, none stand behind it.
none_behind : (text : Bytes) → every name_byte text ≡ true → name_behind text ≡ []
unfolding name_behind every
none_behind [] h = refl
none_behind (b ∷ text) h =
    let t = both (name_byte b) (every name_byte text) h in
    rw t.0 (none_behind text t.1)

-- So the bytes of a name go to the end exactly where all are.
pub name_whole : {text : Bytes} {end : ℕ} → NameEnds text 0 end → eqb end (length text) ≡ every name_byte text
name_whole {text} {end} e = go (ℕ_discrete end (length text))
  where
    fails : (end ≡ length text → ⊥) → (t : Bool) → every name_byte text ≡ t → t ≡ false
    fails ends true h = absurd (ends (omega (arith, ap (λ (l : Bytes). length l) (e.left ∙ none_behind text h), length-drop end text, e.inside)))
    fails ends false h = refl

    go : Dec (end ≡ length text) → eqb end (length text) ≡ every name_byte text
    go (yes whole) =
        let name : name_front text ≡ text = sym e.name ∙ take_all (end - 0) text (omega arith) in
        eq-eqb end (length text) whole ∙ sym (ap (λ (l : Bytes). every name_byte l) (sym name) ∙ front_bytes text)
    go (no ends) = ne_eqb end (length text) ends ∙ sym (fails ends (every name_byte text) refl)

-- What a body is told by: its length, its first byte, and where the name ends that it begins with.
pub ruleset name_form = (name_length_no, name_first_no, name_rest, name_whole)
