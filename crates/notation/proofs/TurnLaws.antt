-- A stretch of places turned one pair after another, from both ends; and a type that is turned is its adjoint.
use Prim.Native.Nat.{ℕ, suc, ◌+◌, ◌-◌, ◌*◌, ◌≤◌, ◌<◌}
use native.Mathlib.Omega.{arith}
use native.Mathlib.Decide.{ℕ_discrete, dec_lt}
use native.Mathlib.Nat.{zero-add, suc-add}
use mathlib.Core.Path.{◌≡◌, refl, sym, ap, ◌∙◌}
use mathlib.Core.List.{List, [], ◌∷◌, ◌++◌}
use lib.ListN.{length, get_or, set, length-set, length-append, length-take, length-drop, get_or-append}
use lib.Seq.{get_or-set_same, get_or-set_other}
use borrow.Rule.Slice.PartMut.{put_mid}
use Rattle.std.specs.List.{between}
use Rattle.std.proofs.Common.{rules}
use Rattle.std.proofs.lemmas.List.Edits.{get_or-between, length-between}
use Rattle.std.proofs.lemmas.List.{places as part_places}
use Rattle.pregroup.specs.Types.{Simple, PregroupType, plain, simple_left, simple_right, adjoint_by}
use Rattle.pregroup.specs.Held.{bias, held}
use Rattle.pregroup.proofs.HeldLaws.{held_up, held_down}
use Rattle.notation.specs.declared.adjoint.Side.{Side}
use Rattle.notation.specs.declared.adjoint.Side.TheVariants.{Left, Right}
use Rattle.notation.specs.Places.{Holds, one, Movable, moved, Turnable, Turned, Tame}

-- The i simple types at either end are turned, those between are not yet.
pub record Turning (side : Side) (simples simples' : List ℕ) (i : ℕ) : Type 0 where
  pub size : length simples' ≡ length simples
  pub front : (k : ℕ) → k < i → k < length simples → get_or {A = ℕ} simples' k 0 ≡ moved side (get_or {A = ℕ} simples (length simples - suc k) 0)
  pub back : (k : ℕ) → length simples ≤ k + i → k < length simples → get_or {A = ℕ} simples' k 0 ≡ moved side (get_or {A = ℕ} simples (length simples - suc k) 0)
  pub middle : (k : ℕ) → i ≤ k → k + i < length simples → get_or {A = ℕ} simples' k 0 ≡ get_or {A = ℕ} simples k 0

pub turning_start : (side : Side) (simples : List ℕ) → Turning side simples simples 0
turning_start side simples =
    record { size = refl; front = λ k l m. absurd (omega arith); back = λ k l m. absurd (omega arith); middle = λ k l m. refl }

-- One pair more.
module _ {side : Side} {simples simples' : List ℕ} {i : ℕ} (t : Turning side simples simples' i) (h : i + i < length simples) (j : ℕ)
    (sum : j + suc i ≡ length simples) (x y : ℕ) (is_x : x ≡ moved side (get_or {A = ℕ} simples' i 0)) (is_y : y ≡ moved side (get_or {A = ℕ} simples' j 0)) where
  abbrev next : List ℕ
  next = set (set simples' i y) j x

  other : (k : ℕ) → (k ≡ i → ⊥) → (k ≡ j → ⊥) → get_or {A = ℕ} next k 0 ≡ get_or {A = ℕ} simples' k 0
  other k a b = get_or-set_other (set simples' i y) j k x 0 b ∙ get_or-set_other simples' i k y 0 a

  at_back : get_or {A = ℕ} next j 0 ≡ moved side (get_or {A = ℕ} simples i 0)
  at_back =
      get_or-set_same (set simples' i y) j x 0 (omega (arith, length-set simples' i y, t.size, sum)) ∙ is_x
      ∙ ap (moved side) (t.middle i (omega arith) h)

  at_front : get_or {A = ℕ} next i 0 ≡ moved side (get_or {A = ℕ} simples j 0)
  at_front = go (ℕ_discrete i j)
    where
      go : Dec (i ≡ j) → get_or {A = ℕ} next i 0 ≡ moved side (get_or {A = ℕ} simples j 0)
      go (yes e) = ap (λ (k : ℕ). get_or {A = ℕ} next k 0) e ∙ at_back ∙ ap (λ (k : ℕ). moved side (get_or {A = ℕ} simples k 0)) e
      go (no d) =
          get_or-set_other (set simples' i y) j i x 0 d ∙ get_or-set_same simples' i y 0 (omega (arith, t.size)) ∙ is_y
          ∙ ap (moved side) (t.middle j (omega (arith, sum)) (omega (arith, sum)))

  pub turning_next : Turning side simples next (i + 1)
  turning_next =
      record {
        size = length-set (set simples' i y) j x ∙ length-set simples' i y ∙ t.size;
        front = λ k l m. fronts k l m (ℕ_discrete k i);
        back = λ k l m. backs k l m (ℕ_discrete k j);
        middle = λ k l m. other k (omega arith) (omega (arith, sum)) ∙ t.middle k (omega arith) (omega arith);
      }
    where
      fronts : (k : ℕ) → k < i + 1 → k < length simples → Dec (k ≡ i) → get_or {A = ℕ} next k 0 ≡ moved side (get_or {A = ℕ} simples (length simples - suc k) 0)
      fronts k l m (yes e) =
          let at : j ≡ length simples - suc k = omega (arith, sum) in
          ap (λ (n : ℕ). get_or {A = ℕ} next n 0) e ∙ at_front ∙ ap (λ (n : ℕ). moved side (get_or {A = ℕ} simples n 0)) at
      fronts k l m (no d) = other k d (omega (arith, d, sum)) ∙ t.front k (omega (arith, d)) m

      backs : (k : ℕ) → length simples ≤ k + (i + 1) → k < length simples → Dec (k ≡ j) → get_or {A = ℕ} next k 0 ≡ moved side (get_or {A = ℕ} simples (length simples - suc k) 0)
      backs k l m (yes e) =
          let at : i ≡ length simples - suc k = omega (arith, sum) in
          ap (λ (n : ℕ). get_or {A = ℕ} next n 0) e ∙ at_back ∙ ap (λ (n : ℕ). moved side (get_or {A = ℕ} simples n 0)) at
      backs k l m (no d) = other k (omega (arith, d, sum)) d ∙ t.back k (omega (arith, d, sum)) m

pub turning_end : {side : Side} {simples simples' : List ℕ} {i : ℕ} → Turning side simples simples' i → length simples ≤ i + i → Turned side simples simples'
turning_end {side} {simples} {simples'} {i} t h = record { turned = λ k l. go k l (dec_lt k i) }
  where
    go : (k : ℕ) → k < length simples → Dec (k < i) → get_or {A = ℕ} simples' k 0 ≡ moved side (get_or {A = ℕ} simples (length simples - suc k) 0)
    go k l (yes before) = t.front k before l
    go k l (no on) = t.back k (omega (arith, on)) l

-- What can still be moved.
pub turning_movable :
    {side : Side} {simples simples' : List ℕ} {i : ℕ} → Turnable simples → Turning side simples simples' i → (k : ℕ) → i ≤ k → k + i < length simples
    → Movable (get_or {A = ℕ} simples' k 0)
turning_movable able t k h l = rw (t.middle k h l) (able.movable k (omega arith))

-- The simple types of a joined string behind its first part.
pub simple_behind : (X Y : PregroupType) (k : ℕ) → get_or (X ++ Y) (length X + k) (plain 0) ≡ get_or Y k (plain 0)
simple_behind [] Y k = ap (λ (n : ℕ). get_or Y n (plain 0)) (zero-add k)
simple_behind (x ∷ X) Y k = ap (λ (n : ℕ). get_or (x ∷ (X ++ Y)) n (plain 0)) (suc-add (length X) k) ∙ simple_behind X Y k

-- The adjoint of a simple type.
abbrev pub adjoint_at_side : Side → Simple → Simple
adjoint_at_side Left x = simple_left x
adjoint_at_side Right x = simple_right x

held_moved : (side : Side) (n : ℕ) → Movable n → held (moved side n) ≡ adjoint_at_side side (held n)
held_moved Left n m = held_down n m.low
held_moved Right n m = held_up n

module _ (f : Simple → Simple) where
  pub adjoint_length : (X : PregroupType) → length (adjoint_by f X) ≡ length X
  unfolding adjoint_by
  adjoint_length [] = refl
  adjoint_length (x ∷ X) = length-append (adjoint_by f X) (f x ∷ []) ∙ omega (arith, adjoint_length X)

  -- The k-th of an adjoint is f of the k-th from the end.
  adjoint_at : (X : PregroupType) (k : ℕ) → k < length X → get_or (adjoint_by f X) k (plain 0) ≡ f (get_or X (length X - suc k) (plain 0))
  unfolding adjoint_by
  adjoint_at [] k h = absurd (omega arith)
  adjoint_at (x ∷ X) k h = go (adjoint_at X k) (dec_lt k (length X))
    where
      go : (k < length X → get_or (adjoint_by f X) k (plain 0) ≡ f (get_or X (length X - suc k) (plain 0))) → Dec (k < length X)
          → get_or (adjoint_by f X ++ (f x ∷ [])) k (plain 0) ≡ f (get_or (x ∷ X) (suc (length X) - suc k) (plain 0))
      go rest (yes l) =
          let n : suc (length X) - suc k ≡ suc (length X - suc k) = omega arith in
          get_or-append (adjoint_by f X) (f x ∷ []) (plain 0) k (omega (arith, adjoint_length X)) ∙ rest l ∙ sym (ap (λ (m : ℕ). f (get_or (x ∷ X) m (plain 0))) n)
      go rest (no l) =
          let e : k ≡ length (adjoint_by f X) + 0 = omega (arith, l, adjoint_length X) in
          let n : suc (length X) - suc k ≡ 0 = omega (arith, l) in
          ap (λ (m : ℕ). get_or (adjoint_by f X ++ (f x ∷ [])) m (plain 0)) e ∙ simple_behind (adjoint_by f X) (f x ∷ []) 0 ∙ sym (ap (λ (m : ℕ). f (get_or (x ∷ X) m (plain 0))) n)

-- Exponents that are small can be moved.
module _ {n : ℕ} {places : List ℕ} {from end : ℕ} (low : n < bias) (tame : Tame n places from end) where
  tame_movable : (k : ℕ) → from ≤ k → k < end → Movable (get_or {A = ℕ} places k 0)
  tame_movable k l m = let b = tame.small k l m in record { low = omega arith; high = omega arith }

  pub tame_turnable : end ≤ length places → Turnable (between from end places)
  tame_turnable inside =
      record {
        movable = λ k l.
            let m : from + k < end = omega (arith, length-between places from end inside) in
            rw (get_or-between places from end k 0 m) (tame_movable (from + k) (omega arith) m);
      }

-- What stands at a stretch of places is turned there.
pub record TurnedAt (side : Side) (places : List ℕ) (from end : ℕ) (places' : List ℕ) : Type 0 where
  pub turned : (k : ℕ) → from ≤ k → k < end → get_or {A = ℕ} places' k 0 ≡ moved side (get_or {A = ℕ} places (from + end - suc k) 0)
  pub before : (k : ℕ) → k < from → get_or {A = ℕ} places' k 0 ≡ get_or {A = ℕ} places k 0
  pub size : length places' ≡ length places

pub turned_at :
    {side : Side} {places simples' : List ℕ} (from end : ℕ) → from ≤ end → end ≤ length places → length simples' ≡ length (between from end places)
    → Turned side (between from end places) simples' → TurnedAt side places from end (put_mid from (end - from) places simples')
turned_at {side} {places} {simples'} from end ordered inside same t =
    record {
      turned = turned;
      before = before;
      size = simp (length-append, length-take, length-drop) (omega (arith, between_size, same));
    }
  where
    between_size : length (between from end places) ≡ end - from
    between_size = length-between places from end inside

    before : (k : ℕ) → k < from → get_or {A = ℕ} (put_mid from (end - from) places simples') k 0 ≡ get_or {A = ℕ} places k 0
    before k l = search (rules, part_places)

    turned : (k : ℕ) → from ≤ k → k < end → get_or {A = ℕ} (put_mid from (end - from) places simples') k 0 ≡ moved side (get_or {A = ℕ} places (from + end - suc k) 0)
    turned k l m =
        let here : get_or {A = ℕ} (put_mid from (end - from) places simples') k 0 ≡ get_or {A = ℕ} simples' (k - from) 0 = search (rules, part_places) in
        let at : from + (length (between from end places) - suc (k - from)) ≡ from + end - suc k = omega (arith, between_size) in
        here
        ∙ t.turned (k - from) (omega (arith, between_size))
        ∙ ap (moved side) (get_or-between places from end (length (between from end places) - suc (k - from)) 0 (omega (arith, between_size)))
        ∙ ap (λ (i : ℕ). moved side (get_or {A = ℕ} places i 0)) at

-- A type turned.
module _ {side : Side} {n : ℕ} {places : List ℕ} {from end : ℕ} {places' : List ℕ} (low : n < bias) (tame : Tame n places from end) (t : TurnedAt side places from end places') where
  pub turned_holds : (X : PregroupType) → end ≡ from + length X → Holds places from X → Holds places' from (adjoint_by (adjoint_at_side side) X)
  turned_holds X size h =
      record {
        each = λ k l.
            let m : k < length X = omega (arith, adjoint_length (adjoint_at_side side) X) in
            let at : from + end - suc (from + k) ≡ from + (length X - suc k) = omega arith in
            ap held (t.turned (from + k) (omega arith) (omega arith) ∙ ap (λ (n : ℕ). moved side (get_or {A = ℕ} places n 0)) at)
            ∙ held_moved side _ (tame_movable low tame (from + (length X - suc k)) (omega arith) (omega arith))
            ∙ ap (adjoint_at_side side) (h.each (length X - suc k) (omega arith))
            ∙ sym (adjoint_at (adjoint_at_side side) X k m);
      }

  pub turned_tame : Tame (suc n) places' from end
  turned_tame =
      record {
        small = λ k l m.
            let b = tame.small (from + end - suc k) (omega arith) (omega arith) in
            rw (t.turned k l m) (go side _ b);
      }
    where
      go : (side : Side) (v : ℕ) → ((bias - n) * one ≤ v) × (v < (bias + suc n) * one) → ((bias - suc n) * one ≤ moved side v) × (moved side v < (bias + suc (suc n)) * one)
      go Left v b = (omega arith, omega arith)
      go Right v b = (omega arith, omega arith)
