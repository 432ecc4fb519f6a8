-- Types at places of a list: joined, and left as they are where other places are written.
use Prim.Native.Nat.{ℕ, zero, suc, ◌+◌, ◌-◌, ◌*◌, ◌≤◌, ◌<◌}
use native.Mathlib.Omega.{arith}
use native.Mathlib.Decide.{dec_lt}
use mathlib.Core.Path.{◌≡◌, refl, sym, ap, ◌∙◌}
use mathlib.Core.List.{List, ◌++◌}
use lib.ListN.{length, get_or, length-append, get_or-append}
use Rattle.pregroup.specs.Types.{PregroupType, plain}
use Rattle.pregroup.specs.Held.{bias, held}
use Rattle.notation.specs.Places.{Holds, one, Tame}
use Rattle.slash.specs.Parsing.{room}
use Rattle.notation.proofs.TurnLaws.{simple_behind}

-- The same below a place.
abbrev pub SameBelow : ℕ → List ℕ → List ℕ → Type 0
SameBelow n places places' = (k : ℕ) → k < n → get_or {A = ℕ} places' k 0 ≡ get_or {A = ℕ} places k 0

pub holds_kept :
    {places places' : List ℕ} {from : ℕ} (X : PregroupType) (end : ℕ) → end ≡ from + length X → SameBelow end places places' → Holds places from X → Holds places' from X
holds_kept {places} {places'} {from} X end size same h =
    record { each = λ k l. ap held (same (from + k) (omega arith)) ∙ h.each k l }

pub holds_append :
    {places : List ℕ} {from : ℕ} (X Y : PregroupType) (end : ℕ) → end ≡ from + length X → Holds places from X → Holds places end Y → Holds places from (X ++ Y)
holds_append {places} {from} X Y end size h g = record { each = λ k l. go k l (dec_lt k (length X)) }
  where
    go : (k : ℕ) → k < length (X ++ Y) → Dec (k < length X) → held (get_or {A = ℕ} places (from + k) 0) ≡ get_or (X ++ Y) k (plain 0)
    go k l (yes m) = h.each k m ∙ sym (get_or-append X Y (plain 0) k m)
    go k l (no m) =
        let e : k ≡ length X + (k - length X) = omega (arith, m) in
        let at : from + k ≡ end + (k - length X) = omega (arith, m) in
        ap (λ (n : ℕ). held (get_or {A = ℕ} places n 0)) at
        ∙ g.each (k - length X) (omega (arith, m, length-append X Y))
        ∙ sym (ap (λ (n : ℕ). get_or (X ++ Y) n (plain 0)) e ∙ simple_behind X Y (k - length X))

pub tame_kept : {n : ℕ} {places places' : List ℕ} {from end : ℕ} → SameBelow end places places' → Tame n places from end → Tame n places' from end
tame_kept same t = record { small = λ k l m. rw (same k m) (t.small k l m) }

pub tame_more : {n : ℕ} {places : List ℕ} {from end : ℕ} → Tame n places from end → Tame (suc n) places from end
tame_more {n} t = record { small = λ k l m. let b = t.small k l m in (omega arith, omega arith) }

pub tame_join : {n : ℕ} {places : List ℕ} {from middle end : ℕ} → Tame n places from middle → Tame n places middle end → Tame n places from end
tame_join {n} {places} {from} {middle} {end} t u = record { small = λ k l m. go k l m (dec_lt k middle) }
  where
    go : (k : ℕ) → from ≤ k → k < end → Dec (k < middle) → ((bias - n) * one ≤ get_or {A = ℕ} places k 0) × (get_or {A = ℕ} places k 0 < (bias + suc n) * one)
    go k l m (yes h) = t.small k l h
    go k l m (no h) = u.small k (omega (arith, h)) m

pub tame_most : (n : ℕ) {places : List ℕ} {from end : ℕ} → Tame 0 places from end → Tame n places from end
tame_most zero t = t
tame_most (suc n) t = tame_more (tame_most n t)

pub room_none : room 0 ≡ 1
unfolding room
room_none = refl

pub room_some : (n : ℕ) → 1 ≤ room n
unfolding room
room_some zero = omega arith
room_some (suc n) = omega (arith, room_some n)

pub room_twice : (n : ℕ) → room (suc n) ≡ room n + room n
unfolding room
room_twice n = omega arith
