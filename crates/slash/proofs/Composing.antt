-- Units and types as the parsers put them together: what each says of the front of the text, from what the parsers of its parts say.
use Prim.Native.Nat.{ℕ, suc, ◌+◌, ◌-◌, ◌≤◌, ◌<◌}
use native.Mathlib.Omega.{arith}
use native.Mathlib.Decide.{dec_lt}
use mathlib.Core.Path.{◌≡◌, refl, sym, ap, ◌∙◌}
use mathlib.Core.Option.{Option as Maybe, none, some}
use Rattle.std.proofs.Common.{Option, None, Some}
use mathlib.Core.List.{List}
use lib.ListN.{length, get_or, drop, length-append}
use Rattle.figures.specs.Limits.{max_depth}
use Rattle.pregroup.specs.Types.{PregroupType, simple_left, simple_right, left_adjoint, right_adjoint}
use Rattle.format.specs.Records.{Bytes}
use Rattle.notation.specs.Grammar.{opening, closing, Tree, over, under, meaning}
use Rattle.notation.specs.Trees.{Front, front, joined, closed, behind_first, unit_at, type_at}
use Rattle.notation.specs.declared.adjoint.Side.{Side}
use Rattle.notation.specs.declared.adjoint.Side.TheVariants.{Left, Right}
use Rattle.notation.specs.Places.{Turnable, Turned}
use Rattle.slash.specs.Parsing.{TextFits, SignAt, FrontWritten, Says, neither, written}
use Rattle.slash.specs.declared.Found.{Found}
use Rattle.slash.specs.declared.Sign.TheVariants.{Slash, Backslash}
use Rattle.notation.proofs.TurnLaws.{adjoint_length, turned_holds, turned_tame, tame_turnable, TurnedAt, turned_at}
use borrow.Rule.Slice.PartMut.{put_mid}
use Rattle.std.specs.List.{between}
use Rattle.slash.proofs.PlaceLaws.{holds_kept, holds_append, tame_kept, tame_more, tame_join, tame_most, room_none, room_some, room_twice}
use Rattle.slash.proofs.ParserLaws.{Read, says_nothing, says_front, unit_inside, closed_there, closed_empty, closed_other, second_empty, second_over, second_under, second_none}

-- A front with what stands behind it read off the text.
front_at : (text : Bytes) {f : Front} (behind : ℕ) → drop behind text ≡ f.behind → some f ≡ some (front f.tree (drop behind text))
front_at text {f} behind e = ap (λ (rest : Bytes). some (front f.tree rest)) (sym e)

-- A type without a first unit.
pub type_none : (d : ℕ) (X : Bytes) → unit_at d X ≡ none → type_at d X ≡ none
unfolding behind_first
type_none d X e = ap (behind_first (unit_at d)) e

-- A unit that is a name.
pub unit_named :
    {sense : Tree → PregroupType} {text : Bytes} {o u : Maybe Front} {d from : ℕ} {places places' : List ℕ} {r : Option Found} → u ≡ o
    → Says sense text o 0 0 from places places' r → Says sense text u d d from places places' r
unit_named e neither = says_nothing e
unit_named {d = d} e (written w) =
    says_front e
    (record {
      inside = w.inside;
      left = w.left;
      count = w.count;
      filled = w.filled;
      few = omega (arith, w.few, room_some d, room_none);
      holds = w.holds;
      tame = tame_most d w.tame;
      kept = w.kept;
    })

-- A unit in brackets.
module _ {sense : Tree → PregroupType} {text : Bytes} (at d : ℕ) {D n m from : ℕ} {places places' : List ℕ} {r : Found}
    (deep : D ≡ suc d) (small : at < length text) (opens : get_or {A = ℕ} text at 0 ≡ opening)
    (inside : Read sense text (type_at d (drop (at + 1) text)) n m from places places' r) where
  unit_is : unit_at D (drop at text) ≡ closed (some (front inside.front.tree (drop r.behind text)))
  unit_is =
      ap (λ (k : ℕ). unit_at k (drop at text)) deep ∙ unit_inside text at d small opens ∙ ap closed (inside.is ∙ front_at text r.behind inside.how.left)

  pub brackets_cut : length text ≤ r.behind → unit_at D (drop at text) ≡ none
  brackets_cut h = unit_is ∙ closed_empty text r.behind inside.front.tree h

  pub brackets_open : r.behind < length text → (get_or {A = ℕ} text r.behind 0 ≡ closing → ⊥) → unit_at D (drop at text) ≡ none
  brackets_open h other = unit_is ∙ closed_other text r.behind inside.front.tree h other

  pub brackets_closed : r.behind < length text → get_or {A = ℕ} text r.behind 0 ≡ closing
      → Says sense text (unit_at D (drop at text)) n m from places places' (Some (record { behind = r.behind + 1; end = r.end }))
  brackets_closed h closes =
      let w = inside.how in
      says_front (unit_is ∙ closed_there text r.behind inside.front.tree h closes)
      (record { inside = omega arith; left = refl; count = w.count; filled = w.filled; few = w.few; holds = w.holds; tame = w.tame; kept = w.kept })

pub brackets_none : (text : Bytes) (at d : ℕ) {D : ℕ} → D ≡ suc d → at < length text → get_or {A = ℕ} text at 0 ≡ opening → type_at d (drop (at + 1) text) ≡ none
    → unit_at D (drop at text) ≡ none
unfolding closed
brackets_none text at d deep small opens e = ap (λ (k : ℕ). unit_at k (drop at text)) deep ∙ unit_inside text at d small opens ∙ ap closed e

-- A unit that is read can be turned, and what is turned is what stands at its places.
pub unit_turnable :
    {sense : Tree → PregroupType} {text : Bytes} {o : Maybe Front} {d from : ℕ} {places places' : List ℕ} {r : Found} → d ≤ max_depth → r.end ≤ length places'
    → Read sense text o d d from places places' r → Turnable (between from r.end places')
unit_turnable low inside read = tame_turnable (omega arith) read.how.tame inside

pub unit_turned :
    {side : Side} {sense : Tree → PregroupType} {text : Bytes} {o : Maybe Front} {n m from : ℕ} {places middle simples : List ℕ} {r : Found}
    → Read sense text o n m from places middle r → r.end ≤ length middle → length simples ≡ length (between from r.end middle)
    → Turned side (between from r.end middle) simples → TurnedAt side middle from r.end (put_mid from (r.end - from) middle simples)
unit_turned {from = from} {r = r} read inside same t = turned_at from r.end (omega (arith, read.how.count)) inside same t

-- Both units of a type are written inside the list, since there is room for the second behind the first.
module _ {bytes text : Bytes} {offsets : List ℕ} {types at d from : ℕ} {sense : Tree → PregroupType} {o : Maybe Front} {places middle : List ℕ} {u : Found}
    (fits : TextFits bytes offsets types text at d (suc d) from places) (first : Read sense text o d d from places middle u) where
  pub first_inside : length middle ≡ length places → u.end ≤ length middle
  first_inside same = omega (arith, fits.space, first.how.few, room_twice d)

  pub second_inside : {q : Maybe Front} {places' : List ℕ} {r : Found} → Read sense text q d d u.end middle places' r → length places' ≡ length places → r.end ≤ length places'
  second_inside second same = omega (arith, fits.space, first.how.few, second.how.few, room_twice d)

  pub second_fits : {places' : List ℕ} → u.behind < length text → length places' ≡ length places → TextFits bytes offsets types text (u.behind + 1) d d u.end places'
  second_fits h same =
      record {
        named = fits.named;
        inside = omega arith;
        shallow = fits.shallow;
        space = omega (arith, fits.space, first.how.few, room_twice d);
      }

-- A second unit turned into its left adjoint.
pub turned_left :
    (names : List Bytes) {text : Bytes} {o : Maybe Front} {d from : ℕ} {places middle places' : List ℕ} {r : Found} → d ≤ max_depth → r.end ≤ length middle
    → Read (meaning names) text o d d from places middle r → TurnedAt Left middle from r.end places'
    → Says (λ B. left_adjoint (meaning names B)) text o (suc d) d from places places' (Some r)
turned_left names {text} {o} {d} {from} {places} {middle} {places'} {r} low inside read t =
    let w = read.how in
    let X = meaning names read.front.tree in
    says_front read.is
    (record {
      inside = w.inside;
      left = w.left;
      count = w.count ∙ ap (λ (n : ℕ). from + n) (sym (adjoint_length simple_left X));
      filled = w.filled;
      few = w.few;
      holds = turned_holds (omega arith) w.tame t X w.count w.holds;
      tame = turned_tame (omega arith) w.tame t;
      kept = λ k h. t.before k h ∙ w.kept k h;
    })

-- Types, by their first unit.
module _ (names : List Bytes) {text : Bytes} (X : Bytes) {d from : ℕ} {places middle : List ℕ} {u : Found}
    (first : Read (meaning names) text (unit_at d X) d d from places middle u) where
  abbrev A : Tree
  A = first.front.tree

  type_is : type_at d X ≡ behind_first (unit_at d) (some (front A (drop u.behind text)))
  type_is = ap (behind_first (unit_at d)) (first.is ∙ front_at text u.behind first.how.left)

  -- .. it stands alone ..
  alone : FrontWritten (meaning names) text (front A (drop u.behind text)) (suc d) (suc d) from places middle u.behind u.end
  alone =
      let w = first.how in
      record {
        inside = w.inside;
        left = refl;
        count = w.count;
        filled = w.filled;
        few = omega (arith, w.few, room_twice d);
        holds = w.holds;
        tame = tame_more w.tame;
        kept = w.kept;
      }

  pub alone_read : SignAt text u.behind None → Says (meaning names) text (type_at d X) (suc d) (suc d) from places middle (Some u)
  alone_read none_there = go (dec_lt u.behind (length text))
    where
      go : Dec (u.behind < length text) → Says (meaning names) text (type_at d X) (suc d) (suc d) from places middle (Some u)
      go (yes h) = says_front (type_is ∙ second_none text u.behind (unit_at d) A h (none_there h).0 (none_there h).1) alone
      go (no h) = says_front (type_is ∙ second_empty text u.behind (unit_at d) A (omega (arith, h))) alone

  -- .. a slash stands behind it, and the second unit's left adjoint ..
  over_written : (g : Front) {places' : List ℕ} {b e : ℕ} → FrontWritten (λ B. left_adjoint (meaning names B)) text g (suc d) d u.end middle places' b e
      → FrontWritten (meaning names) text (front (over A g.tree) g.behind) (suc d) (suc d) from places places' b e
  unfolding meaning
  over_written g w =
      let v = first.how in
      let X = meaning names A in
      let Y = left_adjoint (meaning names g.tree) in
      record {
        inside = w.inside;
        left = w.left;
        count = w.count ∙ omega (arith, v.count, length-append X Y);
        filled = omega (arith, v.filled, w.filled);
        few = omega (arith, v.few, w.few, room_twice d);
        holds = holds_append X Y u.end v.count (holds_kept X u.end v.count w.kept v.holds) w.holds;
        tame = tame_join (tame_kept w.kept (tame_more v.tame)) w.tame;
        kept = λ k h. w.kept k (omega (arith, v.count)) ∙ v.kept k h;
      }

  over_says : {o : Maybe Front} {places' : List ℕ} {r : Option Found} → Says (λ B. left_adjoint (meaning names B)) text o (suc d) d u.end middle places' r
      → Says (meaning names) text (joined (λ B. over A B) o) (suc d) (suc d) from places places' r
  unfolding joined
  over_says neither = neither
  over_says (written {f} w) = written (over_written f w)

  pub over_read : {places' : List ℕ} {r : Option Found} → SignAt text u.behind (Some Slash)
      → Says (λ B. left_adjoint (meaning names B)) text (unit_at d (drop (u.behind + 1) text)) (suc d) d u.end middle places' r
      → Says (meaning names) text (type_at d X) (suc d) (suc d) from places places' r
  over_read sign s = rw (type_is ∙ second_over text u.behind (unit_at d) A sign.0 sign.1) (over_says s)

  -- .. or a backslash does, and it is turned into its right adjoint before the second unit is read.
  module _ {turned : List ℕ} (low : d ≤ max_depth) (inside : u.end ≤ length middle) (t : TurnedAt Right middle from u.end turned) where
    under_written : (g : Front) {places' : List ℕ} {b e : ℕ} → FrontWritten (meaning names) text g d d u.end turned places' b e
        → FrontWritten (meaning names) text (front (under A g.tree) g.behind) (suc d) (suc d) from places places' b e
    unfolding meaning
    under_written g w =
        let v = first.how in
        let X = meaning names A in
        let Y = meaning names g.tree in
        let size : u.end ≡ from + length (right_adjoint X) = v.count ∙ ap (λ (k : ℕ). from + k) (sym (adjoint_length simple_right X)) in
        record {
          inside = w.inside;
          left = w.left;
          count = w.count ∙ omega (arith, size, length-append (right_adjoint X) Y);
          filled = omega (arith, v.filled, w.filled);
          few = omega (arith, v.few, w.few, room_twice d);
          holds = holds_append (right_adjoint X) Y u.end size (holds_kept (right_adjoint X) u.end size w.kept (turned_holds (omega arith) v.tame t X v.count v.holds)) w.holds;
          tame = tame_join (tame_kept w.kept (turned_tame (omega arith) v.tame t)) (tame_more w.tame);
          kept = λ k h. w.kept k (omega (arith, v.count)) ∙ t.before k h ∙ v.kept k h;
        }

    under_says : {o : Maybe Front} {places' : List ℕ} {r : Option Found} → Says (meaning names) text o d d u.end turned places' r
        → Says (meaning names) text (joined (λ B. under A B) o) (suc d) (suc d) from places places' r
    unfolding joined
    under_says neither = neither
    under_says (written {f} w) = written (under_written f w)

    pub under_read : {places' : List ℕ} {r : Option Found} → SignAt text u.behind (Some Backslash)
        → Says (meaning names) text (unit_at d (drop (u.behind + 1) text)) d d u.end turned places' r
        → Says (meaning names) text (type_at d X) (suc d) (suc d) from places places' r
    under_read sign s = rw (type_is ∙ second_under text u.behind (unit_at d) A sign.0 sign.1) (under_says s)
