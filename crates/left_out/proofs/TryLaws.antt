-- Leaving out each word in turn, from the last to the first: which words the first places have, and the number that has been told so far.
use Prim.Native.Nat.{ℕ, suc, ◌+◌, ◌*◌, ◌-◌, ◌^◌, ◌≤◌, ◌<◌}
use native.Mathlib.Nat.{lt_of_lt_of_le}
use native.Mathlib.Omega.{arith}
use native.Mathlib.Decide.{ℕ_discrete}
use mathlib.Core.Path.{◌≡◌, refl, sym, ap, subst, ◌∙◌}
use mathlib.Core.Bool.{Bool, true, false}
use mathlib.Core.List.{List}
use lib.ListN.{length, get_or, take, set, length-set}
use lib.Seq.{get_or-set_same, get_or-set_other, get_or-take, length-take-le}
use lib.Pow.{pow_mono}
use Rattle.std.specs.Int.{from_bool}
use Rattle.pregroup.specs.Tests.{Test}
use Rattle.format.specs.Records.{Bytes}
use Rattle.linking.specs.Reading.{Words, reads}
use Rattle.line.specs.Remaining.{without}
use Rattle.line.proofs.Remaining.{without_length, without_known, without_brief, without_simples, without_threads}
use Rattle.line.specs.FoundWords.{FoundWords}
use Rattle.words.specs.Readings.{SaysWhether}
use Rattle.left_out.specs.LeftOut.{bit_of, way_from}
use Rattle.left_out.proofs.WayLaws.{way_small, way_step, way_none}

-- Of all first entries the one at k is left out and held in hand, and those behind it stand one place earlier.
pub record LeftOut (all firsts : List ℕ) (held k : ℕ) : Type 0 where
  pub inside : k ≤ length all
  pub long : length firsts ≡ length all
  pub before : (j : ℕ) → j < k → get_or {A = ℕ} firsts j 0 ≡ get_or {A = ℕ} all j 0
  pub behind : (j : ℕ) → k ≤ j → j + 1 < length all → get_or {A = ℕ} firsts j 0 ≡ get_or {A = ℕ} all (j + 1) 0
  pub in_hand : k < length all → held ≡ get_or {A = ℕ} all k 0

-- None is left out yet.
pub leaving_starts : (all : List ℕ) → LeftOut all all 0 (length all)
leaving_starts all = record { inside = omega arith; long = refl; before = λ j h. refl; behind = λ j h l. absurd (omega arith); in_hand = λ h. absurd (omega arith) }

-- The one before it is left out in its place.
pub leaving_next : {all firsts : List ℕ} {held k : ℕ} → LeftOut all firsts held k → 0 < k → LeftOut all (set firsts (k - 1) held) (get_or {A = ℕ} firsts (k - 1) 0) (k - 1)
leaving_next {all} {firsts} {held} {k} l some = record {
  inside = omega (arith, l.inside);
  long = length-set firsts (k - 1) held ∙ l.long;
  before = λ j h. get_or-set_other firsts (k - 1) j held 0 (λ e. omega arith) ∙ l.before j (omega arith);
  behind = λ j h m. go j h m (ℕ_discrete j (k - 1));
  in_hand = λ h. l.before (k - 1) (omega arith);
}
  where
    go : (j : ℕ) → k - 1 ≤ j → j + 1 < length all → Dec (j ≡ k - 1) → get_or {A = ℕ} (set firsts (k - 1) held) j 0 ≡ get_or {A = ℕ} all (j + 1) 0
    go j h m (yes e) =
        let there : k - 1 < length firsts = omega (arith, l.inside, l.long) in
        let next : k ≡ j + 1 = omega arith in
        ap (λ (i : ℕ). get_or {A = ℕ} (set firsts (k - 1) held) i 0) e ∙ get_or-set_same firsts (k - 1) held 0 there ∙ l.in_hand (omega arith)
        ∙ ap (λ (i : ℕ). get_or {A = ℕ} all i 0) next
    go j h m (no d) = get_or-set_other firsts (k - 1) j held 0 d ∙ l.behind j (omega (arith, d)) m

-- A flag as a number is its bit.
pub flag_bit : (flag : Bool) → from_bool flag ≡ bit_of flag
flag_bit true = refl
flag_bit false = refl

-- The number for the words from word k + 1 on.
abbrev pub IsWayFrom : Bytes → List ℕ → List ℕ → List ℕ → List ℕ → List ℕ → List ℕ → ℕ → ℕ → Type 0
IsWayFrom bytes names entries same firsts order targets k number =
    (le : Test) (words : Words) → FoundWords bytes names entries same firsts order targets le words → number ≡ way_from le targets words k (length firsts - k)

module _ {bytes : Bytes} {names entries same all order targets : List ℕ} where
  -- The words without one of them are found as well.
  pub found_without : {le : Test} {words : Words} {firsts : List ℕ} {held k : ℕ} → FoundWords bytes names entries same all order targets le words
      → LeftOut all firsts held k → k < length all → FoundWords bytes names entries same (take (length all - 1) firsts) order targets le (without k words)
  found_without {words = words} {firsts} {k = k} f l h =
      let fewer : length (take (length all - 1) firsts) ≡ length all - 1 = length-take-le (length all - 1) firsts (omega (arith, l.long)) in
      let old = f.threaded in
      record {
        threaded = record {
          vocabulary = old.vocabulary;
          same_room = old.same_room;
          threads =
              without_threads k old.threads (λ j a. get_or-take (length all - 1) firsts j 0 (omega arith) ∙ l.before j a)
              (λ j a b. get_or-take (length all - 1) firsts j 0 (omega (arith, old.as_many)) ∙ l.behind j a (omega (arith, old.as_many)));
          as_many = omega (arith, without_length k words (omega (arith, old.as_many)), old.as_many, fewer);
          few = omega (arith, old.few, fewer);
          small = omega (arith, old.small, without_simples k words);
          known_words = without_known k old.known_words;
          brief_words = without_brief k old.brief_words;
        };
        few_targets = f.few_targets;
        decides = f.decides;
      }

  pub way_starts : IsWayFrom bytes names entries same all order targets (length all) 0
  way_starts le words f = let none : length all - length all ≡ 0 = omega arith in rw none (sym (way_none le targets words (length all)))

  -- The number has as many bits as words have been left out.
  pub way_fits : {le : Test} {words : Words} {k number : ℕ} → FoundWords bytes names entries same all order targets le words
      → IsWayFrom bytes names entries same all order targets k number → 0 < k → number < 2 ^ 23
  way_fits {le} {words} {k} {number} f w some =
      let few : length all - k ≤ 23 = omega (arith, f.threaded.few) in
      subst (λ (m : ℕ). m < 2 ^ 23) (sym (w le words f)) (lt_of_lt_of_le (way_small le targets words (length all - k) k) (pow_mono few))

  -- One word more is told of.
  pub way_next : {firsts : List ℕ} {held k number told : ℕ} {b : Bool} → LeftOut all firsts held (k - 1) → 0 < k → k ≤ length all
      → IsWayFrom bytes names entries same all order targets k number → SaysWhether bytes names entries same (take (length all - 1) firsts) order targets b
      → told ≡ bit_of b → IsWayFrom bytes names entries same all order targets (k - 1) (2 * number + told)
  way_next {k = k} {number} {told} {b} l some inside w says e le words f =
      let one_more : length all - (k - 1) ≡ suc (length all - k) = omega arith in
      let back : k - 1 + 1 ≡ k = omega arith in
      let others = without (k - 1) words in
      let said = says le others (found_without f l (omega arith)) in
      let sum : 2 * number + told ≡ bit_of (reads le targets others) + 2 * way_from le targets words k (length all - k) =
      omega (arith, w le words f, e, ap bit_of said) in
      rw one_more (sum ∙ ap (λ (i : ℕ). bit_of (reads le targets others) + 2 * way_from le targets words i (length all - k)) (sym back) ∙ sym (way_step le targets words (length all - k) (k - 1)))
