-- The reading of all records: what is kept stands for what the good records before it hold.
use Prim.Native.Nat.{ℕ, ◌≤◌, ◌<◌}
use native.Mathlib.Omega.{arith}
use mathlib.Core.Path.{◌≡◌, refl, ap, ◌∙◌}
use mathlib.Core.List.Memᴰ
use mathlib.Core.List.{List}
use lib.ListN.{length, take}
use Rattle.figures.specs.Limits.{max_book}
use Rattle.figures.specs.Refusals.{no_target}
use Rattle.format.specs.Records.{Bytes}
use Rattle.book.specs.Format.{Book, nothing_yet, refused, parse, ended, with_next}
use Rattle.format.specs.Records.{Whole}
use Rattle.book.specs.Kept.{Store, StoreRoomy, NoPairs, Sound, Keeps, Taking, Refusing, Opened}
use Rattle.book.specs.Check.{GoodUpTo, start, next}
use Rattle.book.specs.declared.Progress.{Progress}
use Rattle.book.proofs.FirstBroken.{fault_none}
use Rattle.book.proofs.Parsing.{bad_refuses, end_parse, ended_none, ended_some}
use Rattle.book.proofs.Keeping.{targets_count}

-- How the reading stands: s is what is kept so far.
pub record ScanStanding (bytes : Bytes) (s : Store) (p : Progress) : Type 0 where
  pub sound : Sound bytes s p
  pub contents : Book
  pub keeps : Keeps bytes s p contents
  pub good : GoodUpTo bytes p.at contents

-- Nothing is read yet.
pub standing_start :
    (bytes : Bytes) (s : Store) → length bytes ≤ max_book → StoreRoomy s → NoPairs s.direct → ScanStanding bytes s (record { at = 0; types = 0; entries = 0; targets = 0 })
standing_start bytes s short roomy empty =
    let none_yet : (offsets : List ℕ) → Whole bytes offsets 0 = λ offsets. record { room = omega arith; whole = λ i h. absurd (omega arith) } in
    record {
      sound = record {
        short = short;
        reached = omega arith;
        names = record { whole = none_yet s.names; few = omega arith; places = roomy.names_room; different = λ i j h k e. absurd (omega arith) };
        entries = record { room = roomy.entries_room; few = omega arith; whole = none_yet s.entries; formed = λ i h. absurd (omega arith) };
        pairs = record { rows = roomy.rows; within = λ p q h. absurd (empty p q h) };
        targets = record { room = roomy.targets_room; few = omega arith; declared = λ i h. absurd (omega arith) };
      };
      contents = nothing_yet;
      keeps = record { names = refl; pairs = λ p q. (λ h. absurd (empty p q h), λ m. absurd (Memᴰ.not-nil m)); entries = refl; targets = refl };
      good = start;
    }

module _ (bytes : Bytes) (s : Store) (p : Progress) (w : ScanStanding bytes s p) where
  -- One record more.
  pub standing_next : (s' : Store) (p' : Progress) → p.at < length bytes → Taking bytes s p s' p' → ScanStanding bytes s' p'
  standing_next s' p' h t =
      let k = t.right w.contents w.keeps in
      record {
        sound = t.sound;
        contents = with_next bytes p.at w.contents;
        keeps = k.1;
        good = rw t.on (next w.good h (fault_none bytes p.at w.contents k.0));
      }

  -- A bad record decides.
  pub standing_bad : (number : ℕ) → p.at < length bytes → Refusing bytes s p number → parse bytes ≡ refused number p.at
  standing_bad number h r = bad_refuses bytes w.sound.short w.good number h (r.faulty w.contents w.keeps) (omega (arith, r.some_number))

  at_end : length bytes ≤ p.at → parse bytes ≡ ended bytes w.contents
  at_end h = end_parse bytes w.sound.short w.good h

  -- 10: book ends without a target.
  pub standing_none : length bytes ≤ p.at → p.targets ≡ 0 → parse bytes ≡ refused no_target (length bytes)
  standing_none h e = at_end h ∙ ended_none bytes w.contents (w.keeps.targets ∙ ap (λ (n : ℕ). take n s.targets) e)

  pub standing_some : length bytes ≤ p.at → (p.targets ≡ 0 → ⊥) → (B : Book) × Opened bytes s p.types p.entries p.targets B
  standing_some h n =
      let some : 0 < p.targets = omega (arith, n) in (
        w.contents,
        record {
          parsed = at_end h ∙ ended_some bytes w.contents (omega (arith, targets_count bytes s p w.sound w.contents w.keeps));
          few_entries = w.sound.entries.few;
          named = w.sound.names;
          entries_whole = w.sound.entries.whole;
          formed = w.sound.entries.formed;
          some_target = some;
          few_targets = w.sound.targets.few;
          targets_declared = w.sound.targets.declared;
          within = w.sound.pairs.within;
          names = w.keeps.names;
          pairs = w.keeps.pairs;
          entries = w.keeps.entries;
          targets = w.keeps.targets;
        },
      )
