-- Entries of either kind that break no rule: what holds of them, and that it stays so, with the same type, when names are declared behind.
use Prim.Native.Nat.{ℕ, zero, suc, ◌*◌, ◌≤◌, ◌<◌}
use native.Mathlib.Omega.{arith}
use mathlib.Core.Path.{◌≡◌, refl, sym, ap₂, subst}
use mathlib.Core.Bool.{Bool, true, false, cond}
use mathlib.Core.Logic.{⊎_elim}
use mathlib.Core.Option.{Option, none, some}
use mathlib.Core.List.Memᴰ
use mathlib.Core.List.{List, [], ◌∷◌, ◌++◌, map, Memᴰ}
use lib.Dec.{ltb, eqb}
use lib.ListN.{length, get_or, take, length-append}
use lib.Seq.{length-take-le, get_or-take}
use borrow.Author.Tests.{lt-ltb, ltb-true}
use Rattle.figures.specs.Limits.{max_entries, max_entry_simples}
use Rattle.pregroup.specs.Types.{Simple, PregroupType}
use Rattle.format.specs.Records.{Bytes, every, kind_at, body_at}
use Rattle.format.proofs.Bools.{both}
use Rattle.notation.specs.Grammar.{Tree}
use Rattle.notation.specs.Trees.{tree_of, meaning_of, text_type}
use Rattle.notation.proofs.MeaningLaws.{meaning_more}
use Rattle.rules.specs.Layouts.{EntryKind, of_simples, of_text, simples_of, slashed, type_part, is_worded}
use Rattle.rules.specs.Rules.{bases, exponents, declared_among, exponent_listed, body_rules, first_broken}
use Rattle.book.specs.Format.{Book, Entry, part_type, entry_of, with_entry, add}
use Rattle.book.specs.Kept.{entry_from, entries_at, Shaped, as_simples, as_text, Formed, AllFormed}
use Rattle.rules.proofs.Layouts.{entry_worded, entry_pairs}
use Rattle.rules.proofs.NoFault.{entry_no_fault, slashed_no_fault}

-- What `Formed` says, of a kind and a body.
pub record GoodEntry (kind : ℕ) (names : List Bytes) (body : Bytes) : Type 0 where
  pub worded : is_worded body ≡ true
  pub shaped : Shaped kind (type_part body)
  pub declared : every (declared_among (length names)) (bases (entry_of kind names body).type) ≡ true
  pub listed : every exponent_listed (exponents (entry_of kind names body).type) ≡ true
  pub short : length (entry_of kind names body).type ≤ max_entry_simples

-- Two bytes a simple type.
pub simples_few : (part : Bytes) → length (simples_of part) * 2 ≤ length part
unfolding simples_of
simples_few [] = omega arith
simples_few (number ∷ []) = omega arith
simples_few (number ∷ (exponent ∷ rest)) = let h = simples_few rest in omega arith

-- An entry that breaks no rule, of either kind.
pub good_entry : {kind : ℕ} → EntryKind kind → (body : Bytes) (names : List Bytes) (entries targets : ℕ) → first_broken (body_rules kind body names entries targets) ≡ 0
    → GoodEntry kind names body × (entries < max_entries)
good_entry of_simples body names entries targets h =
    let fine = entry_no_fault body names entries targets h in
    let pairs = entry_pairs body fine.0 in (
      record {
        worded = entry_worded body fine.0;
        shaped = as_simples pairs.0;
        declared = fine.1;
        listed = fine.2;
        short = omega (arith, simples_few (type_part body), pairs.1);
      },
      fine.3,
    )
good_entry of_text body names entries targets h =
    let fine = slashed_no_fault body names entries targets h in (
      record { worded = fine.0; shaped = as_text fine.1 fine.2; declared = fine.3; listed = fine.4; short = fine.5 },
      fine.6,
    )

-- It is put behind the others, whatever its kind.
pub add_entry : {kind : ℕ} → EntryKind kind → (body : Bytes) (B : Book)
    → add kind body B ≡ with_entry B (entry_of kind B.names body)
unfolding add
add_entry of_simples body B = refl
add_entry of_text body B = refl

-- More types declare no less.
declared_more : (n m : ℕ) → n ≤ m → (numbers : List ℕ) → every (declared_among n) numbers ≡ true → every (declared_among m) numbers ≡ true
unfolding every
declared_more n m h [] e = refl
declared_more n m h (x ∷ numbers) e =
    let t = both (ltb x n) (every (declared_among n) numbers) e in
    let small : x < n = ltb-true x n t.0 in
    rw (lt-ltb x m (omega arith), declared_more n m h numbers t.1)

-- The basic types of a type that is declared, one by one.
each_declared : (n : ℕ) (X : PregroupType) → every (declared_among n) (bases X) ≡ true → (x : Simple) → Memᴰ x X → x.base < n
unfolding every
each_declared n [] e x m = absurd (Memᴰ.not-nil m)
each_declared n (y ∷ X) e x m =
    let t = both (ltb y.base n) (every (declared_among n) (bases X)) e in
    ⊎_elim (λ (q : x ≡ y). subst (λ (z : Simple). z.base < n) (sym q) (ltb-true y.base n t.0)) (λ (l : Memᴰ x X). each_declared n X t.1 x l) (Memᴰ.cases_cons m)

module _ (names more : List Bytes) where
  -- A declared type is the same with more names behind.
  tree_more : (o : Option Tree) → every (declared_among (length names)) (bases (meaning_of names o)) ≡ true → meaning_of (names ++ more) o ≡ meaning_of names o
  unfolding meaning_of
  tree_more none h = refl
  tree_more (some T) h = meaning_more names more T (each_declared (length names) (meaning_of names (some T)) h)

  type_more : (kind : ℕ) (part : Bytes) → every (declared_among (length names)) (bases (part_type kind names part)) ≡ true → part_type kind (names ++ more) part ≡ part_type kind names part
  type_more kind part = by (eqb kind slashed)
    where
      by :
          (text : Bool) → every (declared_among (length names)) (bases (cond text (text_type names part) (simples_of part))) ≡ true
          → cond text (text_type (names ++ more) part) (simples_of part) ≡ cond text (text_type names part) (simples_of part)
      by true h = tree_more (tree_of part) h
      by false h = refl

  module _ (bytes : Bytes) where
    from_more : (at : ℕ) → Formed bytes names at → (entry_from bytes (names ++ more) at).type ≡ (entry_from bytes names at).type
    from_more at f = type_more (kind_at bytes at) (type_part (body_at bytes at)) f.declared

    -- Entries stay formed ..
    pub formed_more : (at : ℕ) → Formed bytes names at → Formed bytes (names ++ more) at
    formed_more at f =
        let same = sym (from_more at f) in
        record {
          worded = f.worded;
          shaped = f.shaped;
          declared =
              subst (λ (X : PregroupType). every (declared_among (length (names ++ more))) (bases X) ≡ true) same
              (declared_more (length names) (length (names ++ more)) (omega (arith, length-append names more)) _ f.declared);
          listed = subst (λ (X : PregroupType). every exponent_listed (exponents X) ≡ true) same f.listed;
          short = subst (λ (X : PregroupType). length X ≤ max_entry_simples) same f.short;
        }

    entry_more : (at : ℕ) → Formed bytes names at → entry_from bytes (names ++ more) at ≡ entry_from bytes names at
    entry_more at f = λ i. record { word = (entry_from bytes names at).word; type = from_more at f i }

    all_same : (offsets : List ℕ) → ((i : ℕ) → i < length offsets → Formed bytes names (get_or {A = ℕ} offsets i 0)) → map (entry_from bytes (names ++ more)) offsets ≡ map (entry_from bytes names) offsets
    all_same [] all = refl
    all_same (at ∷ offsets) all =
        ap₂ (λ (e : Entry) (rest : List Entry). e ∷ rest) (entry_more at (all zero (omega arith))) (all_same offsets (λ i h. all (suc i) (omega arith)))

    -- .. and the same.
    pub entries_more : (offsets : List ℕ) (count : ℕ) → count ≤ length offsets → AllFormed bytes names offsets count → entries_at bytes (names ++ more) offsets count ≡ entries_at bytes names offsets count
    entries_more offsets count room all =
        all_same (take count offsets)
        (λ i h.
        let small : i < count = omega (arith, length-take-le count offsets room) in
        subst (λ (at : ℕ). Formed bytes names at) (sym (get_or-take count offsets i 0 small)) (all i small))
