-- What holds of every accepted book: its pairs and its targets, one to eight, name declared basic types only, no name has more than 15 bytes,
-- and its entries, at most 1,024, have at most 12 simple types each, with listed exponents.
use Prim.Native.Nat.{ℕ, zero, suc, ◌≤◌, ◌<◌}
use native.Mathlib.Omega.{arith}
use mathlib.Core.Path.{◌≡◌, refl, sym, subst}
use mathlib.Core.Logic.{⊎_elim}
use mathlib.Core.Bool.{true}
use mathlib.Core.List.Memᴰ
use mathlib.Core.List.{List, [], ◌∷◌, ◌++◌, Memᴰ}
use lib.ListN.{length, get_or, length-append}
use Rattle.order.specs.Closed.{DeclaredPairs}
use Rattle.figures.specs.Limits.{max_entries, max_targets, max_name, max_entry_simples}
use Rattle.format.specs.Records.{Bytes, kind_at, body_at, every}
use Rattle.rules.specs.Rules.{exponents, exponent_listed, body_rules, first_broken}
use Rattle.book.specs.Format.{Book, Entry, accepted, parse, add, entry_of}
use Rattle.book.specs.Check.{GoodUpTo, start, next}
use Rattle.rules.proofs.NoFault.{no_fault_kind, no_fault_body, name_no_fault, pair_no_fault, target_no_fault}
use Rattle.format.proofs.NameLaws.{name_short}
use Rattle.rules.specs.Layouts.{Kind, basic_type, order_pair, entry, target, slashed_entry, kind_number, EntryKind, of_simples, of_text}
use Rattle.book.proofs.GoodEntries.{good_entry, add_entry}
use Rattle.book.proofs.Keeping.{listed_more}
use Rattle.book.proofs.FirstBroken.{fault_clean}
use Rattle.book.proofs.Parsing.{accepted_good}

-- No entry has more than 12 simple types.
abbrev pub AllShort : List Entry → Type 0
AllShort entries = (e : Entry) → Memᴰ e entries → length e.type ≤ max_entry_simples

-- Every exponent of every entry is listed.
abbrev AllListed : List Entry → Type 0
AllListed entries = (e : Entry) → Memᴰ e entries → every exponent_listed (exponents e.type) ≡ true

-- No name has more than 15 bytes.
abbrev AllNamesShort : List Bytes → Type 0
AllNamesShort names = (name : Bytes) → Memᴰ name names → length name ≤ max_name

-- The pairs and the targets are declared among the basic types of a book; names and entries are short, exponents listed, and there are not too
-- many entries and targets.
pub record BookDeclares (B : Book) : Type 0 where
  pub names_short : AllNamesShort B.names
  pub short : AllShort B.entries
  pub exponents_listed : AllListed B.entries
  pub few : length B.entries ≤ max_entries
  pub pairs : DeclaredPairs (length B.names) B.pairs
  pub targets : (t : ℕ) → t < length B.targets → get_or {A = ℕ} B.targets t 0 < length B.names
  pub few_targets : length B.targets ≤ max_targets

-- What holds of all of a list and of one more holds of all with that one behind them.
all_more : {A : Type 0} (P : A → Type 0) (l : List A) (a : A) → P a → ((x : A) → Memᴰ x l → P x) → (x : A) → Memᴰ x (l ++ (a ∷ [])) → P x
all_more P l a one all x m =
    ⊎_elim (λ k. all x k) (λ (k : Memᴰ x (a ∷ [])). subst P (sym (Memᴰ.eq_of_singleton k)) one) (Memᴰ.append_cases l m)

-- What holds of each number of a list and of one more holds of each with that one behind them.
declared_behind : (n : ℕ) (l : List ℕ) (x : ℕ) → x < n → ((t : ℕ) → t < length l → get_or {A = ℕ} l t 0 < n) → (t : ℕ) → t < length (l ++ (x ∷ [])) → get_or {A = ℕ} (l ++ (x ∷ [])) t 0 < n
declared_behind n [] x small all zero h = small
declared_behind n [] x small all (suc t) h = absurd (omega arith)
declared_behind n (y ∷ l) x small all zero h = all zero (omega arith)
declared_behind n (y ∷ l) x small all (suc t) h = declared_behind n l x small (λ u k. all (suc u) (omega arith)) t (omega arith)

entry_declares : {kind : ℕ} → EntryKind kind → (body : Bytes) (B : Book) → first_broken (body_rules kind body B.names (length B.entries) (length B.targets)) ≡ 0
    → BookDeclares B → BookDeclares (add kind body B)
entry_declares {kind} k body B fine s =
    let good = good_entry k body B.names (length B.entries) (length B.targets) fine in
    let entries = B.entries in
    let new = entry_of kind B.names body in
    rw (add_entry k body B)
    (record {
      names_short = s.names_short;
      short = all_more (λ (e : Entry). length e.type ≤ max_entry_simples) entries new good.0.short s.short;
      exponents_listed = all_more (λ (e : Entry). every exponent_listed (exponents e.type) ≡ true) entries new good.0.listed s.exponents_listed;
      few = omega (arith, good.1, length-append entries (new ∷ []));
      pairs = s.pairs;
      targets = s.targets;
      few_targets = s.few_targets;
    })

declares_add : (kind : Kind) (body : Bytes) (B : Book) → first_broken (body_rules (kind_number kind) body B.names (length B.entries) (length B.targets)) ≡ 0
    → BookDeclares B → BookDeclares (add (kind_number kind) body B)
unfolding add
declares_add basic_type body B fine s =
    let n = length-append B.names (body ∷ []) in
    let k : length (body ∷ []) ≡ 1 = refl in
    let layout = (name_no_fault body B.names (length B.entries) (length B.targets) fine).0 in
    record {
      names_short = all_more (λ (name : Bytes). length name ≤ max_name) B.names body (name_short body layout) s.names_short;
      short = s.short;
      exponents_listed = s.exponents_listed;
      few = s.few;
      pairs = λ p q m. let t = s.pairs p q m in (omega arith, omega arith);
      targets = λ t h. let l = s.targets t h in omega arith;
      few_targets = s.few_targets;
    }
declares_add order_pair body B fine s =
    let two = pair_no_fault body B.names (length B.entries) (length B.targets) fine in
    record {
      names_short = s.names_short;
      short = s.short;
      exponents_listed = s.exponents_listed;
      few = s.few;
      pairs = λ p q m.
          ⊎_elim (λ l. s.pairs p q l) (λ e. (omega (arith, e.0, two.1), omega (arith, e.1, two.2)))
          ((listed_more B.pairs (get_or {A = ℕ} body 0 0) (get_or {A = ℕ} body 1 0) p q).0 m);
      targets = s.targets;
      few_targets = s.few_targets;
    }
declares_add entry body B fine s = entry_declares of_simples body B fine s
declares_add target body B fine s =
    let one = target_no_fault body B.names (length B.entries) (length B.targets) fine in
    record {
      names_short = s.names_short;
      short = s.short;
      exponents_listed = s.exponents_listed;
      few = s.few;
      pairs = s.pairs;
      targets = declared_behind (length B.names) B.targets (get_or {A = ℕ} body 0 0) one.1 s.targets;
      few_targets = omega (arith, one.2, length-append B.targets (get_or {A = ℕ} body 0 0 ∷ []));
    }
declares_add slashed_entry body B fine s = entry_declares of_text body B fine s

-- Good records declare what they name.
pub good_declares : {bytes : Bytes} {at : ℕ} {B : Book} → GoodUpTo bytes at B → BookDeclares B
good_declares start =
    record {
      names_short = λ name m. absurd (Memᴰ.not-nil m);
      short = λ e m. absurd (Memᴰ.not-nil m);
      exponents_listed = λ e m. absurd (Memᴰ.not-nil m);
      few = omega arith;
      pairs = λ p q m. absurd (Memᴰ.not-nil m);
      targets = λ t h. absurd (omega arith);
      few_targets = omega arith;
    }
good_declares {bytes} (next {at} {B} good h never) =
    let clean = fault_clean bytes at B never in
    let k = no_fault_kind (body_at bytes at) B.names (length B.entries) (length B.targets) (kind_at bytes at) (no_fault_body bytes at _ _ _ clean refl) in
    subst (λ (number : ℕ). BookDeclares (add number (body_at bytes at) B)) (sym k.1) (declares_add k.0 (body_at bytes at) B (no_fault_body bytes at _ _ _ clean k.1) (good_declares good))

pub accepted_declares : (bytes : Bytes) (B : Book) → parse bytes ≡ accepted B → BookDeclares B
accepted_declares bytes B e = good_declares (accepted_good bytes B e).0

pub accepted_some_target : (bytes : Bytes) (B : Book) → parse bytes ≡ accepted B → 0 < length B.targets
accepted_some_target bytes B e = (accepted_good bytes B e).1
