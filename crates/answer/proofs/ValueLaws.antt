-- What is written into an answer: the entries' numbers one by one, and the three parts joined into one list.
use Prim.Native.Nat.{ℕ, suc, ◌+◌, ◌≤◌, ◌<◌}
use native.Mathlib.Omega.{arith}
use mathlib.Core.Path.{◌≡◌, refl, sym, ap, ap₂, ◌∙◌}
use mathlib.Core.List.{List, [], ◌∷◌, ◌++◌, map, map-append, append_assoc}
use lib.ListN.{get_or, length, take, drop, set, length-map, length-append, length-set}
use lib.Seq.{length-take-le, take-suc, drop-cons, append_snoc, set_at, take_at, drop_at, drop-drop}
use Rattle.graph.specs.Graph.{number_at}
use Rattle.answer.specs.Entries.{entry_numbers}

-- There is a number for each chosen slot.
pub entry_numbers_length : (slots chosen : List ℕ) → length (entry_numbers slots chosen) ≡ length chosen
unfolding entry_numbers
entry_numbers_length slots chosen = length-map chosen (λ s. number_at slots s)

-- One slot more is one number more.
entry_numbers_next :
    (slots chosen : List ℕ) (i : ℕ) → i < length chosen
    → entry_numbers slots (take (suc i) chosen) ≡ entry_numbers slots (take i chosen) ++ (number_at slots (get_or chosen i 0) ∷ [])
unfolding entry_numbers
entry_numbers_next slots chosen i h =
    ap (map (λ s. number_at slots s)) (take-suc chosen i 0 h) ∙ map-append (λ s. number_at slots s) (take i chosen) (get_or chosen i 0 ∷ [])

-- A value is written behind t, n and a list of i numbers.
set_behind :
    (before ns : List ℕ) (t n i v : ℕ) → length ns ≡ i → i + 2 < length before
    → set (t ∷ n ∷ (ns ++ drop (i + 2) before)) (i + 2) v ≡ t ∷ n ∷ (ns ++ (v ∷ drop (i + 3) before))
set_behind before ns t n i v size space =
    let two : i + 2 ≡ suc (suc i) = omega arith in
    let three : i + 3 ≡ suc (suc (suc i)) = omega arith in
    rw (two, three)
    (ap (λ (l : List ℕ). t ∷ n ∷ set (ns ++ l) i v) (drop-cons before (suc (suc i)) 0 (omega arith))
    ∙ ap (λ (l : List ℕ). t ∷ n ∷ l) (set_at ns (get_or before (suc (suc i)) 0) (drop (suc (suc (suc i))) before) v i size))

-- After i turns: value 0 is t, value 1 is the number of words, and the numbers of the first i chosen slots stand behind them.
pub record EntriesWritten (t : ℕ) (slots chosen before answer : List ℕ) (i : ℕ) : Type 0 where
  pub within : i ≤ length chosen
  pub size : length answer ≡ length before
  pub written : answer ≡ t ∷ length chosen ∷ (entry_numbers slots (take i chosen) ++ drop (i + 2) before)

-- Before the first turn the first two values are written.
abbrev pub headed : List ℕ → ℕ → ℕ → List ℕ
headed before t n = set (set before 0 t) 1 n

pub headed_length : (before : List ℕ) (t n : ℕ) → length (headed before t n) ≡ length before
headed_length before t n = length-set (set before 0 t) 1 n ∙ length-set before 0 t

pub entries_start :
    (t : ℕ) (slots chosen before : List ℕ) → length chosen + 1 < length before
    → EntriesWritten t slots chosen (headed before t (length chosen)) (headed before t (length chosen)) 0
unfolding entry_numbers
entries_start t slots chosen [] h = absurd (omega arith)
entries_start t slots chosen (x ∷ []) h = absurd (omega arith)
entries_start t slots chosen (x ∷ y ∷ xs) h = record { within = omega arith; size = refl; written = refl }

module _ (t : ℕ) (slots chosen before answer : List ℕ) (i : ℕ) (so_far : EntriesWritten t slots chosen before answer i) where
  pub entries_next :
      (v : ℕ) → i < length chosen → length chosen + 1 < length before → v ≡ number_at slots (get_or chosen i 0)
      → EntriesWritten t slots chosen before (set answer (i + 2) v) (i + 1)
  entries_next v h space e =
      let n = length chosen in
      let ns = entry_numbers slots (take i chosen) in
      let few = entry_numbers_length slots (take i chosen) ∙ length-take-le i chosen (omega arith) in
      let one : i + 1 ≡ suc i = omega arith in
      let three : i + 1 + 2 ≡ i + 3 = omega arith in
      let rest = drop (i + 3) before in
      let more = ap (λ (w : ℕ). ns ++ (w ∷ [])) e ∙ sym (entry_numbers_next slots chosen i h) in
      let next = sym (append_snoc ns v rest) ∙ ap (λ (l : List ℕ). l ++ rest) more in
      record {
        within = omega arith;
        size = length-set answer (i + 2) v ∙ so_far.size;
        written =
            ap (λ (l : List ℕ). set l (i + 2) v) so_far.written
            ∙ set_behind before ns t n i v few (omega arith)
            ∙ rw (three, one) (ap (λ (l : List ℕ). t ∷ n ∷ l) next);
      }

-- The count is written behind the entries.
counted_parts :
    (before ns : List ℕ) (t n m : ℕ) → length ns ≡ n → n + 3 ≤ length before
    → set (t ∷ n ∷ (ns ++ drop (n + 2) before)) (n + 2) m ≡ ((t ∷ n ∷ ns) ++ (m ∷ [])) ++ drop (n + 3) before
counted_parts before ns t n m size space =
    set_behind before ns t n n m size (omega arith) ∙ sym (append_snoc (t ∷ n ∷ ns) m (drop (n + 3) before))

-- Behind a front of k values.
drop_behind : (front rest : List ℕ) (k m : ℕ) → length front ≡ k → drop (k + m) (front ++ rest) ≡ drop m rest
drop_behind front rest k m size = sym (drop-drop m k (front ++ rest)) ∙ ap (drop m) (drop_at front rest k size)

-- The entries, then the count of partners, then the partners: the answer's values, and behind them what stood there.
pub values_written :
    (before entered counted after ns partners : List ℕ) (t n m : ℕ) → length ns ≡ n → n + 3 ≤ length before
    → entered ≡ t ∷ n ∷ (ns ++ drop (n + 2) before) → counted ≡ set entered (n + 2) m
    → after ≡ take (n + 3) counted ++ (partners ++ drop (n + 3 + m) counted)
    → after ≡ (t ∷ n ∷ (ns ++ (m ∷ partners))) ++ drop (n + 3 + m) before
values_written before entered counted after ns partners t n m size space entering counting linking =
    let front = (t ∷ n ∷ ns) ++ (m ∷ []) in
    let behind = drop (n + 3) before in
    let rest = drop (n + 3 + m) before in
    let long : length front ≡ n + 3 = length-append (t ∷ n ∷ ns) (m ∷ []) ∙ omega arith in
    let parts = counting ∙ ap (λ (l : List ℕ). set l (n + 2) m) entering ∙ counted_parts before ns t n m size space in
    let first = ap (take (n + 3)) parts ∙ take_at front behind (n + 3) long in
    let last = ap (drop (n + 3 + m)) parts ∙ drop_behind front behind (n + 3) m long ∙ drop-drop m (n + 3) before in
    linking ∙ ap₂ ◌++◌ first (ap (λ (l : List ℕ). partners ++ l) last)
    ∙ append_snoc (t ∷ n ∷ ns) m (partners ++ rest) ∙ sym (append_assoc (t ∷ n ∷ ns) (m ∷ partners) rest)
