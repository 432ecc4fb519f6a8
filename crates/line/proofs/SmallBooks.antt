-- Two books that differ only in the case of their entries' words: both are refused alike, or both are accepted and hold the same but for that case.
use Prim.Native.Nat.{ℕ, zero, suc, ◌+◌}
use native.Mathlib.Omega.{arith}
use mathlib.Core.Path.{◌≡◌, refl, sym, ap, ap₂, subst, ◌∙◌}
use mathlib.Core.Bool.{Bool, true, false, cond, ◌||◌}
use mathlib.Core.Option.{Option, none, some}
use mathlib.Core.List.{List, [], ◌∷◌, ◌++◌, map-append}
use lib.Dec.{eqb, ltb}
use lib.ListN.{length, get_or, drop, length-append, length-map}
use Rattle.figures.specs.Limits.{max_book}
use Rattle.figures.specs.Refusals.{book_too_long, cut_short, no_target}
use Rattle.format.specs.Records.{Bytes, every, between, head_length, two_bytes, kind_at, body_at, next_at, record_of}
use Rattle.rules.specs.Layouts.{Kind, basic_type, order_pair, entry, target, slashed_entry, kind_number, kind_of, entry_body, is_worded, is_entry, EntryKind, of_simples, of_text}
use Rattle.rules.specs.Rules.{body_rules, record_rules, first_broken}
use Rattle.order.specs.Closed.{Pair}
use Rattle.book.specs.Format.{Book, Entry, Parsed, accepted, refused, entry_of, with_entry, add_kind, add, next_rules, with_next, ended, records_from, parse}
use Rattle.format.proofs.RecordLaws.{size_first, kind_first, body_first, rest_first, size_at, kind_at_lem, body_at_lem, rest_at}
use Rattle.rules.proofs.EntryLaws.{word_part, type_part_lem}
use Rattle.book.proofs.GoodEntries.{add_entry}
use Rattle.capitals.specs.Capitals.{small_bytes}
use Rattle.lookup.specs.Respelt.{DifferInCase, same_rest, same_record, respelt}
use Rattle.capitals.proofs.CapitalLaws.{small_every, same_exactly, same_length}
use Rattle.line.proofs.SmallLines.{small_entry, small_book}

-- What a list of bytes is as a book, with the capitals of words made small.
abbrev pub small_parsed : Parsed → Parsed
small_parsed (accepted B) = accepted (small_book B)
small_parsed (refused number value) = refused number value

-- Bodies of one kind that differ only in the case of an entry's word.
data SameBody : ℕ → Bytes → Bytes → Type 0 where
  equal : {kind : ℕ} {body : Bytes} → SameBody kind body body
  recased : {kind : ℕ} → EntryKind kind → (v w type : Bytes) → small_bytes v ≡ small_bytes w → SameBody kind (entry_body v type) (entry_body w type)

-- What two such books have at an offset.
record Step (a b : Bytes) (at : ℕ) : Type 0 where
  size : two_bytes a at ≡ two_bytes b at
  kind : kind_at a at ≡ kind_at b at
  body : SameBody (kind_at a at) (body_at a at) (body_at b at)
  rest : DifferInCase (drop (next_at a at) a) (drop (next_at a at) b)

first_step : {kind : ℕ} {p q : Bytes} → SameBody kind p q → length p ≡ length q → {a b : Bytes} → DifferInCase a b → Step (record_of kind p ++ a) (record_of kind q ++ b) 0
first_step {kind} {p} {q} s e {a} {b} r = record {
  size = size;
  kind = kind_first kind p a ∙ sym (kind_first kind q b);
  body = rw (kind_first kind p a, body_first kind p a, body_first kind q b) s;
  rest = rw (rest_first kind p a, ap (λ (n : ℕ). drop (0 + 4 + n) (record_of kind q ++ b)) size ∙ rest_first kind q b) r;
}
  where
    size : two_bytes (record_of kind p ++ a) 0 ≡ two_bytes (record_of kind q ++ b) 0
    size = size_first kind p a ∙ e ∙ sym (size_first kind q b)

body_length : (v w type : Bytes) → small_bytes v ≡ small_bytes w → length (entry_body v type) ≡ length (entry_body w type)
body_length v w type e = ap suc (length-append v type ∙ ap (λ (n : ℕ). n + length type) (same_length v w e) ∙ sym (length-append w type))

step_first : {x y : Bytes} → DifferInCase x y → Step x y 0
step_first same_rest = record { size = refl; kind = refl; body = equal; rest = same_rest }
step_first (same_record kind body r) = first_step {kind = kind} {p = body} equal refl r
step_first (respelt k v w type same r) =
    let e = (same_exactly v w).0 same in
    first_step {p = entry_body v type} {q = entry_body w type} (recased k v w type e) (body_length v w type e) r

step : (a b : Bytes) (at : ℕ) → DifferInCase (drop at a) (drop at b) → Step a b at
step a b at r =
    let s = step_first r in
    record {
      size = sym (size_at a at) ∙ s.size ∙ size_at b at;
      kind = sym (kind_at_lem a at) ∙ s.kind ∙ kind_at_lem b at;
      body = rw (kind_at_lem a at, body_at_lem a at, body_at_lem b at) at s.body;
      rest = rw (rest_at a at a, rest_at a at b) at s.rest;
    }

module _ (v w type : Bytes) (e : small_bytes v ≡ small_bytes w) where
  every_same : every (between 33 126) v ≡ every (between 33 126) w
  every_same =
      sym (small_every 33 126 v (omega arith) (omega arith)) ∙ ap (every (between 33 126)) e ∙ small_every 33 126 w (omega arith) (omega arith)

  worded_same : is_worded (entry_body v type) ≡ is_worded (entry_body w type)
  unfolding is_worded
  worded_same = rw (word_part v type, word_part w type, body_length v w type e, same_length v w e, every_same)

  layout_same : is_entry (entry_body v type) ≡ is_entry (entry_body w type)
  unfolding is_entry
  layout_same = rw (worded_same, type_part_lem v type, type_part_lem w type)

  entry_same : (kind : ℕ) (names : List Bytes) → small_entry (entry_of kind names (entry_body v type)) ≡ small_entry (entry_of kind names (entry_body w type))
  entry_same kind names = rw (word_part v type, word_part w type, type_part_lem v type, type_part_lem w type, e)

-- The rules see no difference ..
rules_same : {kind : ℕ} {p q : Bytes} → SameBody kind p q → (names : List Bytes) (entries targets : ℕ) → body_rules kind p names entries targets ≡ body_rules kind q names entries targets
unfolding body_rules
rules_same equal names entries targets = refl
rules_same (recased of_simples v w type e) names entries targets = rw (layout_same v w type e, type_part_lem v type, type_part_lem w type)
rules_same (recased of_text v w type e) names entries targets = rw (worded_same v w type e, type_part_lem v type, type_part_lem w type)

-- .. and the books stay the same but for case with a record more.
with_entry_small : (B : Book) (x : Entry) → small_book (with_entry B x) ≡ with_entry (small_book B) (small_entry x)
with_entry_small B x =
    ap (λ (es : List Entry). record { names = B.names; pairs = B.pairs; entries = es; targets = B.targets }) (map-append small_entry B.entries (x ∷ []))

-- Two books that are the same but for case.
record SameBook (B C : Book) : Type 0 where
  small : small_book B ≡ small_book C

with_entry_same : {B C : Book} → SameBook B C → (x y : Entry) → small_entry x ≡ small_entry y → SameBook (with_entry B x) (with_entry C y)
with_entry_same {B} {C} s x y e = record { small = with_entry_small B x ∙ ap₂ with_entry s.small e ∙ sym (with_entry_small C y) }

-- An entry's bytes mean the same in both books, since their names are the same.
entry_alike : {B C : Book} → SameBook B C → (kind : ℕ) (body : Bytes) → small_entry (entry_of kind B.names body) ≡ small_entry (entry_of kind C.names body)
entry_alike t kind body = ap (λ (S : Book). small_entry (entry_of kind S.names body)) t.small

add_equal : (kind : Kind) (body : Bytes) {B C : Book} → SameBook B C → SameBook (add_kind kind body B) (add_kind kind body C)
add_equal basic_type body t = record { small = ap (λ (S : Book). record { names = S.names ++ (body ∷ []); pairs = S.pairs; entries = S.entries; targets = S.targets }) t.small }
add_equal order_pair body t =
    let pair : Pair = record { lower = get_or {A = ℕ} body 0 0; upper = get_or {A = ℕ} body 1 0 } in
    record { small = ap (λ (S : Book). record { names = S.names; pairs = S.pairs ++ (pair ∷ []); entries = S.entries; targets = S.targets }) t.small }
add_equal entry body {B} {C} t =
    with_entry_same t (entry_of (kind_number entry) B.names body) (entry_of (kind_number entry) C.names body) (entry_alike t (kind_number entry) body)
add_equal target body t =
    record { small = ap (λ (S : Book). record { names = S.names; pairs = S.pairs; entries = S.entries; targets = S.targets ++ (get_or {A = ℕ} body 0 0 ∷ []) }) t.small }
add_equal slashed_entry body {B} {C} t =
    with_entry_same t (entry_of (kind_number slashed_entry) B.names body) (entry_of (kind_number slashed_entry) C.names body) (entry_alike t (kind_number slashed_entry) body)

add_same : {kind : ℕ} {p q : Bytes} → SameBody kind p q → {B C : Book} → SameBook B C → SameBook (add kind p B) (add kind q C)
unfolding add
add_same {kind} {p} equal {B} {C} t = go (kind_of kind)
  where
    go : (o : Option Kind) → SameBook (elim o [ none ↦ B | some k ↦ add_kind k p B ]) (elim o [ none ↦ C | some k ↦ add_kind k p C ])
    go none = t
    go (some k) = add_equal k p t
add_same {kind} (recased k v w type e) {B} {C} t =
    rw (add_entry k (entry_body v type) B, add_entry k (entry_body w type) C)
    (with_entry_same t (entry_of kind B.names (entry_body v type)) (entry_of kind C.names (entry_body w type))
    (entry_alike t kind (entry_body v type) ∙ entry_same v w type e kind C.names))

targets_same : {B C : Book} → SameBook B C → B.targets ≡ C.targets
targets_same t = ap (λ (S : Book). S.targets) t.small

module _ {a b : Bytes} {at : ℕ} (s : Step a b at) {B C : Book} (t : SameBook B C) where
  rules_at : body_rules (kind_at a at) (body_at a at) B.names (length B.entries) (length B.targets) ≡ body_rules (kind_at b at) (body_at b at) C.names (length C.entries) (length C.targets)
  rules_at =
      rules_same s.body B.names (length B.entries) (length B.targets)
      ∙ rw (s.kind, ap (λ (S : Book). S.names) t.small, entries, targets_same t)
    where
      entries : length B.entries ≡ length C.entries
      entries = sym (length-map B.entries small_entry) ∙ ap (λ (S : Book). length S.entries) t.small ∙ length-map C.entries small_entry

  cut_at : length a ≡ length b → ltb (length a) (at + head_length) || ltb (length a) (next_at a at) ≡ ltb (length b) (at + head_length) || ltb (length b) (next_at b at)
  cut_at lengths = rw (lengths, s.size)

  fault_same : length a ≡ length b → first_broken (next_rules a at B) ≡ first_broken (next_rules b at C)
  unfolding record_rules
  fault_same lengths = ap first_broken (ap₂ (λ (t : Bool) (rules : List (ℕ × Bool)). (cut_short, t) ∷ rules) (cut_at lengths) rules_at)

  next_same : SameBook (with_next a at B) (with_next b at C)
  next_same = rw (← s.kind) (add_same s.body t)

-- Both are refused alike, or accepted and the same but for case.
pub record SameParsed (p q : Parsed) : Type 0 where
  pub small : small_parsed p ≡ small_parsed q

ended_same : (a b : Bytes) {B C : Book} → length a ≡ length b → SameBook B C → SameParsed (ended a B) (ended b C)
unfolding ended
ended_same a b {B} {C} lengths t = rw (ap length (targets_same t), lengths) (go (eqb (length C.targets) 0))
  where
    go : (u : Bool) → SameParsed (cond u (refused no_target (length b)) (accepted B)) (cond u (refused no_target (length b)) (accepted C))
    go true = record { small = refl }
    go false = record { small = ap accepted t.small }

one_of : {p q x y : Parsed} (u v : Bool) (n m : ℕ) → SameParsed p q → SameParsed x y → SameParsed (cond u (cond v p (refused n m)) x) (cond u (cond v q (refused n m)) y)
one_of true true n m f g = f
one_of true false n m f g = record { small = refl }
one_of false v n m f g = g

records_same : (more : ℕ) (a b : Bytes) (at : ℕ) {B C : Book} → length a ≡ length b → DifferInCase (drop at a) (drop at b) → SameBook B C
    → SameParsed (records_from more a at B) (records_from more b at C)
unfolding records_from
records_same zero a b at lengths r t = ended_same a b lengths t
records_same (suc more) a b at {B} {C} lengths r t =
    let s = step a b at r in
    let next = records_same more a b (next_at a at) lengths s.rest (next_same s t) in
    let place : ℕ → Type 0 = λ n. SameParsed (records_from more a (next_at a at) (with_next a at B)) (records_from more b (at + head_length + n) (with_next b at C)) in
    rw (lengths, fault_same s t lengths)
    (one_of (ltb at (length b)) (eqb (first_broken (next_rules b at C)) 0) (first_broken (next_rules b at C)) at (subst place s.size next) (ended_same a b lengths t))

same_size : {a b : Bytes} → DifferInCase a b → length a ≡ length b
same_size same_rest = refl
same_size (same_record kind body {a} {b} r) = length-append (record_of kind body) a ∙ ap (λ (n : ℕ). length (record_of kind body) + n) (same_size r) ∙ sym (length-append (record_of kind body) b)
same_size (respelt {kind} k v w type {a} {b} h r) =
    length-append (record_of kind (entry_body v type)) a ∙ ap₂ (λ (n m : ℕ). suc (suc (suc (suc n))) + m) (body_length v w type ((same_exactly v w).0 h)) (same_size r) ∙ sym (length-append (record_of kind (entry_body w type)) b)

pub parse_same : (a b : Bytes) → DifferInCase a b → SameParsed (parse a) (parse b)
unfolding parse
parse_same a b r =
    rw (same_size r) (go (ltb max_book (length b)) (records_same (length b) a b 0 (same_size r) r (record { small = refl })))
  where
    go : (u : Bool) {p q : Parsed} → SameParsed p q → SameParsed (cond u (refused book_too_long 0) p) (cond u (refused book_too_long 0) q)
    go true s = record { small = refl }
    go false s = s
