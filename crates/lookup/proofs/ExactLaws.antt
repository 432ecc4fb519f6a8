-- What the definition of a word's entries gives are exactly the word's entries, all of them, in the book's order; and nothing else is.
use Prim.Native.Nat.{ℕ, ◌+◌, ◌≤◌, ◌<◌}
use native.Mathlib.Omega.{arith}
use mathlib.Core.Path.{◌≡◌, refl, sym, ap, ◌∙◌}
use mathlib.Core.Bool.{Bool, true, false, cond}
use mathlib.Core.Logic.{◌⊎◌, inl, inr, ⊎_elim}
use mathlib.Core.List.Memᴰ
use mathlib.Core.List.{List, [], ◌∷◌, Memᴰ}
use Rattle.linking.specs.Reading.{NumberedEntry}
use Rattle.linking.specs.Ascending.{Ascending, empty, more}
use Rattle.format.specs.Records.{Bytes}
use Rattle.book.specs.Format.{Entry}
use Rattle.capitals.specs.Capitals.{same_word}
use Rattle.lookup.specs.Entries.{entries_from}
use Rattle.lookup.specs.Found.{Stands, first, later, IsEntryOf, FindsAll}

-- Every entry's number is n or more.
abbrev NumbersFrom : ℕ → List NumberedEntry → Type 0
NumbersFrom n es = (f : NumberedEntry) → Memᴰ f es → n ≤ f.number

numbers_cons : (n : ℕ) (e : NumberedEntry) (es : List NumberedEntry) → n ≤ e.number → NumbersFrom n es → NumbersFrom n (e ∷ es)
numbers_cons n e es h k f m = ⊎_elim (λ q. let same = ap (λ (x : NumberedEntry). x.number) q in omega arith) (λ l. k f l) (Memᴰ.cases_cons m)

numbers_from : (n : ℕ) (entries : List Entry) (word : Bytes) → NumbersFrom n (entries_from n entries word)
unfolding entries_from
numbers_from n [] word = λ f m. absurd (Memᴰ.not-nil m)
numbers_from n (e ∷ entries) word = go (same_word e.word word) (λ f m. let h = numbers_from (n + 1) entries word f m in omega arith)
  where
    rest : List NumberedEntry
    rest = entries_from (n + 1) entries word

    go : (b : Bool) → NumbersFrom n rest → NumbersFrom n (cond b (record { number = n; type = e.type } ∷ rest) rest)
    go true ahead = numbers_cons n (record { number = n; type = e.type }) rest (omega arith) ahead
    go false ahead = ahead

pub entries_ascend : (n : ℕ) (entries : List Entry) (word : Bytes) → Ascending (entries_from n entries word)
unfolding entries_from
entries_ascend n [] word = empty
entries_ascend n (e ∷ entries) word = go (same_word e.word word) (entries_ascend (n + 1) entries word)
  where
    rest : List NumberedEntry
    rest = entries_from (n + 1) entries word

    go : (b : Bool) → Ascending rest → Ascending (cond b (record { number = n; type = e.type } ∷ rest) rest)
    go true a = more {e = record { number = n; type = e.type }} (λ f m. let h = numbers_from (n + 1) entries word f m in omega arith) a
    go false a = a

-- The entry at place m of those that are numbered from n on.
record IsFrom (n : ℕ) (entries : List Entry) (word : Bytes) (f : NumberedEntry) : Type 0 where
  place : ℕ
  number : f.number ≡ n + place
  entry : Entry
  stands : Stands entry place entries
  same : same_word entry.word word ≡ true
  type : f.type ≡ entry.type

is_later : {n : ℕ} {d : Entry} {entries : List Entry} {word : Bytes} {f : NumberedEntry} → IsFrom (n + 1) entries word f → IsFrom n (d ∷ entries) word f
is_later i = record { place = i.place + 1; number = omega (arith, i.number); entry = i.entry; stands = later i.stands; same = i.same; type = i.type }

own_from : (n : ℕ) (entries : List Entry) (word : Bytes) (f : NumberedEntry) → Memᴰ f (entries_from n entries word) → IsFrom n entries word f
unfolding entries_from
own_from n [] word f m = absurd (Memᴰ.not-nil m)
own_from n (e ∷ entries) word f m = go (same_word e.word word) refl (λ l. is_later (own_from (n + 1) entries word f l)) m
  where
    rest : List NumberedEntry
    rest = entries_from (n + 1) entries word

    go : (b : Bool) → same_word e.word word ≡ b → (Memᴰ f rest → IsFrom n (e ∷ entries) word f)
        → Memᴰ f (cond b (record { number = n; type = e.type } ∷ rest) rest) → IsFrom n (e ∷ entries) word f
    go false s behind l = behind l
    go true s behind l =
        ⊎_elim
        (λ q. record { place = 0; number = let same = ap (λ (x : NumberedEntry). x.number) q in omega arith; entry = e; stands = first; same = s; type = ap (λ (x : NumberedEntry). x.type) q })
        behind
        (Memᴰ.cases_cons l)

all_from : (base m : ℕ) (entries : List Entry) (word : Bytes) {e : Entry} → Stands e m entries → same_word e.word word ≡ true
    → Memᴰ (record { number = base + m; type = e.type }) (entries_from base entries word)
unfolding entries_from
all_from base m [] word x s = elim x [ ]
all_from base m (e ∷ entries) word first s = let none : base + 0 ≡ base = omega arith in rw (s, none) (Memᴰ.head refl)
all_from base m (d ∷ entries) word {e} (later {n} t) s = go (same_word d.word word) (rw moved at (all_from (base + 1) n entries word t s))
  where
    moved : base + 1 + n ≡ base + (n + 1)
    moved = omega arith

    rest : List NumberedEntry
    rest = entries_from (base + 1) entries word

    go : (b : Bool) → Memᴰ (record { number = base + (n + 1); type = e.type }) rest
        → Memᴰ (record { number = base + (n + 1); type = e.type }) (cond b (record { number = base; type = d.type } ∷ rest) rest)
    go true l = Memᴰ.tail l
    go false l = l

-- The definition finds exactly the word's entries ..
pub finds_all : (entries : List Entry) (word : Bytes) → FindsAll entries word (entries_from 0 entries word)
finds_all entries word = record { own = own; all = all; in_order = entries_ascend 0 entries word }
  where
    own : (f : NumberedEntry) → Memᴰ f (entries_from 0 entries word) → IsEntryOf entries word f
    own f m =
        let i = own_from 0 entries word f m in
        let place : i.place ≡ f.number = omega (arith, i.number) in
        record { entry = i.entry; stands = rw place at i.stands; same = i.same; type = i.type }

    all : (f : NumberedEntry) → IsEntryOf entries word f → Memᴰ f (entries_from 0 entries word)
    all f i = let none : 0 + f.number ≡ f.number = omega arith in rw (none, sym i.type) at (all_from 0 f.number entries word i.stands i.same)

-- Lists that ascend and have the same entries are the same.
ascending_one : (es fs : List NumberedEntry) → Ascending es → Ascending fs → ((f : NumberedEntry) → Memᴰ f es → Memᴰ f fs)
    → ((f : NumberedEntry) → Memᴰ f fs → Memᴰ f es) → es ≡ fs
ascending_one [] [] a b h k = refl
ascending_one [] (f ∷ fs) a b h k = absurd (Memᴰ.not-nil (k f (Memᴰ.head refl)))
ascending_one (e ∷ es) [] a b h k = absurd (Memᴰ.not-nil (h e (Memᴰ.head refl)))
ascending_one (e ∷ es) (f ∷ fs) (more low a) (more high b) h k =
    go (ascending_one es fs a b) (Memᴰ.cases_cons (h e (Memᴰ.head refl))) (Memᴰ.cases_cons (k f (Memᴰ.head refl)))
  where
    behind : {x y : NumberedEntry} {xs ys : List NumberedEntry} → ((g : NumberedEntry) → Memᴰ g xs → x.number < g.number) → x ≡ y
        → ((g : NumberedEntry) → Memᴰ g (x ∷ xs) → Memᴰ g (y ∷ ys)) → (g : NumberedEntry) → Memᴰ g xs → Memᴰ g ys
    behind above q into g m =
        ⊎_elim (λ p. let same = ap (λ (z : NumberedEntry). z.number) (p ∙ sym q) in absurd (omega (arith, above g m))) (λ l. l) (Memᴰ.cases_cons (into g (Memᴰ.tail m)))

    go : (((g : NumberedEntry) → Memᴰ g es → Memᴰ g fs) → ((g : NumberedEntry) → Memᴰ g fs → Memᴰ g es) → es ≡ fs)
        → (e ≡ f) ⊎ Memᴰ e fs → (f ≡ e) ⊎ Memᴰ f es → e ∷ es ≡ f ∷ fs
    go rest (inl q) d = ap (λ (x : NumberedEntry). x ∷ es) q ∙ ap (λ (l : List NumberedEntry). f ∷ l) (rest (behind low q h) (behind high (sym q) k))
    go rest (inr l) (inl q) = let same = ap (λ (x : NumberedEntry). x.number) q in absurd (omega (arith, high e l))
    go rest (inr l) (inr m) = absurd (omega (arith, high e l, low f m))

-- .. and no other list has them so.
pub finds_one : (entries : List Entry) (word : Bytes) (found : List NumberedEntry) → FindsAll entries word found → found ≡ entries_from 0 entries word
finds_one entries word found t =
    let d = finds_all entries word in
    ascending_one found (entries_from 0 entries word) t.in_order d.in_order (λ f m. d.all f (t.own f m)) (λ f m. t.all f (d.own f m))
