-- What is kept behind a record that breaks no rule stands for the book read so far with the record added: a law for each kind of record.
use Prim.Native.Nat.{ℕ, zero, suc, ◌+◌, ◌≤◌, ◌<◌}
use native.Mathlib.Numerals.{add-one}
use native.Mathlib.Omega.{arith}
use native.Mathlib.Decide.{ℕ_discrete}
use mathlib.Core.Path.{◌≡◌, refl, sym, ap, ap₂, subst, ◌∙◌}
use mathlib.Core.Logic.{◌↔◌, ◌⊎◌, inl, inr, ⊎_elim}
use mathlib.Core.Bool.{Bool, true, false, cond, true≢false}
use mathlib.Core.List.Memᴰ
use mathlib.Core.List.{List, [], ◌∷◌, ◌++◌, map, map-append, Memᴰ}
use lib.ListN.{length, get_or, take, set, length-map, length-set}
use lib.Seq.{length-take-le, take-set-le, take-suc-set, get_or-set_same, get_or-set_other}
use borrow.Author.Tests.{lt-ltb}
use Rattle.bits.specs.Bits.{Has, Members}
use Rattle.pregroup.specs.Held.{InRows}
use Rattle.order.specs.Closed.{Pair, Within, Listed}
use Rattle.figures.specs.Limits.{max_types, max_entries, max_targets, max_name}
use Rattle.order.specs.Rows.{Hold}
use Rattle.format.specs.Records.{Bytes, same_bytes, body_at, next_at, kind_at, bodies_at, Whole}
use Rattle.format.specs.Names.{number_of, is_among, Named, Keeping}
use Rattle.format.proofs.NameLaws.{equal_same, bodies_length, bodies_at_lem, name_short}
use Rattle.notation.proofs.Counting.{name_form}
use Rattle.rules.specs.Rules.{body_rules, record_rules, first_broken}
use Rattle.book.specs.Format.{Book, Entry, add, with_next}
use Rattle.book.specs.Kept.{entry_from, entries_at, Formed, AllFormed, Store, store, EntriesSound, PairsSound, TargetsSound, Sound, Keeps, Taking, next_fault}
use Rattle.book.specs.declared.Progress.{Progress}
use Rattle.rules.specs.Layouts.{basic_type, order_pair, target, kind_number, EntryKind}
use Rattle.rules.proofs.KindLaws.{Unlisted}
use Rattle.book.proofs.GoodEntries.{good_entry, add_entry, formed_more, entries_more}
use Rattle.rules.proofs.NoFault.{no_fault_whole, no_fault_body, name_no_fault, pair_no_fault, target_no_fault, no_fault_kind}

-- What holds of each of the first and of a new one holds of the first with it behind them.
each_more : (P : ℕ → Type 0) (l : List ℕ) (n x : ℕ) → n < length l → P x → ((i : ℕ) → i < n → P (get_or {A = ℕ} l i 0)) → (i : ℕ) → i < n + 1 → P (get_or {A = ℕ} (set l n x) i 0)
each_more P l n x room new all i h = go (ℕ_discrete i n)
  where
    go : Dec (i ≡ n) → P (get_or {A = ℕ} (set l n x) i 0)
    go (yes e) = rw (e, get_or-set_same l n x 0 room) new
    go (no d) = rw (get_or-set_other l n i x 0 d) (all i (omega (arith, d)))

-- One offset more.
whole_more : (bytes : Bytes) (offsets : List ℕ) (n at : ℕ) → n < length offsets → next_at bytes at ≤ length bytes → Whole bytes offsets n → Whole bytes (set offsets n at) (n + 1)
whole_more bytes offsets n at room whole w =
    record { room = omega (arith, length-set offsets n at); whole = each_more (λ m. next_at bytes m ≤ length bytes) offsets n at room whole w.whole }

take_more : (l : List ℕ) (n x : ℕ) → n < length l → take (n + 1) (set l n x) ≡ take n l ++ (x ∷ [])
take_more l n x room = rw (add-one n) (take-suc-set l n x room)

-- A name that stands among others is found among them.
among_place : (d : Bytes) (names : List Bytes) (name : Bytes) (i : ℕ) → i < length names → name ≡ get_or names i d → number_of names name < length names
unfolding number_of
among_place d [] name i h e = absurd (omega arith)
among_place d (n ∷ names) name zero h e = rw (equal_same name n e) (omega arith)
among_place d (n ∷ names) name (suc i) h e = go (same_bytes name n) (among_place d names name i (omega arith) e)
  where
    go : (t : Bool) → number_of names name < length names → cond t 0 (suc (number_of names name)) < suc (length names)
    go true l = omega arith
    go false l = omega arith

-- One name more. What is kept of it but its offset stands behind all offsets.
module _ (bytes : Bytes) (offsets : List ℕ) (n at : ℕ) (offsets' : List ℕ) (k : Keeping offsets n at offsets') (few : n < max_types) (named : Named bytes offsets n) where
  kept_length : length offsets' ≡ length offsets
  kept_length = ap length k.kept ∙ length-set (set offsets n at) k.place n ∙ length-set offsets n at

  kept_at : (i : ℕ) → i < n + 1 → get_or {A = ℕ} offsets' i 0 ≡ get_or {A = ℕ} (set offsets n at) i 0
  kept_at i h = ap (λ (l : List ℕ). get_or {A = ℕ} l i 0) k.kept ∙ get_or-set_other (set offsets n at) k.place i n 0 (λ e. omega (arith, k.behind))

  kept_new : get_or {A = ℕ} offsets' n 0 ≡ at
  kept_new = kept_at n (omega arith) ∙ get_or-set_same offsets n at 0 (omega (arith, named.places))

  kept_old : (i : ℕ) → i < n → get_or {A = ℕ} offsets' i 0 ≡ get_or {A = ℕ} offsets i 0
  kept_old i h = kept_at i (omega arith) ∙ get_or-set_other offsets n i at 0 (λ e. omega arith)

  kept_bodies : bodies_at bytes offsets' (n + 1) ≡ bodies_at bytes offsets n ++ (body_at bytes at ∷ [])
  kept_bodies =
      ap (λ (l : List ℕ). bodies_at bytes l (n + 1)) k.kept
      ∙ ap (map (body_at bytes)) (take-set-le (n + 1) (set offsets n at) k.place n (omega (arith, k.behind)))
      ∙ ap (map (body_at bytes)) (take_more offsets n at (omega (arith, named.places)))
      ∙ map-append (body_at bytes) (take n offsets) (at ∷ [])

  -- A name that is not used yet is that of no kept record ..
  unused_fresh : is_among (bodies_at bytes offsets n) (body_at bytes at) ≡ false → (i : ℕ) → i < n → body_at bytes at ≡ body_at bytes (get_or {A = ℕ} offsets i 0) → ⊥
  unused_fresh unused i h e =
      let all = bodies_length bytes offsets n named.whole.room in
      let used = among_place (body_at bytes 0) (bodies_at bytes offsets n) (body_at bytes at) i (omega arith) (e ∙ sym (bodies_at_lem bytes offsets n i h)) in
      true≢false (sym (lt-ltb _ _ used) ∙ unused)

  -- .. so with it all names are different.
  still_different :
      is_among (bodies_at bytes offsets n) (body_at bytes at) ≡ false → (i j : ℕ) → i < n + 1 → j < n + 1
      → body_at bytes (get_or {A = ℕ} offsets' i 0) ≡ body_at bytes (get_or {A = ℕ} offsets' j 0) → i ≡ j
  still_different unused i j h l e = go (ℕ_discrete i n) (ℕ_discrete j n)
    where
      new : (i : ℕ) → i ≡ n → body_at bytes (get_or {A = ℕ} offsets' i 0) ≡ body_at bytes at
      new i q = ap (λ (m : ℕ). body_at bytes (get_or {A = ℕ} offsets' m 0)) q ∙ ap (body_at bytes) kept_new

      old : (i : ℕ) → i < n → body_at bytes (get_or {A = ℕ} offsets' i 0) ≡ body_at bytes (get_or {A = ℕ} offsets i 0)
      old i q = ap (body_at bytes) (kept_old i q)

      go : Dec (i ≡ n) → Dec (j ≡ n) → i ≡ j
      go (yes a) (yes b) = a ∙ sym b
      go (yes a) (no b) = let small : j < n = omega (arith, b) in absurd (unused_fresh unused j small (sym (new i a) ∙ e ∙ old j small))
      go (no a) (yes b) = let small : i < n = omega (arith, a) in absurd (unused_fresh unused i small (sym (new j b) ∙ sym e ∙ old i small))
      go (no a) (no b) =
          let left : i < n = omega (arith, a) in
          let right : j < n = omega (arith, b) in
          named.different i j left right (sym (old i left) ∙ e ∙ old j right)

  named_more : next_at bytes at ≤ length bytes → is_among (bodies_at bytes offsets n) (body_at bytes at) ≡ false → Named bytes offsets' (n + 1)
  named_more whole unused =
      let more = whole_more bytes offsets n at (omega (arith, named.places)) whole named.whole in
      record {
        whole = record {
          room = omega (arith, kept_length, named.places);
          whole = λ i h. subst (λ (m : ℕ). next_at bytes m ≤ length bytes) (sym (kept_at i h)) (more.whole i h);
        };
        few = omega arith;
        places = omega (arith, kept_length, named.places);
        different = still_different unused;
      }

-- One entry more.
entries_sound : (bytes : Bytes) (names : List Bytes) (offsets : List ℕ) (n at : ℕ) → n < max_entries → next_at bytes at ≤ length bytes → Formed bytes names at
    → EntriesSound bytes names offsets n → EntriesSound bytes names (set offsets n at) (n + 1)
entries_sound bytes names offsets n at few whole formed s =
    let room : n < length offsets = omega (arith, s.room) in
    record {
      room = omega (arith, length-set offsets n at, s.room);
      few = omega arith;
      whole = whole_more bytes offsets n at room whole s.whole;
      formed = each_more (Formed bytes names) offsets n at room formed s.formed;
    }

entries_next : (bytes : Bytes) (names : List Bytes) (offsets : List ℕ) (n at : ℕ) → n < length offsets → entries_at bytes names (set offsets n at) (n + 1) ≡ entries_at bytes names offsets n ++ (entry_from bytes names at ∷ [])
entries_next bytes names offsets n at room = ap (map (entry_from bytes names)) (take_more offsets n at room) ∙ map-append (entry_from bytes names) (take n offsets) (at ∷ [])

-- One target more.
targets_sound : (targets : List ℕ) (types n t : ℕ) → n < max_targets → t < types → TargetsSound targets types n → TargetsSound (set targets n t) types (n + 1)
targets_sound targets types n t few small s = record {
  room = omega (arith, length-set targets n t, s.room);
  few = omega arith;
  declared = each_more (λ m. m < types) targets n t (omega (arith, s.room)) small s.declared;
}

-- One pair more.
pub listed_more :
    (pairs : List Pair) (a b p q : ℕ) → Listed (pairs ++ (record { lower = a; upper = b } ∷ [])) p q ↔ (Listed pairs p q ⊎ ((p ≡ a) × (q ≡ b)))
listed_more pairs a b p q = (
  λ m.
      ⊎_elim inl
      (λ (l : Memᴰ pq (ab ∷ [])).
      let e : pq ≡ ab = Memᴰ.eq_of_singleton l in
      inr (ap (λ (x : Pair). x.lower) e, ap (λ (x : Pair). x.upper) e)) (Memᴰ.append_cases pairs m),
  ⊎_elim (λ l. Memᴰ.append_left (ab ∷ []) l) (λ t. Memᴰ.append_right pairs (Memᴰ.head (λ i. record { lower = t.0 i; upper = t.1 i }))),
)
  where
    pq : Pair
    pq = record { lower = p; upper = q }

    ab : Pair
    ab = record { lower = a; upper = b }

hold_more :
    (rows : List ℕ) (pairs : List Pair) (a b w : ℕ) → a < length rows → Members w (λ k. Has (get_or {A = ℕ} rows a 0) k ⊎ (k ≡ b)) → Hold rows (Listed pairs)
    → Hold (set rows a w) (Listed (pairs ++ (record { lower = a; upper = b } ∷ [])))
unfolding InRows
hold_more rows pairs a b w room members hold p q = go (ℕ_discrete p a)
  where
    go : Dec (p ≡ a) → Has (get_or {A = ℕ} (set rows a w) p 0) q ↔ Listed (pairs ++ (record { lower = a; upper = b } ∷ [])) p q
    go (yes e) =
        rw (e, get_or-set_same rows a w 0 room) (
          λ h. (listed_more pairs a b a q).1 (⊎_elim (λ k. inl ((hold a q).0 k)) (λ k. inr (refl, k)) ((members q).0 h)),
          λ m. (members q).1 (⊎_elim (λ l. inl ((hold a q).1 l)) (λ t. inr t.1) ((listed_more pairs a b a q).0 m)),
        )
    go (no d) =
        rw (get_or-set_other rows a p w 0 d) (
          λ h. (listed_more pairs a b p q).1 (inl ((hold p q).0 h)),
          λ m. ⊎_elim (λ l. (hold p q).1 l) (λ t. absurd (d t.0)) ((listed_more pairs a b p q).0 m),
        )

within_more :
    (rows : List ℕ) (types a b w : ℕ) → a < length rows → a < types → b < types → Members w (λ k. Has (get_or {A = ℕ} rows a 0) k ⊎ (k ≡ b))
    → Within types (InRows rows) → Within types (InRows (set rows a w))
unfolding InRows
within_more rows types a b w room small smaller members within p q = go (ℕ_discrete p a)
  where
    go : Dec (p ≡ a) → Has (get_or {A = ℕ} (set rows a w) p 0) q → (p < types) × (q < types)
    go (yes e) h =
        let k : Has w q = rw (e, get_or-set_same rows a w 0 room) at h in
        (omega arith, ⊎_elim (λ l. (within a q l).1) (λ l. omega arith) ((members q).0 k))
    go (no d) h = within p q (rw (get_or-set_other rows a p w 0 d) at h)

pairs_sound :
    (rows : List ℕ) (types a b w : ℕ) → a < length rows → a < types → b < types → Members w (λ k. Has (get_or {A = ℕ} rows a 0) k ⊎ (k ≡ b))
    → PairsSound rows types → PairsSound (set rows a w) types
pairs_sound rows types a b w room small smaller members s =
    record { rows = length-set rows a w ∙ s.rows; within = within_more rows types a b w room small smaller members s.within }

-- One name more: all else stays as it was.
entries_wider :
    (bytes : Bytes) (names more : List Bytes) (offsets : List ℕ) (n : ℕ) → EntriesSound bytes names offsets n → EntriesSound bytes (names ++ more) offsets n
entries_wider bytes names more offsets n s =
    record { room = s.room; few = s.few; whole = s.whole; formed = λ i h. formed_more names more bytes (get_or {A = ℕ} offsets i 0) (s.formed i h) }

pairs_wider : (direct : List ℕ) (types : ℕ) → PairsSound direct types → PairsSound direct (types + 1)
pairs_wider direct types s = record { rows = s.rows; within = λ a b h. let t = s.within a b h in (omega arith, omega arith) }

targets_wider : (targets : List ℕ) (types n : ℕ) → TargetsSound targets types n → TargetsSound targets (types + 1) n
targets_wider targets types n s = record { room = s.room; few = s.few; declared = λ i h. omega (arith, s.declared i h) }

module _ (bytes : Bytes) (s : Store) (p : Progress) (sound : Sound bytes s p) where
  abbrev names_kept : List Bytes
  names_kept = bodies_at bytes s.names p.types

  names_count : length names_kept ≡ p.types
  names_count = bodies_length bytes s.names p.types sound.names.whole.room

  entries_count : (B : Book) → Keeps bytes s p B → length B.entries ≡ p.entries
  entries_count B k =
      ap length k.entries ∙ length-map (take p.entries s.entries) (entry_from bytes B.names) ∙ length-take-le p.entries s.entries sound.entries.whole.room

  pub targets_count : (B : Book) → Keeps bytes s p B → length B.targets ≡ p.targets
  targets_count B k = ap length k.targets ∙ length-take-le p.targets s.targets (omega (arith, sound.targets.few, sound.targets.room))

  -- The fault of the next record, by what is kept.
  abbrev pub FaultFound : ℕ → Type 0
  FaultFound fault = fault ≡ first_broken (record_rules bytes p.at names_kept p.entries p.targets)

  pub fault_kept : (fault : ℕ) → FaultFound fault → (B : Book) → Keeps bytes s p B → next_fault bytes p.at B ≡ fault
  fault_kept fault found B k =
      ap (λ (names : List Bytes). first_broken (record_rules bytes p.at names (length B.entries) (length B.targets))) k.names
      ∙ ap₂ (λ (n m : ℕ). first_broken (record_rules bytes p.at names_kept n m)) (entries_count B k) (targets_count B k)
      ∙ sym found

  module _ (found : FaultFound 0) where
    abbrev body : Bytes
    body = body_at bytes p.at

    pub whole : next_at bytes p.at ≤ length bytes
    whole = no_fault_whole bytes p.at _ _ _ (sym found)

    body_fault : {number : ℕ} → kind_at bytes p.at ≡ number → first_broken (body_rules number body names_kept p.entries p.targets) ≡ 0
    body_fault k = no_fault_body bytes p.at _ _ _ (sym found) k

    -- Its kind is listed.
    pub kind_listed : (number : ℕ) → number ≡ kind_at bytes p.at → Unlisted number → ⊥
    kind_listed number is never = let k = no_fault_kind _ _ _ _ _ (body_fault refl) in never k.0 (is ∙ k.1)

    -- The places that the code reads and writes are there.
    pub name_place : kind_at bytes p.at ≡ kind_number basic_type → (p.types < max_types) × (1 ≤ length body) × (length body ≤ max_name)
    name_place kind =
        let fine = name_no_fault _ _ _ _ (body_fault kind) in
        (omega (arith, names_count, fine.2), (name_form body fine.0).some_bytes, name_short body fine.0)

    pub entry_place : EntryKind (kind_at bytes p.at) → p.entries < max_entries
    entry_place kind = (good_entry kind _ _ _ _ (body_fault refl)).1

    entry_formed : EntryKind (kind_at bytes p.at) → Formed bytes names_kept p.at
    entry_formed kind =
        let good = (good_entry kind _ _ _ _ (body_fault refl)).0 in
        record { worded = good.worded; shaped = good.shaped; declared = good.declared; listed = good.listed; short = good.short }

    pub pair_place : kind_at bytes p.at ≡ kind_number order_pair → (length body ≡ 2) × (get_or {A = ℕ} body 0 0 < p.types) × (get_or {A = ℕ} body 1 0 < p.types)
    pair_place kind =
        let fine = pair_no_fault _ _ _ _ (body_fault kind) in
        (fine.0, omega (arith, names_count), omega (arith, names_count))

    pub target_place : kind_at bytes p.at ≡ kind_number target → (length body ≡ 1) × (get_or {A = ℕ} body 0 0 < p.types) × (p.targets < max_targets)
    target_place kind = let fine = target_no_fault _ _ _ _ (body_fault kind) in (fine.0, omega (arith, names_count), fine.2)

    -- The record is taken in where what is kept behind it is sound, and stands for the book with the record.
    taken : (s' : Store) (p' : Progress) → p'.at ≡ next_at bytes p.at → Named bytes s'.names p'.types
        → EntriesSound bytes (bodies_at bytes s'.names p'.types) s'.entries p'.entries
        → PairsSound s'.direct p'.types
        → TargetsSound s'.targets p'.types p'.targets
        → ((B : Book) → Keeps bytes s p B → Keeps bytes s' p' (with_next bytes p.at B))
        → Taking bytes s p s' p'
    taken s' p' on names entries pairs targets keeps = record {
      sound = record { short = sound.short; reached = rw on whole; names = names; entries = entries; pairs = pairs; targets = targets };
      on = on;
      right = λ B k. (fault_kept 0 found B k, keeps B k);
    }

    module _ (next : ℕ) (on : next ≡ next_at bytes p.at) where
      pub name_taken : kind_at bytes p.at ≡ kind_number basic_type → (names : List ℕ) → Keeping s.names p.types p.at names
          → Taking bytes s p (store names s.entries s.direct s.targets) (record { at = next; types = p.types + 1; entries = p.entries; targets = p.targets })
      unfolding add
      name_taken kind names kept =
          let few = (name_place kind).0 in
          let more = kept_bodies bytes s.names p.types p.at names kept few sound.names in
          let wider = subst (λ (l : List Bytes). EntriesSound bytes l s.entries p.entries) (sym more) (entries_wider bytes names_kept (body ∷ []) s.entries p.entries sound.entries) in
          let named = named_more bytes s.names p.types p.at names kept few sound.names whole (name_no_fault _ _ _ _ (body_fault kind)).1 in
          taken _ _ on named wider (pairs_wider s.direct p.types sound.pairs) (targets_wider s.targets p.types p.targets sound.targets)
          (λ B k.
          let formed : AllFormed bytes B.names s.entries p.entries = subst (λ (l : List Bytes). AllFormed bytes l s.entries p.entries) (sym k.names) sound.entries.formed in
          rw kind
          (record {
            names = ap (λ (l : List Bytes). l ++ (body ∷ [])) k.names ∙ sym more;
            pairs = k.pairs;
            entries = k.entries ∙ sym (entries_more B.names (body ∷ []) bytes s.entries p.entries sound.entries.whole.room formed);
            targets = k.targets;
          }))

      pub entry_taken : EntryKind (kind_at bytes p.at)
          → Taking bytes s p (store s.names (set s.entries p.entries p.at) s.direct s.targets) (record { at = next; types = p.types; entries = p.entries + 1; targets = p.targets })
      entry_taken kind =
          let more = entries_sound bytes names_kept s.entries p.entries p.at (entry_place kind) whole (entry_formed kind) sound.entries in
          let next-entry : (B : Book) → entries_at bytes B.names (set s.entries p.entries p.at) (p.entries + 1) ≡ entries_at bytes B.names s.entries p.entries ++ (entry_from bytes B.names p.at ∷ []) =
          λ B. entries_next bytes B.names s.entries p.entries p.at (omega (arith, entry_place kind, sound.entries.room)) in
          taken _ _ on sound.names more sound.pairs sound.targets
          (λ B k.
          rw (add_entry kind body B)
          (record { names = k.names; pairs = k.pairs; entries = ap (λ (l : List Entry). l ++ (entry_from bytes B.names p.at ∷ [])) k.entries ∙ sym (next-entry B); targets = k.targets }))

      pub pair_taken : kind_at bytes p.at ≡ kind_number order_pair → (lower upper row : ℕ) → lower ≡ get_or {A = ℕ} body 0 0 → upper ≡ get_or {A = ℕ} body 1 0
          → Members row (λ k. Has (get_or {A = ℕ} s.direct lower 0) k ⊎ (k ≡ upper))
          → Taking bytes s p (store s.names s.entries (set s.direct lower row) s.targets) (record { at = next; types = p.types; entries = p.entries; targets = p.targets })
      unfolding add
      pair_taken kind lower upper row lo up members =
          let fine = pair_place kind in
          let room : lower < length s.direct = omega (arith, fine.1, sound.names.few, sound.pairs.rows) in
          let more = pairs_sound s.direct p.types lower upper row room (omega (arith, fine.1)) (omega (arith, fine.2)) members sound.pairs in
          taken _ _ on sound.names sound.entries more sound.targets
          (λ B k.
          rw (kind, ← lo, ← up)
          (record { names = k.names; pairs = hold_more s.direct B.pairs lower upper row room members k.pairs; entries = k.entries; targets = k.targets }))

      pub target_taken : kind_at bytes p.at ≡ kind_number target → (t : ℕ) → t ≡ get_or {A = ℕ} body 0 0
          → Taking bytes s p (store s.names s.entries s.direct (set s.targets p.targets t)) (record { at = next; types = p.types; entries = p.entries; targets = p.targets + 1 })
      unfolding add
      target_taken kind t e =
          let fine = target_place kind in
          let more = targets_sound s.targets p.types p.targets t fine.2 (omega (arith, fine.1)) sound.targets in
          let room : p.targets < length s.targets = omega (arith, fine.2, sound.targets.room) in
          taken _ _ on sound.names sound.entries sound.pairs more
          (λ B k.
          rw (kind, ← e)
          (record { names = k.names; pairs = k.pairs; entries = k.entries; targets = ap (λ (l : List ℕ). l ++ (t ∷ [])) k.targets ∙ sym (take_more s.targets p.targets t room) }))
