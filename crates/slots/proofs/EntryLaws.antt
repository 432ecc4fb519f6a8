-- Entries laid one behind another: steps follow each other, an entry without a slot changes nothing, and one with a slot has the next one.
use Prim.Native.Nat.{ℕ, zero, suc, ◌+◌, ◌≤◌, ◌<◌}
use native.Mathlib.Omega.{arith}
use native.Mathlib.Decide.{dec_lt}
use mathlib.Core.Path.{◌≡◌, refl, sym, ap, subst, ◌∙◌}
use mathlib.Core.Bool.{Bool, true, false, ◌||◌, true≢false}
use mathlib.Core.List.{List, [], ◌∷◌}
use lib.Dec.{eqb}
use lib.ListN.{length, get_or, set, length-set}
use lib.Seq.{get_or-set_same}
use borrow.Author.Tests.{eqb-true, eq-eqb, ne_eqb}
use Rattle.linking.specs.Reading.{NumberedEntry}
use Rattle.pregroup.specs.Types.{PregroupType}
use Rattle.format.specs.Records.{Bytes, bodies_at}
use Rattle.book.specs.declared.EntryType.{EntryType}
use Rattle.book.specs.Kept.{entry_from, HeldType}
use Rattle.lookup.specs.Entries.{simples_in}
use Rattle.lookup.specs.Threads.{Thread}
use Rattle.lookup.proofs.ThreadLaws.{simples_more, thread_next, thread_end}
use Rattle.graph.specs.Graph.{Graph, graph, next_at, entered_in, number_in, entered_at, Boundary}
use Rattle.graph.specs.Layout.{has_none, slotted, Slots, slot}
use Rattle.figures.specs.Limits.{max_entries}
use Rattle.slots.specs.Laying.{GoesOn, Simples, Typed, Within, Lays, type_held, SlotFits}
use Rattle.slots.specs.declared.Place.{Place}
use Rattle.slots.proofs.HeldTypes.{held_length, held_none, held_type}
use Rattle.slots.proofs.TypeLaws.{continues_back, kept_here, agree_set, simples_kept}

some_long : (n : ℕ) → eqb (suc n) 0 ≡ false
some_long n = ne_eqb (suc n) 0 (λ e. omega arith)

-- Which entries get a slot.
slotted_passed : (e : NumberedEntry) (es : List NumberedEntry) → has_none e.type ≡ true → slotted true (e ∷ es) ≡ slotted true es
unfolding slotted
slotted_passed e es h = rw (h, slotted)

slotted_taken :
    (seen : Bool) (e : NumberedEntry) (es : List NumberedEntry) → (has_none e.type ≡ true → seen ≡ false)
    → slotted seen (e ∷ es) ≡ e ∷ slotted (has_none e.type || seen) es
unfolding slotted
slotted_taken seen e es h = go (has_none e.type) seen h
  where
    go : (empty seen : Bool) → (empty ≡ true → seen ≡ false)
        → (elim empty [ true ↦ elim seen [ true ↦ slotted true es | false ↦ e ∷ slotted true es ] | false ↦ e ∷ slotted seen es ]) ≡ e ∷ slotted (empty || seen) es
    go true true h = absurd (true≢false (h refl))
    go true false h = refl
    go false seen h = refl

-- Nothing is laid.
pub lays_same :
    (b : ℕ) (p : Place) (g : Graph) (es es' : List NumberedEntry) → Within b p g → slotted p.seen es ≡ slotted p.seen es' → simples_in es ≡ simples_in es'
    → Lays b p g p g es es'
lays_same b p g es es' place e f =
    record {
      slots = λ h k boundary to s. rw e s;
      kept = kept_here _ _ g;
      place = place;
      count = ap (λ (m : ℕ). p.node + m) (sym f);
      node_on = omega arith;
      slot_on = omega arith;
      simples = λ x h i. absurd (omega arith);
      entered = λ y h i. absurd (omega arith);
    }

-- One step behind another.
pub lays_then :
    {b : ℕ} {p p' p'' : Place} {g g' g'' : Graph} {es es' es'' : List NumberedEntry} → Lays b p g p' g' es es' → Lays b p' g' p'' g'' es' es''
    → Lays b p g p'' g'' es es''
lays_then {b} {p} {p'} {p''} {g} {g'} {g''} l l' =
    record {
      slots = λ h k boundary to s.
          l.slots h (earlier h k) boundary to (l'.slots h (later h k) boundary to s);
      kept = continues_back l.kept l'.kept l.node_on l.slot_on;
      place = l'.place;
      count = l'.count ∙ l.count;
      node_on = omega (arith, l.node_on, l'.node_on);
      slot_on = omega (arith, l.slot_on, l'.slot_on);
      simples = led;
      entered = each;
    }
  where
    -- The parts of both steps.
    earlier : (h : Graph) → GoesOn p p'' g'' h → GoesOn p p' g' h
    earlier h k =
        record {
          nodes = λ x a c. k.nodes x a (omega (arith, l'.node_on)) ∙ l'.kept.nodes x c;
          slots = λ y a c. k.slots y a (omega (arith, l'.slot_on)) ∙ l'.kept.slots y c;
        }

    later : (h : Graph) → GoesOn p p'' g'' h → GoesOn p' p'' g'' h
    later h k = record { nodes = λ x a. k.nodes x (omega (arith, l.node_on)); slots = λ y a. k.slots y (omega (arith, l.slot_on)) }

    led : Simples g''.nodes p.node p''.node b
    led x h i = go (dec_lt x p'.node)
      where
        go : Dec (x < p'.node) → (x < next_at g''.nodes x) × (next_at g''.nodes x ≤ b)
        go (yes before) = simples_kept g'.nodes g''.nodes p.node p'.node b (λ y a c. l'.kept.nodes y c) l.simples x h before
        go (no behind) = l'.simples x (omega (arith, behind)) i

    each : (y : ℕ) → p.slot ≤ y → y < p''.slot → (p.node ≤ entered_at g''.slots y) × (entered_at g''.slots y ≤ b)
    each y h i = go (dec_lt y p'.slot)
      where
        go : Dec (y < p'.slot) → (p.node ≤ entered_at g''.slots y) × (entered_at g''.slots y ≤ b)
        go (yes before) = rw (l'.kept.slots y before) (l.entered y h before)
        go (no behind) = let e = l'.entered y (omega (arith, behind)) i in (omega (arith, e.0, l.node_on), e.1)

module _ (x : EntryType) (number b : ℕ) (p : Place) (g : Graph) (f : SlotFits x number b p g) where
  abbrev entry : NumberedEntry
  entry = record { number = number; type = type_held x }

  pub slot_passed : x.count ≡ 0 → p.seen ≡ true → (rest : List NumberedEntry) → Lays b p g p g (entry ∷ rest) rest
  slot_passed none seen rest =
      let e = simples_more entry rest in
      let empty : has_none (type_held x) ≡ true = held_none x.count 0 x.simples ∙ eq-eqb x.count 0 none in
      lays_same b p g (entry ∷ rest) rest f.place (rw seen (slotted_passed entry rest empty)) (omega (arith, held_length x.count 0 x.simples))

  module _ (taken : x.count ≡ 0 → p.seen ≡ false) (nodes : List ℕ) (nodes_kept : length nodes ≡ length g.nodes) (first : ℕ)
      (t : Typed x p.node b g.nodes nodes first) (new : ℕ) (enters : entered_in new ≡ first) (numbered : number_in new ≡ number) where
    abbrev p' : Place
    p' = record { node = p.node + x.count; slot = p.slot + 1; seen = eqb x.count 0 || p.seen }

    abbrev g' : Graph
    g' = graph nodes (set g.slots p.slot new)

    -- There is a slot left: an empty type takes the one that the word has to spare.
    room : (p.slot < p.node + x.count) × (p'.seen ≡ false → p.slot + 1 < p.node + x.count)
    room = go x.count p.seen taken f.place.spare
      where
        go : (n : ℕ) (seen : Bool) → (n ≡ 0 → seen ≡ false) → (seen ≡ false → p.slot < p.node)
            → (p.slot < p.node + n) × (eqb n 0 || seen ≡ false → p.slot + 1 < p.node + n)
        go zero true h spare = absurd (true≢false (h refl))
        go zero false h spare = (omega (arith, spare refl), λ e. absurd (true≢false e))
        go (suc n) seen h spare = (omega (arith, f.place.few), λ e. omega (arith, spare (rw (some_long n) at e)))

    here : get_or {A = ℕ} g'.slots p.slot 0 ≡ new
    here = get_or-set_same g.slots p.slot new 0 (omega (arith, room.0, f.fits, f.place.small, f.place.slots_room))

    place' : Within b p' g'
    place' =
        record {
          few = omega (arith, room.0);
          spare = λ e. room.1 e;
          inside = f.fits;
          small = f.place.small;
          nodes_room = omega (arith, f.place.nodes_room);
          slots_room = omega (arith, f.place.slots_room, length-set g.slots p.slot new);
        }

    each : (y : ℕ) → p.slot ≤ y → y < p.slot + 1 → (p.node ≤ entered_at g'.slots y) × (entered_at g'.slots y ≤ b)
    each y h i = let e : y ≡ p.slot = omega arith in rw (e, here, enters) (t.low, t.high)

    slots' : (rest : List NumberedEntry) (h : Graph) → GoesOn p p' g' h → Boundary h b → (to : ℕ)
        → Slots h b p'.slot to (slotted p'.seen rest) → Slots h b p.slot to (slotted p.seen (entry ∷ rest))
    slots' rest h k boundary to s =
        let empty = held_none x.count 0 x.simples in
        let order : slotted p.seen (entry ∷ rest) ≡ entry ∷ slotted p'.seen rest =
        slotted_taken p.seen entry rest (λ e. taken (eqb-true x.count 0 (sym empty ∙ e))) ∙ ap (λ (z : Bool). entry ∷ slotted (z || p.seen) rest) empty in
        let same : get_or {A = ℕ} h.slots p.slot 0 ≡ new = k.slots p.slot (omega arith) (omega arith) ∙ here in
        let leads : entered_at h.slots p.slot ≡ first = ap entered_in same ∙ enters in
        rw order (slot {e = entry} (ap number_in same ∙ numbered) (rw leads (t.spelt h k.nodes boundary)) s)

    pub slot_taken : (rest : List NumberedEntry) → Lays b p g p' g' (entry ∷ rest) rest
    slot_taken rest =
        record {
          slots = slots' rest;
          kept = record {
            nodes = t.kept;
            slots = agree_set p.slot g.slots g.slots p.slot new (omega arith) (λ y h. refl);
          };
          place = place';
          count = let e = simples_more entry rest in let n = held_length x.count 0 x.simples in omega (arith, e, n);
          node_on = omega arith;
          slot_on = omega arith;
          simples = t.simples;
          entered = each;
        }

-- The loop along a thread: at entry i, of the entries `es` the rest is ahead.
pub record Entering (bytes : Bytes) (names : List ℕ) (types : ℕ) (entries same : List ℕ) (b : ℕ) (p : Place) (g : Graph) (es : List NumberedEntry) (place : Place) (g' : Graph) (i : ℕ) : Type 0 where
  pub rest : List NumberedEntry
  pub ahead : Thread bytes (bodies_at bytes names types) entries same i rest
  pub lays : Lays b p g place g' es rest
  pub nodes_length : length g'.nodes ≡ length g.nodes
  pub slots_length : length g'.slots ≡ length g.slots

module _ {bytes : Bytes} {names : List ℕ} {types : ℕ} {entries same : List ℕ} {b : ℕ} {p : Place} {g : Graph} {es : List NumberedEntry} {place : Place} {g' : Graph} {i : ℕ}
    (s : Entering bytes names types entries same b p g es place g' i) where
  pub entering_end : length entries ≤ i → Lays b p g place g' es []
  entering_end h = subst (λ (left : List NumberedEntry). Lays b p g place g' es left) (thread_end s.ahead h) s.lays

  -- Entry i, by its type as it is held.
  module _ (h : i < length entries) (x : EntryType) (here : HeldType x (entry_from bytes (bodies_at bytes names types) (get_or {A = ℕ} entries i 0)).type) where
    abbrev i_th : NumberedEntry
    i_th = record { number = i; type = type_held x }

    abbrev behind : List NumberedEntry
    behind = (thread_next s.ahead h).rest

    -- The entries left are this one and those behind it.
    left_here : s.rest ≡ i_th ∷ behind
    left_here = (thread_next s.ahead h).is ∙ ap (λ (X : PregroupType). record { number = i; type = X } ∷ behind) (sym (held_type here))

    pub entering_fits : length entries ≤ max_entries → p.node + simples_in es ≤ b → SlotFits x i b place g'
    entering_fits few fits =
        let sum = ap simples_in left_here ∙ simples_more i_th behind in
        let long = held_length x.count 0 x.simples in
        record {
          short = omega (arith, here.count, here.short);
          fits = omega (arith, sum, long, s.lays.count, fits);
          low = omega arith;
          place = s.lays.place;
        }

    pub entering_next :
        (next : ℕ) → next ≡ get_or {A = ℕ} same i 0 → {place' : Place} {g'' : Graph} → ((rest : List NumberedEntry) → Lays b place g' place' g'' (i_th ∷ rest) rest)
        → length g''.nodes ≡ length g'.nodes → length g''.slots ≡ length g'.slots → Entering bytes names types entries same b p g es place' g'' next
    entering_next next e {place'} {g''} l nodes slots =
        record {
          rest = behind;
          ahead = rw e (thread_next s.ahead h).ahead;
          lays = lays_then s.lays (subst (λ (left : List NumberedEntry). Lays b place g' place' g'' left behind) (sym left_here) (l behind));
          nodes_length = nodes ∙ s.nodes_length;
          slots_length = slots ∙ s.slots_length;
        }
