-- Writing the first reading: what is asked of the first choice and of the writing of its answer, and what is returned.
use Prim.Native.Nat.{ℕ, zero, suc, ◌+◌, ◌-◌, ◌*◌, ◌≤◌, ◌<◌}
use native.Mathlib.Omega.{arith}
use mathlib.Core.Path.{◌≡◌, refl, sym, ap, ap₂, subst, ◌∙◌}
use mathlib.Core.List.{List, ◌∷◌, ◌++◌, map}
use mathlib.Core.Option.{Option, none, some}
use lib.ListN.{get_or, length, take, drop, length-append}
use lib.Seq.{length-take-le, get_or-take}
use Rattle.figures.specs.Limits.{max_nodes, max_places, max_words, row_words, chart_words}
use Rattle.bits.specs.Rows.{HasRow, InRow}
use Rattle.pregroup.specs.Types.{Basic, PregroupType}
use Rattle.pregroup.specs.Order.{Relation}
use Rattle.pregroup.specs.Vanish.{Reduces}
use Rattle.pregroup.specs.Tests.{Test}
use Rattle.linking.specs.Linking.{first_linking}
use Rattle.linking.specs.Reading.{Words, Answer, answer, target_at, Selection, first_for, first_reading}
use Rattle.linking.proofs.Reduction.{linking_iff_reduces}
use Rattle.linking.proofs.Targets.{no_target_reads, first_reading_at}
use Rattle.linking.proofs.FirstLinking.{first_linking_some, first_linking_none, first_linking_greedy}
use Rattle.graph.specs.Graph.{Graph, number_at, Upward, Path, VanishTo, Boundary, Spells, ended, more}
use Rattle.graph.specs.Layout.{End, Laid, goal, word}
use Rattle.layout.specs.LineLayout.{end_at}
use Rattle.chart.specs.Chart.{FilledFrom}
use Rattle.table.specs.Table.{string_of}
use Rattle.table.proofs.Stretches.{length_string, string_front}
use Rattle.table.proofs.TableLaws.{right_of_string}
use Rattle.choice.specs.Completion.{SlotChoice, done, choose}
use Rattle.choice.specs.First.{Chose, Choosable, Roomy}
use Rattle.choice.proofs.Choices.{choice_of_path}
use Rattle.answer.specs.Entries.{entry_numbers}
use Rattle.answer.specs.Written.{Linkable, Writable, WroteAnswer}
use Rattle.answer.proofs.ValueLaws.{entry_numbers_length}
use Rattle.answer.proofs.GivenLaws.{gives_short, gives_read}
use Rattle.std.specs.Prelude.{Ok}
use Rattle.figures.specs.Refusals.{Refused}
use Rattle.answer.specs.Answers.{values_of, answer_length, given, Gives}
use Rattle.reach.specs.Charted.{Drawn, Charted}
use Rattle.first_reading.proofs.Brief.{laid_brief}
use Rattle.first_reading.proofs.FirstFound.{FirstFound, unread_iff, first_found}

-- A line's graph begins at a boundary.
laid_begins : {g : Graph} {t : Basic} {u end : ℕ} {words : Words} → Laid g t u words end → Boundary g u
laid_begins (goal e entry only) = e.boundary
laid_begins (word b slots rest) = b

-- Every slot of a choice is one of the graph's.
module _ {g : Graph} (up : Upward g) where
  entry_inside : {u b : ℕ} {T : PregroupType} → u < length g.nodes → Spells g u T b → b < length g.nodes
  entry_inside h (ended b) = h
  entry_inside {u} h (more l t) = entry_inside (omega (arith, l.next, (up.nexts_up u h l.simple).1)) t

  choice_slots : {u end : ℕ} {slots : List ℕ} {X : PregroupType} → u < length g.nodes → SlotChoice g u slots X end → (i : ℕ) → i < length slots → get_or slots i 0 < length g.slots
  choice_slots h (done b) i l = absurd (omega arith)
  choice_slots {u} h (choose e t c) zero l = omega (arith, e.before, up.slots_there u h e.boundary)
  choice_slots {u} h (choose {s} {w} e t c) (suc i) l = choice_slots (entry_inside (up.enters_up u s w h e).1 t) c i (omega arith)

module _ {le : Test} {Le : Relation} {g : Graph} {targets : List Basic} {last : ℕ} {words : Words} (d : Drawn le Le g targets last words) where
  some_nodes : 0 < length g.nodes
  some_nodes = omega (arith, d.nodes)

  -- Every node has a row in a chart of the longest graph's.
  has_rows : (chart : List ℕ) → length chart ≡ chart_words → (u : ℕ) → u < length g.nodes → HasRow chart u
  has_rows chart e u h = omega (arith, d.few)

  -- A target without a way to its end has no reading.
  no_way : {chart : List ℕ} → FilledFrom Le g chart 0 → (t : ℕ) → t < length targets → (InRow chart 0 (end_at last t) → ⊥) → first_for le (target_at targets t) words ≡ none
  no_way filled t h n =
      let end = d.ends t h in
      (unread_iff d.decides g (target_at targets t) (end_at last t) end.boundary end.closed (d.laid t h) d.known_words).1
      (λ v. n ((filled 0 (omega arith) some_nodes (end_at last t)).1 v))

-- Words that are charted.
module _ {le : Test} {Le : Relation} {g : Graph} {targets : List Basic} {last : ℕ} {words : Words} {chart : List ℕ} {t : ℕ}
    (charted : Charted le Le g targets last words chart t) where
  abbrev d : Drawn le Le g targets last words
  d = charted.drawn

  -- No target before t has a reading.
  none_before : (u : ℕ) → u < t → first_for le (target_at targets u) words ≡ none
  none_before u h = no_way d charted.filled u (omega (arith, charted.first.within)) (charted.first.none u h)

  pub no_first : t ≡ length targets → first_reading le targets words ≡ none
  no_first all = no_target_reads le words targets (λ u h. none_before u (omega arith))

  -- The first target whose end is reached.
  module _ (target_there : t < length targets) where
    abbrev s : Basic
    s = target_at targets t

    abbrev end : ℕ
    end = end_at last t

    ends : End g end
    ends = d.ends t target_there

    laid : Laid g s 0 words end
    laid = d.laid t target_there

    end_inside : end < length g.nodes
    end_inside = omega (arith, d.nodes, target_there)

    few_simples : {X : PregroupType} → Path g 0 X end → length X ≤ max_places
    few_simples p =
        let short = laid_brief ends.closed laid d.brief_words (choice_of_path (laid_begins laid) ends.boundary p).1 in
        omega (arith, d.few_words)

    -- There is a way to its end.
    way : VanishTo Le g 0 end
    way = (charted.filled 0 (omega arith) (some_nodes d) end).0 (charted.first.reached target_there)

    -- What the choice asks, of a chart that is filled and reads.
    pub can_choose : length chart ≡ chart_words → Choosable Le g chart end
    can_choose long = record {
      upward = d.upward;
      filled = charted.filled;
      chart_rows = has_rows d chart long;
      inside = end_inside;
      begins = laid_begins laid;
      ends = ends;
      reads = way;
      brief = few_simples;
    }

    pub has_room :
        {string chosen table needs : List ℕ} → length string ≡ max_places → length chosen ≡ max_nodes → length table ≡ (max_places + 1) * row_words
        → length needs ≡ (max_places + 1) * row_words → Roomy g string chosen table needs
    has_room p s b o = record {
      places = omega arith;
      words = omega (arith, d.few);
      table_rows = λ j h. omega arith;
      needs_rows = λ j h. omega arith;
    }

    module _ {string₀ chosen₀ table : List ℕ} {count places : ℕ} (c : Chose Le g string₀ chosen₀ table end count places)
        (string-room : length string₀ ≡ max_places) (chosen-room : length chosen₀ ≡ max_nodes) (table_room : length table ≡ (max_places + 1) * row_words) where
      inside_chosen : count ≤ length chosen₀
      inside_chosen = omega (arith, c.few, d.few, end_inside)

      found : FirstFound le Le g s words string₀ chosen₀ count places
      found = first_found d.decides g s end ends.boundary ends.closed laid d.known_words c inside_chosen

      pub some_places : 1 ≤ places
      some_places = omega (arith, found.places_are)

      pub some_words : 1 ≤ count
      some_words = omega (arith, found.taken)

      -- How many words the answer has, and how many simple types: all but the target's.
      abbrev n : ℕ
      n = count - 1

      abbrev m : ℕ
      m = places - 1

      pub few_words : n ≤ max_words
      few_words = omega (arith, found.taken, d.few_words)

      same : found.m ≡ m
      same = omega (arith, found.places_are)

      -- What is lent of the choice: its slots without the target's, and its string.
      abbrev chosen : List ℕ
      chosen = take n chosen₀

      abbrev string : List ℕ
      string = take m string₀

      chosen_long : length chosen ≡ n
      chosen_long = length-take-le n chosen₀ (omega (arith, inside_chosen))

      string_long : length string ≡ m
      string_long = length-take-le m string₀ (omega (arith, c.few_places))

      string_is : string_of string (length string) ≡ string_of string₀ m
      string_is = ap (string_of string) string_long ∙ string_front string₀ m

      -- There is a first linking, and with it the first reading.
      linked_by : (o : Option (List ℕ)) → first_linking le s (string_of string₀ m) ≡ o → (Q : List ℕ) × (first_linking le s (string_of string₀ m) ≡ some Q)
      linked_by none e = let k = linking_iff_reduces.0 reduces in absurd ((first_linking_none d.decides s (string_of string₀ m)).0 e k.0 k.1)
        where
          reduces : Reduces Le s (string_of string₀ m)
          reduces = subst (λ (k : ℕ). Reduces Le s (string_of string₀ k)) same found.reduces
      linked_by (some Q) e = (Q, e)

      entries_are : map (λ (s : ℕ). number_at g.slots s) (take (length words) chosen₀) ≡ entry_numbers g.slots chosen
      unfolding entry_numbers
      entries_are =
          let e : length words ≡ n = omega (arith, found.taken) in
          ap (λ (k : ℕ). map (λ (s : ℕ). number_at g.slots s) (take k chosen₀)) e

      first_with : (Q : List ℕ) → first_linking le s (string_of string₀ m) ≡ some Q → first_reading le targets words ≡ some (answer t (entry_numbers g.slots chosen) Q)
      first_with Q e =
          first_reading_at le words targets t (entry_numbers g.slots chosen, Q) target_there none_before
          (found.first Q (ap (λ (k : ℕ). first_linking le s (string_of string₀ k)) same ∙ e) ∙ ap (λ (ns : List ℕ). some (ns, Q)) entries_are)

      count_values : (Q : List ℕ) → length Q ≡ m → length (values_of (answer t (entry_numbers g.slots chosen) Q)) ≡ answer_length n m
      count_values Q e =
          let k = length-append (entry_numbers g.slots chosen) (length Q ∷ Q) in
          let l = entry_numbers_length g.slots chosen in
          omega (arith, chosen_long)

      -- 16: the first reading takes more values than are lent.
      pub answers_short : (before : List ℕ) → length before < answer_length n m → Gives (given (first_reading le targets words) before) (Refused 16 (answer_length n m)) before
      answers_short before h =
          let k = linked_by (first_linking le s (string_of string₀ m)) refl in
          let long = (first_linking_some d.decides s (string_of string₀ m) k.1).0.count ∙ length_string string₀ m in
          gives_short before (first_with k.0 k.1) (count_values k.0 long) h

      -- What the writing asks.
      pub can_link : Linkable Le string table s
      can_link = record {
        string_there = record { few = omega (arith, c.few_places, string_long); there = omega arith };
        room = omega (arith, c.few_places, string_long);
        right = rw (string_is, string_long) (right_of_string string₀ table m places m (omega arith) (omega arith) c.right);
        reduces = rw string_is (subst (λ (k : ℕ). Reduces Le s (string_of string₀ k)) same found.reduces);
      }

      numbered : (i : ℕ) → i < length chosen → get_or chosen i 0 < length g.slots
      numbered i h =
          let long = length-take-le count chosen₀ inside_chosen in
          let k = choice_slots d.upward (some_nodes d) c.spelled i (omega (arith, chosen_long)) in
          omega (arith, k, get_or-take count chosen₀ i 0 (omega (arith, chosen_long)), get_or-take n chosen₀ i 0 (omega (arith, chosen_long)))

      pub can_write : (answer : List ℕ) → answer_length n m ≤ length answer → Writable t g.slots chosen (length string) answer
      can_write answer h = record {
        low = omega (arith, target_there, d.few_targets);
        few = omega (arith, chosen_long, few_words);
        numbered = numbered;
        space = omega (arith, h, chosen_long, string_long);
      }

      -- What is written are the values of the first reading.
      values_are : {before after : List ℕ} (w : WroteAnswer Le string s t g.slots chosen before after)
          → after ≡ values_of (answer t (entry_numbers g.slots chosen) w.partners) ++ drop (answer_length n m) before
      values_are {before} w =
          let ns = entry_numbers g.slots chosen in
          w.written
          ∙ ap (λ (k : ℕ). (t ∷ k ∷ (ns ++ (length string ∷ w.partners))) ++ drop (answer_length (length chosen) (length string)) before) (sym (entry_numbers_length g.slots chosen))
          ∙ ap (λ (k : ℕ). (t ∷ length ns ∷ (ns ++ (k ∷ w.partners))) ++ drop (answer_length (length chosen) (length string)) before) (sym w.whole)
          ∙ ap₂ (λ (k l : ℕ). values_of (answer t ns w.partners) ++ drop (answer_length k l) before) chosen_long string_long

      pub answers_read :
          (before after : List ℕ) → answer_length n m ≤ length before → WroteAnswer Le string s t g.slots chosen before after
          → Gives (given (first_reading le targets words) before) (Ok (answer_length n m)) after
      answers_read before after h w =
          let greedy = rw string_is at w.greedy in
          let linked = first_linking_greedy d.decides s (string_of string₀ m) (w.whole ∙ string_long ∙ sym (length_string string₀ m)) greedy in
          gives_read before (first_with w.partners linked) (count_values w.partners (w.whole ∙ string_long)) h (values_are w)

    -- There is a reading where its end is reached.
    pub some_first : (a : Answer) × (first_reading le targets words ≡ some a)
    some_first = go (first_for le s words) refl
      where
        go : (o : Option Selection) → first_for le s words ≡ o → (a : Answer) × (first_reading le targets words ≡ some a)
        go none e = absurd ((unread_iff d.decides g s end ends.boundary ends.closed laid d.known_words).0 e way)
        go (some a) e = (answer t a.0 a.1, first_reading_at le words targets t a target_there none_before e)
