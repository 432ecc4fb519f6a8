-- All words of a line laid, and the whole line laid out, with the targets behind the words.
use Prim.Native.Nat.{ℕ, ◌+◌, ◌≤◌, ◌<◌}
use native.Mathlib.Omega.{arith}
use mathlib.Core.Path.{◌≡◌, refl, sym, ap, subst, ◌∙◌}
use mathlib.Core.List.{List, [], ◌∷◌}
use lib.ListN.{length, get_or}
use lib.Seq.{get_or-take}
use Rattle.pregroup.specs.Types.{Basic}
use Rattle.linking.specs.Reading.{NumberedEntry, Words, target_at}
use Rattle.format.specs.Records.{Bytes, bodies_at}
use Rattle.lookup.specs.Entries.{simples_of_words}
use Rattle.lookup.specs.Threads.{Thread, Threads, none, word}
use Rattle.lookup.proofs.ThreadLaws.{simples_cons}
use Rattle.line.specs.FoundWords.{ThreadedWords}
use Rattle.graph.specs.Graph.{Graph}
use Rattle.figures.specs.Limits.{max_nodes, max_targets}
use Rattle.slots.specs.Laying.{Continues}
use Rattle.slots.specs.declared.Place.{Place}
use Rattle.layout.specs.LineLayout.{start_place, end_at, nodes_with, line_graph, Lined, WordFits, Ended, LaidOut}
use Rattle.layout.proofs.WordLaws.{lined_then}

none_left : (ws : Words) → length ws ≡ 0 → ws ≡ []
none_left [] e = refl
none_left (es ∷ ws) e = absurd (omega arith)

-- The loop over the words: before the k-th word, of the words `ws` those left are ahead.
pub record Lining (bytes : Bytes) (names : List ℕ) (types : ℕ) (entries same firsts : List ℕ) (g : Graph) (ws : Words) (place : Place) (g' : Graph) (k : ℕ) : Type 0 where
  pub left : Words
  pub ahead : Threads bytes (bodies_at bytes names types) entries same firsts k left
  pub as_many : k + length left ≡ length firsts
  pub lined : Lined start_place g place g' ws left
  pub nodes_length : length g'.nodes ≡ length g.nodes
  pub slots_length : length g'.slots ≡ length g.slots

-- Words from the k-th on, of which there is one: the thread of its entries, and the words behind it.
record Parted (bytes : Bytes) (names : List Bytes) (entries same firsts : List ℕ) (k : ℕ) (ws : Words) : Type 0 where
  pub all : List NumberedEntry
  pub behind : Words
  pub is : ws ≡ all ∷ behind
  pub thread : Thread bytes names entries same (get_or {A = ℕ} firsts k 0) all
  pub ahead : Threads bytes names entries same firsts (k + 1) behind

parted :
    {bytes : Bytes} {names : List Bytes} {entries same firsts : List ℕ} {k : ℕ} {ws : Words} → Threads bytes names entries same firsts k ws → 0 < length ws
    → Parted bytes names entries same firsts k ws
parted none h = absurd (omega arith)
parted (word {k} {es} {words} t ts) h = record { all = es; behind = words; is = refl; thread = t; ahead = ts }

module _ {bytes : Bytes} {names : List ℕ} {types : ℕ} {entries same firsts : List ℕ} {g : Graph} where
  module _ {ws : Words} {place : Place} {g' : Graph} {k : ℕ} (s : Lining bytes names types entries same firsts g ws place g' k) where
    pub lining_end : length firsts ≤ k → Lined start_place g place g' ws []
    lining_end h = subst (λ (vs : Words). Lined start_place g place g' ws vs) (none_left s.left (omega (arith, s.as_many))) s.lined

    module _ (h : k < length firsts) where
      here : Parted bytes (bodies_at bytes names types) entries same firsts k s.left
      here = parted s.ahead (omega (arith, s.as_many))

      pub lining_fits : ThreadedWords bytes names types entries same firsts ws → WordFits bytes names types entries same (get_or {A = ℕ} firsts k 0) place g'
      lining_fits found =
          let simples = ap simples_of_words here.is ∙ simples_cons here.all here.behind in
          let long = ap length here.is in
          record {
            vocabulary = found.vocabulary;
            same_room = found.same_room;
            all = here.all;
            thread = here.thread;
            standing = s.lined.standing;
            fits = omega (arith, found.small, found.few, s.lined.count, found.as_many, simples, long);
          }

      pub lining_next :
          {place' : Place} {g'' : Graph}
          → ((es : List NumberedEntry) → Thread bytes (bodies_at bytes names types) entries same (get_or {A = ℕ} firsts k 0) es → (rest : Words)
          → Lined place g' place' g'' (es ∷ rest) rest)
          → length g''.nodes ≡ length g'.nodes → length g''.slots ≡ length g'.slots → Lining bytes names types entries same firsts g ws place' g'' (k + 1)
      lining_next {place'} {g''} t nodes slots =
          let w = here in
          let long = ap length w.is in
          record {
            left = w.behind;
            ahead = w.ahead;
            as_many = omega (arith, long, s.as_many);
            lined = lined_then s.lined
                (subst (λ (vs : Words). Lined place g' place' g'' vs w.behind) (sym w.is) (t w.all w.thread w.behind));
            nodes_length = nodes ∙ s.nodes_length;
            slots_length = slots ∙ s.slots_length;
          }

-- The whole line: its words are laid, and then the targets.
module _ {bytes : Bytes} {names : List ℕ} {types : ℕ} {entries same firsts : List ℕ} {g g' : Graph} {last : Place} (targets : List Basic) (few : length targets ≤ max_targets)
    (lined : (ws : Words) → ThreadedWords bytes names types entries same firsts ws → Lined start_place g last g' ws []) where
  pub out_bounded : {ws : Words} → ThreadedWords bytes names types entries same firsts ws → nodes_with last.node (length targets) ≤ max_nodes
  unfolding simples_of_words
  out_bounded {ws} found = omega (arith, found.small, found.few, (lined ws found).count, found.as_many)

  module _ {g'' : Graph} (e : Ended targets last g' g'') where
    -- The line's graph goes on from its words.
    follows : Continues last.node last.slot g' (line_graph last.node (length targets) g'')
    follows =
        record {
          nodes = λ x h. get_or-take (nodes_with last.node (length targets)) g''.nodes x 0 (omega arith) ∙ e.kept.nodes x h;
          slots = e.kept.slots;
        }

    pub out_laid : (ws : Words) → ThreadedWords bytes names types entries same firsts ws → LaidOut ws targets g'' last.node
    out_laid ws found =
        record {
          few = out_bounded found;
          upward = e.upward;
          ends = e.ends;
          laid = λ t h.
              (lined ws found).laid (line_graph last.node (length targets) g'') follows (target_at targets t) (end_at last.node t) (e.laid t h);
        }
