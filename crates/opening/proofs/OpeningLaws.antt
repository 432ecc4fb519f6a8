-- From a scanned book to an open one, and from a line that is checked against it to words that are found.
use Prim.Native.Nat.{ℕ, ◌+◌, ◌≤◌, ◌<◌}
use native.Mathlib.Omega.{arith}
use mathlib.Core.Path.{◌≡◌, subst}
use mathlib.Core.Logic.Iff
use mathlib.Core.Logic.{◌⊎◌, inl, inr}
use mathlib.Core.List.{List}
use lib.ListN.{length, take, length-take, get_or-eq_default, replicate, length-replicate, get_or-replicate}
use lib.Seq.{length-take-le, get_or-take}
use Rattle.figures.specs.Limits.{max_entries}
use Rattle.bits.proofs.Cases.{less_or_not}
use Rattle.bits.proofs.BitLaws.{empty_has_none}
use Rattle.pregroup.specs.Order.{Relation}
use Rattle.pregroup.specs.Held.{InRows}
use Rattle.order.specs.Closed.{Closed, Listed, Within, below}
use Rattle.order.specs.Rows.{Hold}
use Rattle.order.proofs.ClosureLaws.{closed_within}
use Rattle.order.proofs.Decision.{below_decides}
use Rattle.format.specs.Records.{Bytes}
use Rattle.book.specs.Format.{Book}
use Rattle.book.specs.Kept.{Store, Opened}
use Rattle.book.proofs.Checking.{opened_types, opened_order, zeros}
use Rattle.book.proofs.Accepted.{accepted_declares}
use Rattle.lookup.specs.Entries.{Entries, Lexicon}
use Rattle.lookup.specs.Threads.{keys, Alike, NoneAlike, Threaded, Threads}
use Rattle.lookup.proofs.EntryLaws.{opened_kept}
use Rattle.line.specs.LineFaults.{passed, line_check, entries_of_line}
use Rattle.line.specs.LookUp.{Known}
use Rattle.line.specs.FoundWords.{FoundWords}
use Rattle.line.proofs.Passed.{line_passing, line_brief}
use Rattle.opening.specs.Open.{Open}

-- The rows of the declared types hold all that the rows do.
declared_rows : {types : ℕ} (rows : List ℕ) {R : Relation} → Hold rows R → Within types R → Hold (take types rows) R
unfolding InRows
declared_rows {types} rows {R} hold within a b =
    (by (less_or_not a types), λ r. rw (get_or-take types rows a 0 (within a b r).0) ((hold a b).1 r))
  where
    by : (a < types) ⊎ (types ≤ a) → InRows (take types rows) a b → R a b
    by (inl h) i = (hold a b).0 (rw (get_or-take types rows a 0 h) at i)
    by (inr h) i = absurd (empty_has_none b (rw (get_or-eq_default (take types rows) 0 {n = a} (omega (arith, length-take types rows))) at i))

-- What is kept of an accepted book, with the rows of its closed order.
pub is_open : (bytes : Bytes) (s : Store) (types count goals : ℕ) (B : Book) (alike order : List ℕ) → types ≤ length order → Opened bytes s types count goals B
    → Alike bytes (take count s.entries) alike → Hold order (Closed types (InRows s.direct))
    → Open bytes s.names (take count s.entries) alike (take types order) (take goals s.targets) B
is_open bytes s types count goals B alike order room o threaded hold =
    let number = opened_types bytes s types count goals B o in
    let rows : length (take types order) ≡ types = length-take-le types order room in
    let declared = (accepted_declares bytes B o.parsed).pairs in
    let rows-hold : Hold order (Closed (length B.names) (Listed B.pairs)) = rw number (opened_order bytes s types count goals B o order hold) in
    let closed : Hold (take types order) (Closed (length B.names) (Listed B.pairs)) =
    subst (λ (n : ℕ). Hold (take n order) (Closed (length B.names) (Listed B.pairs))) number (declared_rows order rows-hold (closed_within declared)) in
    record {
      parsed = o.parsed;
      named = rw rows o.named;
      type_names = rw rows o.names;
      kept = opened_kept o;
      threaded = threaded;
      decides = λ a b. Iff.trans (below_decides (length B.names) B.pairs declared a b) (Iff.symm (closed a b));
      chosen = o.targets;
      few_targets = omega (arith, o.few_targets, length-take goals s.targets);
    }

-- Threads that are not begun yet, and those of no word.
pub none_alike : NoneAlike (replicate (max_entries + keys) max_entries)
none_alike = record { room = length-replicate {A = ℕ} (max_entries + keys) max_entries; none = λ k h. get_or-replicate {A = ℕ} (max_entries + keys) k max_entries 0 h }

pub none_threaded : {bytes : Bytes} {entries : List ℕ} → Entries bytes entries → Threaded bytes entries (replicate max_entries 0)
none_threaded kept = record { room = omega (arith, kept.few, length-replicate {A = ℕ} max_entries 0); known = λ i j h any l o. let e = zeros max_entries i in absurd (omega arith) }

-- The words of a line that passed its check are found.
pub line_found : {bytes : Bytes} {names entries alike order targets : List ℕ} {line : Bytes} {firsts same : List ℕ} {B : Book}
    → Open bytes names entries alike order targets B → Threaded bytes entries same → line_check B line ≡ passed (entries_of_line B line) → Known bytes entries B line firsts same
    → FoundWords bytes names entries same firsts order targets (below (length B.names) B.pairs) (entries_of_line B line)
line_found {bytes} {entries = entries} {line = line} {firsts} {same} {B} o threaded passes known =
    let p = line_passing B line (entries_of_line B line) passes in
    record {
      threaded = record {
        vocabulary = record { named = o.named; lexicon = subst (λ (ns : List Bytes). Lexicon bytes ns entries) o.type_names o.kept.lexicon };
        same_room = threaded.room;
        threads = subst (λ (ns : List Bytes). Threads bytes ns entries same firsts 0 (entries_of_line B line)) o.type_names known.threads;
        as_many = known.as_many;
        few = known.few;
        small = known.small;
        known_words = p.known_words;
        brief_words = line_brief B line (entries_of_line B line) (accepted_declares bytes B o.parsed).short p;
      };
      few_targets = o.few_targets;
      decides = o.decides;
    }
