-- What holds of the words of a line that breaks none of 11 to 14.
use Rattle.std.specs.Prelude.{◌≤◌, length}
use mathlib.Core.List.{List, [], ◌∷◌, Memᴰ}
use Rattle.figures.specs.Limits.{max_entry_simples}
use Rattle.linking.specs.Reading.{NumberedEntry, Words}

-- Every word has an entry.
pub data AllKnown : Words → Type 0 where
  no_word : AllKnown []
  known : {e : NumberedEntry} {es : List NumberedEntry} {words : Words} → AllKnown words → AllKnown ((e ∷ es) ∷ words)

-- No entry of a word has too many simple types ..
abbrev pub Brief : List NumberedEntry → Type 0
Brief es = (f : NumberedEntry) → Memᴰ f es → length f.type ≤ max_entry_simples

-- .. and none of any word of a line.
pub data AllBrief : Words → Type 0 where
  no_words : AllBrief []
  brief : {es : List NumberedEntry} {words : Words} → Brief es → AllBrief words → AllBrief (es ∷ words)
