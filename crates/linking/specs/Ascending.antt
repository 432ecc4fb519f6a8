-- The numbers of a word's entries ascend, as they do in a book: by this the first entry that reads is the smallest.
use Rattle.std.specs.Prelude.{◌<◌}
use mathlib.Core.List.{List, [], ◌∷◌, Memᴰ}
use Rattle.linking.specs.Reading.{NumberedEntry, Words}

-- The numbers ascend ..
pub data Ascending : List NumberedEntry → Type 0 where
  empty : Ascending []
  more : {e : NumberedEntry} {es : List NumberedEntry} → ((f : NumberedEntry) → Memᴰ f es → e.number < f.number) → Ascending es → Ascending (e ∷ es)

-- .. in every word of a line.
pub data AllAscending : Words → Type 0 where
  empty : AllAscending []
  more : {es : List NumberedEntry} {rest : Words} → Ascending es → AllAscending rest → AllAscending (es ∷ rest)
