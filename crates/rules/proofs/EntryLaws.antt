-- An entry's body written out: what the functions of the layout read off it.
use mathlib.Core.Path.{◌≡◌, sym, ◌∙◌}
use lib.ListN.{length}
use lib.Seq.{drop-drop, take-append_seam, drop-append_seam}
use Rattle.format.specs.Records.{Bytes}
use Rattle.rules.specs.Layouts.{word_of, type_part, entry_body}

-- An entry's parts.
module _ (word type : Bytes) where
  pub word_part : word_of (entry_body word type) ≡ word
  word_part = take-append_seam word type

  pub type_part_lem : type_part (entry_body word type) ≡ type
  type_part_lem = sym (drop-drop (length word) 1 (entry_body word type)) ∙ drop-append_seam word type
