-- `slash::read_name` meets its contract: a name begins with a letter, goes as far as its bytes do, and is one by its length.
use native.Mathlib.Omega.{arith}
use Prim.Native.Nat.{ℕ}
use mathlib.Core.Path.{◌≡◌, sym, ◌∙◌}
use mathlib.Core.Bool.{true}
use lib.ListN.{get_or}
use Rattle.format.specs.Records.{between}
use Rattle.format.specs.Names.{NameEnds}
use Rattle.slash.proofs.PlaceLaws.{room_some}
use Rattle.slash.proofs.ParserLaws.{says_nothing, says_front}
use Rattle.format.proofs.NameFronts.{name_begins}
use Rattle.slash.proofs.NamesRead.{number_small, name_long, name_other, name_there, name_written}
use Rattle.slash.proofs.read_name.Goals as goal

pub returns-then-not-is_letter : goal.returns-then-not-is_letter
returns-then-not-is_letter c = says_nothing (name_other _ _ c.requires.1 (sym c.is_letter.ensures ∙ c.if-not-is_letter.true))

pub returns-then-behind-at-gt-MAX_NAME : goal.returns-then-behind-at-gt-MAX_NAME
returns-then-behind-at-gt-MAX_NAME c =
    let letter : between 97 122 (get_or {A = ℕ} c.args.text.now c.args.at 0) ≡ true = sym c.is_letter.ensures ∙ c.if-not-is_letter.false in
    let begun : NameEnds c.args.text.now c.args.at c.name_end-behind.result = name_begins c.requires.1 letter c.name_end-behind.ensures in
    says_nothing (name_long begun (omega arith))

pub overflow_cast-number : goal.overflow_cast-number
overflow_cast-number c = record { fits = number_small _ c.requires.0.named c.find_name-number.ensures }

pub bounds-places-from : goal.bounds-places-from
bounds-places-from c = omega (arith, room_some 0, c.requires.0.space)

pub returns : goal.returns
returns c =
    let letter : between 97 122 (get_or {A = ℕ} c.args.text.now c.args.at 0) ≡ true = sym c.is_letter.ensures ∙ c.if-not-is_letter.false in
    let begun : NameEnds c.args.text.now c.args.at c.name_end-behind.result = name_begins c.requires.1 letter c.name_end-behind.ensures in
    let e = begun in
    says_front (name_there e (omega (arith, c.name_end-behind.ensures.forth), omega arith) letter) (name_written e _ _ _ _ _ (omega (arith, room_some 0, c.requires.0.space)) c.find_name-number.ensures c.hold.ensures)
