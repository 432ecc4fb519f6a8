use Rattle.pregroup.specs.Held.{in_rows}
use Rattle.letters.proofs.LetterLaws.{Lettering}
use Rattle.letters.proofs.link_letters.Given as goal

abbrev pub invariant-loop-i : goal.invariant-loop-i
invariant-loop-i l = Lettering (in_rows l.order) l.target l.string l.partners l.letters l.i
