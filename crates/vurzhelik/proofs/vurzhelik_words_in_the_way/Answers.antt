-- `vurzhelik::vurzhelik_words_in_the_way` meets its contract: what is answered is handed on as numbers, and that of the words only with 15.
use mathlib.Core.Path.{refl}
use Rattle.vurzhelik.proofs.Numbers.{way_handed}
use Rattle.vurzhelik.proofs.vurzhelik_words_in_the_way.Goals as goal

pub returns-in-NoReading : goal.returns-in-NoReading
returns-in-NoReading c =
    let said = c.in-NoReading.ensures in
    rw c.number.ensures (record { gives = said.gives; way_promised = said.way_promised; with_fifteen = record { no_value = λ _. refl; as_it_was = λ other. absurd (other refl) } })

pub returns-in-Ordinary : goal.returns-in-Ordinary
returns-in-Ordinary c =
    let said = c.in-Ordinary.ensures in
    let handed = way_handed c.args.book.now c.args.line.now c.args.answer.now c.args.words.now c.hand_on.ensures (said.gives, said.way_promised) in
    record { gives = handed.0; way_promised = handed.1.0; with_fifteen = handed.1.1 }
