-- No cause has the number 0.
use Rattle.std.proofs.Common.{◌≡◌}
use Rattle.figures.specs.declared.refusals.Cause.{Cause}
use Rattle.figures.specs.declared.refusals.Cause.TheVariants.{BookTooLong, CutShort, KindNotListed, BadLayout, UndeclaredType, ExponentOutside, NameUsed, TooManyTargets, TooManyRecords, NoTarget, BadLineByte, BadWord, UnknownWord, TooManySimples, NoReading, BufferTooShort, BadBatch, AnswersTooLong, BracketsTooDeep, NotAType, TypeTooLong}
use Rattle.figures.specs.Refusals.{number_of}

pub some_number : (cause : Cause) → number_of cause ≡ 0 → ⊥
some_number BookTooLong h = cc
some_number CutShort h = cc
some_number KindNotListed h = cc
some_number BadLayout h = cc
some_number UndeclaredType h = cc
some_number ExponentOutside h = cc
some_number NameUsed h = cc
some_number TooManyTargets h = cc
some_number TooManyRecords h = cc
some_number NoTarget h = cc
some_number BadLineByte h = cc
some_number BadWord h = cc
some_number UnknownWord h = cc
some_number TooManySimples h = cc
some_number NoReading h = cc
some_number BufferTooShort h = cc
some_number BadBatch h = cc
some_number AnswersTooLong h = cc
some_number BracketsTooDeep h = cc
some_number NotAType h = cc
some_number TypeTooLong h = cc
