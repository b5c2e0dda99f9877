use Rattle.script_words.proofs.NumberLaws.{unread_long}
use Rattle.script_words.proofs.numbers.long_value.Goals as goal

pub returns-in-Err : goal.returns-in-Err
returns-in-Err c = unread_long c.args.word.now c.parse.result _ c.in-Err.is c.parse.ensures.value.0 c.requires
