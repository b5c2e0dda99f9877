use Rattle.std.proofs.Common.{arith}
use Rattle.script_words.proofs.NumberLaws.{unread_within}
use Rattle.script_words.proofs.numbers.number_within.Goals as goal

pub returns-in-Err-clause-value : goal.returns-in-Err-clause-value
returns-in-Err-clause-value c = unread_within c.args.word.now c.args.least c.args.most c.parse.result _ c.in-Err.is c.parse.ensures.value.0 c.requires (omega arith)
