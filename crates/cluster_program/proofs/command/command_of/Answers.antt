use Rattle.std.proofs.Common.{◌∙◌}
use Rattle.cluster_program.proofs.WordLaws.{three_words, two_words}
use Rattle.cluster_program.proofs.command.command_of.Goals as goal

pub returns-in-len3 : goal.returns-in-len3
returns-in-len3 c =
    c.serve_command.ensures
    ∙ three_words c.args.words.now c.word-item-then-words-lt4.result c.port-item.result c.as_str-in-len3.result.now c.as_str-in-len3-2.result.now c.in-len3.len_at_least c.in-len3.len_below
    c.word-item-then-words-lt4.is c.port-item.is c.as_str-in-len3.ensures.value c.as_str-in-len3-2.ensures.value

pub returns-in_default-2 : goal.returns-in_default-2
returns-in_default-2 c = two_words c.args.words.now c.in_default.len_at_least c.in_default.len_below
