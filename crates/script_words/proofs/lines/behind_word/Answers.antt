use Rattle.script_words.proofs.NextWords.{word_cut, word_alone}
use Rattle.script_words.proofs.lines.behind_word.Goals as goal

pub returns-in-Some : goal.returns-in-Some
returns-in-Some c = word_cut c.args.text.now c.in-Some.word.now c.in-Some.rest.now c.requires.some c.requires.word c.in-Some.ensures

pub returns-in-None : goal.returns-in-None
returns-in-None c = word_alone c.args.text.now c.requires.some c.in-None.ensures
