use Rattle.script_words.proofs.WordLaws.{words_found}
use Rattle.script_words.proofs.lines.words.Goals as goal

pub returns-in_ok-words_between-in-Some : goal.returns-in_ok-words_between-in-Some
returns-in_ok-words_between-in-Some c =
    let line = c.in-Some.ensures in
    words_found c.args.line.now c.in-Some.text.now c.in_ok-words_between-in-Some.field-0.items line.0 line.1 c.in_ok-words_between-in-Some.ensures
