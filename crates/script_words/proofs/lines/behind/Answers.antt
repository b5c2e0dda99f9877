use Rattle.std.proofs.lemmas.Str.{utf8_valid_len-IsUtf8}
use Rattle.script_words.proofs.WordLaws.{behind_found}
use Rattle.script_words.proofs.lines.behind.Goals as goal

pub returns-in-Ok : goal.returns-in-Ok
returns-in-Ok c =
    let begun = c.in_ok-rest.ensures.cases in
    let text = c.in-Ok.ensures.cases in
    behind_found c.args.beginning.now c.args.line.now c.in_ok-rest.rest.now c.in-Ok.text.now _ begun.0 begun.1 text.0 (utf8_valid_len-IsUtf8 c.in_ok-rest.rest.now text.1) c.without_spaces.ensures
