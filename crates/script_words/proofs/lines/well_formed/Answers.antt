use Rattle.std.proofs.lemmas.Str.{utf8_valid_len-IsUtf8}
use Rattle.script_words.proofs.WordLaws.{well_formed_line}
use Rattle.script_words.proofs.lines.well_formed.Goals as goal

pub returns : goal.returns
returns c =
    let text = c.in-Ok.ensures.cases in
    (text.0, well_formed_line c.args.line.now (utf8_valid_len-IsUtf8 c.args.line.now text.1) c.if-line-eq32.false c.if-line-eq32-2.false)
