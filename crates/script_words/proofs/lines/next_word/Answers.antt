use Rattle.std.proofs.Common.{◌≡◌, length, sym, ◌∙◌, ap}
use Rattle.std.proofs.lemmas.Bool.{eqb-true}
use Rattle.script_words.specs.Words.{words_in, without_spaces}
use Rattle.script_words.proofs.NextWords.{trimmed_words, trimmed_once, none_in}
use Rattle.script_words.proofs.lines.next_word.Goals as goal

pub returns-then-is_empty : goal.returns-then-is_empty
returns-then-is_empty c =
    let none : length c.without_spaces-text.result.now ≡ 0 = eqb-true (length c.without_spaces-text.result.now) 0 (sym c.is_empty.ensures ∙ c.if-is_empty.true) in
    sym (ap words_in c.without_spaces-text.ensures ∙ trimmed_words c.args.text.now) ∙ none_in c.without_spaces-text.result.now none

pub behind_word-requires-clause-word : goal.behind_word-requires-clause-word
behind_word-requires-clause-word c = ap without_spaces c.without_spaces-text.ensures ∙ (trimmed_once c.args.text.now ∙ sym c.without_spaces-text.ensures)

pub returns : goal.returns
returns c = sym (ap words_in c.without_spaces-text.ensures ∙ trimmed_words c.args.text.now) ∙ c.behind_word.ensures
