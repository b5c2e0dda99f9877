use Rattle.script_words.specs.Texts.{texts_of}
use Rattle.script_words.proofs.WordSplits.{FoundTo}
use Rattle.script_words.proofs.lines.words_between.Given as goal

abbrev pub invariant-loop-at : goal.invariant-loop-at
invariant-loop-at l = FoundTo l.text (texts_of l.words.items) l.begin l.at
