use Rattle.std.proofs.Common.{◌≡◌, ◌++◌, map, drop, true}
use Rattle.std.specs.List.{list_all}
use Rattle.script_words.specs.Words.{is_signed_number, is_long_word, signed_value}
use Rattle.script_words.specs.Texts.{texts_of}
use Rattle.fault_script.proofs.head.tokens_of.Given as goal

-- the tokens so far and those of the words left are those of all words
abbrev pub invariant-loop-word : goal.invariant-loop-word
invariant-loop-word l = record {
  read : l.tokens.items ++ map signed_value (texts_of (drop l.word-index l.words)) ≡ map signed_value (texts_of l.words);
  long : list_all is_long_word (texts_of l.words) ≡ list_all is_long_word (texts_of (drop l.word-index l.words));
  signed : list_all is_signed_number (texts_of (drop l.word-index l.words)) ≡ true;
}
