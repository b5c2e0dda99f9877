use Rattle.script_words.proofs.Trimming.{trimmed}
use Rattle.script_words.proofs.lines.without_spaces.Goals as goal

pub returns : goal.returns
returns c = trimmed _ _ c.trim_start_matches.ensures.matches
