use Rattle.std.proofs.Common.{rules, inl, inr, sym, ◌∙◌, arith}
use Rattle.fault_script.proofs.EventWords.{put_of_other_length, put_without_timestamp}
use Rattle.fault_script.proofs.events.put_line.Goals.{in_default-via-then-words-lt6, in_default-via-else-words-lt6+else-words-lt7}
use Rattle.fault_script.proofs.events.put_line.Goals as goal

pub returns-in_default : goal.returns-in_default
returns-in_default c = elim c.in_default.branch [
  | in_default-via-then-words-lt6 w ↦ put_of_other_length c.args.nodes c.args.words.now (inl (search rules))
  | in_default-via-else-words-lt6+else-words-lt7 w ↦ put_of_other_length c.args.nodes c.args.words.now (inr (grind arith))
]

pub returns-in_default-long_value : goal.returns-in_default-long_value
returns-in_default-long_value c =
    put_without_timestamp c.args.nodes c.args.words.now (omega arith) (sym c.is_number.ensures ∙ c.if-not-is_number.false) (sym c.is_signed_number.ensures ∙ c.if-not-is_signed_number.false) c.in_default-long_value.ensures
