use Rattle.std.proofs.Common.{◌∙◌, sym}
use Rattle.hint_store.specs.Tables.{is_hint}
use Rattle.hint_store.proofs.Removing.{rest_stays, fewer, none_goes}
use Rattle.hint_store.proofs.table.HintTable.remove_number.Goals as goal

pub loop-sequence-smaller : goal.loop-sequence-smaller
loop-sequence-smaller c = fewer c.args.peer c.args.number c.in-Some.sequence c.loop-sequence.self.entries c.remove.new.self.entries c.in-Some.ensures.there c.remove.ensures

pub loop-sequence-preserved : goal.loop-sequence-preserved
loop-sequence-preserved c = rest_stays c.args.peer c.args.number c.in-Some.sequence c.loop-sequence.self.entries c.remove.new.self.entries c.in-Some.ensures.there c.remove.ensures ∙ c.loop-sequence.invariant

pub returns : goal.returns
returns c = sym (none_goes (λ e. is_hint c.args.peer c.args.number e.1) c.loop-sequence.self.entries c.in_default.ensures.none) ∙ c.loop-sequence.invariant
