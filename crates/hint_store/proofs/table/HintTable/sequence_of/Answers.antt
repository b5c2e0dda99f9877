use Rattle.std.proofs.Common.{◌≡◌, ◌∙◌, false, sym, subst, rules}
use Rattle.std.specs.List.{list_any}
use Rattle.hint_store.specs.Tables.{Filed, is_hint, IsAt}
use Rattle.hint_store.proofs.Runs.{front_of_number, none_of_number}
use Rattle.hint_store.proofs.table.HintTable.sequence_of.Goals as goal

pub returns-in-Some-clause-there : goal.returns-in-Some-clause-there
returns-in-Some-clause-there c =
    subst (λ (v : Filed). IsAt c.args.peer c.args.number c.in-Some.key.now.2 v.entries) c.self.view_is
    (front_of_number c.self.inside.next c.args.peer c.args.number c.self.inside.by_place.entries c.self.inside.by_number.keys c.range-sequences.result c.next.new.self c.in-Some.key.now c.self.invariant.sorted c.self.invariant.filed c.self.invariant.by_number
    (c.range-sequences.ensures.between (search rules)) c.in-Some.ensures.steps)

pub returns-in-None-clause-none : goal.returns-in-None-clause-none
returns-in-None-clause-none c =
    subst (λ (v : Filed). list_any (λ e. is_hint c.args.peer c.args.number e.1) v.entries ≡ false) c.self.view_is
    (none_of_number c.self.inside.next c.args.peer c.args.number c.self.inside.by_place.entries c.self.inside.by_number.keys c.self.invariant.filed c.self.invariant.by_number
    (sym (c.range-sequences.ensures.between (search rules)) ∙ c.in-None.ensures.steps.0))
