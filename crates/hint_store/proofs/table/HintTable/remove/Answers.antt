use Rattle.std.proofs.Common.{◌∙◌, sym, ap, filter}
use Rattle.std.specs.Prelude.{not}
use Rattle.hint_store.specs.Tables.{Filed, is_place}
use Rattle.hint_store.proofs.Places.{removed}
use Rattle.hint_store.proofs.Indexing.{its_number, its_age, table_loses}
use Rattle.hint_store.proofs.table.HintTable.remove.Goals as goal

pub leave-requires-clause-numbers : goal.leave-requires-clause-numbers
leave-requires-clause-numbers c = its_number c.args.place.now c.in-Some.hint c.self.inside.by_place.entries c.self.inside.by_number.keys c.self.invariant.by_number (sym c.in-Some.ensures.value)

pub leave-requires-clause-ages : goal.leave-requires-clause-ages
leave-requires-clause-ages c = its_age c.args.place.now c.in-Some.hint c.self.inside.by_place.entries c.self.inside.by_age.keys c.self.invariant.by_age (sym c.in-Some.ensures.value)

pub invariant_of-self : goal.invariant_of-self
invariant_of-self c =
    table_loses c.self.inside.next c.args.place.now c.in-Some.hint c.self.inside.by_place.entries c.remove.new.self.entries c.self.inside.by_number.keys c.leave.new.numbers.keys c.self.inside.by_age.keys c.leave.new.ages.keys c.self.invariant
    (sym c.in-Some.ensures.value) c.remove.ensures.entries c.remove.ensures.ordered c.leave.ensures.numbers c.leave.ensures.ages

pub returns-in-Some : goal.returns-in-Some
returns-in-Some c = c.remove.ensures.entries ∙ removed c.args.place.now c.self.inside.by_place.entries c.self.invariant.sorted ∙ ap (λ (v : Filed). filter (λ e. not (is_place c.args.place.now e.0)) v.entries) c.self.view_is

pub returns-in_default : goal.returns-in_default
returns-in_default c = c.remove.ensures.entries ∙ removed c.args.place.now c.self.inside.by_place.entries c.self.invariant.sorted ∙ ap (λ (v : Filed). filter (λ e. not (is_place c.args.place.now e.0)) v.entries) c.self.view_is
