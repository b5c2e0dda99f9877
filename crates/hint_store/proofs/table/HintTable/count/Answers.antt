use Rattle.std.proofs.Common.{◌∙◌, ap, filter, length, rules}
use Rattle.std.specs.declared.ops.Bound.TheVariants.{Included, Excluded}
use Rattle.std.specs.Map.{values_of}
use Rattle.std.specs.BTreeMap.Range.{range_contains}
use Rattle.std.proofs.lemmas.Iterator.Consumers.{count_from_yields_List, YieldsList-from_rest}
use Rattle.hint_store.specs.Tables.{Filed, number_cmp, is_hint}
use Rattle.hint_store.proofs.Runs.{counted}
use Rattle.hint_store.proofs.table.HintTable.count.Goals as goal

pub returns : goal.returns
returns c =
    count_from_yields_List c.range.result _ c.count.ensures.ran
    (YieldsList-from_rest (filter (range_contains number_cmp (Included (c.args.peer, c.args.number, 0)) (Excluded (c.args.peer, c.args.number, c.self.inside.next))) c.self.inside.by_number.keys) (c.range.ensures.between (search rules)))
    ∙ counted c.self.inside.next c.args.peer c.args.number c.self.inside.by_place.entries c.self.inside.by_number.keys c.self.invariant.filed c.self.invariant.by_number
    ∙ ap (λ (v : Filed). length (filter (is_hint c.args.peer c.args.number) (values_of v.entries))) c.self.view_is
