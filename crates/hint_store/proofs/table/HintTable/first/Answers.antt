use Rattle.std.proofs.Common.{ℕ, List, ◌∙◌, ap, filter, take, rules}
use Rattle.std.specs.Map.{values_of}
use Rattle.row_change.specs.declared.entry.Hint.{Hint}
use Rattle.hint_store.specs.Staged.{first_of}
use Rattle.hint_store.specs.Tables.{Filed}
use Rattle.hint_store.specs.Stores.{is_sent, hints_now}
use Rattle.hint_store.proofs.Firsts.{first_are}
use Rattle.hint_store.proofs.table.HintTable.first.Goals as goal

pub returns : goal.returns
returns c =
    c.from_vec.ensures
    ∙ c.in_ok-copy_first.ensures
    ∙ ap (λ (es : List ((ℕ × ℕ) × Hint)). take 64 (filter (is_sent c.args.setting.now c.args.gone.now.keys) (values_of es))) (c.range-walk.ensures.between (search rules))
    ∙ first_are c.args.setting.now c.args.gone.now.keys c.args.peer c.self.inside.next c.self.inside.by_place.entries c.self.invariant.filed
    ∙ ap (λ (v : Filed). first_of c.args.setting.now (hints_now c.args.gone.now.keys v.entries) c.args.peer) c.self.view_is
