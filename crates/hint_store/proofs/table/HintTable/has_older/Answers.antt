use Rattle.std.proofs.Common.{ℕ, List, ◌∙◌, sym, ap, rules}
use Rattle.std.specs.Prelude.{not, nat_lt}
use Rattle.std.specs.List.{list_any}
use Rattle.hint_store.specs.Tables.{Filed}
use Rattle.hint_store.specs.Stores.{is_added, hints_now}
use Rattle.hint_store.proofs.Ages.{any_older, none_older}
use Rattle.hint_store.proofs.table.HintTable.has_older.Goals as goal

pub returns : goal.returns
returns c =
    c.is_any_left.ensures
    ∙ ap (λ (ks : List (ℕ × ℕ × ℕ × ℕ)). list_any (λ k. not (is_added c.args.gone.now.keys (k.1, k.2))) ks) (c.range.ensures.between (search rules))
    ∙ any_older c.self.inside.next c.args.time c.args.gone.now.keys c.self.inside.by_place.entries c.self.inside.by_age.keys c.self.invariant.filed c.self.invariant.by_age
    ∙ ap (λ (v : Filed). list_any (λ h. nat_lt h.born c.args.time) (hints_now c.args.gone.now.keys v.entries)) c.self.view_is

pub returns-then-not-begins_before : goal.returns-then-not-begins_before
returns-then-not-begins_before c =
    sym (none_older c.args.time c.args.gone.now.keys c.self.inside.by_place.entries c.self.inside.by_age.keys c.self.invariant.by_age (sym c.begins_before.ensures ∙ c.if-not-begins_before.true))
    ∙ ap (λ (v : Filed). list_any (λ h. nat_lt h.born c.args.time) (hints_now c.args.gone.now.keys v.entries)) c.self.view_is
