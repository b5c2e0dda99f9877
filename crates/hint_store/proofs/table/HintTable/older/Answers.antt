use Rattle.std.proofs.Common.{◌≡◌, ◌<◌, ◌↔◌, ℕ, List, None, ◌∙◌, ap, sym, subst, filter, rules, Contains}
use Rattle.std.specs.declared.ops.Bound.TheVariants.{Excluded, Unbounded}
use Rattle.std.specs.BTreeMap.Range.{range_contains}
use Rattle.row_change.specs.declared.entry.Hint.{Hint}
use Rattle.hint_store.specs.declared.aging.Expired.{Expired}
use Rattle.hint_store.specs.Tables.{Filed, age_cmp}
use Rattle.hint_store.specs.Stores.{hints_now}
use Rattle.hint_store.specs.Expiry.{AreOldestFirst, expired_of, expired_in}
use Rattle.hint_store.proofs.Ages.{older_are, older_in_order}
use Rattle.hint_store.proofs.table.HintTable.older.Goals as goal

pub returns-clause-ordered : goal.returns-clause-ordered
returns-clause-ordered c =
    let is : c.from_vec.result ≡ expired_in c.args.gone.now.keys None (filter (range_contains age_cmp Unbounded (Excluded (c.args.time, 0, 0, 0))) c.self.inside.by_age.keys) =
    c.from_vec.ensures ∙ c.in_ok-collect_left.ensures ∙ ap (λ (ks : List (ℕ × ℕ × ℕ × ℕ)). expired_in c.args.gone.now.keys None ks) (c.range-walk.ensures.between (search rules)) in
    subst (λ (xs : List Expired). AreOldestFirst xs) (sym is) (older_in_order c.args.time c.args.gone.now.keys c.self.inside.by_age.keys c.range-walk.ensures.ordered)

pub returns-clause-each : goal.returns-clause-each
returns-clause-each c = λ x.
    let is : c.from_vec.result ≡ expired_in c.args.gone.now.keys None (filter (range_contains age_cmp Unbounded (Excluded (c.args.time, 0, 0, 0))) c.self.inside.by_age.keys) =
    c.from_vec.ensures ∙ c.in_ok-collect_left.ensures ∙ ap (λ (ks : List (ℕ × ℕ × ℕ × ℕ)). expired_in c.args.gone.now.keys None ks) (c.range-walk.ensures.between (search rules)) in
    subst (λ (v : Filed). Contains c.from_vec.result x ↔ ((h : Hint) × Contains (hints_now c.args.gone.now.keys v.entries) h × (h.born < c.args.time) × (x ≡ expired_of h))) c.self.view_is
    (subst (λ (xs : List Expired). Contains xs x ↔ ((h : Hint) × Contains (hints_now c.args.gone.now.keys c.self.inside.by_place.entries) h × (h.born < c.args.time) × (x ≡ expired_of h))) (sym is)
    (older_are c.args.time c.args.gone.now.keys c.self.inside.by_place.entries c.self.inside.by_age.keys c.self.invariant.by_age x))
