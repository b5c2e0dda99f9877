use Rattle.std.proofs.Common.{ℕ, ◌++◌, ◌∷◌, [], ◌∙◌, ap}
use Rattle.hint_store.specs.Tables.{Filed}
use Rattle.hint_store.specs.Stores.{hints_before}
use Rattle.hint_store.proofs.Staging.{vacant_before, before_stays}
use Rattle.hint_store.proofs.store.stage.Goals as goal

pub returns-in_err-push-2-clause-before : goal.returns-in_err-push-2-clause-before
returns-in_err-push-2-clause-before c =
    ap (λ (v : Filed). hints_before c.push.new.self.items v.entries) c.in_err-push-2.ensures.err
    ∙ vacant_before c.args.added.now.items c.push.new.self.items (c.args.hint.peer, c.args.table.now.next) c.args.table.now.entries
    (c.in_ok-push.ensures.items ∙ ap (λ (p : ℕ × ℕ). c.args.added.now.items ++ p ∷ []) c.next_place.ensures.place) c.next_place.ensures.vacant

pub returns-clause-before : goal.returns-clause-before
returns-clause-before c =
    before_stays c.args.added.now.items c.push.new.self.items (c.args.hint.peer, c.args.table.now.next) c.args.hint c.args.table.now.entries c.push-2.new.self.entries
    (c.in_ok-push.ensures.items ∙ ap (λ (p : ℕ × ℕ). c.args.added.now.items ++ p ∷ []) c.next_place.ensures.place) c.next_place.ensures.vacant c.in_ok-push-2.ensures.ok
