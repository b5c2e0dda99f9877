use Rattle.std.proofs.Common.{◌≡◌, ◌∙◌, sym, subst, arith}
use Rattle.node_steps.specs.Hints.{is_kept}
use Rattle.hint_store.specs.Staged.{Staged}
use Rattle.hint_store.specs.Stores.{hints_now}
use Rattle.hint_store.proofs.Staging.{last_is}
use Rattle.hint_store.proofs.Keeping.{kept_of, kept_told, not_kept_told}
use Rattle.hint_store.proofs.store.HintStore.is_kept.Goals as goal
use lib.Dec.{leb}

pub returns-then-number-last : goal.returns-then-number-last
returns-then-number-last c =
    subst (λ (v : Staged). c.is_left.result ≡ is_kept v.now c.args.peer c.args.number) c.self.view_is
    (kept_told (kept_of (hints_now c.self.inside.gone.keys c.self.inside.table.entries) c.self.inside.current.last) c.args.peer c.args.number c.last.result c.is_left.result
    (c.last.ensures ∙ sym (last_is c.self.inside.current.last c.args.peer)) (omega arith) c.is_left.ensures)

pub returns-else-number-last : goal.returns-else-number-last
returns-else-number-last c =
    subst (λ (v : Staged). leb c.args.number c.last.result ≡ is_kept v.now c.args.peer c.args.number) c.self.view_is
    (not_kept_told (kept_of (hints_now c.self.inside.gone.keys c.self.inside.table.entries) c.self.inside.current.last) c.args.peer c.args.number c.last.result
    (c.last.ensures ∙ sym (last_is c.self.inside.current.last c.args.peer)) (omega arith))
