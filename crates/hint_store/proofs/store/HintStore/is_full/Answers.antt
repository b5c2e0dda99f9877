use Rattle.std.proofs.Common.{◌≡◌, arith, subst}
use Rattle.std.specs.Prelude.{nat_eq}
use Rattle.node_steps.specs.Hints.{is_full}
use Rattle.hint_store.specs.Staged.{Staged}
use Rattle.hint_store.specs.Stores.{hints_now}
use Rattle.hint_store.proofs.Keeping.{room_told}
use Rattle.hint_store.proofs.store.HintStore.is_full.Goals as goal

pub returns-else-count-ge-MOST : goal.returns-else-count-ge-MOST
returns-else-count-ge-MOST c =
    subst (λ (v : Staged). nat_eq c.last.result 18446744073709551615 ≡ is_full v.now c.args.peer) c.self.view_is
    (room_told c.self.inside.current (hints_now c.self.inside.gone.keys c.self.inside.table.entries) c.count.result c.last.result c.args.peer c.count.ensures (c.self.invariant.now c.args.peer) c.last.ensures (omega arith) (omega arith))
