use Rattle.std.proofs.Common.{sym}
use Rattle.hint_store.proofs.Staging.{all_pass}
use Rattle.hint_store.proofs.Removing.{came_more}
use Rattle.hint_store.proofs.gone.remove_added.Goals as goal

pub loop-place-init : goal.loop-place-init
loop-place-init c = sym (all_pass c.args.table.now.entries)

pub loop-place-preserved : goal.loop-place-preserved
loop-place-preserved c =
    came_more c.args.added.now c.loop-place.place-index c.place-item.result c.args.table.now.entries c.loop-place.table.entries c.remove.new.self.entries c.loop-place-test.true c.place-item.is c.loop-place.invariant c.remove.ensures
