-- What a contract sees of a lock and of a pass.
use Rattle.std.specs.Prelude.{◌≡◌, ℕ, Some}
use Rattle.node_lock.specs.Rules.{shown}
use Rattle.node_lock.specs.Views.{PassView}
use Rattle.node_lock.specs.declared.lock.NodeLock.{NodeLock}
use Rattle.node_lock.specs.declared.pass.Pass.{Pass}

module _ {N Event Reply Entry : Type 0} where
  -- the state that the lock was made with
  abbrev pub start_of : NodeLock N Event Reply Entry → N
  start_of lock = lock.table.shared.key.state.value

  -- the number of seats that the lock was made with
  abbrev pub seats_of : NodeLock N Event Reply Entry → ℕ
  seats_of lock = lock.table.shared.key.seats

  abbrev pub view_of : Pass N Event Reply Entry → PassView Entry
  view_of pass = shown pass.rest.seat.me.0

  -- the pass is one of this lock
  abbrev pub IsPassOf : NodeLock N Event Reply Entry → Pass N Event Reply Entry → Type 0
  IsPassOf lock pass = (pass.rest.seat.table_id ≡ lock.table.shared.table_id) × (pass.rest.seat.me.0.start ≡ Some (start_of lock))
