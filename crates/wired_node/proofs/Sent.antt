-- Which types may go to other threads, and which they may share: entries, nodes under a lock, and the passes and the locks of these. `crosses` has them as a set for `search`.
-- Each is proved by its fields, since a `search` from the type down to the events of a call runs out of steps.
use denote.RattleType.{RattleType}
use denote.Builtin.{bool, u32}
use denote.Param.Send.{IsSend, IsSync, sendable, recorded_send, recorded_sync, struct_send, struct_sync}
use denote.Struct.Declared.{shape}
use denote.Struct.Struct.{Struct}
use Rattle.std.proofs.Crossing as below
use Rattle.std.specs.contracts.option.Option as option
use Rattle.std.specs.contracts.result.Result as result
use Rattle.std.specs.contracts.snapshot.Snapshot as snapshot
use Rattle.atomic_table.proofs.owned.Table.TheSendSync.{the_field_sync as table_sync}
use Rattle.atomic_table.proofs.shared.Seat.TheSendSync.{the_send as seat_send}
use Rattle.http_server.proofs.log.Log.TheSendSync.{the_send as log_send}
use Rattle.cs_store.specs.declared.store.Store as store
use Rattle.replica.specs.declared.replica.Replica as replica
use Rattle.peer_messages.proofs.message.Message.TheSendSync.{the_send as message_send}
use Rattle.peer_messages.specs.contracts.message.Message as message
use Rattle.peer_messages.specs.contracts.outcome.Outputs as outputs
use Rattle.node_core.specs.contracts.outcome.StepError as error
use Rattle.node_calls.proofs.call.NodeCall.TheSendSync.{the_field_send as call_send}
use Rattle.node_calls.specs.contracts.reply.NodeReply as reply
use Rattle.node_lock.specs.declared.stepper.Stepper as stepper
use Rattle.node_lock.specs.contracts.held.Held as held
use Rattle.node_lock.specs.contracts.lock.NodeLock as lock
use Rattle.node_lock.specs.contracts.pass.Pass as pass
use Rattle.node_lock.specs.contracts.pass.SeatAtRest as rest
use Rattle.node_lock.specs.contracts.view.SeatView as view
use Rattle.wired_node.proofs.linked.LinkedNode.TheSendSync.{the_field_send as linked_send}
use Rattle.wired_node.specs.contracts.entry.NodeEntry as entry
use Rattle.wired_node.specs.contracts.wired.Wired as wired
use Rattle.wired_node.specs.contracts.wired.Wired.TheInside as inside

bool_send : IsSend bool
bool_send = search sendable

u32_send : IsSend u32
u32_send = search sendable

snapshot_send : (T : RattleType) → IsSend (snapshot.the_row T)
snapshot_send T = search below.crosses

-- ---- a pass and a lock, by what may be done with the state and the entries

held_send : (N E : RattleType) → IsSend N → IsSend E → IsSend (held.the_row N E)
held_send N E n e = search (sendable, below.crosses) depth 20

slot_send : (N E : RattleType) → IsSend N → IsSend E → IsSend (option.the_row (held.the_row N E))
slot_send N E n e = let both = held_send N E n e in search sendable depth 20

rest_send : (N E : RattleType) → IsSend N → IsSend E → IsSend (rest.the_field N E).row
rest_send N E n e = struct_send (shape (rest.the_type N E)) (seat_send (option.the_row (held.the_row N E)) (view.the_row N E) (slot_send N E n e), (u32_send, (u32_send, tt)))

module _ (N A B E : RattleType) where
  pub pass_field_send : IsSend N → IsSend E → IsSend (pass.the_field N A B E).row
  pass_field_send n e = struct_send (shape (pass.the_type N A B E)) (rest_send N E n e, tt)

  pub pass_send : IsSend N → IsSend E → IsSend (pass.the_row N A B E)
  pass_send n e = let T = pass.the_type N A B E in recorded_send (Struct (shape T)) T.D T.to T.to_one (pass_field_send n e)

  module _ (g : stepper.Ghosts N.Denot A.Denot B.Denot E.Denot) where
    pub lock_field_sync : IsSend N → IsSend E → IsSync (lock.the_field N A B E g).row
    lock_field_sync n e = let slot = slot_send N E n e in struct_sync (shape (lock.the_type N A B E g)) (search (table_sync, sendable, below.crosses) depth 20, tt)

    pub lock_sync : IsSend N → IsSend E → IsSync (lock.the_row N A B E g)
    lock_sync n e = let T = lock.the_type N A B E g in recorded_sync (Struct (shape T)) T.D T.to T.to_one (lock_field_sync n e)

-- ---- an entry and a node

pub entry_field_send : IsSend entry.the_field.row
entry_field_send = struct_send (shape entry.the_type) (call_send, (snapshot_send (result.the_row outputs.the_row error.the_row), (log_send message.the_row bool message_send bool_send, (snapshot_send reply.the_row, tt))))

pub entry_send : IsSend entry.the_row
entry_send = let T = entry.the_type in recorded_send (Struct (shape T)) T.D T.to T.to_one entry_field_send

module _ (R D : RattleType) (r : replica.Ghosts R.Denot D.Denot) (s : store.Ghosts D.Denot) where
  inside_send : IsSend R → IsSend (inside.the_row R D r s)
  inside_send sent = let T = inside.the_type R D r s in recorded_send (Struct (shape T)) T.D T.to T.to_one (struct_send (shape T) (linked_send R D sent, (snapshot_send R, tt)))

  pub wired_send : IsSend R → IsSend (wired.the_row R D r s)
  wired_send sent = record { owned = λ d vs x. ((inside_send sent).owned x.0 vs, tt); leaving = λ k d w. tt }

pub ruleset crosses = (entry_field_send, entry_send, wired_send, pass_field_send, pass_send, lock_field_sync, lock_sync)
