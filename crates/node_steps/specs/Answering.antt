-- What a replica answers to the bodies that ask it.
use Rattle.std.specs.Prelude.{◌≡◌, ℕ, List}
use Rattle.changes.specs.declared.Change.{Change}
use Rattle.changes.specs.declared.Held.{Held}
use Rattle.peer_messages.specs.declared.message.Body.{Body}
use Rattle.peer_messages.specs.declared.message.Body.TheVariants.{Write, WriteAck, Read, ReadReply, Mend, MendAck, Hint, HintAck}
use Rattle.peer_messages.specs.declared.message.Message.{Message}
use Rattle.node_steps.specs.Replicas.{IsReplyTo}

-- the body asks a replica
abbrev pub IsForReplica : Body → Type 0
IsForReplica (Write m) = Unit {0}
IsForReplica WriteAck = ⊥
IsForReplica (Read q) = Unit {0}
IsForReplica (ReadReply content) = ⊥
IsForReplica (Mend m) = Unit {0}
IsForReplica MendAck = ⊥
IsForReplica (Hint number m) = Unit {0}
IsForReplica (HintAck number) = ⊥

-- one that held these changes before answers it so
abbrev pub IsAnswer : List Change → Body → Body → Type 0
IsAnswer content (Write m) b = b ≡ WriteAck
IsAnswer content WriteAck b = ⊥
IsAnswer content (Read q) b = (part : List Held) × IsReplyTo content q part × (b ≡ ReadReply part)
IsAnswer content (ReadReply other) b = ⊥
IsAnswer content (Mend m) b = b ≡ MendAck
IsAnswer content MendAck b = ⊥
IsAnswer content (Hint number m) b = b ≡ HintAck number
IsAnswer content (HintAck number) b = ⊥

-- the answer of node me to the message
abbrev pub reply_to : ℕ → ℕ → Message → Body → Message
reply_to me time m b = record { from = me; upto = m.from; time = time; born = m.request.time; request = m.request; body = b }
