-- What a step puts into the links of its node.
use Rattle.std.specs.Prelude.{◌≡◌, ◌≢◌, ◌==◌, ◌&&◌, ◌++◌, ◌+◌, ◌≤◌, ℕ, Bool, true, false, not, List, [], ◌∷◌, length, filter, map}
use Rattle.std.specs.List.{AllByRecursion, list_any}
use Rattle.peer_messages.specs.declared.message.Message.{Message}
use Rattle.node_links.specs.Ends.{put_by, known_taken, IsSameSender}
use Rattle.wired_node.specs.declared.senders.NodeSender.{NodeSender}

abbrev pub leads_to : ℕ → NodeSender → Bool
leads_to node s = s.upto == node

-- ---- messages, each with whether it is lost

abbrev pub message_in : Message × Bool → Message
message_in x = x.0

abbrev pub goes_to : ℕ → Message × Bool → Bool
goes_to node x = (x.0.upto == node) && not x.1

-- the messages to a node that are not lost, in order
abbrev pub gone_to : ℕ → List (Message × Bool) → List Message
gone_to node sent = map message_in (filter (goes_to node) sent)

abbrev pub is_lost_to : ℕ → Message × Bool → Bool
is_lost_to node x = (x.0.upto == node) && x.1

-- ---- links

-- Of these messages the link took those to its node, at its end, but for the lost ones. It loses one only where it is full: where 4,096
-- stand in it that are not known to be taken
pub record IsPut (sent : List (Message × Bool)) (s s' : NodeSender) : Type 0 where
  pub upto : s'.upto ≡ s.upto
  pub same : IsSameSender s.sender s'.sender
  pub put : put_by s'.sender ≡ put_by s.sender ++ gone_to s.upto sent
  pub known : known_taken s.sender ≤ known_taken s'.sender
  pub full : list_any (is_lost_to s.upto) sent ≡ true → known_taken s.sender + 4096 ≤ length (put_by s'.sender)

-- each link did
abbrev pub ArePut : List (Message × Bool) → List NodeSender → List NodeSender → Type 0
ArePut sent [] [] = Unit {0}
ArePut sent [] (s' ∷ ss') = ⊥
ArePut sent (s ∷ ss) [] = ⊥
ArePut sent (s ∷ ss) (s' ∷ ss') = IsPut sent s s' × ArePut sent ss ss'

-- a message to a node to which no link leads is lost
abbrev pub AreLostUnlinked : List (Message × Bool) → List NodeSender → Type 0
AreLostUnlinked sent ss = AllByRecursion (λ (x : Message × Bool). list_any (leads_to x.0.upto) ss ≡ false → x.1 ≡ true) sent

-- one link leads to a node at most
abbrev pub AreDistinct : List NodeSender → Type 0
AreDistinct [] = Unit {0}
AreDistinct (s ∷ ss) = AllByRecursion (λ (t : NodeSender). t.upto ≢ s.upto) ss × AreDistinct ss
