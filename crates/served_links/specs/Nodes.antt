-- The links between nodes.
use Rattle.std.specs.Prelude.{◌≡◌, ℕ, ◌≤◌, List, [], ◌++◌, length}
use Rattle.std.specs.List.{AllZip}
use Rattle.peer_messages.specs.declared.message.Message.{Message}
use Rattle.node_links.specs.Ends.{put_by, known_taken, taken_by, known_to, IsLink, IsSameSender, IsSameReceiver}
use Rattle.node_links.specs.declared.ends.Receiver.{Receiver}
use Rattle.served_links.specs.Ends.{Ends, EachLink, AreEven, LeadToOthers, HasSameEnds}
use Rattle.served_links.specs.Meetings.{Met}
use Rattle.wired_node.specs.declared.senders.NodeSender.{NodeSender}
use Rattle.served_links.specs.declared.ends.NodeLinks.{NodeLinks}

abbrev pub NodeEnds : Type 0
NodeEnds = Ends NodeSender (Receiver Message)

abbrev pub NodeMet : Type 0
NodeMet = Met NodeSender (Receiver Message)

abbrev pub ends_of : NodeLinks → NodeEnds
ends_of a = record { senders = a.senders.items; receivers = a.receivers }

abbrev pub upto_of : NodeSender → ℕ
upto_of s = s.upto

-- ---- what holds of the two ends of a link

abbrev pub AreEnds : NodeSender → Receiver Message → Type 0
AreEnds s r = IsLink s.sender r

-- nothing went through it yet
abbrev pub AreFreshEnds : NodeSender → Receiver Message → Type 0
AreFreshEnds s r =
    IsLink s.sender r × (put_by s.sender ≡ []) × (known_taken s.sender ≡ 0) × (taken_by r ≡ []) × (known_to r ≡ [])

-- What was taken, and then what was not, is what was put. What the sender knew to be taken was taken.
abbrev pub AreSettled : NodeSender → Receiver Message → Type 0
AreSettled s r =
    ((left : List Message) × (put_by s.sender ≡ taken_by r ++ left)) × (known_taken s.sender ≤ length (taken_by r))

-- ---- nodes at two moments

abbrev pub IsSameLead : NodeSender → NodeSender → Type 0
IsSameLead s s' = (s'.upto ≡ s.upto) × IsSameSender s.sender s'.sender

-- nodes that have the ends that they had have the two of each link
abbrev pub SameEndsStayLinked : Type 0
SameEndsStayLinked =
    (nodes : ℕ) (all all' : List NodeEnds) → LeadToOthers upto_of nodes all → EachLink AreFreshEnds all → AllZip (HasSameEnds IsSameLead IsSameReceiver) all all'
    → AreEven nodes all' × EachLink AreEnds all'
