-- What a contract sees of a link's ends.
use Rattle.std.specs.Prelude.{ℕ, ◌+◌, ◌-◌, List, length}
use Rattle.rtrb.specs.Ring.{sent, known_free, received, known_items, IsPair, SameProducer, SameConsumer}
use Rattle.node_links.specs.declared.ends.Sender.{Sender}
use Rattle.node_links.specs.declared.ends.Receiver.{Receiver}

module _ {M : Type 0} where
  -- all messages that were put, in order
  abbrev pub put_by : Sender M → List M
  put_by s = sent s.producer

  -- how many of these the sender knows to be taken: 4,096 less than those, with the slots that it knows to be free
  abbrev pub known_taken : Sender M → ℕ
  known_taken s = (length (sent s.producer) + known_free s.producer) - 4096

  -- all messages that were taken, in order
  abbrev pub taken_by : Receiver M → List M
  taken_by r = received r.consumer

  -- the messages in the link that the receiver knows of, in order
  abbrev pub known_to : Receiver M → List M
  known_to r = known_items r.consumer

  -- the two are the ends of one link
  abbrev pub IsLink : Sender M → Receiver M → Type 0
  IsLink s r = IsPair s.producer r.consumer

  -- the same end of the same link, at two moments
  abbrev pub IsSameSender : Sender M → Sender M → Type 0
  IsSameSender a b = SameProducer a.producer b.producer

  abbrev pub IsSameReceiver : Receiver M → Receiver M → Type 0
  IsSameReceiver a b = SameConsumer a.consumer b.consumer
