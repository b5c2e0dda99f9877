-- The links of nodes: how they are made, and what stays of them.
use Rattle.std.proofs.Common.{◌≢◌, ℕ, List, [], ◌∷◌, map, sym, subst}
use Rattle.std.specs.List.{AllByRecursion}
use Rattle.peer_messages.specs.declared.message.Message.{Message}
use Rattle.node_links.specs.Ends.{IsSameReceiver}
use Rattle.node_links.specs.declared.ends.Receiver.{Receiver}
use Rattle.node_links.proofs.SameEnds.{same_link, same_link-receiver}
use Rattle.served_links.specs.Ends.{EachLink, LeadToOthers}
use Rattle.served_links.specs.Nodes.{NodeEnds, AreEnds, AreFreshEnds, IsSameLead, SameEndsStayLinked, upto_of}
use Rattle.wired_node.specs.Sending.{AreDistinct}
use Rattle.wired_node.specs.declared.senders.NodeSender.{NodeSender}
use Rattle.served_links.proofs.Numbers.{AreApart, others_apart}
use Rattle.served_links.proofs.Places.{all_from}
use Rattle.served_links.proofs.Rows.{are_even, same_each, same_even}

others_apart_from : (n : ℕ) (ss : List NodeSender) → AllByRecursion (λ (m : ℕ). m ≢ n) (map upto_of ss) → AllByRecursion (λ (s : NodeSender). s.upto ≢ n) ss
others_apart_from n [] apart = tt
others_apart_from n (s ∷ ss) apart = (apart.0, others_apart_from n ss apart.1)

distinct_by_number : (ss : List NodeSender) → AreApart (map upto_of ss) → AreDistinct ss
distinct_by_number [] apart = tt
distinct_by_number (s ∷ ss) apart = (others_apart_from s.upto ss apart.0, distinct_by_number ss apart.1)

-- links to the other nodes lead to each just once
pub all_distinct : (nodes : ℕ) (all : List NodeEnds) → LeadToOthers upto_of nodes all → AllByRecursion (λ (a : NodeEnds). AreDistinct a.senders) all
all_distinct nodes all lead = all_from (λ (a : NodeEnds). AreDistinct a.senders) all
    (λ me a at. distinct_by_number a.senders (subst AreApart (sym (lead.1 me a at).0) (others_apart me nodes)))

still_linked : (s s' : NodeSender) (r r' : Receiver Message) → IsSameLead s s' → IsSameReceiver r r' → AreFreshEnds s r → AreEnds s' r'
still_linked s s' r r' same_s same_r fresh = same_link-receiver s'.sender r r' same_r (same_link s.sender s'.sender r same_s.1 fresh.0)

pub same_ends : SameEndsStayLinked
same_ends nodes all all' lead fresh same =
    (same_even IsSameLead IsSameReceiver nodes all all' (are_even upto_of nodes all lead) same, same_each IsSameLead IsSameReceiver AreFreshEnds AreEnds still_linked all all' fresh same)

-- fresh ends are ends
pub each_linked : (all : List NodeEnds) → EachLink AreFreshEnds all → EachLink AreEnds all
each_linked all fresh from to a b s r apart at_from at_to s_at r_at = (fresh from to a b s r apart at_from at_to s_at r_at).0
