-- What a history of a relay's steps has put into its link.
use Rattle.std.proofs.Common.{◌≡◌, ℕ, List, ◌++◌}
use Rattle.node_lock.specs.Histories.{Replays}
use Rattle.node_lock.proofs.Gains.{replays-gains, replays-keeps}
use Rattle.node_links.specs.Ends.{put_by, IsSameSender}
use Rattle.node_links.proofs.SameEnds.{same_sender-refl, same_sender-trans}
use Rattle.node_relay.specs.declared.relay.Sent.{Sent}
use Rattle.node_relay.specs.declared.relay.Relay.{Relay}
use Rattle.node_relay.specs.Relaying.{kept_of, all_kept, Puts}

pub same_sender : (xs : List (ℕ × Sent)) (start now : Relay) → Replays Puts start xs now → IsSameSender start.sender now.sender
same_sender =
    replays-keeps Puts (λ (a b : Relay). IsSameSender a.sender b.sender) (λ a. same_sender-refl a.sender)
    (λ a b c p q. same_sender-trans a.sender b.sender c.sender p q) (λ a e b s. s.0)

pub all_put : (xs : List (ℕ × Sent)) (start now : Relay) → Replays Puts start xs now → put_by now.sender ≡ put_by start.sender ++ all_kept xs
all_put = replays-gains Puts (λ (a : Relay). put_by a.sender) kept_of (λ a e b s. s.1)
