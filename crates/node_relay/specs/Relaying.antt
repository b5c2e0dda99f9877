-- Which steps a relay makes.
use Rattle.std.specs.Prelude.{◌≡◌, ℕ, Bool, List, [], ◌∷◌, ◌++◌, if◌then◌else◌}
use Rattle.std.specs.List.{flat_map}
use Rattle.node_links.specs.Ends.{put_by, IsSameSender}
use Rattle.node_relay.specs.declared.relay.Sent.{Sent}
use Rattle.node_relay.specs.declared.relay.Relay.{Relay}

abbrev pub message_of : Sent → ℕ
message_of sent = sent.message

abbrev pub is_lost : Sent → Bool
is_lost sent = sent.lost

-- the message, if it went into the link
abbrev pub kept_of : Sent → List ℕ
kept_of sent = if sent.lost then [] else sent.message ∷ []

-- the messages of a history that went into the link
abbrev pub all_kept : List (ℕ × Sent) → List ℕ
all_kept history = flat_map (λ (x : ℕ × Sent). kept_of x.1) history

-- the message was put, if it did not come back
abbrev pub Puts : Relay → Sent → Relay → Type 0
Puts before sent after = IsSameSender before.sender after.sender × (put_by after.sender ≡ put_by before.sender ++ kept_of sent)

-- a relay refuses nothing
abbrev pub Refuses : Relay → ℕ → ℕ → Type 0
Refuses _ _ _ = ⊥
