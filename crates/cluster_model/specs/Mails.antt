-- The messages of a cluster as they are kept.
use Rattle.std.specs.Prelude.{◌≡◌, ◌+◌, ◌*◌, ◌≤◌, ◌<◌, ℕ, true, Option, Some, None, Bool, List, length, take, slice_get}
use Rattle.peer_messages.specs.declared.message.Message.{Message}
use Rattle.cluster_model.specs.State.{Post, places_from, with_sent}
use Rattle.cluster_model.specs.declared.routes.Routes.{Routes}
use Rattle.cluster_model.specs.declared.mail.Mail.{Mail}

-- for each of the seven nodes and each other one the places of the messages from it to that one
pub record ArePlaces (lists : List (List ℕ)) (sent : List Message) : Type 0 where
  pub count : length lists ≡ 49
  pub each : (from upto : ℕ) → from ≤ 6 → upto ≤ 6 → slice_get lists (7 * from + upto) ≡ Some (places_from from upto 0 sent)

-- the first messages of these are filed
pub record AreFiled (r : Routes) (sent : List Message) : Type 0 where
  pub within : r.filed ≤ length sent
  pub places : ArePlaces r.places.items (take r.filed sent)

-- those that are sorted in, and then the newest ones
abbrev pub with_news : Post → Option (List Message) → Post
with_news post None = post
with_news post (Some messages) = with_sent post messages

abbrev pub post_of : Mail → Post
post_of m = with_news (record { sent = m.sent.items; passed = m.passed.items }) m.news

-- the first n were passed
abbrev pub ArePassed : ℕ → List Bool → Type 0
ArePassed n passed = (i : ℕ) → i < n → slice_get passed i ≡ Some true

pub record HoldsMail (m : Mail) : Type 0 where
  pub even : length m.passed.items ≡ length m.sent.items
  pub older : ArePassed m.oldest m.passed.items
  pub filed : AreFiled m.routes m.sent.items
