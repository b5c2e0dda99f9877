-- What is sent and entered in a cluster, as it is kept, and what an event adds.
use Rattle.std.specs.Prelude.{◌≡◌, ◌+◌, ◌++◌, ◌≤◌, ℕ, Bool, None, List, vec_len, vec_capacity}
use Rattle.peer_messages.specs.declared.chronicle.Entry.{Entry}
use Rattle.chronicle_pieces.specs.Pieces.{joined}
use Rattle.cluster_model.specs.Mails.{HoldsMail, post_of}
use Rattle.cluster_model.specs.Turns.{turn_entries, posted}
use Rattle.cluster_model.specs.declared.turn.Turn.{Turn}
use Rattle.cluster_model.specs.declared.annals.Annals.{Annals}

-- the entries, the oldest first
abbrev pub entries_of : Annals → List Entry
entries_of a = joined a.pieces.items

-- there is room for what an event enters and sends
pub record HasRoom (a : Annals) : Type 0 where
  pub pieces : vec_len a.pieces + 1 ≤ vec_capacity a.pieces
  pub news : a.mail.news ≡ None

-- the same is seen of them
pub record IsSame (a a' : Annals) : Type 0 where
  pub post : post_of a'.mail ≡ post_of a.mail
  pub mail : HoldsMail a'.mail
  pub entries : entries_of a' ≡ entries_of a
  pub passed : vec_len a.mail.passed ≤ vec_len a'.mail.passed

-- what comes of an event at node k is sent and entered
pub record Enters (k : ℕ) (asks : Bool) (turn : Turn) (a a' : Annals) : Type 0 where
  pub post : post_of a'.mail ≡ posted (post_of a.mail) turn
  pub mail : HoldsMail a'.mail
  pub entries : entries_of a' ≡ entries_of a ++ turn_entries k asks turn
  pub passed : a'.mail.passed ≡ a.mail.passed
