-- What fits the setting of a cluster: tables and nodes are there, and partitions and changes can be written in a log. What does
-- not fit is not taken.
use Rattle.std.specs.Prelude.{ℕ, ◌^◌, ◌==◌, ◌&&◌, not, nat_lt, Bool, true, false, Option, Some, None, List, [], ◌∷◌, length}
use Rattle.std.specs.List.{list_all}
use Rattle.std.specs.Ordering.{is_lt}
use Rattle.changes.specs.declared.Held.{Held}
use Rattle.changes.specs.declared.Mutation.{Mutation}
use Rattle.changes.specs.declared.Partition.{Partition}
use Rattle.changes.specs.declared.Place.{Place}
use Rattle.changes.specs.declared.Place.TheVariants.{Cell, Marker, RowGone, RangeGone, PartGone}
use Rattle.changes.specs.declared.Query.{Query}
use Rattle.changes.specs.Places.{stored_cmp}
use Rattle.peer_messages.specs.declared.message.Body.{Body}
use Rattle.peer_messages.specs.declared.message.Body.TheVariants.{Write, WriteAck, Read, ReadReply, Mend, MendAck, Hint, HintAck}
use Rattle.peer_messages.specs.declared.message.Message.{Message}
use Rattle.peer_messages.specs.declared.setting.Setting.{Setting}

-- ---- what can be written

abbrev pub is_short : List ℕ → Bool
is_short bytes = nat_lt (length bytes) (2 ^ 32)

abbrev pub place_fits : Place → Bool
place_fits (Cell row column) = is_short row
place_fits (Marker row) = is_short row
place_fits (RowGone row) = is_short row
place_fits (RangeGone from upto) = is_short from.at && is_short upto.at
place_fits PartGone = true

abbrev pub is_short_or_none : Option (List ℕ) → Bool
is_short_or_none None = true
is_short_or_none (Some bytes) = is_short bytes

abbrev pub is_empty : Option (List ℕ) → Bool
is_empty None = false
is_empty (Some []) = true
is_empty (Some (b ∷ bytes)) = false

abbrev pub is_none : Option (List ℕ) → Bool
is_none None = true
is_none (Some bytes) = false

-- a marker has an empty value, and a deletion of more than a cell has none
abbrev pub value_fits : Place → Option (List ℕ) → Bool
value_fits (Cell row column) value = is_short_or_none value
value_fits (Marker row) value = is_empty value
value_fits (RowGone row) value = is_none value
value_fits (RangeGone from upto) value = is_none value
value_fits PartGone value = is_none value

abbrev pub change_fits : Held → Bool
change_fits x = place_fits x.place && value_fits x.place x.value

-- by their places, each place once
abbrev pub are_in_order : List Held → Bool
are_in_order [] = true
are_in_order (x ∷ xs) = list_all (λ y. is_lt (stored_cmp x y)) xs && are_in_order xs

abbrev pub changes_fit : List Held → Bool
changes_fit xs = nat_lt (length xs) (2 ^ 32) && (list_all change_fits xs && are_in_order xs)

abbrev pub mutation_fits : Mutation → Bool
mutation_fits m = is_short m.partition.key && changes_fit m.changes

-- ---- what is of the cluster

abbrev pub is_table : Setting → Partition → Bool
is_table c p = nat_lt p.table (length c.tables)

abbrev pub is_node : Setting → ℕ → Bool
is_node c k = nat_lt k (length c.ring)

abbrev pub write_fits : Setting → Mutation → Bool
write_fits c m = is_table c m.partition && mutation_fits m

abbrev pub query_fits : Setting → Query → Bool
query_fits c q = is_table c q.partition && is_short q.partition.key

abbrev pub body_fits : Setting → Body → Bool
body_fits c (Write m) = write_fits c m
body_fits c WriteAck = true
body_fits c (Read q) = query_fits c q
body_fits c (ReadReply content) = changes_fit content
body_fits c (Mend m) = write_fits c m
body_fits c MendAck = true
body_fits c (Hint number m) = write_fits c m
body_fits c (HintAck number) = true

-- a message fits that goes to this node from another one, and whose nodes are of the ring
abbrev pub message_fits : Setting → ℕ → Message → Bool
message_fits c me m = (m.upto == me) && (not (m.from == me) && (is_node c m.from && (is_node c m.request.node && body_fits c m.body)))

-- a mark fits that is of another node of the ring
abbrev pub mark_fits : Setting → ℕ → ℕ → Bool
mark_fits c me peer = not (peer == me) && is_node c peer
