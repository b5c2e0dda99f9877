-- The range that a repair is asked for, its replicas, and how long it may take.
use Rattle.std.specs.Prelude.{ℕ, ◌+◌, max, fold, find, List, Option}
use Rattle.cs_base.specs.declared.ids.ReqId.{ReqId}
use Rattle.cs_base.specs.declared.range.Range.{Range}
use Rattle.cs_base.specs.Quorums.{is_in}
use Rattle.cs_base.specs.Ring.{replicas_at}
use Rattle.peer_messages.specs.declared.setting.Setting.{Setting}

-- that of the table with the most replicas
abbrev pub greatest_factor : Setting → ℕ
greatest_factor c = fold (λ n t. max n t.factor) 0 c.tables

-- The replicas of a range, by rising number: the nodes that are a replica of some table's partitions there. All tokens of a
-- node's range have the same ones
abbrev pub range_replicas : Setting → Range → List ℕ
range_replicas c range = replicas_at c.ring (greatest_factor c) range.upto

-- the least of them that is marked down, for which a repair does not begin
abbrev pub first_down : List ℕ → List ℕ → Option ℕ
first_down down replicas = find (is_in down) replicas

-- how long a repair waits for its replicas: 10 minutes from its start
abbrev pub deadline_of : ReqId → ℕ
deadline_of request = request.time + 600000000
