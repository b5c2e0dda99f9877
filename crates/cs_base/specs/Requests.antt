-- Requests, by node and then by the node's time.
use Rattle.std.specs.Prelude.{Bool, ◌&&◌, ◌==◌}
use Rattle.std.specs.Ordering.{nat_cmp, ordering_then}
use Rattle.std.specs.declared.cmp.Ordering.{Ordering}
use Rattle.cs_base.specs.declared.ids.ReqId.{ReqId}

abbrev pub request_cmp : ReqId → ReqId → Ordering
request_cmp a b = ordering_then (nat_cmp a.node b.node) (nat_cmp a.time b.time)

abbrev pub is_request : ReqId → ReqId → Bool
is_request a b = (a.node == b.node) && (a.time == b.time)
