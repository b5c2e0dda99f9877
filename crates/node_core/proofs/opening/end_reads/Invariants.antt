use Rattle.std.proofs.Common.{◌≡◌, take}
use Rattle.std.specs.BTreeMap.{IsOrdered}
use Rattle.cs_base.specs.Requests.{request_cmp}
use Rattle.node_core.specs.Working.{left_open}
use Rattle.node_core.proofs.opening.end_reads.Given as goal

abbrev pub invariant-loop-request : goal.invariant-loop-request
invariant-loop-request g l = record {
  entries : l.requests.entries ≡ left_open (take l.request-index l.ended) l.fn.requests.entries;
  ordered : IsOrdered request_cmp l.requests;
}
