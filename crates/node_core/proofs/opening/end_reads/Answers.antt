use Rattle.std.proofs.Common.{List, take, sym, ap, ◌∙◌}
use Rattle.std.specs.Map.{remove_entry}
use Rattle.std.specs.BTreeMap.{is_at}
use Rattle.cs_base.specs.declared.ids.ReqId.{ReqId}
use Rattle.cs_base.specs.Requests.{request_cmp}
use Rattle.cs_base.proofs.Members.{front_more}
use Rattle.node_core.specs.Working.{left_open}
use Rattle.node_core.proofs.LeftOpen.{left_more}
use Rattle.node_core.proofs.opening.end_reads.Goals as goal

pub loop-request-preserved : goal.loop-request-preserved
loop-request-preserved g c = record {
  entries =
      c.remove.ensures.entries
      ∙ ap (λ (xs : List _). remove_entry (is_at (request_cmp c.request-item.result)) xs) c.loop-request.invariant.entries
      ∙ sym (left_more (take c.loop-request.request-index c.args.ended.now) c.request-item.result c.args.requests.now.entries)
      ∙ ap (λ (ids : List ReqId). left_open ids c.args.requests.now.entries) (sym (front_more c.args.ended.now c.loop-request.request-index c.request-item.result c.loop-request-test.true c.request-item.is));
  ordered = c.remove.ensures.ordered;
}
