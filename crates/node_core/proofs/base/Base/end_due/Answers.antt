use Rattle.std.proofs.Common.{List, take, sym, ap, ◌∙◌}
use Rattle.std.specs.Map.{remove_entry}
use Rattle.std.specs.BTreeMap.{is_at}
use Rattle.cs_base.specs.declared.ids.ReqId.{ReqId}
use Rattle.cs_base.specs.Requests.{request_cmp}
use Rattle.cs_base.proofs.Members.{front_more}
use Rattle.node_steps.specs.State.{OpenWrite}
use Rattle.node_core.specs.Opening.{Known, known_of}
use Rattle.node_core.specs.Working.{left_open}
use Rattle.node_core.proofs.LeftOpen.{left_more}
use Rattle.node_core.proofs.base.Base.end_due.Goals as goal

pub loop-request-preserved : goal.loop-request-preserved
loop-request-preserved c = record {
  known =
      c.remove_write.ensures.known
      ∙ ap (λ (k : Known). let k' : Known = record k { writes = remove_entry (is_at (request_cmp c.request-item.result)) k.writes } in k') c.loop-request.invariant.known
      ∙ ap (λ (ws : List (ReqId × OpenWrite)). let k : Known = record (known_of c.args.self.now) { writes = ws } in k) (sym (left_more (take c.loop-request.request-index c.args.writes.now) c.request-item.result c.args.self.now.writes.entries))
      ∙ ap (λ (ids : List ReqId). let k : Known = record (known_of c.args.self.now) { writes = left_open ids c.args.self.now.writes.entries } in k) (sym (front_more c.args.writes.now c.loop-request.request-index c.request-item.result c.loop-request-test.true c.request-item.is));
  ordered = c.remove_write.ensures.ordered;
}
