use Rattle.std.proofs.Common.{rules, ap, subst}
use Rattle.std.proofs.lemmas.Result.{IfOk-weaker}
use Rattle.cell_merge.specs.Settled.{IsSettled}
use Rattle.node_steps.specs.State.{OpenRead}
use Rattle.read_coord.specs.Keeping.{TellsMerge}
use Rattle.read_coord.proofs.Replies.{merge_of_same_all}
use Rattle.read_coord.proofs.Hearing.{tells_rows, decides_at_once, told_ends}
use Rattle.read_coord.proofs.ReadCoord.answer.Goals as goal

pub returns-clause-rows : goal.returns-clause-rows
returns-clause-rows c =
    IfOk-weaker c.rows_of.result _ _
    (λ turn told content. tells_rows c.args.request c.args.from content c.args.merged c.args.self.now c.in_ok-heard.heard turn c.in_ok-heard.ensures
    (subst (λ (r : OpenRead). TellsMerge c.args.request r.query c.in_ok-heard.heard c.args.merged turn) c.self.view_is told))
    c.rows_of.ensures

pub returns-clause-same : goal.returns-clause-same
returns-clause-same c =
    let settled : IsSettled c.args.merged = search rules in
    IfOk-weaker c.rows_of.result _ _
    (λ turn told replicas next all. decides_at_once c.args.request replicas c.args.from c.args.merged c.args.self.now turn next all
    (merge_of_same_all c.self.inside.merged c.self.inside.replies.items c.args.merged c.args.self.now
    (ap (λ (r : OpenRead). r.replies) c.self.view_is) (ap (λ (r : OpenRead). r.merged) c.self.view_is) c.self.invariant settled all)
    (tells_rows c.args.request c.args.from c.args.merged c.args.merged c.args.self.now c.in_ok-heard.heard turn c.in_ok-heard.ensures
    (subst (λ (r : OpenRead). TellsMerge c.args.request r.query c.in_ok-heard.heard c.args.merged turn) c.self.view_is told)))
    c.rows_of.ensures

pub returns-clause-ended : goal.returns-clause-ended
returns-clause-ended c =
    IfOk-weaker c.rows_of.result _ _ (λ turn told. told_ends c.args.request c.self.inside.query c.in_ok-heard.heard c.args.merged turn told) c.rows_of.ensures
