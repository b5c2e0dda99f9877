use Rattle.std.proofs.Common.{filter, sym, ap, subst, ◌∙◌}
use Rattle.cs_base.specs.Quorums.{is_in}
use Rattle.cs_base.specs.declared.ids.ReqId.{ReqId}
use Rattle.changes.specs.declared.Mutation.{Mutation}
use Rattle.changes.specs.Drafts.{mutation_of}
use Rattle.peer_messages.specs.Settings.{replicas_of}
use Rattle.node_steps.specs.Hints.{with_room}
use Rattle.node_core.specs.declared.work.Work.{Work}
use Rattle.node_core.specs.Asking.{AsksWrite}
use Rattle.node_core.specs.Hinting.{at, LeavesHints}
use Rattle.node_core.specs.Working.{down_with}
use Rattle.node_core.proofs.Asking.{write_starts}
use Rattle.node_core.proofs.work.Work.begin_write.Goals as goal

pub returns-clause-ok : goal.returns-clause-ok
returns-clause-ok c = λ draft is.
    let x = at c.args.self.now c.args.hints.now.now in
    let mid = at c.hint_begun.new.self c.hint_begun.new.hints.now in
    let leaves = subst (λ (m : Mutation). LeavesHints c.in_ok-hinted.hinted c.args.self.now.request.time m x mid) is c.in_ok-hinted.ensures.ok.1 in
    let request = ap (λ (w : Work). w.request) leaves.work in
    subst (λ (w : Work). AsksWrite c.args.base.now c.args.level draft x (at w c.hint_begun.new.hints.now) c.open_write.result) (sym c.open_write.ensures.opens)
    (write_starts c.args.base.now c.args.level draft x mid c.in_ok-hinted.hinted c.in_ok-write.write c.in_ok-turn.turn c.open_write.result c.down.result.now
    (c.in_ok-hinted.ensures.ok.0 ∙ ap (λ (m : Mutation). with_room c.args.hints.now.now (filter (λ k. is_in (down_with c.args.self.now.marked c.args.base.now.down) k) (replicas_of c.args.base.now.setting m.partition))) is) leaves
    (c.in_ok-write.ensures c.args.self.now.request draft (c.in_ok-copy.ensures ∙ is)) c.down.ensures (c.in_ok-turn.ensures draft (is ∙ ap (λ (id : ReqId). mutation_of id draft) (sym request))) c.open_write.ensures.sends c.open_write.ensures.entries)
