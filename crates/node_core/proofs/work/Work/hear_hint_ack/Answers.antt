use Rattle.std.proofs.Common.{ℕ, List, ap, ◌∙◌}
use Rattle.std.specs.Prelude.{◌&&◌}
use Rattle.cs_base.specs.Quorums.{is_in}
use Rattle.node_steps.specs.Hints.{is_no_number}
use Rattle.std.proofs.lemmas.Result.{IfOk-weaker}
use Rattle.node_core.specs.Hinting.{at}
use Rattle.node_core.proofs.Hinting.{ack_parts, ack_sends, ack_quiet}
use Rattle.node_core.proofs.work.Work.hear_hint_ack.Goals as goal

pub returns-then-ends-clause-ok : goal.returns-then-ends-clause-ok
returns-then-ends-clause-ok c =
    let parts = ack_parts c.args.base.now c.args.peer c.args.number (at c.args.self.now c.args.hints.now.now) c.batches.result.now c.batches-2.result.now c.in_ok-batches.batches c.waiting_of-waiting.result.now c.in_ok-left.left c.is_last-ends.result c.drop_hint.new.self c.drop_hint.new.hints.now
    c.batches.ensures c.batches-2.ensures c.waiting_of-waiting.ensures c.in_ok-left.ensures (c.is_last-ends.ensures ∙ ap (λ (ns : List ℕ). is_in c.waiting_of-waiting.result.now c.args.number && is_no_number ns) c.as_slice.ensures) c.in_ok-batches.ensures c.in_ok-drop_hint.ensures.ok in
    IfOk-weaker c.send_first.result _ _ (λ given sends. ack_sends c.args.base.now c.args.peer c.args.number (at c.args.self.now c.args.hints.now.now) c.in_ok-batches.batches c.is_last-ends.result c.drop_hint.new.self c.send_first.new.self c.drop_hint.new.hints.now given parts c.if-ends.true sends) c.send_first.ensures

pub returns-clause-ok : goal.returns-clause-ok
returns-clause-ok c =
    let parts = ack_parts c.args.base.now c.args.peer c.args.number (at c.args.self.now c.args.hints.now.now) c.batches.result.now c.batches-2.result.now c.in_ok-batches.batches c.waiting_of-waiting.result.now c.in_ok-left.left c.is_last-ends.result c.drop_hint.new.self c.drop_hint.new.hints.now
    c.batches.ensures c.batches-2.ensures c.waiting_of-waiting.ensures c.in_ok-left.ensures (c.is_last-ends.ensures ∙ ap (λ (ns : List ℕ). is_in c.waiting_of-waiting.result.now c.args.number && is_no_number ns) c.as_slice.ensures) c.in_ok-batches.ensures c.in_ok-drop_hint.ensures.ok in
    ack_quiet c.args.base.now c.args.peer c.args.number (at c.args.self.now c.args.hints.now.now) c.in_ok-batches.batches c.is_last-ends.result c.drop_hint.new.self c.drop_hint.new.hints.now c.nothing.result parts c.if-ends.false c.nothing.ensures.sends c.nothing.ensures.entries
