use Rattle.std.proofs.Common.{sym, ap, ◌∙◌}
use Rattle.std.proofs.lemmas.Result.{IfOk-weaker}
use Rattle.peer_messages.specs.declared.event.Ask.{Ask}
use Rattle.peer_messages.specs.declared.event.What.TheVariants.{Client}
use Rattle.node_core.specs.Hinting.{at}
use Rattle.node_core.proofs.Taking.{alive_takes, client_takes, message_takes, what_asks, what_request}
use Rattle.node_core.proofs.matter.take.Goals as goal

pub returns-in_ok-ask-in-Client-clause-ok : goal.returns-in_ok-ask-in-Client-clause-ok
returns-in_ok-ask-in-Client-clause-ok g c =
    client_takes c.args.base.now _ _ (at c.args.work.now c.args.hints.now.now) (at c.ask.new.self c.ask.new.hints.now) c.args.what.now c.moved.result c.in_ok-ask-in-Client.field-0 (c.in-Client.is ∙ ap (λ (a : Ask). Client a) (sym c.moved.ensures)) c.requires.unmoved c.requires.sound c.requires.about c.requires.new
    c.in_ok-ask-in-Client.ensures.asks c.in_ok-ask-in-Client.ensures.begins

pub take_message-requires-clause-request : goal.take_message-requires-clause-request
take_message-requires-clause-request g c = what_request c.args.base.now.me c.args.work.now.time c.args.what.now c.in-Deliver.message c.args.work.now.request c.in-Deliver.is c.requires.about

pub returns-in-Deliver-clause-ok : goal.returns-in-Deliver-clause-ok
returns-in-Deliver-clause-ok g c =
    IfOk-weaker c.take_message.result _ _
    (λ given takes. message_takes c.args.base.now _ _ (at c.args.work.now c.args.hints.now.now) (at c.take_message.new.work c.take_message.new.hints.now) c.args.what.now c.in-Deliver.message given c.in-Deliver.is takes) c.take_message.ensures.ok

pub returns-in-Deliver-clause-asks : goal.returns-in-Deliver-clause-asks
returns-in-Deliver-clause-asks g c = λ failed. what_asks c.args.base.now.setting c.args.base.now.me c.args.what.now c.in-Deliver.message c.in-Deliver.is

pub returns-in_ok-mark_other-in-Alive-clause-ok : goal.returns-in_ok-mark_other-in-Alive-clause-ok
returns-in_ok-mark_other-in-Alive-clause-ok g c =
    alive_takes c.args.base.now _ _ (at c.args.work.now c.args.hints.now.now) c.mark_other.new.self c.args.what.now c.in-Alive.peer c.in-Alive.up c.in_ok-mark_other-in-Alive.field-0 c.in-Alive.is c.requires.unmoved c.requires.sound c.in_ok-mark_other-in-Alive.ensures
