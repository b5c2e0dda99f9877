use Rattle.std.proofs.Common.{◌≤◌, None, Some, Err, refl, ap, arith, ◌∙◌}
use Rattle.session_v4.specs.Sessions.{state_in}
use Rattle.serve_loop.specs.declared.served.Served.{Served}
use Rattle.serve_loop.proofs.ConversationLaws.{going_on_from, ended_unbegun, ended_unheard, ended_heard, ended_unserved, goes_on_heard, input_is_sound}
use Rattle.serve_loop.proofs.ExchangeLaws.{unraised, ended_by_sign}
use Rattle.serve_loop.proofs.WriteLaws.{risen_later}
use Rattle.serve_loop.proofs.serving.serve_connection.Goals as goal

pub returns-in_default-clause-conversation : goal.returns-in_default-clause-conversation
returns-in_default-clause-conversation g c =
    ended_unbegun c.args.schema.now (g.L.Link.remaining c.args.link.now) (g.D.Desk.asks c.args.desk.now) (g.L.Link.written c.args.link.now) (g.Q.StopSign.has_answered c.args.stop.now)

pub loop-init : goal.loop-init
loop-init g c = record {
  going =
      going_on_from c.args.schema.now (g.L.Link.remaining c.args.link.now) (g.D.Desk.asks c.args.desk.now) (g.L.Link.written c.args.link.now) c.new-framer.result (state_in c.new-session.result)
      c.new-framer.ensures c.new-session.ensures;
  unraised = c.requires;
  home = refl;
  counted = omega arith;
}

pub serve_input-requires-clause-sound : goal.serve_input-requires-clause-sound
serve_input-requires-clause-sound g c =
    let h = c.in-Ok-hear.ensures.input in
    input_is_sound c.in-Ok-hear.input h.0 (g.L.Link.remaining c.loop.link) (g.L.Link.remaining c.hear.new.link) c.loop.framer c.hear.new.framer h.3

pub returns-in-Some-clause-conversation : goal.returns-in-Some-clause-conversation
returns-in-Some-clause-conversation g c =
    ended_heard c.args.schema.now (g.L.Link.remaining c.args.link.now) (g.L.Link.remaining c.loop.link) (g.D.Desk.asks c.args.desk.now) (g.D.Desk.asks c.loop.desk) (g.L.Link.written c.args.link.now) (g.L.Link.written c.loop.link)
    c.loop.framer (state_in c.loop.session) c.loop.invariant.going c.in-Some.end (g.Q.StopSign.has_answered c.serve_input.new.stop) (g.L.Link.remaining c.hear.new.link) (g.L.Link.remaining c.serve_input.new.link)
    (g.L.Link.written c.hear.new.link) (g.L.Link.written c.serve_input.new.link) (g.D.Desk.asks c.serve_input.new.desk) c.hear.new.framer (state_in c.serve_input.new.session) c.in-Ok-hear.input
    c.in-Ok-hear.ensures.input c.in-Ok-hear.ensures.unwritten c.in-Some.ensures.unread c.in-Some.ensures.served

pub returns-in-Some-clause-stopped : goal.returns-in-Some-clause-stopped
returns-in-Some-clause-stopped g c = ended_by_sign c.in-Some.end (g.Q.StopSign.has_answered c.serve_input.new.stop) c.in-Some.ensures.stop

pub returns-in-Some-clause-failed : goal.returns-in-Some-clause-failed
returns-in-Some-clause-failed g c e =
    let F = g.L.Link.faults in
    let before : F c.args.link.now ≤ F c.hear.new.link = omega (arith, c.loop.invariant.counted, c.in-Ok-hear.ensures.counted) in
    risen_later (F c.args.link.now) (F c.hear.new.link) (F c.serve_input.new.link) before c.in-Some.ensures.counted (c.in-Some.ensures.failed (ap (λ (x : Served). Some x) e))

pub returns-in-Err-clause-conversation : goal.returns-in-Err-clause-conversation
returns-in-Err-clause-conversation g c =
    ended_unheard c.args.schema.now (g.L.Link.remaining c.args.link.now) (g.L.Link.remaining c.loop.link) (g.D.Desk.asks c.args.desk.now) (g.D.Desk.asks c.loop.desk) (g.L.Link.written c.args.link.now) (g.L.Link.written c.loop.link)
    c.loop.framer (state_in c.loop.session) c.loop.invariant.going c.in-Err.end (g.Q.StopSign.has_answered c.loop.stop) (g.L.Link.remaining c.hear.new.link) (g.L.Link.written c.hear.new.link) c.hear.new.framer
    c.in-Err.ensures.input c.in-Err.ensures.unwritten

pub returns-in-Err-clause-failed : goal.returns-in-Err-clause-failed
returns-in-Err-clause-failed g c e =
    let F = g.L.Link.faults in
    risen_later (F c.args.link.now) (F c.loop.link) (F c.hear.new.link) c.loop.invariant.counted c.in-Err.ensures.counted (c.in-Err.ensures.failed (ap Err e))

pub loop-preserved : goal.loop-preserved
loop-preserved g c = record {
  going =
      goes_on_heard c.args.schema.now (g.L.Link.remaining c.args.link.now) (g.L.Link.remaining c.loop.link) (g.D.Desk.asks c.args.desk.now) (g.D.Desk.asks c.loop.desk) (g.L.Link.written c.args.link.now) (g.L.Link.written c.loop.link)
      c.loop.framer (state_in c.loop.session) c.loop.invariant.going (g.Q.StopSign.has_answered c.serve_input.new.stop) (g.L.Link.remaining c.hear.new.link) (g.L.Link.remaining c.serve_input.new.link)
      (g.L.Link.written c.hear.new.link) (g.L.Link.written c.serve_input.new.link) (g.D.Desk.asks c.serve_input.new.desk) c.hear.new.framer (state_in c.serve_input.new.session) c.in-Ok-hear.input
      c.in-Ok-hear.ensures.input c.in-Ok-hear.ensures.unwritten c.in_default-serve_input.ensures.unread c.in_default-serve_input.ensures.served;
  unraised = unraised None (g.Q.StopSign.has_answered c.serve_input.new.stop) refl c.in_default-serve_input.ensures.stop;
  home = c.in_default-serve_input.ensures.home ∙ c.loop.invariant.home;
  counted = omega (arith, c.loop.invariant.counted, c.in-Ok-hear.ensures.counted, c.in_default-serve_input.ensures.counted);
}

pub returns-clause-conversation : goal.returns-clause-conversation
returns-clause-conversation g c =
    ended_unserved c.args.schema.now (g.L.Link.remaining c.args.link.now) (g.L.Link.remaining c.loop.link) (g.D.Desk.asks c.args.desk.now) (g.D.Desk.asks c.loop.desk) (g.L.Link.written c.args.link.now) (g.L.Link.written c.loop.link)
    c.loop.framer (state_in c.loop.session) c.loop.invariant.going (g.Q.StopSign.has_answered c.loop.stop)

pub returns-in-Some-clause-home : goal.returns-in-Some-clause-home
returns-in-Some-clause-home g c = c.in-Some.ensures.home ∙ c.loop.invariant.home

pub returns-in-Err-clause-home : goal.returns-in-Err-clause-home
returns-in-Err-clause-home g c = c.loop.invariant.home

pub returns-clause-home : goal.returns-clause-home
returns-clause-home g c = c.loop.invariant.home
