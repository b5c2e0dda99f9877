use Rattle.std.proofs.Common.{List, subst}
use Rattle.frame_v4.specs.declared.frame.Frame.{Frame}
use Rattle.session_v4.specs.Sessions.{state_in}
use Rattle.serve_loop.specs.Exchanges.{Exchanges}
use Rattle.serve_loop.specs.Steps.{Steps, EndsAmong}
use Rattle.serve_loop.proofs.ExchangeLaws.{ended_before_fault, ended_behind_fault}
use Rattle.serve_loop.proofs.serving.serve_decoded.Goals as goal

pub returns-in-Some-clause-served : goal.returns-in-Some-clause-served
returns-in-Some-clause-served g c =
    let raised = g.Q.StopSign.has_answered c.serve_frames.new.stop in
    let before = state_in c.args.session.now in
    let asks = g.D.Desk.asks c.args.desk.now in
    let asks' = g.D.Desk.asks c.serve_frames.new.desk in
    let wrote = g.L.Link.written c.args.link.now in
    let wrote' = g.L.Link.written c.serve_frames.new.link in
    let P : List Frame → Type 0 = λ fs. Steps (λ a x. EndsAmong c.in-Some.end raised before fs a x) asks asks' wrote wrote' in
    ended_before_fault c.in-Some.end raised before (state_in c.serve_frames.new.session) c.args.decoded.now.frames c.args.decoded.now.refusal asks asks' wrote wrote'
    (subst P c.as_slice-frames.ensures c.in-Some.ensures.served)

pub returns-in-Some-refusal-clause-served : goal.returns-in-Some-refusal-clause-served
returns-in-Some-refusal-clause-served g c =
    let before = state_in c.args.session.now in
    let mid = state_in c.serve_frames.new.session in
    let asks = g.D.Desk.asks c.args.desk.now in
    let asks' = g.D.Desk.asks c.serve_frames.new.desk in
    let wrote = g.L.Link.written c.args.link.now in
    let halfway = g.L.Link.written c.serve_frames.new.link in
    let P : List Frame → Type 0 = λ fs. Steps (λ a x. Exchanges fs before a x mid) asks asks' wrote halfway in
    ended_behind_fault c.close.result (g.Q.StopSign.has_answered c.serve_frames.new.stop) before mid (state_in c.close.new.session) c.args.decoded.now.frames c.args.decoded.now.refusal c.in-Some-refusal.fault
    asks asks' wrote halfway (g.L.Link.written c.close.new.link) c.in-Some-refusal.is (subst P c.as_slice-frames.ensures c.in_default.ensures.served) c.close.ensures.closes
