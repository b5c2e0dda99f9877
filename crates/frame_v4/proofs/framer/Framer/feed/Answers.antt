use Rattle.std.proofs.Common.{[], ◌++◌, Some, None, Err, ap, inl}
use Rattle.frame_v4.specs.Framer.{State}
use Rattle.frame_v4.proofs.Streams.{goes_on, not_refused, same_refusal, at_none, at_some}
use Rattle.frame_v4.proofs.framer.Framer.feed.Goals as goal

pub returns-in-None-clause-given : goal.returns-in-None-clause-given
returns-in-None-clause-given c =
    at_none _ _ _ _ _ (ap (λ (s : State). s.held ++ c.args.piece.now) c.self.view_is) c.in-None.is c.in_ok-decoded.ensures.reads

pub returns-in-None-clause-exact : goal.returns-in-None-clause-exact
returns-in-None-clause-exact c frames error _ breaks = absurd (not_refused _ _ _ frames error (returns-in-None-clause-given c) breaks)

pub returns-in-None-clause-stream : goal.returns-in-None-clause-stream
returns-in-None-clause-stream c stream before splits =
    goes_on stream c.args.piece.now c.args.self.now.held _ before _ None splits (returns-in-None-clause-given c)

pub returns-in-Some-refusal-clause-exact : goal.returns-in-Some-refusal-clause-exact
returns-in-Some-refusal-clause-exact c frames error reading breaks =
    let here = at_some _ _ _ _ _ c.in-Some-refusal.refusal (ap (λ (s : State). s.held ++ c.args.piece.now) c.self.view_is) c.in-Some-refusal.is c.in_ok-decoded.ensures.reads in
    inl (ap (λ e. Err e) (same_refusal _ _ frames c.in-Some-refusal.refusal error here breaks))

pub returns-in-Some-refusal-clause-stream_refused : goal.returns-in-Some-refusal-clause-stream_refused
returns-in-Some-refusal-clause-stream_refused c stream before reading fault splits =
    let here = at_some _ _ _ _ _ c.in-Some-refusal.refusal (ap (λ (s : State). s.held ++ c.args.piece.now) c.self.view_is) c.in-Some-refusal.is c.in_ok-decoded.ensures.reads in
    goes_on stream c.args.piece.now c.args.self.now.held [] before _ (Some c.in-Some-refusal.refusal) splits here
