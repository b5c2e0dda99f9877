use Rattle.std.proofs.Common.{◌++◌, List, ℕ, ap, sym, ◌∙◌}
use Rattle.node_links.proofs.SameEnds.{same_link}
use Rattle.node_lock.specs.Passes.{start_of}
use Rattle.node_relay.specs.Relaying.{all_kept}
use Rattle.node_relay.proofs.Chains.{same_sender, all_put}
use Rattle.node_relay.proofs.relay.settle.Goals as goal

pub finish-requires : goal.finish-requires
finish-requires c =
    same_link (start_of c.args.lock).sender (c.close-state.result.0).sender c.args.receiver.now (same_sender _ _ _ c.close-state.ensures.replays) c.requires.link.0

pub returns-clause-replays : goal.returns-clause-replays
returns-clause-replays c = (c.close-state.result.0, c.close-state.ensures.replays, c.finish.ensures.ends.1, sym c.finish.ensures.same.1)

pub returns-clause-all : goal.returns-clause-all
returns-clause-all c =
    c.finish.ensures.all
    ∙ (c.finish.ensures.same.1 ∙ (all_put _ _ _ c.close-state.ensures.replays ∙ ap (λ (l : List ℕ). l ++ all_kept c.close-state.result.1) c.requires.link.1))
