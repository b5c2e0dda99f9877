use Rattle.std.proofs.Common.{◌∙◌, sym, ap}
use Rattle.durable_state.specs.State.{last_of}
use Rattle.hint_store.specs.Staged.{Staged}
use Rattle.hint_store.proofs.Staging.{last_is}
use Rattle.hint_store.proofs.store.HintStore.last.Goals as goal

pub returns : goal.returns
returns c = c.last.ensures ∙ sym (last_is c.self.inside.current.last c.args.peer) ∙ ap (λ (v : Staged). last_of v.now.numbers c.args.peer) c.self.view_is
