use Rattle.std.proofs.Common.{◌∙◌, sym, ap, List, ℕ, filter}
use Rattle.std.specs.Prelude.{not}
use Rattle.hint_store.specs.Stores.{is_gone}
use Rattle.hint_store.proofs.Removing.{went_more, went_all}
use Rattle.hint_store.proofs.gone.remove_gone.Goals as goal

pub loop-peer-preserved : goal.loop-peer-preserved
loop-peer-preserved c =
    went_more c.in-Some.field-0.now c.next.new.self c.loop-peer.table.entries c.remove_number.new.self.entries c.remove_number.ensures
    ∙ ap (λ (g : List (ℕ × ℕ)). filter (λ e. not (is_gone g e.1)) c.loop-peer.table.entries) (sym c.in-Some.ensures.steps)
    ∙ c.loop-peer.invariant

pub returns : goal.returns
returns c = sym (went_all c.loop-peer.peer-iterator c.loop-peer.table.entries c.in-None.ensures.steps.0) ∙ c.loop-peer.invariant
