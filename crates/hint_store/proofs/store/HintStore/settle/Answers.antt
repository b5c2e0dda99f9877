use Rattle.std.proofs.Common.{List, ◌∙◌, ap}
use Rattle.std.specs.Map.{values_of}
use Rattle.row_change.specs.declared.entry.Hint.{Hint}
use Rattle.hint_store.specs.Staged.{Staged}
use Rattle.hint_store.proofs.Keeping.{kept_of, now_all, before_all, settled}
use Rattle.hint_store.proofs.store.HintStore.settle.Goals as goal

pub invariant_of-self : goal.invariant_of-self
invariant_of-self c =
    settled c.self.inside.table.entries c.remove_gone.new.table.entries c.self.inside.gone.keys c.self.inside.added.items c.clear.new.self.keys c.clear-2.new.self.items c.self.inside.current c.self.inside.settled c.self.invariant
    c.remove_gone.ensures c.clear.ensures.empty c.clear-2.ensures.items

pub returns-clause-before : goal.returns-clause-before
returns-clause-before c =
    ap (λ (hs : List Hint). kept_of hs c.self.inside.current.last) (before_all c.clear-2.new.self.items c.remove_gone.new.table.entries c.clear-2.ensures.items ∙ ap values_of c.remove_gone.ensures)
    ∙ ap (λ (v : Staged). v.now) c.self.view_is

pub returns-clause-now : goal.returns-clause-now
returns-clause-now c =
    ap (λ (hs : List Hint). kept_of hs c.self.inside.current.last) (now_all c.clear.new.self.keys c.remove_gone.new.table.entries c.clear.ensures.empty ∙ ap values_of c.remove_gone.ensures)
    ∙ ap (λ (v : Staged). v.now) c.self.view_is
