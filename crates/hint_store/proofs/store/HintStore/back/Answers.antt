use Rattle.std.proofs.Common.{◌≡◌, ℕ, List, filter, ◌∙◌, ap}
use Rattle.std.specs.Prelude.{not}
use Rattle.std.specs.Map.{values_of}
use Rattle.row_change.specs.declared.entry.Hint.{Hint}
use Rattle.hint_store.specs.Staged.{Staged}
use Rattle.hint_store.specs.Stores.{is_added}
use Rattle.hint_store.proofs.Keeping.{kept_of, now_all, before_all, undone}
use Rattle.hint_store.proofs.store.HintStore.back.Goals as goal

pub invariant_of-self : goal.invariant_of-self
invariant_of-self c =
    undone c.self.inside.table.entries c.remove_added.new.table.entries c.self.inside.gone.keys c.self.inside.added.items c.clear.new.self.keys c.clear-2.new.self.items c.self.inside.current c.self.inside.settled c.self.invariant
    (c.remove_added.ensures ∙ ap (λ (a : List (ℕ × ℕ)). filter (λ e. not (is_added a e.0)) c.self.inside.table.entries) c.deref.ensures.value) c.clear.ensures.empty c.clear-2.ensures.items

pub returns-clause-before : goal.returns-clause-before
returns-clause-before c =
    let left : c.remove_added.new.table.entries ≡ filter (λ e. not (is_added c.self.inside.added.items e.0)) c.self.inside.table.entries =
    c.remove_added.ensures ∙ ap (λ (a : List (ℕ × ℕ)). filter (λ e. not (is_added a e.0)) c.self.inside.table.entries) c.deref.ensures.value in
    ap (λ (hs : List Hint). kept_of hs c.self.inside.settled.last) (before_all c.clear-2.new.self.items c.remove_added.new.table.entries c.clear-2.ensures.items ∙ ap values_of left) ∙ ap (λ (v : Staged). v.before) c.self.view_is

pub returns-clause-now : goal.returns-clause-now
returns-clause-now c =
    let left : c.remove_added.new.table.entries ≡ filter (λ e. not (is_added c.self.inside.added.items e.0)) c.self.inside.table.entries =
    c.remove_added.ensures ∙ ap (λ (a : List (ℕ × ℕ)). filter (λ e. not (is_added a e.0)) c.self.inside.table.entries) c.deref.ensures.value in
    ap (λ (hs : List Hint). kept_of hs c.self.inside.settled.last) (now_all c.clear.new.self.keys c.remove_added.new.table.entries c.clear.ensures.empty ∙ ap values_of left) ∙ ap (λ (v : Staged). v.before) c.self.view_is
