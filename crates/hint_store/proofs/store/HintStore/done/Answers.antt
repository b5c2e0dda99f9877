use Rattle.std.proofs.Common.{◌≡◌, ◌∙◌, true, sym, ap, subst}
use Rattle.node_steps.specs.Hints.{is_kept, drop_hint}
use Rattle.hint_store.specs.Staged.{Staged}
use Rattle.hint_store.proofs.Keeping.{so_many, lost, dropped}
use Rattle.hint_store.proofs.store.HintStore.done.Goals as goal

pub lose-requires : goal.lose-requires
lose-requires c =
    so_many c.self.inside.table.entries c.self.inside.gone.keys c.self.inside.added.items c.self.inside.current c.self.inside.settled c.args.peer c.args.number c.count.result c.self.invariant
    (subst (λ (v : Staged). is_kept v.now c.args.peer c.args.number ≡ true) (sym c.self.view_is) (sym c.is_kept.ensures ∙ c.if-not-is_kept.false)) c.count.ensures

pub invariant_of-self-2 : goal.invariant_of-self-2
invariant_of-self-2 c =
    lost c.self.inside.table.entries c.self.inside.gone.keys c.insert.new.self.keys c.self.inside.added.items c.self.inside.current c.lose.new.self c.self.inside.settled c.args.peer c.args.number c.count.result c.self.invariant
    (subst (λ (v : Staged). is_kept v.now c.args.peer c.args.number ≡ true) (sym c.self.view_is) (sym c.is_kept.ensures ∙ c.if-not-is_kept.false))
    c.in_ok-insert.ensures.keys c.count.ensures c.lose.ensures.count c.lose.ensures.last

pub returns-clause-now : goal.returns-clause-now
returns-clause-now c =
    dropped c.self.inside.table.entries c.self.inside.gone.keys c.insert.new.self.keys c.self.inside.current.last c.lose.new.self.last c.args.peer c.args.number
    (subst (λ (v : Staged). is_kept v.now c.args.peer c.args.number ≡ true) (sym c.self.view_is) (sym c.is_kept.ensures ∙ c.if-not-is_kept.false))
    c.in_ok-insert.ensures.keys c.lose.ensures.last
    ∙ ap (λ (v : Staged). drop_hint c.args.peer c.args.number v.now) c.self.view_is
