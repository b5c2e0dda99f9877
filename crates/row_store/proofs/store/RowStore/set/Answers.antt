use Rattle.std.proofs.Common.{◌++◌, ◌∷◌, [], sym, ap, ◌∙◌, List}
use Rattle.changes.specs.declared.Partition.{Partition}
use Rattle.row_store.specs.Stores.{is_noted, row_now, row_before, Staged}
use Rattle.row_store.proofs.Moving.{set_now, set_before, noted_still, noted_too, was_set, at_set}
use Rattle.row_store.proofs.store.RowStore.set.Goals as goal

pub invariant_of-self-then-set_in : goal.invariant_of-self-then-set_in
invariant_of-self-then-set_in c = λ p.
    noted_too c.args.partition.now c.args.row c.self.inside.slots.entries c.hold.new.slots.entries c.set_in.new.slots.entries c.in_ok-hold.ensures.same c.set_in.ensures.set
    c.self.inside.set.items c.self.invariant p
    ∙ ap (λ (ps : List Partition). is_noted (ps ++ c.args.partition.now ∷ []) p) (sym c.reserve.ensures.items)
    ∙ ap (λ (q : Partition). is_noted (c.reserve.new.self.items ++ q ∷ []) p) (sym c.in_ok-noted.ensures)
    ∙ sym (ap (λ (ps : List Partition). is_noted ps p) c.push_reserved.ensures.items)

pub invariant_of-self-else-set_in : goal.invariant_of-self-else-set_in
invariant_of-self-else-set_in c = λ p.
    noted_still c.args.partition.now c.args.row c.self.inside.slots.entries c.hold.new.slots.entries c.set_in.new.slots.entries c.in_ok-hold.ensures.same c.set_in.ensures.set
    c.self.inside.set.items c.self.invariant (was_set _ (sym c.if-set_in.false ∙ c.set_in.ensures.first)) p
    ∙ sym (ap (λ (ps : List Partition). is_noted ps p) c.reserve.ensures.items)

pub returns-then-set_in-clause-now : goal.returns-then-set_in-clause-now
returns-then-set_in-clause-now c = λ q.
    set_now c.args.partition.now c.args.row c.self.inside.slots.entries c.hold.new.slots.entries c.set_in.new.slots.entries c.in_ok-hold.ensures.same c.set_in.ensures.set q
    ∙ at_set c.args.partition.now q c.args.row _ _ (ap (λ (s : Staged). row_now s.slots q) c.self.view_is)

pub returns-then-set_in-clause-before : goal.returns-then-set_in-clause-before
returns-then-set_in-clause-before c = λ q.
    set_before c.args.partition.now c.args.row c.self.inside.slots.entries c.hold.new.slots.entries c.set_in.new.slots.entries c.in_ok-hold.ensures.same c.set_in.ensures.set q
    ∙ ap (λ (s : Staged). row_before s.slots q) c.self.view_is

pub returns-else-set_in-clause-now : goal.returns-else-set_in-clause-now
returns-else-set_in-clause-now c = λ q.
    set_now c.args.partition.now c.args.row c.self.inside.slots.entries c.hold.new.slots.entries c.set_in.new.slots.entries c.in_ok-hold.ensures.same c.set_in.ensures.set q
    ∙ at_set c.args.partition.now q c.args.row _ _ (ap (λ (s : Staged). row_now s.slots q) c.self.view_is)

pub returns-else-set_in-clause-before : goal.returns-else-set_in-clause-before
returns-else-set_in-clause-before c = λ q.
    set_before c.args.partition.now c.args.row c.self.inside.slots.entries c.hold.new.slots.entries c.set_in.new.slots.entries c.in_ok-hold.ensures.same c.set_in.ensures.set q
    ∙ ap (λ (s : Staged). row_before s.slots q) c.self.view_is
