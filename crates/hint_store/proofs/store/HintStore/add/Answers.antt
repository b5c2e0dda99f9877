use Rattle.std.proofs.Common.{◌≡◌, ◌+◌, ◌-◌, ◌<◌, ◌^◌, ℕ, false, arith, rules, ◌∙◌, sym, ap, subst}
use Rattle.durable_state.specs.State.{last_of}
use Rattle.row_change.specs.declared.entry.Hint.{Hint}
use Rattle.node_steps.specs.Hints.{is_full, push_hint}
use Rattle.hint_store.specs.Staged.{Staged, IsSameHints}
use Rattle.hint_store.specs.Stores.{hints_now}
use Rattle.hint_store.proofs.Staging.{last_is}
use Rattle.hint_store.proofs.Keeping.{kept_of, gained, pushed_in, room_of, next_told}
use Rattle.hint_store.proofs.store.HintStore.add.Goals as goal

pub overflow_add-number : goal.overflow_add-number
overflow_add-number c =
    let room = room_of c.args.self.now.now c.args.peer (sym c.is_full.ensures ∙ c.if-is_full.false) in
    let last : c.last-number.result ≡ last_of c.args.self.now.now.numbers c.args.peer = c.last-number.ensures ∙ sym (last_is c.self.inside.current.last c.args.peer) ∙ ap (λ (v : Staged). last_of v.now.numbers c.args.peer) c.self.view_is in
    let below : c.last-number.result < 2 ^ 64 - 1 = omega (arith, last, room.1) in
    search rules

pub invariant_of-self-2 : goal.invariant_of-self-2
invariant_of-self-2 c =
    let hint : Hint = record { peer = c.args.peer; number = c.last-number.result + 1; born = c.args.born; mutation = c.args.mutation } in
    let last = c.last-number.ensures in
    gained c.self.inside.table.entries c.stage.new.table.entries c.self.inside.gone.keys c.self.inside.added.items c.stage.new.added.items c.self.inside.current c.give.new.self c.self.inside.settled hint c.self.invariant
    c.stage.ensures.before c.in_ok-stage.ensures.now c.give.ensures.last c.give.ensures.count (omega (arith, last))

pub returns-clause-number : goal.returns-clause-number
returns-clause-number c =
    let last : c.last-number.result ≡ last_of c.args.self.now.now.numbers c.args.peer = c.last-number.ensures ∙ sym (last_is c.self.inside.current.last c.args.peer) ∙ ap (λ (v : Staged). last_of v.now.numbers c.args.peer) c.self.view_is in
    next_told c.args.self.now.now c.args.peer (c.last-number.result + 1) (sym c.is_full.ensures ∙ c.if-is_full.false) (ap (λ (n : ℕ). n + 1) last)

pub returns-clause-now : goal.returns-clause-now
returns-clause-now c =
    let hint : Hint = record { peer = c.args.peer; number = c.last-number.result + 1; born = c.args.born; mutation = c.args.mutation } in
    subst (λ (v : Staged). IsSameHints (push_hint c.args.peer c.args.born c.args.mutation v.now) (kept_of (hints_now c.self.inside.gone.keys c.stage.new.table.entries) c.give.new.self.last)) c.self.view_is
    (pushed_in c.self.inside.table.entries c.stage.new.table.entries c.self.inside.gone.keys c.self.inside.current c.give.new.self hint
    (subst (λ (v : Staged). is_full v.now c.args.peer ≡ false) (sym c.self.view_is) (sym c.is_full.ensures ∙ c.if-is_full.false)) (ap (λ (n : ℕ). n + 1) c.last-number.ensures)
    c.self.invariant.given c.in_ok-stage.ensures.now c.give.ensures.last)
