use Rattle.std.proofs.Common.{ℕ, List, ◌++◌, append-nil, ◌∙◌, sym, ap}
use Rattle.row_change.specs.declared.entry.Hint.{Hint}
use Rattle.hint_store.specs.Tables.{Filed}
use Rattle.hint_store.specs.Stores.{hints_now}
use Rattle.hint_store.proofs.Firsts.{left_more}
use Rattle.hint_store.proofs.table.HintTable.hints.Goals as goal

pub loop-hint-init : goal.loop-hint-init
loop-hint-init c =
    ap (λ (v : Filed). hints_now c.args.gone.now.keys v.entries) (sym c.self.view_is)
    ∙ ap (λ (es : List ((ℕ × ℕ) × Hint)). hints_now c.args.gone.now.keys es) (sym c.into_iter-hint-iterator.ensures.into_iter_gives.0)
    ∙ ap (λ (hs : List Hint). hs ++ hints_now c.args.gone.now.keys c.into_iter-hint-iterator.result) (sym c.new-hints.ensures.items)

pub loop-hint-preserved : goal.loop-hint-preserved
loop-hint-preserved c =
    left_more c.args.gone.now.keys (hints_now c.args.gone.now.keys c.args.self.now.entries) c.loop-hint.hints.items c.copy_left.new.onto.items (c.in-Some.field-0-0.now, c.in-Some.hint.now) c.next.new.self
    (c.loop-hint.invariant ∙ ap (λ (es : List ((ℕ × ℕ) × Hint)). c.loop-hint.hints.items ++ hints_now c.args.gone.now.keys es) c.in-Some.ensures.steps)
    c.in_ok-copy_left.ensures

pub returns : goal.returns
returns c =
    c.from_vec.ensures
    ∙ sym (c.loop-hint.invariant ∙ ap (λ (es : List ((ℕ × ℕ) × Hint)). c.loop-hint.hints.items ++ hints_now c.args.gone.now.keys es) c.in-None.ensures.steps.0 ∙ append-nil c.loop-hint.hints.items)
