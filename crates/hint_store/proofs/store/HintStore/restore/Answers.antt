use Rattle.std.proofs.Common.{ℕ, List, length, ◌∙◌, sym, ap}
use Rattle.std.specs.Prelude.{slice_index_or}
use Rattle.row_change.specs.declared.entry.Hint.{Hint}
use Rattle.durable_state.specs.State.{hints_of}
use Rattle.hint_store.proofs.Keeping.{rests, same_restored}
use Rattle.hint_store.proofs.store.HintStore.restore.Goals as goal

pub invariant_of-result : goal.invariant_of-result
invariant_of-result c =
    rests c.fill.new.tally c.in_ok-table.table.entries c.new.result.keys c.new-2.result.items c.new.ensures.empty c.new-2.ensures.items
    (λ peer. c.in_ok-table.ensures.count peer ∙ ap (λ (hs : List Hint). length hs) (sym (c.in_ok-table.ensures.hints peer)))

pub returns-clause-now : goal.returns-clause-now
returns-clause-now c =
    same_restored c.new.result.keys c.in_ok-table.table.entries c.fill.new.tally.last c.args.hints c.args.numbers.now c.new.ensures.empty
    (λ peer. c.in_ok-table.ensures.hints peer ∙ ap (λ (hs : List Hint). hints_of hs peer) c.into_vec.ensures)
    (λ peer. ap (λ (l : List ℕ). slice_index_or l peer 0) c.fill.ensures.last ∙ c.of_numbers-tally.ensures.last peer)
