use Rattle.std.proofs.Common.{◌≡◌, filter, length}
use Rattle.std.specs.Prelude.{not}
use Rattle.hint_store.specs.Tables.{is_hint}
use Rattle.hint_store.proofs.table.HintTable.remove_number.Given as goal

-- the hints of other numbers stay
abbrev pub invariant-loop-sequence : goal.invariant-loop-sequence
invariant-loop-sequence l = filter (λ e. not (is_hint l.peer l.number e.1)) l.self.entries ≡ filter (λ e. not (is_hint l.peer l.number e.1)) l.fn.self.entries

abbrev pub decreases-loop-sequence : goal.decreases-loop-sequence
decreases-loop-sequence l = length l.self.entries
