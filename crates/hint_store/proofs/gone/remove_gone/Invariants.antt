use Rattle.std.proofs.Common.{◌≡◌, filter}
use Rattle.std.specs.Prelude.{not}
use Rattle.hint_store.specs.Stores.{is_gone}
use Rattle.hint_store.proofs.gone.remove_gone.Given as goal

-- those that are to go yet, and those that went
abbrev pub invariant-loop-peer : goal.invariant-loop-peer
invariant-loop-peer l = filter (λ e. not (is_gone l.peer-iterator e.1)) l.table.entries ≡ filter (λ e. not (is_gone l.gone.keys e.1)) l.fn.table.entries
