use Rattle.std.proofs.Common.{◌≡◌, filter, take}
use Rattle.std.specs.Prelude.{not}
use Rattle.hint_store.specs.Stores.{is_added}
use Rattle.hint_store.proofs.gone.remove_added.Given as goal

-- what came at the places so far went
abbrev pub invariant-loop-place : goal.invariant-loop-place
invariant-loop-place l = l.table.entries ≡ filter (λ e. not (is_added (take l.place-index l.added) e.0)) l.fn.table.entries
