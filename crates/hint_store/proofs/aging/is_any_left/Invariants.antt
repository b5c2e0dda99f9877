use Rattle.std.proofs.Common.{◌≡◌}
use Rattle.std.specs.Prelude.{not}
use Rattle.std.specs.List.{list_any}
use Rattle.hint_store.specs.Stores.{is_added}
use Rattle.hint_store.proofs.aging.is_any_left.Given as goal

-- none of those so far is left
abbrev pub invariant-loop-key : goal.invariant-loop-key
invariant-loop-key l = list_any (λ k. not (is_added l.gone.keys (k.1, k.2))) l.fn.walk ≡ list_any (λ k. not (is_added l.gone.keys (k.1, k.2))) l.key-iterator
