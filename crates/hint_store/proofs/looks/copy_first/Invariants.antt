use Rattle.std.proofs.Common.{◌≡◌, ◌++◌, ◌≤◌, filter, length}
use Rattle.std.specs.Map.{values_of}
use Rattle.hint_store.specs.Stores.{is_sent}
use Rattle.hint_store.proofs.looks.copy_first.Given as goal

-- what is copied so far, and what is to come
abbrev pub invariant-loop-hint : goal.invariant-loop-hint
invariant-loop-hint l = record {
  so_far : filter (is_sent l.setting l.gone.keys) (values_of l.fn.walk) ≡ l.first.items ++ filter (is_sent l.setting l.gone.keys) (values_of l.hint-iterator);
  most : length l.first.items ≤ 64;
}
