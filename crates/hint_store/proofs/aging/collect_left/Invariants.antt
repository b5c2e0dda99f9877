use Rattle.std.proofs.Common.{◌≡◌, ◌++◌, None}
use Rattle.hint_store.specs.Expiry.{expired_in}
use Rattle.hint_store.proofs.aging.collect_left.Given as goal

-- what is collected so far, and what is to come
abbrev pub invariant-loop-key : goal.invariant-loop-key
invariant-loop-key l = expired_in l.gone.keys None l.fn.walk ≡ l.all.items ++ expired_in l.gone.keys l.last l.key-iterator
