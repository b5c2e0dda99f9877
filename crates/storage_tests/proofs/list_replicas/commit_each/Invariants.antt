use Rattle.std.proofs.Common.{◌≡◌}
use Rattle.storage_tests.proofs.list_replicas.commit_each.Given as goal

-- each so far is acknowledged, and no call has failed
abbrev pub invariant-loop-word : goal.invariant-loop-word
invariant-loop-word g l = record { count : l.acknowledged ≡ l.word-index; whole : g.R.Replica.is_whole l.replica }
