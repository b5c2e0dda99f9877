-- A run, worked out: node 1 proposes u, and v of node 2 comes between.
use Rattle.std.specs.Prelude.{Some, List, [], ◌∷◌}
use Rattle.row_change.specs.declared.entry.Update.{Update}
use Rattle.row_change.specs.declared.entry.PaxosRow.{PaxosRow}
use Rattle.paxos_acceptor.specs.Acceptor.{fresh_row}
use Rattle.paxos_acceptor.specs.Steps.{Reaction, Promised, Ahead, Accepted, Repeated, Passed, Refused, Committed, Steps}

-- 9, 17 and 25 are ballots of node 1, 10 and 18 of node 2, and 19 is one of node 3
abbrev pub reactions : Update → Update → List Reaction
reactions u v =
    Promised 9 ∷ Accepted 9 u ∷ Promised 18 ∷ Repeated 9 ∷ Ahead 17 ∷ Refused 17 ∷ Accepted 18 v ∷ Committed 18 v ∷ Committed 9 u
    ∷ Promised 25 ∷ Accepted 25 u ∷ Passed 9 ∷ Passed 10 ∷ Refused 19 ∷ Repeated 18 ∷ []

abbrev pub row_behind : Update → Update → PaxosRow
row_behind u v = record {
  promised = 25;
  took = 0 ∷ 25 ∷ 18 ∷ 0 ∷ 0 ∷ 0 ∷ 0 ∷ [];
  accepted = Some (record { ballot = 25; update = u });
  commit = Some (record { ballot = 18; update = v });
}

abbrev pub RunIsLawful : Type 0
RunIsLawful = (u v : Update) → Steps fresh_row (reactions u v) (row_behind u v)
