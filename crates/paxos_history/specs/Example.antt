-- A lawful history of three replicas, 0, 1 and 2: two inserts of one row race, and then all rows are read. The first request is
-- proposed under ballot 8 and accepted by replica 0. The coordinator of the second one then asks with ballot 17, hears of 8,
-- and proposes that update again; so both ballots are chosen, with one update. The second request finds the row under
-- ballot 25, and the read under ballot 34.
use Rattle.std.specs.Prelude.{◌≡◌, ℕ, List, [], ◌∷◌, map}
use Rattle.cs_base.specs.declared.ids.ReqId.{ReqId}
use Rattle.changes.specs.declared.Held.{Held}
use Rattle.single_copy.specs.Maps.{empty_map}
use Rattle.single_copy.specs.ConditionalStep.{ConditionalStep}
use Rattle.single_copy.specs.Example.{inserted, insert, read, applied, told_row, map_with}
use Rattle.paxos_history.specs.Protocol.{Event, Asked, Promised, Proposed, ProposedAgain, Accepted, Refused, Committed, Told, Setup, Result, Lawful, proposed_at}
use Rattle.paxos_history.specs.Serial.{chosen_requests}

abbrev pub setup : Setup
setup = record { replicas = 0 ∷ 1 ∷ 2 ∷ [] }

abbrev pub first : ReqId
first = record { node = 0; time = 1 }

abbrev pub second : ReqId
second = record { node = 1; time = 2 }

abbrev pub third : ReqId
third = record { node = 2; time = 27 }

abbrev pub first_result : Result
first_result = record { operation = insert 5; reply = applied }

abbrev pub second_result : Result
second_result = record { operation = insert 6; reply = told_row 5 }

abbrev pub third_result : Result
third_result = record { operation = read; reply = told_row 5 }

-- the first request's changes, under the ballot by which they were committed
abbrev pub content : List Held
content = map (proposed_at 17 first) (inserted 5)

-- the newest event comes first: read from below
abbrev pub race : List Event
race =
    Promised 1 17 0 0 []
    ∷ Promised 0 17 8 0 []
    ∷ Accepted 0 8
    ∷ Proposed 8 0 first first_result (0 ∷ 1 ∷ 2 ∷ [])
    ∷ Promised 1 8 0 0 []
    ∷ Promised 0 8 0 0 []
    ∷ Asked second (insert 6)
    ∷ Asked first (insert 5)
    ∷ []

abbrev pub first_told : List Event
first_told =
    Committed 1 17
    ∷ Committed 0 17
    ∷ Accepted 1 17
    ∷ Accepted 0 17
    ∷ Told first first_result
    ∷ Accepted 2 8
    ∷ Refused 1 8
    ∷ ProposedAgain 17 8
    ∷ race

abbrev pub second_told : List Event
second_told =
    Committed 1 25
    ∷ Committed 0 25
    ∷ Told second second_result
    ∷ Accepted 1 25
    ∷ Accepted 0 25
    ∷ Proposed 25 17 second second_result (0 ∷ 1 ∷ [])
    ∷ Promised 1 25 17 17 content
    ∷ Promised 0 25 17 17 content
    ∷ first_told

abbrev pub example : List Event
example =
    Told third third_result
    ∷ Accepted 1 34
    ∷ Accepted 0 34
    ∷ Proposed 34 25 third third_result (0 ∷ 1 ∷ [])
    ∷ Promised 1 34 25 25 content
    ∷ Promised 0 34 25 25 content
    ∷ Asked third read
    ∷ second_told

pub record RacingInserts : Type 0 where
  pub lawful : Lawful setup example
  -- the sequence, and what a single copy says in it, which is what the three were told
  pub sequence : chosen_requests setup example ≡ third ∷ second ∷ first ∷ []
  pub first_step : ConditionalStep empty_map first_result.operation (map_with 5) first_result.reply
  pub second_step : ConditionalStep (map_with 5) second_result.operation (map_with 5) second_result.reply
  pub third_step : ConditionalStep (map_with 5) third_result.operation (map_with 5) third_result.reply
  -- with ballot 17 the coordinator must not propose an update of its own, since it heard of ballot 8
  pub no_own_proposal : (base : ℕ) (result : Result) (targets : List ℕ) → Lawful setup (Proposed 17 base second result targets ∷ race) → ⊥
  -- nor may replica 1 accept ballot 8 now, which is below its promise
  pub no_late_acceptance : Lawful setup (Accepted 1 8 ∷ race) → ⊥
  -- nor may anybody be told a result that no quorum has accepted
  pub no_early_reply : Lawful setup (Told first first_result ∷ race) → ⊥
