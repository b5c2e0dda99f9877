-- An operation at its coordinator: what begins it, and what each reply and each moment makes of it.
use Rattle.std.specs.Prelude.{◌≡◌, ℕ, ◌==◌, ◌&&◌, ◌||◌, not, nat_lt, Bool, true, false, Option, Some, None, List, [], ◌∷◌, ◌++◌, map, filter, MatchBool, Contains}
use Rattle.std.specs.List.{list_all}
use Rattle.cs_base.specs.declared.level.Level.{Level}
use Rattle.cs_base.specs.declared.ids.ReqId.{ReqId}
use Rattle.cs_base.specs.Quorums.{is_in, heard_of}
use Rattle.statement_plan.specs.declared.operation.ConditionalOperation.{ConditionalOperation}
use Rattle.row_change.specs.declared.entry.Stamped.{Stamped}
use Rattle.row_change.specs.declared.entry.Update.{Update}
use Rattle.paxos_messages.specs.declared.entry.PaxosEntry.{PaxosEntry}
use Rattle.paxos_messages.specs.declared.entry.PaxosEntry.TheVariants as entry
use Rattle.paxos_messages.specs.declared.entry.PaxosNote.{PaxosNote}
use Rattle.paxos_messages.specs.declared.entry.PaxosPhase.{PaxosPhase}
use Rattle.paxos_messages.specs.declared.entry.PaxosPhase.TheVariants as waits
use Rattle.paxos_messages.specs.declared.entry.PaxosTimeout.{PaxosTimeout}
use Rattle.paxos_messages.specs.declared.entry.Telling.TheVariants as telling
use Rattle.paxos_messages.specs.declared.message.PaxosMessage.{PaxosMessage}
use Rattle.paxos_messages.specs.declared.message.PaxosMessage.TheVariants as message
use Rattle.paxos_messages.specs.declared.outcome.PaxosMove.{PaxosMove}
use Rattle.paxos_messages.specs.declared.outcome.PaxosSend.{PaxosSend}
use Rattle.paxos_moves.specs.declared.operation.Context.{Context}
use Rattle.paxos_moves.specs.declared.operation.Operation.{Operation}
use Rattle.paxos_moves.specs.declared.operation.Phase.{Phase}
use Rattle.paxos_moves.specs.declared.operation.Phase.TheVariants.{Preparing, ProposingOwn, ProposingOlder, CommittingOwn, CommittingOlder, Completing}
use Rattle.paxos_moves.specs.declared.operation.Promised.{Promised}
use Rattle.paxos_moves.specs.declared.operation.Promises.{Promises}
use Rattle.paxos_moves.specs.declared.operation.Verdict.{Verdict}
use Rattle.paxos_moves.specs.declared.operation.Votes.{Votes}
use Rattle.paxos_moves.specs.Promises.{ballot_of, promisers, newest_accepted, newest_commit, lacking, IsMergeOfAll, no_promises, is_lost}
use Rattle.paxos_moves.specs.Proposals.{Answers, is_applied, own_update, update_again}
use Rattle.paxos_moves.specs.Timing.{new_ballot, retry_if, deadline_of}

-- ---- what a move gives

abbrev pub idle : PaxosMove
idle = record { sends = []; notes = []; ballot = None; ended = false }

abbrev pub send : PaxosMessage → ℕ → PaxosSend
send m k = record { upto = k; message = m }

-- one message to each of these nodes
abbrev pub send_to : PaxosMessage → List ℕ → List PaxosSend
send_to m ks = map (send m) ks

abbrev pub sending : List PaxosSend → PaxosMove
sending sends = record { sends = sends; notes = []; ballot = None; ended = false }

abbrev pub note : ReqId → PaxosEntry → List PaxosNote
note id e = record { request = id; entry = e } ∷ []

-- the client is told, and the operation is done with
abbrev pub tells : ReqId → List PaxosSend → PaxosEntry → PaxosMove
tells id sends e = record { sends = sends; notes = note id e; ballot = None; ended = true }

abbrev pub at_phase : Operation → Phase → Option ℕ → Operation
at_phase o phase retry = record o { phase = phase; retry = retry }

abbrev pub Ignores : Operation → PaxosMove → Operation → Type 0
Ignores o turn o' = (turn ≡ idle) × (o' ≡ o)

abbrev pub Becomes : Operation → Phase → Option ℕ → PaxosMove → Operation → Type 0
Becomes o phase retry turn o' = (turn ≡ idle) × (o' ≡ at_phase o phase retry)

-- ---- a new ballot

-- it goes to each replica that is alive. Where these are too few for a quorum the operation tries again later
abbrev pub prepared : Context → Operation → ℕ → Operation
prepared c o b = at_phase o (Preparing b (no_promises c.alive)) (retry_if (is_lost c (no_promises c.alive)) c)

abbrev pub preparing : Context → Operation → ℕ → List PaxosNote → PaxosMove
preparing c o b notes = record { sends = send_to (message.Prepare o.operation.partition b) c.alive; notes = notes; ballot = Some b; ended = false }

abbrev pub BeginsBallot : Context → Operation → List PaxosNote → PaxosMove → Operation → Type 0
BeginsBallot c o notes turn o' = (turn ≡ preparing c o (new_ballot c) notes) × (o' ≡ prepared c o (new_ballot c))

abbrev pub unbegun : Level → ConditionalOperation → Operation
unbegun level op = record { level = level; operation = op; phase = Preparing 0 (no_promises []); retry = None; replied = false }

-- an operation begins
abbrev pub Begins : Context → ReqId → Level → ConditionalOperation → PaxosMove → Operation → Type 0
Begins c id level op turn o' = BeginsBallot c (unbegun level op) (note id (entry.Began op level)) turn o'

-- ---- proposals

-- the proposal went to these, and no answer has come
abbrev pub no_votes : List ℕ → Votes
no_votes targets = record { targets = targets; accepted = []; refused = [] }

-- every replica to which the proposal went has refused it: so none of them accepted it, and none will
abbrev pub is_dead : Votes → Bool
is_dead v = list_all (is_in v.refused) v.targets

-- the update goes to each replica that is alive, and is entered as its request's. Where there is none the operation tries
-- again later
abbrev pub proposing : Context → Operation → ℕ → Update → PaxosMove
proposing c o b u = record {
  sends = send_to (message.Propose o.operation.partition b u) c.alive;
  notes = note u.request (entry.Proposed b (record { partition = o.operation.partition; changes = u.changes }));
  ballot = None;
  ended = false;
}

-- an accepted update that is newer than the most recent commit is proposed once more: it may be chosen
abbrev pub ProposesOlder : Context → Operation → ℕ → Option Stamped → PaxosMove → Operation → Type 0
ProposesOlder c o b None turn o' = ⊥
ProposesOlder c o b (Some old) turn o' =
    (turn ≡ proposing c o b (update_again b old.update))
    × (o' ≡ at_phase o (ProposingOlder b (update_again b old.update) (no_votes c.alive)) (retry_if (is_dead (no_votes c.alive)) c))

-- the most recent commit goes to the promisers that lack it
abbrev pub Completes : Context → Operation → Option Stamped → List ℕ → PaxosMove → Operation → Type 0
Completes c o None ks turn o' = ⊥
Completes c o (Some s) ks turn o' =
    (turn ≡ sending (send_to (message.Commit o.operation.partition s.ballot s.update) ks)) × (o' ≡ at_phase o (Completing s.ballot ks) None)

-- the condition is tested on the merge of what the promisers hold. Where it fails, and for a read, the update is empty
abbrev pub ProposesOwn : Context → ReqId → Operation → ℕ → List Promised → PaxosMove → Operation → Type 0
ProposesOwn c id o b ps turn o' =
    (v : Verdict) × (v.promised ≡ promisers ps) × IsMergeOfAll ps v.merged × Answers (Contains v.merged) o.operation v.reply
    × (turn ≡ proposing c o b (own_update id o.operation b (ballot_of (newest_commit ps)) v.reply))
    × (o' ≡ at_phase o (ProposingOwn b (own_update id o.operation b (ballot_of (newest_commit ps)) v.reply) v (no_votes c.alive)) (retry_if (is_dead (no_votes c.alive)) c))

-- where some promiser lacks the most recent commit
abbrev pub Settles : Context → ReqId → Operation → ℕ → List Promised → List ℕ → PaxosMove → Operation → Type 0
Settles c id o b ps [] turn o' = ProposesOwn c id o b ps turn o'
Settles c id o b ps (k ∷ ks) turn o' = Completes c o (newest_commit ps) (k ∷ ks) turn o'

-- a quorum has promised
abbrev pub Decides : Context → ReqId → Operation → ℕ → List Promised → PaxosMove → Operation → Type 0
Decides c id o b ps turn o' =
    MatchBool (nat_lt (ballot_of (newest_commit ps)) (ballot_of (newest_accepted ps)))
    (ProposesOlder c o b (newest_accepted ps) turn o')
    (Settles c id o b ps (lacking c (ballot_of (newest_commit ps)) ps) turn o')

-- ---- replies

-- a replica that is not among those heard of yet
abbrev pub counts : Context → List ℕ → ℕ → Bool
counts c heard k = not (is_in heard k) && is_in c.members k

-- so many distinct replicas have been heard of
abbrev pub is_enough : Context → ℕ → List ℕ → Bool
is_enough c n heard = not (nat_lt (heard_of c.members heard) n)

-- a replica has replied, whatever it says
abbrev pub replied_by : Context → ℕ → Operation → Operation
replied_by c from o = record o { replied = o.replied || is_in c.members from }

-- a quorum that can still come is waited for again
abbrev pub retry_while : Bool → Option ℕ → Option ℕ
retry_while false retry = None
retry_while true retry = retry

abbrev pub TakesPromise : Context → ReqId → Operation → ℕ → Promises → PaxosMove → Operation → Type 0
TakesPromise c id o b w turn o' =
    MatchBool (is_enough c c.majority (promisers w.got)) (Decides c id o b w.got turn o') (Becomes o (Preparing b w) (retry_while (is_lost c w) o.retry) turn o')

abbrev pub HearsPromise : Context → ReqId → Operation → Phase → ℕ → Promised → PaxosMove → Operation → Type 0
HearsPromise c id o (Preparing b w) b' p turn o' =
    MatchBool ((b == b') && counts c (promisers w.got) p.from) (TakesPromise c id o b (record w { got = w.got ++ p ∷ [] }) turn o') (Ignores o turn o')
HearsPromise c id o (ProposingOwn b u v votes) b' p turn o' = Ignores o turn o'
HearsPromise c id o (ProposingOlder b u votes) b' p turn o' = Ignores o turn o'
HearsPromise c id o (CommittingOwn b v heard) b' p turn o' = Ignores o turn o'
HearsPromise c id o (CommittingOlder b heard) b' p turn o' = Ignores o turn o'
HearsPromise c id o (Completing b left) b' p turn o' = Ignores o turn o'

abbrev pub answered : ReqId → ℕ → Verdict → List ℕ → List PaxosSend → PaxosMove
answered id b v heard sends =
    tells id sends (entry.Told (telling.Answered v.reply (record { ballot = b; promised = v.promised; merged = v.merged; heard = heard })))

abbrev pub commits : Context → Operation → ℕ → Update → List PaxosSend
commits c o b u = send_to (message.Commit o.operation.partition b u) c.alive

-- its own update is chosen, and its commit goes to each replica that is alive. An applied one waits for acknowledgements; an
-- empty one changes nothing, so that it is told
abbrev pub OwnIsChosen : Bool → Context → ReqId → Operation → ℕ → Update → Verdict → List ℕ → PaxosMove → Operation → Type 0
OwnIsChosen true c id o b u v accepted turn o' = (turn ≡ sending (commits c o b u)) × (o' ≡ at_phase o (CommittingOwn b v []) None)
OwnIsChosen false c id o b u v accepted turn o' = (turn ≡ answered id b v accepted (commits c o b u)) × (o' ≡ o)

abbrev pub TakesOwnVote : Context → ReqId → Operation → ℕ → Update → Verdict → Votes → PaxosMove → Operation → Type 0
TakesOwnVote c id o b u v votes turn o' =
    MatchBool (is_enough c c.majority votes.accepted) (OwnIsChosen (is_applied v.reply) c id o b u v votes.accepted turn o')
    (Becomes o (ProposingOwn b u v votes) o.retry turn o')

abbrev pub OlderIsChosen : Context → Operation → ℕ → Update → PaxosMove → Operation → Type 0
OlderIsChosen c o b u turn o' = (turn ≡ sending (commits c o b u)) × (o' ≡ at_phase o (CommittingOlder b []) None)

abbrev pub TakesOlderVote : Context → Operation → ℕ → Update → Votes → PaxosMove → Operation → Type 0
TakesOlderVote c o b u votes turn o' =
    MatchBool (is_enough c c.majority votes.accepted) (OlderIsChosen c o b u turn o') (Becomes o (ProposingOlder b u votes) o.retry turn o')

abbrev pub HearsAccepted : Context → ReqId → Operation → Phase → ℕ → ℕ → PaxosMove → Operation → Type 0
HearsAccepted c id o (Preparing b w) b' from turn o' = Ignores o turn o'
HearsAccepted c id o (ProposingOwn b u v votes) b' from turn o' =
    MatchBool ((b == b') && counts c votes.accepted from) (TakesOwnVote c id o b u v (record votes { accepted = votes.accepted ++ from ∷ [] }) turn o') (Ignores o turn o')
HearsAccepted c id o (ProposingOlder b u votes) b' from turn o' =
    MatchBool ((b == b') && counts c votes.accepted from) (TakesOlderVote c o b u (record votes { accepted = votes.accepted ++ from ∷ [] }) turn o') (Ignores o turn o')
HearsAccepted c id o (CommittingOwn b v heard) b' from turn o' = Ignores o turn o'
HearsAccepted c id o (CommittingOlder b heard) b' from turn o' = Ignores o turn o'
HearsAccepted c id o (Completing b left) b' from turn o' = Ignores o turn o'

-- at as many acknowledgements as its level waits for it is told
abbrev pub TakesOwnAck : Context → ReqId → Operation → ℕ → Verdict → List ℕ → PaxosMove → Operation → Type 0
TakesOwnAck c id o b v heard turn o' =
    MatchBool (is_enough c c.needed heard) ((turn ≡ answered id b v heard []) × (o' ≡ o)) (Becomes o (CommittingOwn b v heard) None turn o')

-- behind a quorum of acknowledgements of an older update the operation starts over
abbrev pub TakesOlderAck : Context → Operation → ℕ → List ℕ → PaxosMove → Operation → Type 0
TakesOlderAck c o b heard turn o' =
    MatchBool (is_enough c c.majority heard) (BeginsBallot c o [] turn o') (Becomes o (CommittingOlder b heard) None turn o')

abbrev pub without : ℕ → List ℕ → List ℕ
without k ks = filter (λ j. not (j == k)) ks

-- behind the last acknowledgement of a commit that some lacked it starts over
abbrev pub TakesMissingAck : Context → Operation → ℕ → List ℕ → PaxosMove → Operation → Type 0
TakesMissingAck c o b [] turn o' = BeginsBallot c o [] turn o'
TakesMissingAck c o b (k ∷ ks) turn o' = Becomes o (Completing b (k ∷ ks)) None turn o'

abbrev pub HearsCommitAck : Context → ReqId → Operation → Phase → ℕ → ℕ → PaxosMove → Operation → Type 0
HearsCommitAck c id o (Preparing b w) b' from turn o' = Ignores o turn o'
HearsCommitAck c id o (ProposingOwn b u v votes) b' from turn o' = Ignores o turn o'
HearsCommitAck c id o (ProposingOlder b u votes) b' from turn o' = Ignores o turn o'
HearsCommitAck c id o (CommittingOwn b v heard) b' from turn o' =
    MatchBool ((b == b') && counts c heard from) (TakesOwnAck c id o b v (heard ++ from ∷ []) turn o') (Ignores o turn o')
HearsCommitAck c id o (CommittingOlder b heard) b' from turn o' =
    MatchBool ((b == b') && counts c heard from) (TakesOlderAck c o b (heard ++ from ∷ []) turn o') (Ignores o turn o')
HearsCommitAck c id o (Completing b left) b' from turn o' =
    MatchBool ((b == b') && is_in left from) (TakesMissingAck c o b (without from left) turn o') (Ignores o turn o')

-- a refusal by one more replica. Where a quorum of promises can't come any more, or all have refused a proposal, the operation
-- tries again later; each further refusal moves that moment
abbrev pub refused_more : Promises → ℕ → Promises
refused_more w from = record w { refused = w.refused ++ from ∷ [] }

abbrev pub voted_down : Votes → ℕ → Votes
voted_down votes from = record votes { refused = votes.refused ++ from ∷ [] }

abbrev pub HearsBallotRefused : Context → Operation → Phase → ℕ → ℕ → PaxosMove → Operation → Type 0
HearsBallotRefused c o (Preparing b w) b' from turn o' =
    MatchBool ((b == b') && (not (is_in (promisers w.got) from) && counts c w.refused from))
    (Becomes o (Preparing b (refused_more w from)) (retry_if (is_lost c (refused_more w from)) c) turn o')
    (Ignores o turn o')
HearsBallotRefused c o (ProposingOwn b u v votes) b' from turn o' = Ignores o turn o'
HearsBallotRefused c o (ProposingOlder b u votes) b' from turn o' = Ignores o turn o'
HearsBallotRefused c o (CommittingOwn b v heard) b' from turn o' = Ignores o turn o'
HearsBallotRefused c o (CommittingOlder b heard) b' from turn o' = Ignores o turn o'
HearsBallotRefused c o (Completing b left) b' from turn o' = Ignores o turn o'

abbrev pub HearsProposalRefused : Context → Operation → Phase → ℕ → ℕ → PaxosMove → Operation → Type 0
HearsProposalRefused c o (Preparing b w) b' from turn o' = Ignores o turn o'
HearsProposalRefused c o (ProposingOwn b u v votes) b' from turn o' =
    MatchBool ((b == b') && counts c votes.refused from)
    (Becomes o (ProposingOwn b u v (voted_down votes from)) (retry_if (is_dead (voted_down votes from)) c) turn o')
    (Ignores o turn o')
HearsProposalRefused c o (ProposingOlder b u votes) b' from turn o' =
    MatchBool ((b == b') && counts c votes.refused from)
    (Becomes o (ProposingOlder b u (voted_down votes from)) (retry_if (is_dead (voted_down votes from)) c) turn o')
    (Ignores o turn o')
HearsProposalRefused c o (CommittingOwn b v heard) b' from turn o' = Ignores o turn o'
HearsProposalRefused c o (CommittingOlder b heard) b' from turn o' = Ignores o turn o'
HearsProposalRefused c o (Completing b left) b' from turn o' = Ignores o turn o'

abbrev pub HearsRefused : Context → Operation → ℕ → ℕ → Bool → PaxosMove → Operation → Type 0
HearsRefused c o b from true turn o' = HearsProposalRefused c o o.phase b from turn o'
HearsRefused c o b from false turn o' = HearsBallotRefused c o o.phase b from turn o'

-- a message of the operation's request comes to its coordinator. Those that ask a replica for something make nothing of it
abbrev pub Hears : Context → ReqId → ℕ → PaxosMessage → Operation → PaxosMove → Operation → Type 0
Hears c id from (message.Prepare p b) o turn o' = Ignores o turn o'
Hears c id from (message.Promise b row content) o turn o' =
    HearsPromise c id (replied_by c from o) o.phase b (record { from = from; row = row; content = content }) turn o'
Hears c id from (message.Propose p b u) o turn o' = Ignores o turn o'
Hears c id from (message.Accepted b) o turn o' = HearsAccepted c id (replied_by c from o) o.phase b from turn o'
Hears c id from (message.Commit p b u) o turn o' = Ignores o turn o'
Hears c id from (message.CommitAck b) o turn o' = HearsCommitAck c id (replied_by c from o) o.phase b from turn o'
Hears c id from (message.Refused b promised of_proposal) o turn o' = HearsRefused c (replied_by c from o) b from of_proposal turn o'

-- ---- moments

-- the answers that count in a phase; a commit that some lacked waits for all of them, which is no count of a quorum
abbrev pub heard_in : Phase → List ℕ
heard_in (Preparing b w) = promisers w.got
heard_in (ProposingOwn b u v votes) = votes.accepted
heard_in (ProposingOlder b u votes) = votes.accepted
heard_in (CommittingOwn b v heard) = heard
heard_in (CommittingOlder b heard) = heard
heard_in (Completing b left) = []

abbrev pub wanted_in : Context → Phase → ℕ
wanted_in c (Preparing b w) = c.majority
wanted_in c (ProposingOwn b u v votes) = c.majority
wanted_in c (ProposingOlder b u votes) = c.majority
wanted_in c (CommittingOwn b v heard) = c.needed
wanted_in c (CommittingOlder b heard) = c.majority
wanted_in c (Completing b left) = c.majority

abbrev pub phase_told : Phase → PaxosPhase
phase_told (Preparing b w) = waits.Promising
phase_told (ProposingOwn b u v votes) = waits.Accepting
phase_told (ProposingOlder b u votes) = waits.Accepting
phase_told (CommittingOwn b v heard) = waits.Committing
phase_told (CommittingOlder b heard) = waits.Committing
phase_told (Completing b left) = waits.Committing

abbrev pub timeout_of : Context → Operation → PaxosTimeout
timeout_of c o = record { phase = phase_told o.phase; received = heard_of c.members (heard_in o.phase); blockfor = wanted_in c o.phase; replied = o.replied }

abbrev pub TriesAgain : Option ℕ → Context → Operation → PaxosMove → Operation → Type 0
TriesAgain None c o turn o' = Ignores o turn o'
TriesAgain (Some moment) c o turn o' = MatchBool (nat_lt c.risen moment) (Ignores o turn o') (BeginsBallot c o [] turn o')

-- time has come to where it is. From its deadline on the operation is told how far it came, and is done with; before, it starts
-- over with a new ballot once the moment for that has come
abbrev pub Reaches : Context → ReqId → Operation → PaxosMove → Operation → Type 0
Reaches c id o turn o' =
    MatchBool (nat_lt c.risen (deadline_of id)) (TriesAgain o.retry c o turn o')
    ((turn ≡ tells id [] (entry.Told (telling.TimedOut (timeout_of c o)))) × (o' ≡ o))
