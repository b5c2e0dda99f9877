-- The kinds of moves that an operation makes.
use Rattle.std.proofs.Common.{◌≡◌, ◌⊎◌, inl, inr, ℕ, Bool, true, false, Option, Some, None, List, [], ◌∷◌, ◌++◌, refl, sym, ap, subst}
use Rattle.std.specs.Prelude.{◌==◌, ◌&&◌, not, nat_lt, MatchBool}
use Rattle.std.proofs.lemmas.Bool.{and_parts, eqb-true}
use Rattle.cs_base.specs.declared.ids.ReqId.{ReqId}
use Rattle.cs_base.specs.Quorums.{is_in}
use Rattle.changes.specs.declared.Mutation.{Mutation}
use Rattle.row_change.specs.declared.entry.Stamped.{Stamped}
use Rattle.row_change.specs.declared.entry.Update.{Update}
use Rattle.paxos_messages.specs.declared.entry.PaxosEntry.TheVariants as entry
use Rattle.paxos_messages.specs.declared.entry.PaxosNote.{PaxosNote}
use Rattle.paxos_messages.specs.declared.entry.Telling.TheVariants as telling
use Rattle.paxos_messages.specs.declared.message.PaxosMessage.{PaxosMessage}
use Rattle.paxos_messages.specs.declared.message.PaxosMessage.TheVariants as message
use Rattle.paxos_messages.specs.declared.outcome.PaxosMove.{PaxosMove}
use Rattle.paxos_moves.specs.declared.operation.Context.{Context}
use Rattle.paxos_moves.specs.declared.operation.Operation.{Operation}
use Rattle.paxos_moves.specs.declared.operation.Phase.{Phase}
use Rattle.paxos_moves.specs.declared.operation.Phase.TheVariants.{Preparing, ProposingOwn, ProposingOlder, CommittingOwn, CommittingOlder, Completing}
use Rattle.paxos_moves.specs.declared.operation.Promised.{Promised}
use Rattle.paxos_moves.specs.declared.operation.Promises.{Promises}
use Rattle.paxos_moves.specs.declared.operation.Verdict.{Verdict}
use Rattle.paxos_moves.specs.declared.operation.Votes.{Votes}
use Rattle.paxos_moves.specs.Promises.{ballot_of, promisers, newest_accepted, newest_commit, lacking, no_promises}
use Rattle.paxos_moves.specs.Proposals.{is_applied}
use Rattle.paxos_moves.specs.Operations.{idle, sending, tells, preparing, proposing, no_votes, is_dead, counts, is_enough, replied_by, without, refused_more, voted_down, commits, answered, timeout_of, Ignores, BeginsBallot, ProposesOlder, Completes, Settles, TakesPromise, HearsPromise, OwnIsChosen, TakesOwnVote, TakesOlderVote, HearsAccepted, TakesOwnAck, TakesOlderAck, TakesMissingAck, HearsCommitAck, HearsBallotRefused, HearsProposalRefused, HearsRefused, Hears, TriesAgain, Reaches}
use Rattle.paxos_moves.specs.Stories.{Happening, Heard, Time, Asked, MovesBy}
use Rattle.paxos_moves.specs.Timing.{new_ballot, retry_if, deadline_of}

pub by_test : {P Q : Type 0} (b : Bool) → MatchBool b P Q → ((b ≡ true) × P) ⊎ ((b ≡ false) × Q)
by_test true h = inl (refl, h)
by_test false h = inr (refl, h)

-- nothing of the operation's own is under way
abbrev pub IsNotOwn : Phase → Type 0
IsNotOwn (Preparing b w) = Unit {0}
IsNotOwn (ProposingOwn b u v votes) = ⊥
IsNotOwn (ProposingOlder b u votes) = Unit {0}
IsNotOwn (CommittingOwn b v heard) = ⊥
IsNotOwn (CommittingOlder b heard) = Unit {0}
IsNotOwn (Completing b left) = Unit {0}

-- another one's update is
abbrev pub IsAside : Phase → Type 0
IsAside (Preparing b w) = ⊥
IsAside (ProposingOwn b u v votes) = ⊥
IsAside (ProposingOlder b u votes) = Unit {0}
IsAside (CommittingOwn b v heard) = ⊥
IsAside (CommittingOlder b heard) = Unit {0}
IsAside (Completing b left) = Unit {0}

-- none of the entries is an answer
abbrev pub IsSilent : List PaxosNote → Type 0
IsSilent notes = (notes ≡ []) ⊎ ((request : ReqId) × (b : ℕ) × (m : Mutation) × (notes ≡ record { request = request; entry = entry.Proposed b m } ∷ []))

pub data Kind (id : ReqId) (c : Context) (what : Happening) (o : Operation) (turn : PaxosMove) (o' : Operation) : Type 0 where
  same : turn ≡ idle → o'.phase ≡ o.phase → o'.retry ≡ o.retry → Kind id c what o turn o'
  promised : (b : ℕ) (w : Promises) (p : Promised) → o.phase ≡ Preparing b w → what ≡ Heard p.from (message.Promise b p.row p.content)
      → turn ≡ idle → o'.phase ≡ Preparing b (record w { got = w.got ++ p ∷ [] }) → Kind id c what o turn o'
  refused : (b : ℕ) (w : Promises) (k : ℕ) → o.phase ≡ Preparing b w → turn ≡ idle → o'.phase ≡ Preparing b (refused_more w k) → Kind id c what o turn o'
  anew : IsNotOwn o.phase ⊎ ((moment : ℕ) × (o.retry ≡ Some moment)) → turn ≡ preparing c o (new_ballot c) []
      → o'.phase ≡ Preparing (new_ballot c) (no_promises c.alive) → Kind id c what o turn o'
  aside : IsNotOwn o.phase → IsAside o'.phase → turn.ballot ≡ None → IsSilent turn.notes → Kind id c what o turn o'
  own : (b : ℕ) (w : Promises) (p : Promised) (u : Update) (v : Verdict) → o.phase ≡ Preparing b w
      → what ≡ Heard p.from (message.Promise b p.row p.content) → is_enough c c.majority (promisers (w.got ++ p ∷ [])) ≡ true
      → v.promised ≡ promisers (w.got ++ p ∷ []) → turn ≡ proposing c o b u → o'.phase ≡ ProposingOwn b u v (no_votes c.alive)
      → o'.retry ≡ retry_if (is_dead (no_votes c.alive)) c → Kind id c what o turn o'
  accepted : (b : ℕ) (u : Update) (v : Verdict) (votes : Votes) (k : ℕ) → o.phase ≡ ProposingOwn b u v votes → what ≡ Heard k (message.Accepted b)
      → turn ≡ idle → o'.phase ≡ ProposingOwn b u v (record votes { accepted = votes.accepted ++ k ∷ [] }) → o'.retry ≡ o.retry → Kind id c what o turn o'
  chosen : (b : ℕ) (u : Update) (v : Verdict) (votes : Votes) (k : ℕ) → o.phase ≡ ProposingOwn b u v votes → what ≡ Heard k (message.Accepted b)
      → is_enough c c.majority (votes.accepted ++ k ∷ []) ≡ true → is_applied v.reply ≡ true → turn ≡ sending (commits c o b u)
      → o'.phase ≡ CommittingOwn b v [] → o'.retry ≡ None → Kind id c what o turn o'
  told_empty : (b : ℕ) (u : Update) (v : Verdict) (votes : Votes) (k : ℕ) → o.phase ≡ ProposingOwn b u v votes → what ≡ Heard k (message.Accepted b)
      → is_enough c c.majority (votes.accepted ++ k ∷ []) ≡ true → is_applied v.reply ≡ false
      → turn ≡ answered id b v (votes.accepted ++ k ∷ []) (commits c o b u) → Kind id c what o turn o'
  acked : (b : ℕ) (v : Verdict) (heard : List ℕ) (k : ℕ) → o.phase ≡ CommittingOwn b v heard → what ≡ Heard k (message.CommitAck b)
      → turn ≡ idle → o'.phase ≡ CommittingOwn b v (heard ++ k ∷ []) → o'.retry ≡ None → Kind id c what o turn o'
  told_applied : (b : ℕ) (v : Verdict) (heard : List ℕ) (k : ℕ) → o.phase ≡ CommittingOwn b v heard → what ≡ Heard k (message.CommitAck b)
      → is_enough c c.needed (heard ++ k ∷ []) ≡ true → turn ≡ answered id b v (heard ++ k ∷ []) [] → Kind id c what o turn o'
  outvoted : (b : ℕ) (u : Update) (v : Verdict) (votes : Votes) (k promise : ℕ) → o.phase ≡ ProposingOwn b u v votes
      → what ≡ Heard k (message.Refused b promise true) → turn ≡ idle → o'.phase ≡ ProposingOwn b u v (voted_down votes k)
      → o'.retry ≡ retry_if (is_dead (voted_down votes k)) c → Kind id c what o turn o'
  timed_out : turn ≡ tells id [] (entry.Told (telling.TimedOut (timeout_of c o))) → Kind id c what o turn o'

-- ---- promises

ignored : (id : ReqId) (c : Context) (what : Happening) (from : ℕ) (o : Operation) (turn : PaxosMove) (o' : Operation) → Ignores (replied_by c from o) turn o' → Kind id c what o turn o'
ignored id c what from o turn o' h = same h.0 (ap (λ (x : Operation). x.phase) h.1) (ap (λ (x : Operation). x.retry) h.1)

module _ (id : ReqId) (c : Context) (o : Operation) (turn : PaxosMove) (o' : Operation) where
  older_kind : (what : Happening) (k b : ℕ) (s : Option Stamped) → IsNotOwn o.phase → ProposesOlder c (replied_by c k o) b s turn o' → Kind id c what o turn o'
  older_kind what k b None open_still h = absurd h
  older_kind what k b (Some s) open_still h =
      aside open_still (subst (λ (x : Operation). IsAside x.phase) (sym h.1) tt) (ap (λ (x : PaxosMove). x.ballot) h.0)
      (inr (_, _, _, ap (λ (x : PaxosMove). x.notes) h.0))

  completes_kind : (what : Happening) (k : ℕ) (s : Option Stamped) (ks : List ℕ) → IsNotOwn o.phase → Completes c (replied_by c k o) s ks turn o' → Kind id c what o turn o'
  completes_kind what k None ks open_still h = absurd h
  completes_kind what k (Some s) ks open_still h =
      aside open_still (subst (λ (x : Operation). IsAside x.phase) (sym h.1) tt) (ap (λ (x : PaxosMove). x.ballot) h.0) (inl (ap (λ (x : PaxosMove). x.notes) h.0))

  open_by : (b : ℕ) (w : Promises) → o.phase ≡ Preparing b w → IsNotOwn o.phase
  open_by b w e = subst IsNotOwn (sym e) tt

  settles_kind : (what : Happening) (b : ℕ) (w : Promises) (p : Promised) (ks : List ℕ) → o.phase ≡ Preparing b w
      → what ≡ Heard p.from (message.Promise b p.row p.content) → is_enough c c.majority (promisers (w.got ++ p ∷ [])) ≡ true
      → Settles c id (replied_by c p.from o) b (w.got ++ p ∷ []) ks turn o' → Kind id c what o turn o'
  settles_kind what b w p [] e came enough h =
      own b w p _ h.0 e came enough h.1 h.4 (ap (λ (x : Operation). x.phase) h.5) (ap (λ (x : Operation). x.retry) h.5)
  settles_kind what b w p (k ∷ ks) e came enough h = completes_kind what p.from (newest_commit (w.got ++ p ∷ [])) (k ∷ ks) (open_by b w e) h

  decides_kind : (what : Happening) (b : ℕ) (w : Promises) (p : Promised) (newer : Bool) → o.phase ≡ Preparing b w
      → what ≡ Heard p.from (message.Promise b p.row p.content) → is_enough c c.majority (promisers (w.got ++ p ∷ [])) ≡ true
      → MatchBool newer (ProposesOlder c (replied_by c p.from o) b (newest_accepted (w.got ++ p ∷ [])) turn o')
      (Settles c id (replied_by c p.from o) b (w.got ++ p ∷ []) (lacking c (ballot_of (newest_commit (w.got ++ p ∷ []))) (w.got ++ p ∷ [])) turn o')
      → Kind id c what o turn o'
  decides_kind what b w p true e came enough h = older_kind what p.from b (newest_accepted (w.got ++ p ∷ [])) (open_by b w e) h
  decides_kind what b w p false e came enough h = settles_kind what b w p (lacking c (ballot_of (newest_commit (w.got ++ p ∷ []))) (w.got ++ p ∷ [])) e came enough h

  takes_kind : (what : Happening) (b : ℕ) (w : Promises) (p : Promised) → o.phase ≡ Preparing b w → what ≡ Heard p.from (message.Promise b p.row p.content)
      → TakesPromise c id (replied_by c p.from o) b (record w { got = w.got ++ p ∷ [] }) turn o' → Kind id c what o turn o'
  takes_kind what b w p e came h =
      elim (by_test (is_enough c c.majority (promisers (w.got ++ p ∷ []))) h) [
        | inl (enough, decided) ↦
            decides_kind what b w p (nat_lt (ballot_of (newest_commit (w.got ++ p ∷ []))) (ballot_of (newest_accepted (w.got ++ p ∷ [])))) e came enough decided
        | inr (few, waits) ↦ promised b w p e came waits.0 (ap (λ (x : Operation). x.phase) waits.1)
      ]

  promise_kind : (phase : Phase) (b : ℕ) (p : Promised) → o.phase ≡ phase → HearsPromise c id (replied_by c p.from o) phase b p turn o'
      → Kind id c (Heard p.from (message.Promise b p.row p.content)) o turn o'
  promise_kind (Preparing b w) b' p e h =
      elim (by_test ((b == b') && counts c (promisers w.got) p.from) h) [
        | inl (test, taken) ↦
            let this : b ≡ b' = eqb-true b b' (and_parts (b == b') (counts c (promisers w.got) p.from) test).0 in
            takes_kind (Heard p.from (message.Promise b' p.row p.content)) b w p e (ap (λ (x : ℕ). Heard p.from (message.Promise x p.row p.content)) (sym this)) taken
        | inr (test, left) ↦ ignored id c _ p.from o turn o' left
      ]
  promise_kind (ProposingOwn b u v votes) b' p e h = ignored id c _ p.from o turn o' h
  promise_kind (ProposingOlder b u votes) b' p e h = ignored id c _ p.from o turn o' h
  promise_kind (CommittingOwn b v heard) b' p e h = ignored id c _ p.from o turn o' h
  promise_kind (CommittingOlder b heard) b' p e h = ignored id c _ p.from o turn o' h
  promise_kind (Completing b left) b' p e h = ignored id c _ p.from o turn o' h

  -- ---- acceptances

  own_chosen_kind : (applied : Bool) (what : Happening) (b : ℕ) (u : Update) (v : Verdict) (votes : Votes) (k : ℕ) → o.phase ≡ ProposingOwn b u v votes
      → what ≡ Heard k (message.Accepted b) → is_enough c c.majority (votes.accepted ++ k ∷ []) ≡ true → is_applied v.reply ≡ applied
      → OwnIsChosen applied c id (replied_by c k o) b u v (votes.accepted ++ k ∷ []) turn o' → Kind id c what o turn o'
  own_chosen_kind true what b u v votes k e came enough applied h =
      chosen b u v votes k e came enough applied h.0 (ap (λ (x : Operation). x.phase) h.1) (ap (λ (x : Operation). x.retry) h.1)
  own_chosen_kind false what b u v votes k e came enough applied h = told_empty b u v votes k e came enough applied h.0

  own_vote_kind : (what : Happening) (b : ℕ) (u : Update) (v : Verdict) (votes : Votes) (k : ℕ) → o.phase ≡ ProposingOwn b u v votes
      → what ≡ Heard k (message.Accepted b) → TakesOwnVote c id (replied_by c k o) b u v (record votes { accepted = votes.accepted ++ k ∷ [] }) turn o' → Kind id c what o turn o'
  own_vote_kind what b u v votes k e came h =
      elim (by_test (is_enough c c.majority (votes.accepted ++ k ∷ [])) h) [
        | inl (enough, told) ↦ own_chosen_kind (is_applied v.reply) what b u v votes k e came enough refl told
        | inr (few, waits) ↦ accepted b u v votes k e came waits.0 (ap (λ (x : Operation). x.phase) waits.1) (ap (λ (x : Operation). x.retry) waits.1)
      ]

  older_vote_kind : (what : Happening) (b : ℕ) (u : Update) (votes votes' : Votes) (k : ℕ) → o.phase ≡ ProposingOlder b u votes
      → TakesOlderVote c (replied_by c k o) b u votes' turn o' → Kind id c what o turn o'
  older_vote_kind what b u votes votes' k e h =
      elim (by_test (is_enough c c.majority votes'.accepted) h) [
        | inl (enough, done) ↦
            aside (subst IsNotOwn (sym e) tt) (subst (λ (x : Operation). IsAside x.phase) (sym done.1) tt) (ap (λ (x : PaxosMove). x.ballot) done.0)
            (inl (ap (λ (x : PaxosMove). x.notes) done.0))
        | inr (few, waits) ↦
            aside (subst IsNotOwn (sym e) tt) (subst (λ (x : Operation). IsAside x.phase) (sym waits.1) tt) (ap (λ (x : PaxosMove). x.ballot) waits.0)
            (inl (ap (λ (x : PaxosMove). x.notes) waits.0))
      ]

  accepted_kind : (phase : Phase) (b k : ℕ) → o.phase ≡ phase → HearsAccepted c id (replied_by c k o) phase b k turn o' → Kind id c (Heard k (message.Accepted b)) o turn o'
  accepted_kind (Preparing b w) b' k e h = ignored id c _ k o turn o' h
  accepted_kind (ProposingOwn b u v votes) b' k e h =
      elim (by_test ((b == b') && counts c votes.accepted k) h) [
        | inl (test, taken) ↦
            let this : b ≡ b' = eqb-true b b' (and_parts (b == b') (counts c votes.accepted k) test).0 in
            own_vote_kind (Heard k (message.Accepted b')) b u v votes k e (ap (λ (x : ℕ). Heard k (message.Accepted x)) (sym this)) taken
        | inr (test, left) ↦ ignored id c _ k o turn o' left
      ]
  accepted_kind (ProposingOlder b u votes) b' k e h =
      elim (by_test ((b == b') && counts c votes.accepted k) h) [
        | inl (test, taken) ↦ older_vote_kind (Heard k (message.Accepted b')) b u votes (record votes { accepted = votes.accepted ++ k ∷ [] }) k e taken
        | inr (test, left) ↦ ignored id c _ k o turn o' left
      ]
  accepted_kind (CommittingOwn b v heard) b' k e h = ignored id c _ k o turn o' h
  accepted_kind (CommittingOlder b heard) b' k e h = ignored id c _ k o turn o' h
  accepted_kind (Completing b left) b' k e h = ignored id c _ k o turn o' h

  -- ---- acknowledgements

  anew_kind : (what : Happening) (k : ℕ) → IsNotOwn o.phase → BeginsBallot c (replied_by c k o) [] turn o' → Kind id c what o turn o'
  anew_kind what k open_still h = anew (inl open_still) h.0 (ap (λ (x : Operation). x.phase) h.1)

  missing_kind : (what : Happening) (b k : ℕ) (left : List ℕ) → IsNotOwn o.phase → TakesMissingAck c (replied_by c k o) b left turn o' → Kind id c what o turn o'
  missing_kind what b k [] open_still h = anew_kind what k open_still h
  missing_kind what b k (j ∷ js) open_still h =
      aside open_still (subst (λ (x : Operation). IsAside x.phase) (sym h.1) tt) (ap (λ (x : PaxosMove). x.ballot) h.0) (inl (ap (λ (x : PaxosMove). x.notes) h.0))

  older_ack_kind : (what : Happening) (b k : ℕ) (heard : List ℕ) → IsNotOwn o.phase → TakesOlderAck c (replied_by c k o) b heard turn o' → Kind id c what o turn o'
  older_ack_kind what b k heard open_still h =
      elim (by_test (is_enough c c.majority heard) h) [
        | inl (enough, begins) ↦ anew_kind what k open_still begins
        | inr (few, waits) ↦
            aside open_still (subst (λ (x : Operation). IsAside x.phase) (sym waits.1) tt) (ap (λ (x : PaxosMove). x.ballot) waits.0)
            (inl (ap (λ (x : PaxosMove). x.notes) waits.0))
      ]

  own_ack_kind : (what : Happening) (b : ℕ) (v : Verdict) (heard : List ℕ) (k : ℕ) → o.phase ≡ CommittingOwn b v heard → what ≡ Heard k (message.CommitAck b)
      → TakesOwnAck c id (replied_by c k o) b v (heard ++ k ∷ []) turn o' → Kind id c what o turn o'
  own_ack_kind what b v heard k e came h =
      elim (by_test (is_enough c c.needed (heard ++ k ∷ [])) h) [
        | inl (enough, told) ↦ told_applied b v heard k e came enough told.0
        | inr (few, waits) ↦ acked b v heard k e came waits.0 (ap (λ (x : Operation). x.phase) waits.1) (ap (λ (x : Operation). x.retry) waits.1)
      ]

  ack_kind : (phase : Phase) (b k : ℕ) → o.phase ≡ phase → HearsCommitAck c id (replied_by c k o) phase b k turn o' → Kind id c (Heard k (message.CommitAck b)) o turn o'
  ack_kind (Preparing b w) b' k e h = ignored id c _ k o turn o' h
  ack_kind (ProposingOwn b u v votes) b' k e h = ignored id c _ k o turn o' h
  ack_kind (ProposingOlder b u votes) b' k e h = ignored id c _ k o turn o' h
  ack_kind (CommittingOwn b v heard) b' k e h =
      elim (by_test ((b == b') && counts c heard k) h) [
        | inl (test, taken) ↦
            let this : b ≡ b' = eqb-true b b' (and_parts (b == b') (counts c heard k) test).0 in
            own_ack_kind (Heard k (message.CommitAck b')) b v heard k e (ap (λ (x : ℕ). Heard k (message.CommitAck x)) (sym this)) taken
        | inr (test, left) ↦ ignored id c _ k o turn o' left
      ]
  ack_kind (CommittingOlder b heard) b' k e h =
      elim (by_test ((b == b') && counts c heard k) h) [
        | inl (test, taken) ↦ older_ack_kind (Heard k (message.CommitAck b')) b k (heard ++ k ∷ []) (subst IsNotOwn (sym e) tt) taken
        | inr (test, left) ↦ ignored id c _ k o turn o' left
      ]
  ack_kind (Completing b left) b' k e h =
      elim (by_test ((b == b') && is_in left k) h) [
        | inl (test, taken) ↦ missing_kind (Heard k (message.CommitAck b')) b k (without k left) (subst IsNotOwn (sym e) tt) taken
        | inr (test, other) ↦ ignored id c _ k o turn o' other
      ]

  -- ---- refusals

  ballot_refused_kind : (what : Happening) (phase : Phase) (b k : ℕ) → o.phase ≡ phase → HearsBallotRefused c (replied_by c k o) phase b k turn o' → Kind id c what o turn o'
  ballot_refused_kind what (Preparing b w) b' k e h =
      elim (by_test ((b == b') && (not (is_in (promisers w.got) k) && counts c w.refused k)) h) [
        | inl (test, taken) ↦ refused b w k e taken.0 (ap (λ (x : Operation). x.phase) taken.1)
        | inr (test, left) ↦ ignored id c _ k o turn o' left
      ]
  ballot_refused_kind what (ProposingOwn b u v votes) b' k e h = ignored id c _ k o turn o' h
  ballot_refused_kind what (ProposingOlder b u votes) b' k e h = ignored id c _ k o turn o' h
  ballot_refused_kind what (CommittingOwn b v heard) b' k e h = ignored id c _ k o turn o' h
  ballot_refused_kind what (CommittingOlder b heard) b' k e h = ignored id c _ k o turn o' h
  ballot_refused_kind what (Completing b left) b' k e h = ignored id c _ k o turn o' h

  proposal_refused_kind : (phase : Phase) (b k promise : ℕ) → o.phase ≡ phase → HearsProposalRefused c (replied_by c k o) phase b k turn o'
      → Kind id c (Heard k (message.Refused b promise true)) o turn o'
  proposal_refused_kind (Preparing b w) b' k promise e h = ignored id c _ k o turn o' h
  proposal_refused_kind (ProposingOwn b u v votes) b' k promise e h =
      elim (by_test ((b == b') && counts c votes.refused k) h) [
        | inl (test, taken) ↦
            let this : b ≡ b' = eqb-true b b' (and_parts (b == b') (counts c votes.refused k) test).0 in
            outvoted b u v votes k promise e (ap (λ (x : ℕ). Heard k (message.Refused x promise true)) (sym this)) taken.0
            (ap (λ (x : Operation). x.phase) taken.1) (ap (λ (x : Operation). x.retry) taken.1)
        | inr (test, left) ↦ ignored id c _ k o turn o' left
      ]
  proposal_refused_kind (ProposingOlder b u votes) b' k promise e h =
      elim (by_test ((b == b') && counts c votes.refused k) h) [
        | inl (test, taken) ↦
            aside (subst IsNotOwn (sym e) tt) (subst (λ (x : Operation). IsAside x.phase) (sym taken.1) tt) (ap (λ (x : PaxosMove). x.ballot) taken.0)
            (inl (ap (λ (x : PaxosMove). x.notes) taken.0))
        | inr (test, left) ↦ ignored id c _ k o turn o' left
      ]
  proposal_refused_kind (CommittingOwn b v heard) b' k promise e h = ignored id c _ k o turn o' h
  proposal_refused_kind (CommittingOlder b heard) b' k promise e h = ignored id c _ k o turn o' h
  proposal_refused_kind (Completing b left) b' k promise e h = ignored id c _ k o turn o' h

  refused_kind : (of_proposal : Bool) (b k promise : ℕ) → HearsRefused c (replied_by c k o) b k of_proposal turn o'
      → Kind id c (Heard k (message.Refused b promise of_proposal)) o turn o'
  refused_kind true b k promise h = proposal_refused_kind o.phase b k promise refl h
  refused_kind false b k promise h = ballot_refused_kind _ o.phase b k refl h

  -- ---- all

  untouched : (what : Happening) → Ignores o turn o' → Kind id c what o turn o'
  untouched what h = same h.0 (ap (λ (x : Operation). x.phase) h.1) (ap (λ (x : Operation). x.retry) h.1)

  hears_kind : (k : ℕ) (m : PaxosMessage) → Hears c id k m o turn o' → Kind id c (Heard k m) o turn o'
  hears_kind k (message.Prepare p b) h = untouched _ h
  hears_kind k (message.Promise b row content) h = promise_kind o.phase b (record { from = k; row = row; content = content }) refl h
  hears_kind k (message.Propose p b u) h = untouched _ h
  hears_kind k (message.Accepted b) h = accepted_kind o.phase b k refl h
  hears_kind k (message.Commit p b u) h = untouched _ h
  hears_kind k (message.CommitAck b) h = ack_kind o.phase b k refl h
  hears_kind k (message.Refused b promise of_proposal) h = refused_kind of_proposal b k promise h

  again_kind : (retry : Option ℕ) → o.retry ≡ retry → TriesAgain retry c o turn o' → Kind id c Time o turn o'
  again_kind None e h = untouched _ h
  again_kind (Some moment) e h =
      elim (by_test (nat_lt c.risen moment) h) [
        | inl (early, waits) ↦ untouched _ waits
        | inr (due, begins) ↦ anew (inr (moment, e)) begins.0 (ap (λ (x : Operation). x.phase) begins.1)
      ]

  time_kind : Reaches c id o turn o' → Kind id c Time o turn o'
  time_kind h =
      elim (by_test (nat_lt c.risen (deadline_of id)) h) [
        | inl (early, more) ↦ again_kind o.retry refl more
        | inr (late, told) ↦ timed_out told.0
      ]

  pub kind_of : (what : Happening) → MovesBy id c what o turn o' → Kind id c what o turn o'
  kind_of (Asked level op) h = absurd h
  kind_of (Heard k m) h = hears_kind k m h
  kind_of Time h = time_kind h
