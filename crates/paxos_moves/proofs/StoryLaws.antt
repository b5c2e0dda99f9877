-- The laws of stories.
use Rattle.std.proofs.Common.{◌≡◌, ◌⊎◌, inl, inr, ℕ, ◌<◌, ◌≤◌, Bool, true, false, Option, Some, None, List, [], ◌∷◌, ◌++◌, refl, sym, ap, subst, ◌∙◌, arith}
use Rattle.std.specs.Prelude.{Contains}
use Rattle.std.proofs.lemmas.Bool.{false≢true}
use Rattle.cs_base.proofs.Members.{contains_nil, contains_one}
use Rattle.cs_base.specs.declared.ids.ReqId.{ReqId}
use Rattle.paxos_messages.specs.declared.entry.PaxosEntry.{PaxosEntry}
use Rattle.paxos_messages.specs.declared.entry.PaxosEntry.TheVariants as entry
use Rattle.paxos_messages.specs.declared.entry.PaxosGrounds.{PaxosGrounds}
use Rattle.paxos_messages.specs.declared.entry.PaxosNote.{PaxosNote}
use Rattle.paxos_messages.specs.declared.entry.Reply.{Reply}
use Rattle.paxos_messages.specs.declared.entry.Telling.TheVariants as telling
use Rattle.paxos_messages.specs.declared.message.PaxosMessage.TheVariants as message
use Rattle.paxos_messages.specs.declared.outcome.PaxosMove.{PaxosMove}
use Rattle.paxos_moves.specs.declared.operation.Context.{Context}
use Rattle.paxos_moves.specs.declared.operation.Operation.{Operation}
use Rattle.paxos_moves.specs.declared.operation.Phase.{Phase}
use Rattle.paxos_moves.specs.declared.operation.Phase.TheVariants.{ProposingOwn, CommittingOwn}
use Rattle.paxos_moves.specs.declared.operation.Verdict.{Verdict}
use Rattle.paxos_moves.specs.declared.operation.Votes.{Votes}
use Rattle.paxos_moves.specs.Proposals.{is_applied}
use Rattle.paxos_moves.specs.Operations.{timeout_of, is_enough}
use Rattle.paxos_moves.specs.Stories.{Happening, Heard, Asked, Time, Turn, GoesOn, BeginsBy, IsStory, Ever}
use Rattle.paxos_moves.specs.Laws.{BallotsRise, RetriesAreSafe, ToldAfterQuorum, Makes, ProposesTo, IsRefusal, IsPromise, IsAcceptance, IsAck, AreHeard, IsTaken, IsGrounded}
use Rattle.paxos_moves.specs.Timing.{IsBallot, ballot_above, new_ballot, time_by}
use Rattle.paxos_moves.proofs.MoveKinds.{Kind, IsSilent, kind_of}
use Rattle.paxos_moves.proofs.MoveKinds.Kind.{same, promised, refused, anew, aside, own, accepted, chosen, told_empty, acked, told_applied, outvoted, timed_out}
use Rattle.paxos_moves.proofs.Known.{Known, OwnKnown, ChosenKnown, known, each_push, heard_on, enough_is, refused_at_new}

-- ---- ballots

least : (me time : ℕ) → me < 8 → IsBallot me time (ballot_above me time)
least me time low = record {
  above = omega arith;
  mine = omega (arith, low);
  least = λ b over mine. omega (arith, low, over, mine);
}

abbrev IsNothing : Option ℕ → Type 0
IsNothing None = Unit {0}
IsNothing (Some n) = ⊥

no_ballot : (A : Type 0) (x : Option ℕ) (b : ℕ) → x ≡ None → x ≡ Some b → A
no_ballot A x b e f = absurd (subst IsNothing (sym e ∙ f) tt)

abbrev some_of : ℕ → Option ℕ → ℕ
some_of d None = d
some_of d (Some b) = b

same_ballot : (x : Option ℕ) (b b' : ℕ) → x ≡ Some b → x ≡ Some b' → b ≡ b'
same_ballot x b b' e f = ap (λ (y : Option ℕ). some_of 0 y) (sym e ∙ f)

none_by : (c : Context) (turn m : PaxosMove) → turn ≡ m → m.ballot ≡ None → (turn.ballot ≡ None) ⊎ (turn.ballot ≡ Some (new_ballot c))
none_by c turn m e n = inl (ap (λ (x : PaxosMove). x.ballot) e ∙ n)

fresh_kind : (id : ReqId) (c : Context) (what : Happening) (o : Operation) (turn : PaxosMove) (o' : Operation) → Kind id c what o turn o' → (turn.ballot ≡ None) ⊎ (turn.ballot ≡ Some (new_ballot c))
fresh_kind id c what o turn o' (same e phase retry) = none_by c turn _ e refl
fresh_kind id c what o turn o' (promised b w p e came moves becomes) = none_by c turn _ moves refl
fresh_kind id c what o turn o' (refused b w k e moves becomes) = none_by c turn _ moves refl
fresh_kind id c what o turn o' (anew reason moves becomes) = inr (ap (λ (x : PaxosMove). x.ballot) moves)
fresh_kind id c what o turn o' (aside n a none silent) = inl none
fresh_kind id c what o turn o' (own b w p u v e came enough who moves becomes retry) = none_by c turn _ moves refl
fresh_kind id c what o turn o' (accepted b u v votes k e came moves becomes retry) = none_by c turn _ moves refl
fresh_kind id c what o turn o' (chosen b u v votes k e came enough applied moves becomes retry) = none_by c turn _ moves refl
fresh_kind id c what o turn o' (told_empty b u v votes k e came enough applied moves) = none_by c turn _ moves refl
fresh_kind id c what o turn o' (acked b v heard k e came moves becomes retry) = none_by c turn _ moves refl
fresh_kind id c what o turn o' (told_applied b v heard k e came enough moves) = none_by c turn _ moves refl
fresh_kind id c what o turn o' (outvoted b u v votes k promise e came moves becomes retry) = none_by c turn _ moves refl
fresh_kind id c what o turn o' (timed_out moves) = none_by c turn _ moves refl

begins_fresh : (id : ReqId) (t : Turn) (what : Happening) → BeginsBy id t.context what t.move t.after → (t.move.ballot ≡ None) ⊎ (t.move.ballot ≡ Some (new_ballot t.context))
begins_fresh id t (Asked level op) h = inr (ap (λ (x : PaxosMove). x.ballot) h.0)
begins_fresh id t (Heard k m) h = absurd h
begins_fresh id t Time h = absurd h

fresh : (id : ReqId) (t : Turn) (earlier : List Turn) → IsStory id (t ∷ earlier) → (t.move.ballot ≡ None) ⊎ (t.move.ballot ≡ Some (new_ballot t.context))
fresh id t [] story = begins_fresh id t t.what story.1
fresh id t (before ∷ earlier) story =
    fresh_kind id t.context t.what before.after t.move t.after (kind_of id t.context before.after t.move t.after t.what story.1.1)

-- node time does not fall in a move
risen_by : (t : Turn) (x : Option ℕ) → (x ≡ None) ⊎ (x ≡ Some (new_ballot t.context)) → t.context.time ≤ time_by x t.context.time
risen_by t None h = omega arith
risen_by t (Some b) h =
    elim h [
      | inl none ↦ no_ballot (t.context.time ≤ b) (Some b) b none refl
      | inr new ↦ let e : b ≡ new_ballot t.context = same_ballot (Some b) b (new_ballot t.context) refl new in omega (arith, e)
    ]

made_by : (t : Turn) (b : ℕ) (x : Option ℕ) → x ≡ Some b → b ≤ time_by x t.context.time
made_by t b None e = no_ballot (b ≤ t.context.time) None b refl e
made_by t b (Some b') e = let s : b' ≡ b = same_ballot (Some b') b' b refl e in omega (arith, s)

below_time : (id : ReqId) (t : Turn) (earlier : List Turn) (b : ℕ) → IsStory id (t ∷ earlier) → Ever (Makes b) (t ∷ earlier) → b ≤ time_by t.move.ballot t.context.time
below_time id t [] b story made = elim made [ inl this ↦ made_by t b t.move.ballot this | inr none ↦ absurd none ]
below_time id t (before ∷ earlier) b story made =
    elim made [
      | inl this ↦ made_by t b t.move.ballot this
      | inr old ↦
          let low : b ≤ time_by before.move.ballot before.context.time = below_time id before earlier b story.0 old in
          let on : time_by before.move.ballot before.context.time ≤ t.context.time = story.1.0.time in
          let up : t.context.time ≤ time_by t.move.ballot t.context.time = risen_by t t.move.ballot (fresh id t (before ∷ earlier) story) in
          omega (arith, low, on, up)
    ]

below_earlier : (id : ReqId) (t : Turn) (earlier : List Turn) (b : ℕ) → IsStory id (t ∷ earlier) → Ever (Makes b) earlier → b ≤ t.context.time
below_earlier id t [] b story made = absurd made
below_earlier id t (before ∷ earlier) b story made =
    let low : b ≤ time_by before.move.ballot before.context.time = below_time id before earlier b story.0 made in
    let on : time_by before.move.ballot before.context.time ≤ t.context.time = story.1.0.time in
    omega (arith, low, on)

pub rise : BallotsRise
rise id t earlier story low b made =
    elim (fresh id t earlier story) [
      | inl none ↦ no_ballot (IsBallot t.context.me t.context.time b × ((b' : ℕ) → Ever (Makes b') earlier → b' < b)) t.move.ballot b none made
      | inr new ↦
          let e : new_ballot t.context ≡ b = same_ballot t.move.ballot (new_ballot t.context) b new made in
          let this : IsBallot t.context.me t.context.time b = subst (λ (x : ℕ). IsBallot t.context.me t.context.time x) e (least t.context.me t.context.time low) in
          (this, λ b' before. over b' b t.context.time (below_earlier id t earlier b' story before) this.above)
    ]
  where
    over : (b' b time : ℕ) → b' ≤ time → time < b → b' < b
    over b' b time x y = omega (arith, x, y)

-- ---- retries

refused_kind : (id : ReqId) (before t : Turn) (turns : List Turn) (new : ℕ) → Makes new t → Known before.context turns before.after.phase before.after.retry
    → Kind id t.context t.what before.after t.move t.after → (b k : ℕ) → Ever (ProposesTo b k) turns → Ever (IsRefusal b k) turns
refused_kind id before t turns new makes h kind b k went = by kind
  where
    never : (m : PaxosMove) → t.move ≡ m → m.ballot ≡ None → Ever (IsRefusal b k) turns
    never m e n = no_ballot (Ever (IsRefusal b k) turns) t.move.ballot new (ap (λ (x : PaxosMove). x.ballot) e ∙ n) makes

    by : Kind id t.context t.what before.after t.move t.after → Ever (IsRefusal b k) turns
    by (same e phase retry) = never _ e refl
    by (promised b' w p e came moves becomes) = never _ moves refl
    by (refused b' w k' e moves becomes) = never _ moves refl
    by (anew reason moves becomes) = refused_at_new before.context turns before.after reason h b k went
    by (aside n a none silent) = no_ballot (Ever (IsRefusal b k) turns) t.move.ballot new none makes
    by (own b' w p u v e came enough who moves becomes retry) = never _ moves refl
    by (accepted b' u v votes k' e came moves becomes retry) = never _ moves refl
    by (chosen b' u v votes k' e came enough applied moves becomes retry) = never _ moves refl
    by (told_empty b' u v votes k' e came enough applied moves) = never _ moves refl
    by (acked b' v heard k' e came moves becomes retry) = never _ moves refl
    by (told_applied b' v heard k' e came enough moves) = never _ moves refl
    by (outvoted b' u v votes k' promise e came moves becomes retry) = never _ moves refl
    by (timed_out moves) = never _ moves refl

pub safe : RetriesAreSafe
safe id t [] story new makes b k went = went
safe id t (before ∷ earlier) story new makes b k went =
    refused_kind id before t (before ∷ earlier) new makes (known id before earlier story.0 story.1.0.open_still)
    (kind_of id t.context before.after t.move t.after t.what story.1.1) b k went

-- ---- what is told

-- what is told of an entry that is an answer
abbrev IsAnswerOf : (Reply → PaxosGrounds → Type 0) → PaxosEntry → Type 0
IsAnswerOf P (entry.Began op level) = Unit {0}
IsAnswerOf P (entry.Proposed b m) = Unit {0}
IsAnswerOf P (entry.Accepted node p b) = Unit {0}
IsAnswerOf P (entry.Told (telling.Answered r g)) = P r g
IsAnswerOf P (entry.Told (telling.TimedOut x)) = Unit {0}

abbrev AreAnswersOf : (Reply → PaxosGrounds → Type 0) → List PaxosNote → Type 0
AreAnswersOf P notes = (n : PaxosNote) → Contains notes n → IsAnswerOf P n.entry

none_answer : (P : Reply → PaxosGrounds → Type 0) → AreAnswersOf P []
none_answer P n h = absurd (contains_nil n h)

one_answer : (P : Reply → PaxosGrounds → Type 0) (id : ReqId) (e : PaxosEntry) → IsAnswerOf P e → AreAnswersOf P (record { request = id; entry = e } ∷ [])
one_answer P id e h n there = subst (λ (x : PaxosNote). IsAnswerOf P x.entry) (contains_one (record { request = id; entry = e }) n there) h

silent_answers : (P : Reply → PaxosGrounds → Type 0) (notes : List PaxosNote) → IsSilent notes → AreAnswersOf P notes
silent_answers P notes silent =
    elim silent [
      | inl none ↦ subst (λ (x : List PaxosNote). AreAnswersOf P x) (sym none) (none_answer P)
      | inr one ↦ subst (λ (x : List PaxosNote). AreAnswersOf P x) (sym one.3) (one_answer P one.0 (entry.Proposed one.1 one.2) tt)
    ]

module _ (before t : Turn) (turns : List Turn) (on : GoesOn before t) (h : Known before.context turns before.after.phase before.after.retry) where
  abbrev Grounded : Reply → PaxosGrounds → Type 0
  Grounded r g = IsGrounded t.context r g (t ∷ turns)

  moved : (m : PaxosMove) → t.move ≡ m → AreAnswersOf Grounded m.notes → AreAnswersOf Grounded t.move.notes
  moved m e answers = subst (λ (x : PaxosMove). AreAnswersOf Grounded x.notes) (sym e) answers

  at_phase : (phase : Phase) → before.after.phase ≡ phase → Known before.context turns phase before.after.retry
  at_phase phase e = subst (λ (x : Phase). Known before.context turns x before.after.retry) e h

  taken_empty : (c : Context) (g : PaxosGrounds) (ts : List Turn) (a : Bool) → a ≡ false → AreHeard c c.majority (IsAcceptance g.ballot) g.heard ts → IsTaken a c g ts
  taken_empty c g ts true e x = absurd (false≢true (sym e))
  taken_empty c g ts false e x = x

  taken_applied : (c : Context) (g : PaxosGrounds) (ts : List Turn) (a : Bool) → a ≡ true → AreHeard c c.needed (IsAck g.ballot) g.heard ts → IsTaken a c g ts
  taken_applied c g ts true e x = x
  taken_applied c g ts false e x = absurd (false≢true e)

  empty_grounded : (b : ℕ) (v : Verdict) (votes : Votes) (k : ℕ) → OwnKnown before.context turns b v votes before.after.retry → t.what ≡ Heard k (message.Accepted b)
      → is_enough t.context t.context.majority (votes.accepted ++ k ∷ []) ≡ true → is_applied v.reply ≡ false
      → Grounded v.reply (record { ballot = b; promised = v.promised; merged = v.merged; heard = votes.accepted ++ k ∷ [] })
  empty_grounded b v votes k was came enough applied =
      let votes_heard : AreHeard t.context t.context.majority (IsAcceptance b) (votes.accepted ++ k ∷ []) (t ∷ turns) =
      record { enough = enough_is t.context t.context.majority (votes.accepted ++ k ∷ []) enough; each = each_push (IsAcceptance b) votes.accepted k t turns was.acceptances came } in
      record {
        promised = heard_on before t (IsPromise b) v.promised turns on was.promises;
        chosen = (votes.accepted ++ k ∷ [], votes_heard);
        taken = taken_empty t.context (record { ballot = b; promised = v.promised; merged = v.merged; heard = votes.accepted ++ k ∷ [] }) (t ∷ turns) (is_applied v.reply) applied votes_heard;
      }

  applied_grounded : (b : ℕ) (v : Verdict) (heard : List ℕ) (k : ℕ) → ChosenKnown before.context turns b v heard before.after.retry → t.what ≡ Heard k (message.CommitAck b)
      → is_enough t.context t.context.needed (heard ++ k ∷ []) ≡ true
      → Grounded v.reply (record { ballot = b; promised = v.promised; merged = v.merged; heard = heard ++ k ∷ [] })
  applied_grounded b v heard k was came enough = record {
    promised = heard_on before t (IsPromise b) v.promised turns on was.promises;
    chosen = (was.accepted, heard_on before t (IsAcceptance b) was.accepted turns on was.acceptances);
    taken =
        taken_applied t.context (record { ballot = b; promised = v.promised; merged = v.merged; heard = heard ++ k ∷ [] }) (t ∷ turns) (is_applied v.reply) was.applied
        (record { enough = enough_is t.context t.context.needed (heard ++ k ∷ []) enough; each = each_push (IsAck b) heard k t turns was.acks came });
  }

  kind_answers : (id : ReqId) → Kind id t.context t.what before.after t.move t.after → AreAnswersOf Grounded t.move.notes
  kind_answers id (same e phase retry) = moved _ e (none_answer Grounded)
  kind_answers id (promised b w p e came moves becomes) = moved _ moves (none_answer Grounded)
  kind_answers id (refused b w k e moves becomes) = moved _ moves (none_answer Grounded)
  kind_answers id (anew reason moves becomes) = moved _ moves (none_answer Grounded)
  kind_answers id (aside n a none silent) = silent_answers Grounded t.move.notes silent
  kind_answers id (own b w p u v e came enough who moves becomes retry) =
      moved _ moves (one_answer Grounded u.request (entry.Proposed b (record { partition = before.after.operation.partition; changes = u.changes })) tt)
  kind_answers id (accepted b u v votes k e came moves becomes retry) = moved _ moves (none_answer Grounded)
  kind_answers id (chosen b u v votes k e came enough applied moves becomes retry) = moved _ moves (none_answer Grounded)
  kind_answers id (told_empty b u v votes k e came enough applied moves) =
      moved _ moves (one_answer Grounded id _ (empty_grounded b v votes k (at_phase (ProposingOwn b u v votes) e) came enough applied))
  kind_answers id (acked b v heard k e came moves becomes retry) = moved _ moves (none_answer Grounded)
  kind_answers id (told_applied b v heard k e came enough moves) =
      moved _ moves (one_answer Grounded id _ (applied_grounded b v heard k (at_phase (CommittingOwn b v heard) e) came enough))
  kind_answers id (outvoted b u v votes k promise e came moves becomes retry) = moved _ moves (none_answer Grounded)
  kind_answers id (timed_out moves) = moved _ moves (one_answer Grounded id (entry.Told (telling.TimedOut (timeout_of t.context before.after))) tt)

begin_answers : (id : ReqId) (t : Turn) (P : Reply → PaxosGrounds → Type 0) (what : Happening) → BeginsBy id t.context what t.move t.after → AreAnswersOf P t.move.notes
begin_answers id t P (Asked level op) h =
    subst (λ (x : PaxosMove). AreAnswersOf P x.notes) (sym h.0) (one_answer P id (entry.Began op level) tt)
begin_answers id t P (Heard k m) h = absurd h
begin_answers id t P Time h = absurd h

answers : (id : ReqId) (t : Turn) (earlier : List Turn) → IsStory id (t ∷ earlier) → AreAnswersOf (λ r g. IsGrounded t.context r g (t ∷ earlier)) t.move.notes
answers id t [] story = begin_answers id t (λ r g. IsGrounded t.context r g (t ∷ [])) t.what story.1
answers id t (before ∷ earlier) story =
    kind_answers before t (before ∷ earlier) story.1.0 (known id before earlier story.0 story.1.0.open_still) id
    (kind_of id t.context before.after t.move t.after t.what story.1.1)

pub told : ToldAfterQuorum
told id t earlier story request r g there = answers id t earlier story (record { request = request; entry = entry.Told (telling.Answered r g) }) there
