-- What a step makes of hints, as moves.
use Rattle.std.proofs.Common.{◌≡◌, ℕ, ◌+◌, zero, suc, Bool, true, false, cond, Option, Some, None, List, [], ◌∷◌, ◌++◌, filter, map, take, refl, sym, ap, subst, ◌∙◌, append-nil}
use Rattle.std.specs.Prelude.{◌==◌, ◌&&◌, if◌then◌else◌, not, MatchBool}
use Rattle.cs_base.specs.Quorums.{is_in}
use Rattle.std.specs.List.{AllByRecursion}
use Rattle.std.proofs.lemmas.Bool.{eqb-true}
use Rattle.std.proofs.lemmas.List.{map-append, append_assoc}
use Rattle.cs_base.specs.declared.ids.ReqId.{ReqId}
use Rattle.changes.specs.declared.Mutation.{Mutation}
use Rattle.stored_changes.specs.Spelling.{MutationFits}
use Rattle.row_change.specs.declared.entry.Hint as hint
use Rattle.row_change.specs.declared.entry.LogItem.{LogItem}
use Rattle.peer_messages.specs.declared.chronicle.Entry.{Entry}
use Rattle.peer_messages.specs.declared.message.Body.TheVariants.{HintAck}
use Rattle.peer_messages.specs.declared.outcome.Outbound.{Outbound}
use Rattle.peer_messages.specs.declared.setting.Setting.{Setting}
use Rattle.node_steps.specs.State.{NodeState, Batch}
use Rattle.node_steps.specs.Effects.{Effects}
use Rattle.node_steps.specs.Fitting.{is_table}
use Rattle.durable_state.specs.State.{Durable, last_of}
use Rattle.node_steps.specs.Hints.{KeptHints, is_full, next_hint, push_hint, pushed_hint, push_hints, pushed_hints, drop_hint, hints_in, waiting_of, is_no_number, with_hints_of, with_batch, number_of, send_hint, sends_hints, sends_next, with_sent, hint_acked}
use Rattle.node_steps.specs.Leading.{Forgotten, keeping, state_under}
use Rattle.node_steps.specs.Acts.{Act, Hears, is_old}
use Rattle.node_steps.specs.Keeping.{Gone, add_item, gone_item, gone_if_kept}
use Rattle.hint_store.specs.Staged.{IsSameHints, next_number}
use Rattle.hint_store.proofs.Same.{same_refl, same_trans, same_kept, same_first, same_drop, same_push, same_pushed}
use Rattle.node_core.specs.declared.base.Base.{Base}
use Rattle.node_core.specs.declared.work.Given.{Given}
use Rattle.node_core.specs.declared.work.Work.{Work}
use Rattle.node_core.specs.Hinting.{Stage, at, LeavesHints, DropsHint, HearsHintAck, SendsFirst, first_sent, with_first, left_of, ends_batch}
use Rattle.node_core.specs.Working.{batches_with, effects_given, forgotten_in, state_at, own_sent, IsSound, IsMade, IsGone}
use Rattle.node_core.specs.Moving.{GoesOn, Moved}

abbrev pub no_gone : List Gone
no_gone = []

abbrev no_items : List LogItem
no_items = []

pub none_either : (b : Bool) → (if b then [] else no_gone) ≡ no_gone
none_either true = refl
none_either false = refl

no_data : (b : Bool) → (if b then [] else no_items) ≡ no_items
no_data true = refl
no_data false = refl

-- ---- hints go to their peer

abbrev AreOf : ℕ → List hint.Hint → Type 0
AreOf peer hs = AllByRecursion (λ (h : hint.Hint). (h.peer == peer) ≡ true) hs

of_cond : (b : Bool) (peer : ℕ) (h : hint.Hint) (hs : List hint.Hint) → (h.peer == peer) ≡ b → AreOf peer hs → AreOf peer (cond b (h ∷ hs) hs)
of_cond true peer h hs is all = (is, all)
of_cond false peer h hs is all = all

of_peer : (peer : ℕ) (hs : List hint.Hint) → AreOf peer (filter (λ h. h.peer == peer) hs)
of_peer peer [] = tt
of_peer peer (h ∷ hs) = of_cond (h.peer == peer) peer h (filter (λ y. y.peer == peer) hs) refl (of_peer peer hs)

kept_cond : (b : Bool) (peer : ℕ) (h : hint.Hint) (hs : List hint.Hint) → (h.peer == peer) ≡ true → AreOf peer hs → AreOf peer (cond b (h ∷ hs) hs)
kept_cond true peer h hs is all = (is, all)
kept_cond false peer h hs is all = all

of_tables : (c : Setting) (peer : ℕ) (hs : List hint.Hint) → AreOf peer hs → AreOf peer (filter (λ h. is_table c h.mutation.partition) hs)
of_tables c peer [] all = tt
of_tables c peer (h ∷ hs) all = kept_cond (is_table c h.mutation.partition) peer h (filter (λ y. is_table c y.mutation.partition) hs) all.0 (of_tables c peer hs all.1)

of_front : (peer n : ℕ) (hs : List hint.Hint) → AreOf peer hs → AreOf peer (take n hs)
of_front peer zero hs all = tt
of_front peer (suc n) [] all = tt
of_front peer (suc n) (h ∷ hs) all = (all.0, of_front peer n hs all.1)

not_me : (b : Bool) (peer me : ℕ) (h : hint.Hint) → (h.peer == peer) ≡ true → (peer ≡ me → ⊥) → (h.peer == me) ≡ b → b ≡ false
not_me true peer me h of away is = absurd (away (sym (eqb-true h.peer peer of) ∙ eqb-true h.peer me is))
not_me false peer me h of away is = refl

none_own : (me peer : ℕ) (hs : List hint.Hint) → (peer ≡ me → ⊥) → AreOf peer hs → own_sent me (map (send_hint me) hs) ≡ []
none_own me peer [] away all = refl
none_own me peer (h ∷ hs) away all =
    ap (λ (t : Bool). cond t (send_hint me h ∷ own_sent me (map (send_hint me) hs)) (own_sent me (map (send_hint me) hs))) (not_me (h.peer == me) peer me h all.0 away refl) ∙ none_own me peer hs away all.1

-- none of them goes to the node itself
pub first_away : (b : Base) (k : KeptHints) (peer : ℕ) → (peer ≡ b.me → ⊥) → own_sent b.me (map (send_hint b.me) (first_sent b k peer)) ≡ []
first_away b k peer away = none_own b.me peer (first_sent b k peer) away (of_front peer 64 _ (of_tables b.setting peer _ (of_peer peer k.hints)))

away_if : (t : Bool) (b : Base) (k : KeptHints) (peer : ℕ) → (peer ≡ b.me → ⊥) → own_sent b.me (if t then map (send_hint b.me) (first_sent b k peer) else []) ≡ []
away_if true b k peer away = first_away b k peer away
away_if false b k peer away = refl

-- ---- an acknowledgement

pub acked_own : (b : Base) (peer number : ℕ) (x x' : Stage) (g : Given) → (peer ≡ b.me → ⊥) → HearsHintAck b peer number x g x' → own_sent b.me g.sends ≡ []
acked_own b peer number x x' g away h = ap (λ (xs : List Outbound). own_sent b.me xs) h.sends ∙ away_if (ends_batch (batches_with x.work.batches b.batches) peer number) b (drop_hint peer number x.hints) peer away

pub acked_goes_on : (b : Base) (peer number : ℕ) (x x' : Stage) (g : Given) → HearsHintAck b peer number x g x' → GoesOn x.work x'.work
acked_goes_on b peer number x x' g h = record {
  time = ap (λ (w : Work). w.time) h.work;
  ceiling = ap (λ (w : Work). w.ceiling) h.work;
  request = ap (λ (w : Work). w.request) h.work;
  queue = ap (λ (w : Work). w.queue.items) h.work;
  messages = ap (λ (w : Work). w.messages) h.work;
  entries = ap (λ (w : Work). w.entries) h.work;
}

all_join : {X : Type 0} (P : X → Type 0) (xs ys : List X) → AllByRecursion P xs → AllByRecursion P ys → AllByRecursion P (xs ++ ys)
all_join {X} P [] ys a b = b
all_join {X} P (x ∷ xs) ys a b = (a.0, all_join P xs ys a.1 b)

all_gone : (xs : List Gone) → AllByRecursion IsGone (map gone_item xs)
all_gone [] = tt
all_gone (x ∷ xs) = (tt, all_gone xs)

-- more that goes, and other batches
gone_sound : (b : Base) (w w' : Work) (xs : List Gone) → IsSound b w → w' ≡ record w { batches = w'.batches; gone = w.gone ++ map gone_item xs } → IsSound b w'
gone_sound b w w' xs s is = subst (λ (y : Work). IsSound b y) (sym is) (record {
  write = s.write;
  read = s.read;
  queue = s.queue;
  taken = s.taken;
  made = s.made;
  gone = all_join IsGone w.gone (map gone_item xs) s.gone (all_gone xs);
  early = record { write = s.early.write; read = s.early.read };
  fits = s.fits;
  counted = record { writes = s.counted.writes; reads = s.counted.reads; unanswered = s.counted.unanswered; open_reads = s.counted.open_reads };
})

pub acked_sound : (b : Base) (peer number : ℕ) (x x' : Stage) (g : Given) → IsSound b x.work → HearsHintAck b peer number x g x' → IsSound b x'.work
acked_sound b peer number x x' g s h = gone_sound b x.work x'.work (gone_if_kept x.hints peer number) s h.work

pub dropped_sound : (b : Base) (peer number : ℕ) (x x' : Stage) → IsSound b x.work → DropsHint peer number x x' → IsSound b x'.work
dropped_sound b peer number x x' s h =
    gone_sound b x.work x'.work (gone_if_kept x.hints peer number) s
    (subst (λ (y : Work). y ≡ record x.work { batches = y.batches; gone = x.work.gone ++ map gone_item (gone_if_kept x.hints peer number) }) (sym h.work) refl)

-- the same of the exact hints
same_gone : (k k' : KeptHints) (peer number : ℕ) → IsSameHints k k' → gone_if_kept k' peer number ≡ gone_if_kept k peer number
same_gone k k' peer number same = ap (λ (t : Bool). if t then record { peer = peer; number = number } ∷ [] else no_gone) (same_kept k k' same peer number)

same_dropped : (k k' j : KeptHints) (peer number : ℕ) → IsSameHints k k' → j ≡ drop_hint peer number k' → IsSameHints (drop_hint peer number k) j
same_dropped k k' j peer number same is = subst (λ (y : KeptHints). IsSameHints (drop_hint peer number k) y) (sym is) (same_drop k k' same peer number)

-- what an acknowledgement leaves, by whether it was the last that was waited for
acked_state_if : (t : Bool) (s : NodeState) (left next : List Batch) → (let s' : NodeState = record s { batches = if t then next else left } in s') ≡ (if t then (let s' : NodeState = record s { batches = next } in s') else (let s' : NodeState = record s { batches = left } in s'))
acked_state_if true s left next = refl
acked_state_if false s left next = refl

abbrev hears_ack : ℕ → ReqId → ℕ → ℕ → Act
hears_ack from request born number = Hears (record { from = from; born = born; request = request; body = HintAck number })

-- the state with these batches, where the hint is gone
abbrev done_with : Base → KeptHints → Durable → Work → ℕ → ℕ → List Batch → NodeState
done_with b k e w peer number batches = record (with_hints_of (drop_hint peer number (hints_in (state_at b k e w))) (state_at b k e w)) { batches = batches }

acked_next : (b : Base) (k : KeptHints) (e : Durable) (w : Work) (peer number : ℕ) → let batches = batches_with w.batches b.batches in
    done_with b k e w peer number (let left = with_batch batches peer (left_of batches peer number) in if ends_batch batches peer number then with_first b (drop_hint peer number k) peer left else left)
    ≡ hint_acked b.setting (state_at b k e w) peer number
acked_next b k e w peer number =
    let batches = batches_with w.batches b.batches in
    let left = with_batch batches peer (left_of batches peer number) in
    acked_state_if (ends_batch batches peer number) (done_with b k e w peer number batches) left (with_first b (drop_hint peer number k) peer left)

-- what is sent and waited for goes by what is kept of the peer
next_batches : (b : Base) (k k' : KeptHints) (batches : List Batch) (peer number : ℕ) → IsSameHints k k' → let left = with_batch batches peer (left_of batches peer number) in
    (if ends_batch batches peer number then with_first b (drop_hint peer number k') peer left else left) ≡ (if ends_batch batches peer number then with_first b (drop_hint peer number k) peer left else left)
next_batches b k k' batches peer number same =
    let left = with_batch batches peer (left_of batches peer number) in
    ap (λ (hs : List hint.Hint). if ends_batch batches peer number then with_batch left peer (map number_of hs) else left) (same_first (drop_hint peer number k) (drop_hint peer number k') (same_drop k k' same peer number) b.setting peer)

next_sends : (b : Base) (k k' : KeptHints) (batches : List Batch) (peer number : ℕ) → IsSameHints k k'
    → (if ends_batch batches peer number then map (send_hint b.me) (first_sent b (drop_hint peer number k') peer) else []) ≡ (if ends_batch batches peer number then map (send_hint b.me) (first_sent b (drop_hint peer number k) peer) else [])
next_sends b k k' batches peer number same =
    ap (λ (hs : List hint.Hint). if ends_batch batches peer number then map (send_hint b.me) hs else []) (same_first (drop_hint peer number k) (drop_hint peer number k') (same_drop k k' same peer number) b.setting peer)

young : (c : Setting) (t born : ℕ) (P Q : Type 0) → is_old c t born ≡ false → Q → MatchBool (is_old c t born) P Q
young c t born P Q fresh h = subst (λ (b : Bool). MatchBool b P Q) (sym fresh) h

-- with other batches, and more that goes
acked_work : (b : Base) (k' : KeptHints) (e : Durable) (w w' : Work) (xs : List LogItem) (new : List Batch) → w' ≡ record w { batches = w'.batches; gone = xs } → w'.batches ≡ Some new
    → forgotten_in b w' ≡ forgotten_in b (record w { batches = Some new })
acked_work b k' e w w' xs new is batches = ap (λ (y : Work). forgotten_in b y) is ∙ ap (λ (o : Option (List Batch)). forgotten_in b (record w { batches = o })) batches

pub acked_moved : (b : Base) (d : Durable) (k : KeptHints) (x x' : Stage) (from born : ℕ) (request : ReqId) (number : ℕ) (g : Given) → is_old b.setting x.work.time born ≡ false → IsSameHints k x.hints → HearsHintAck b from number x g x'
    → Moved b d k x (hears_ack from request born number) g x'
acked_moved b d k x x' from born request number g fresh same h =
    let batches = batches_with x.work.batches b.batches in
    let left = with_batch batches from (left_of batches from number) in
    let new = if ends_batch batches from number then with_first b (drop_hint from number k) from left else left in
    let f = forgotten_in b (record x.work { batches = Some new }) in
    let at_new : forgotten_in b x'.work ≡ f = acked_work b x'.hints d x.work x'.work _ new h.work (h.batches ∙ ap (λ (bs : List Batch). Some bs) (next_batches b k x.hints batches from number same)) in
    record {
      kept = drop_hint from number k;
      same = same_dropped k x.hints x'.hints from number same h.hints;
      taken = [];
      made = [];
      gone = gone_if_kept k from number;
      takes = ap (λ (w : Work). w.taken) h.work ∙ sym (append-nil x.work.taken);
      makes = ap (λ (w : Work). w.made) h.work ∙ sym (append-nil x.work.made);
      loses = ap (λ (w : Work). w.gone) h.work ∙ ap (λ (xs : List Gone). x.work.gone ++ map gone_item xs) (same_gone k x.hints from number same);
      brings = no_data (is_old b.setting x.work.time born);
      moves = λ e e' before is.
          let s = state_at b k e x.work in
          let after : state_under x.work.ceiling (forgotten_in b x'.work) (keeping (drop_hint from number k) e') ≡ hint_acked b.setting s from number =
          ap (λ (y : Durable). state_under x.work.ceiling (forgotten_in b x'.work) (keeping (drop_hint from number k) y)) is
          ∙ ap (λ (y : Forgotten). state_under x.work.ceiling y (keeping (drop_hint from number k) e)) at_new
          ∙ acked_next b k e x.work from number in
          let sends : g.sends ≡ sends_next b.setting b.me s from number = h.sends ∙ next_sends b k x.hints batches from number same in
          let effects : effects_given g ≡ record { sends = sends_next b.setting b.me s from number; entries = [] } =
          ap (λ (xs : List Outbound). let o : Effects = record { sends = xs; entries = g.entries } in o) sends ∙ ap (λ (es : List Entry). let o : Effects = record { sends = sends_next b.setting b.me s from number; entries = es } in o) h.entries in (
            young b.setting x.work.time born _ _ fresh (effects, after),
            refl,
            ap (λ (t : Bool). if t then [] else gone_if_kept k from number) fresh,
          );
    }

-- ---- hints that come

-- one more peer
pub pushes_more : (ps : List ℕ) (p born : ℕ) (m : Mutation) (k : KeptHints) → push_hints (ps ++ p ∷ []) born m k ≡ push_hint p born m (push_hints ps born m k)
pushes_more [] p born m k = refl
pushes_more (q ∷ ps) p born m k = pushes_more ps p born m (push_hint q born m k)

pub pushed_more : (ps : List ℕ) (p born : ℕ) (m : Mutation) (k : KeptHints) → pushed_hints (ps ++ p ∷ []) born m k ≡ pushed_hints ps born m k ++ pushed_hint p born m (push_hints ps born m k)
pushed_more [] p born m k = append-nil (pushed_hint p born m k)
pushed_more (q ∷ ps) p born m k =
    ap (λ (hs : List hint.Hint). pushed_hint q born m k ++ hs) (pushed_more ps p born m (push_hint q born m k)) ∙ sym (append_assoc (pushed_hint q born m k) (pushed_hints ps born m (push_hint q born m k)) _)

pub leaves_none : (born : ℕ) (m : Mutation) (x : Stage) → LeavesHints [] born m x x
leaves_none born m x = record { hints = same_refl x.hints; work = ap (λ (xs : List LogItem). let w : Work = record x.work { made = xs } in w) (sym (append-nil x.work.made)) }

pub leaves_more : (ps : List ℕ) (p born : ℕ) (m : Mutation) (x y z : Stage) → LeavesHints ps born m x y → LeavesHints (p ∷ []) born m y z → LeavesHints (ps ++ p ∷ []) born m x z
leaves_more ps p born m x y z first next = record {
  hints = subst (λ (k : KeptHints). IsSameHints k z.hints) (sym (pushes_more ps p born m x.hints))
      (same_trans (push_hint p born m (push_hints ps born m x.hints)) (push_hint p born m y.hints) z.hints (same_push (push_hints ps born m x.hints) y.hints first.hints p born m) next.hints);
  work =
      next.work
      ∙ ap (λ (w : Work). let v : Work = record w { made = w.made ++ map add_item (pushed_hints (p ∷ []) born m y.hints) } in v) first.work
      ∙ ap (λ (xs : List LogItem). let v : Work = record x.work { made = xs } in v) (
      append_assoc x.work.made (map add_item (pushed_hints ps born m x.hints)) (map add_item (pushed_hints (p ∷ []) born m y.hints))
      ∙ ap (λ (xs : List LogItem). x.work.made ++ xs) (
      sym (map-append add_item (pushed_hints ps born m x.hints) (pushed_hints (p ∷ []) born m y.hints))
      ∙ ap (λ (hs : List hint.Hint). map add_item (pushed_hints ps born m x.hints ++ hs)) (append-nil (pushed_hint p born m y.hints) ∙ same_pushed (push_hints ps born m x.hints) y.hints first.hints p born m)
      ∙ ap (λ (hs : List hint.Hint). map add_item hs) (sym (pushed_more ps p born m x.hints))
      )
      );
}

-- a hint that came, and one for which there was no room
full_left : (full : Bool) (p born : ℕ) (m : Mutation) (k : KeptHints) → (if full then [] else next_hint p born m k ∷ []) ++ [] ≡ (if full then [] else next_hint p born m k ∷ [])
full_left full p born m k = append-nil _

some_next : (full : Bool) (n last : ℕ) → Some n ≡ (if full then None else Some last) → (full ≡ false) × (n ≡ last)
some_next true n last e = absurd (no_some e)
  where
    no_some : Some n ≡ None → ⊥
    no_some h = cc
some_next false n last e = (refl, one e)
  where
    one : Some n ≡ Some last → n ≡ last
    one h = cc

none_next : (full : Bool) (last : ℕ) → None ≡ (if full then None else Some last) → full ≡ true
none_next true last e = refl
none_next false last e = absurd (no_none e)
  where
    no_none : None ≡ Some last → ⊥
    no_none h = cc

pub leaves_one : (p number born : ℕ) (m : Mutation) (w w' : Work) (k k' : KeptHints) → Some number ≡ next_number k p → IsSameHints (push_hint p born m k) k'
    → w' ≡ record w { made = w.made ++ add_item (record { peer = p; number = number; born = born; mutation = m }) ∷ [] } → LeavesHints (p ∷ []) born m (at w k) (at w' k')
leaves_one p number born m w w' k k' is same more =
    let next = some_next (is_full k p) number (last_of k.numbers p + 1) is in
    record {
      hints = same;
      work =
          more
          ∙ ap (λ (n : ℕ). let v : Work = record w { made = w.made ++ add_item (record { peer = p; number = n; born = born; mutation = m }) ∷ [] } in v) next.1
          ∙ ap (λ (full : Bool). let v : Work = record w { made = w.made ++ map add_item ((if full then [] else next_hint p born m k ∷ []) ++ []) } in v) (sym next.0);
    }

pub leaves_full : (p born : ℕ) (m : Mutation) (w : Work) (k k' : KeptHints) → None ≡ next_number k p → IsSameHints (push_hint p born m k) k' → LeavesHints (p ∷ []) born m (at w k) (at w k')
leaves_full p born m w k k' is same =
    let full = none_next (is_full k p) (last_of k.numbers p + 1) is in
    record {
      hints = same;
      work = ap (λ (xs : List LogItem). let v : Work = record w { made = xs } in v) (sym (append-nil w.made))
          ∙ ap (λ (t : Bool). let v : Work = record w { made = w.made ++ map add_item ((if t then [] else next_hint p born m k ∷ []) ++ []) } in v) (sym full);
    }

-- ---- what is made can be kept

made_if : (full : Bool) (p born : ℕ) (m : Mutation) (k : KeptHints) (rest : List hint.Hint) → MutationFits m → AllByRecursion IsMade (map add_item rest) → AllByRecursion IsMade (map add_item ((if full then [] else next_hint p born m k ∷ []) ++ rest))
made_if true p born m k rest fits all = all
made_if false p born m k rest fits all = (fits, all)

made_all : (ps : List ℕ) (born : ℕ) (m : Mutation) (k : KeptHints) → MutationFits m → AllByRecursion IsMade (map add_item (pushed_hints ps born m k))
made_all [] born m k fits = tt
made_all (p ∷ ps) born m k fits = made_if (is_full k p) p born m k (pushed_hints ps born m (push_hint p born m k)) fits (made_all ps born m (push_hint p born m k) fits)

pub made_more : (ps : List ℕ) (born : ℕ) (m : Mutation) (x y : Stage) → MutationFits m → LeavesHints ps born m x y → AllByRecursion IsMade x.work.made → AllByRecursion IsMade y.work.made
made_more ps born m x y fits leaves all =
    subst (λ (xs : List LogItem). AllByRecursion IsMade xs) (sym (ap (λ (w : Work). w.made) leaves.work)) (all_join IsMade x.work.made (map add_item (pushed_hints ps born m x.hints)) all (made_all ps born m x.hints fits))

-- ---- a mark

-- the first hints are sent where a peer is marked alive
pub marked_first : (b : Base) (k k' : KeptHints) (e : Durable) (w w' : Work) (peer : ℕ) (g : Given) → IsSameHints k k' → SendsFirst b peer k' w g w'
    → (state_at b k e w' ≡ with_sent b.setting (state_at b k e w) peer) × (g.sends ≡ sends_hints b.setting b.me (state_at b k e w) peer)
marked_first b k k' e w w' peer g same h =
    let first = same_first k k' same b.setting peer in (
      ap (λ (y : Work). state_at b k e y) h.work
          ∙ ap (λ (hs : List hint.Hint). state_at b k e (record w { batches = Some (with_batch (batches_with w.batches b.batches) peer (map number_of hs)) })) first,
      h.sends ∙ ap (λ (hs : List hint.Hint). map (send_hint b.me) hs) first,
    )

-- ---- an acknowledgement, call by call

-- what is waited for behind it, as the calls tell it
pub record AckParts (b : Base) (peer number : ℕ) (x : Stage) (new : List Batch) (last : Bool) (mid : Work) (k : KeptHints) : Type 0 where
  pub batches : new ≡ with_batch (batches_with x.work.batches b.batches) peer (left_of (batches_with x.work.batches b.batches) peer number)
  pub ends : last ≡ ends_batch (batches_with x.work.batches b.batches) peer number
  pub drops : DropsHint peer number (at (record x.work { batches = Some new }) x.hints) (at mid k)

pub ack_parts : (b : Base) (peer number : ℕ) (x : Stage) (all all' new : List Batch) (waiting left : List ℕ) (ends : Bool) (mid : Work) (k : KeptHints) → all ≡ batches_with x.work.batches b.batches → all' ≡ batches_with x.work.batches b.batches
    → waiting ≡ waiting_of all peer → left ≡ filter (λ n. not (n == number)) waiting → ends ≡ (is_in waiting number && is_no_number left) → new ≡ with_batch all' peer left → DropsHint peer number (at (record x.work { batches = Some new }) x.hints) (at mid k)
    → AckParts b peer number x new ends mid k
ack_parts b peer number x all all' new waiting left ends mid k is is' waits lefts last new_is drops =
    let bs = batches_with x.work.batches b.batches in
    let waiting_is : waiting ≡ waiting_of bs peer = waits ∙ ap (λ (ys : List Batch). waiting_of ys peer) is in
    let left_is : left ≡ left_of bs peer number = lefts ∙ ap (λ (ns : List ℕ). filter (λ n. not (n == number)) ns) waiting_is in
    record {
      batches = new_is ∙ ap (λ (ys : List Batch). with_batch ys peer left) is' ∙ ap (λ (ns : List ℕ). with_batch bs peer ns) left_is;
      ends = last ∙ ap (λ (ns : List ℕ). is_in ns number && is_no_number left) waiting_is ∙ ap (λ (ns : List ℕ). is_in (waiting_of bs peer) number && is_no_number ns) left_is;
      drops = drops;
    }

-- it is the last one, and the next hints are sent
pub ack_sends : (b : Base) (peer number : ℕ) (x : Stage) (new : List Batch) (ends : Bool) (mid w' : Work) (k : KeptHints) (g : Given) → AckParts b peer number x new ends mid k → ends ≡ true → SendsFirst b peer k mid g w' → HearsHintAck b peer number x g (at w' k)
ack_sends b peer number x new ends mid w' k g p is sends =
    let bs = batches_with x.work.batches b.batches in
    let rest = with_batch bs peer (left_of bs peer number) in
    let last : ends_batch bs peer number ≡ true = sym p.ends ∙ is in
    let all : w'.batches ≡ Some (with_first b k peer (batches_with mid.batches b.batches)) = ap (λ (y : Work). y.batches) sends.work in
    let mid_all : mid.batches ≡ Some new = ap (λ (y : Work). y.batches) p.drops.work in
    let gone = x.work.gone ++ map gone_item (gone_if_kept x.hints peer number) in
    record {
      hints = p.drops.hints;
      sends =
          sends.sends ∙ ap (λ (h : KeptHints). map (send_hint b.me) (first_sent b h peer)) p.drops.hints
          ∙ sym (ap (λ (t : Bool). if t then map (send_hint b.me) (first_sent b (drop_hint peer number x.hints) peer) else []) last);
      entries = sends.entries;
      batches =
          all ∙ ap (λ (ys : Option (List Batch)). Some (with_first b k peer (batches_with ys b.batches))) mid_all
          ∙ ap (λ (ys : List Batch). Some (with_first b k peer ys)) p.batches
          ∙ ap (λ (h : KeptHints). Some (with_first b h peer rest)) p.drops.hints
          ∙ sym (ap (λ (t : Bool). Some (if t then with_first b (drop_hint peer number x.hints) peer rest else rest)) last);
      work =
          sends.work ∙ ap (λ (y : Work). let v : Work = record y { batches = Some (with_first b k peer (batches_with mid.batches b.batches)) } in v) p.drops.work
          ∙ ap (λ (ys : Option (List Batch)). let v : Work = record x.work { batches = ys; gone = gone } in v) (sym all);
    }

-- it is not, and nothing is sent
pub ack_quiet : (b : Base) (peer number : ℕ) (x : Stage) (new : List Batch) (ends : Bool) (mid : Work) (k : KeptHints) (g : Given) → AckParts b peer number x new ends mid k → ends ≡ false → g.sends ≡ [] → g.entries ≡ [] → HearsHintAck b peer number x g (at mid k)
ack_quiet b peer number x new ends mid k g p is none none_too =
    let bs = batches_with x.work.batches b.batches in
    let rest = with_batch bs peer (left_of bs peer number) in
    let more : ends_batch bs peer number ≡ false = sym p.ends ∙ is in
    let mid_all : mid.batches ≡ Some new = ap (λ (y : Work). y.batches) p.drops.work in
    let gone = x.work.gone ++ map gone_item (gone_if_kept x.hints peer number) in
    record {
      hints = p.drops.hints;
      sends = none ∙ sym (ap (λ (t : Bool). if t then map (send_hint b.me) (first_sent b (drop_hint peer number x.hints) peer) else []) more);
      entries = none_too;
      batches = mid_all ∙ ap (λ (ys : List Batch). Some ys) p.batches ∙ sym (ap (λ (t : Bool). Some (if t then with_first b (drop_hint peer number x.hints) peer rest else rest)) more);
      work = p.drops.work ∙ ap (λ (ys : Option (List Batch)). let v : Work = record x.work { batches = ys; gone = gone } in v) (sym mid_all);
    }
