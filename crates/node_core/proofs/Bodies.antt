-- What a body that is heard makes of a step.
use Rattle.std.proofs.Common.{◌≡◌, ◌<◌, ◌⊎◌, inl, inr, ℕ, Bool, true, false, cond, Option, Some, None, List, [], ◌∷◌, ◌++◌, refl, sym, ap, subst, ◌∙◌, arith, filter, append-nil}
use Rattle.std.specs.Prelude.{◌==◌, MatchBool, if◌then◌else◌, nat_lt}
use Rattle.std.specs.List.{AllByRecursion}
use Rattle.std.specs.BTreeMap.{is_at}
use Rattle.std.proofs.lemmas.Bool.{eqb-true}
use Rattle.cs_base.specs.declared.ids.ReqId.{ReqId}
use Rattle.cs_base.specs.Requests.{request_cmp}
use Rattle.changes.specs.declared.Held.{Held}
use Rattle.changes.specs.declared.Mutation.{Mutation}
use Rattle.stored_changes.specs.Spelling.{MutationFits}
use Rattle.row_change.specs.declared.entry.LogItem.{LogItem}
use Rattle.row_change.specs.declared.entry.LogItem.TheVariants.{Data}
use Rattle.peer_messages.specs.declared.chronicle.Entry.{Entry}
use Rattle.peer_messages.specs.declared.message.Body.{Body}
use Rattle.peer_messages.specs.declared.message.Body.TheVariants.{Write, WriteAck, Read, ReadReply, Mend, MendAck, Hint, HintAck}
use Rattle.peer_messages.specs.declared.outcome.Move.{Move}
use Rattle.peer_messages.specs.declared.outcome.Outbound.{Outbound}
use Rattle.peer_messages.specs.declared.setting.Setting.{Setting}
use Rattle.peer_messages.specs.Moves.{quiet}
use Rattle.durable_state.specs.State.{Durable, changes_of}
use Rattle.durable_state.specs.Keeping.{Commits, TakesItem}
use Rattle.node_steps.specs.State.{NodeState, OpenWrite, OpenRead, loaded}
use Rattle.node_steps.specs.Effects.{Effects, nothing, effects_of, open_at, outbound, after_move, Takes}
use Rattle.node_steps.specs.Hints.{KeptHints}
use Rattle.node_steps.specs.Leading.{MovesOn, Forgotten, keeping, state_under}
use Rattle.node_steps.specs.Replicas as replicas
use Rattle.node_steps.specs.Replicas.{IsReplyTo}
use Rattle.node_steps.specs.Writes.{HearsAck, ack_told, heard_write, is_enough}
use Rattle.node_steps.specs.Fitting.{write_fits}
use Rattle.node_steps.specs.Reads.{HearsReply, HearsMendAck, MergesReply, TellsRows, AwaitsMends, is_stray, is_awaited, mended_by, differs, differing, mend_of, mends, replies_of, read_needs}
use Rattle.node_steps.specs.Acts.{Act, Hears, HearsBody, is_old}
use Rattle.node_steps.specs.Keeping.{Gone, data_of, gone_by_body}
use Rattle.node_steps.specs.Stops.{is_entered_at_stop}
use Rattle.node_steps.proofs.Leading.{made_of, moves_quietly, moves_by_write, moves_by_hint}
use Rattle.hint_store.specs.Staged.{IsSameHints}
use Rattle.node_core.specs.declared.base.Base.{Base}
use Rattle.node_core.specs.declared.slot.Slot.{Slot}
use Rattle.node_core.specs.declared.hearing.Asker.{Asker}
use Rattle.node_core.specs.declared.work.Given.{Given}
use Rattle.node_core.specs.declared.work.Work.{Work}
use Rattle.node_core.specs.Hearing.{Moves, AckMoves, ReplyMoves, MendMoves}
use Rattle.node_core.specs.Slots.{IsNew}
use Rattle.node_core.specs.Hinting.{Stage, at, HearsHintAck}
use Rattle.node_core.specs.Working.{Heard, forgotten_in, state_at, effects_given, heard_act, own_sent, weight_of, weight, BodyFits, IsPlain, IsOwn, IsDataAt, IsSound, IsSlotOf, FitWrites, with_slot}
use Rattle.node_core.specs.Moving.{GoesOn, IsReadFor, IsOfOther, Moved, TakesBody, TakesChanges, TakesMend, IsHeard, left_writes, left_reads, replies}
use Rattle.node_core.proofs.Hinting.{acked_own, acked_goes_on, acked_moved, acked_sound, none_either}
use Rattle.node_core.proofs.LeftOpen.{all_at, all_removed, all_set}
use Rattle.node_core.proofs.Slots.{some_one}
use Rattle.node_core.proofs.Mending.{own_each, replicas_light}

-- ---- what an acknowledgement and a reply give

-- what goes to the node itself is of this request, and lighter than this
record GivesLight (me : ℕ) (id : ReqId) (n : ℕ) (o : Effects) : Type 0 where
  pub own : AllByRecursion (IsOwn me id) (own_sent me o.sends)
  pub lighter : weight (own_sent me o.sends) < n
  pub quiet : filter is_entered_at_stop o.entries ≡ []

abbrev Light : ℕ → ReqId → ℕ → Move → Type 0
Light me id n turn = GivesLight me id n (effects_of turn)

quiet_light : (me : ℕ) (id : ReqId) (n : ℕ) → 0 < n → Light me id n quiet
quiet_light me id n some = record { own = tt; lighter = some; quiet = refl }

quiet_as : (me : ℕ) (id : ReqId) (n : ℕ) (turn : Move) → turn ≡ quiet → 0 < n → Light me id n turn
quiet_as me id n turn is some = subst (λ (t : Move). Light me id n t) (sym is) (quiet_light me id n some)

told_little : (answered enough : Bool) (id : ReqId) (w : OpenWrite) → filter is_entered_at_stop (ack_told answered enough id w) ≡ []
told_little true enough id w = refl
told_little false true id w = refl
told_little false false id w = refl

ack_light : (me n : ℕ) (c : Setting) (id : ReqId) (from : ℕ) (xs xs' : List (ReqId × OpenWrite)) (o : Option OpenWrite) (turn : Move) → 0 < n → Takes (HearsAck c id from) id xs o turn xs' → Light me id n turn
ack_light me n c id from xs xs' None turn some h = quiet_as me id n turn h.0 some
ack_light me n c id from xs xs' (Some w) turn some (w', (is, same), after) =
    subst (λ (t : Move). Light me id n t) (sym is) (record { own = tt; lighter = some; quiet = told_little w.answered (is_enough c (heard_write c from w)) id (heard_write c from w) })

rows_light : (me : ℕ) (id : ReqId) (n : ℕ) (r : OpenRead) (turn : Move) → 0 < n → TellsRows id r turn → Light me id n turn
rows_light me id n r turn some (rows, more, shown, is) = subst (λ (t : Move). Light me id n t) (sym is) (record { own = tt; lighter = some; quiet = refl })

awaits_light : (me : ℕ) (id : ReqId) (n : ℕ) (r r' : OpenRead) (ks : List ℕ) (sent turn : Move) → 0 < n → Light me id n sent → AwaitsMends id r ks sent turn r' → Light me id n turn
awaits_light me id n r r' [] sent turn some light h = rows_light me id n r turn some h
awaits_light me id n r r' (k ∷ ks) sent turn some light h = subst (λ (t : Move). Light me id n t) (sym h.0) light

-- a merge goes to the node itself once at most
mends_light : (me : ℕ) (c : Setting) (id : ReqId) (r : OpenRead) → Light me id 3 (mends id r (differing c r))
mends_light me c id r = record {
  own = own_each me id (Mend (mend_of r)) (differing c r) tt tt;
  lighter = let light = replicas_light me id (mend_of r) (λ k. differs r k) c r.query.partition in omega (arith, light);
  quiet = refl;
}

counted_light : (b : Bool) (me : ℕ) (c : Setting) (id : ReqId) (r r' : OpenRead) (turn : Move) → MatchBool b ((turn ≡ quiet) × (r' ≡ r)) (AwaitsMends id r (differing c r) (mends id r (differing c r)) turn r') → Light me id 3 turn
counted_light true me c id r r' turn h = quiet_as me id 3 turn h.0 (omega arith)
counted_light false me c id r r' turn h = awaits_light me id 3 r r' (differing c r) (mends id r (differing c r)) turn (omega arith) (mends_light me c id r) h

merged_light : (b : Bool) (me : ℕ) (c : Setting) (id : ReqId) (from : ℕ) (content : List Held) (r r' : OpenRead) (turn : Move) → MatchBool b ((turn ≡ quiet) × (r' ≡ r)) (MergesReply c id from content r turn r') → Light me id 3 turn
merged_light true me c id from content r r' turn h = quiet_as me id 3 turn h.0 (omega arith)
merged_light false me c id from content r r' turn (n, is, merge, counts) = counted_light (nat_lt (replies_of c n) (read_needs c n)) me c id n r' turn counts

reply_light : (me : ℕ) (c : Setting) (id : ReqId) (from : ℕ) (content : List Held) (xs xs' : List (ReqId × OpenRead)) (o : Option OpenRead) (turn : Move) → Takes (HearsReply c id from content) id xs o turn xs' → Light me id 3 turn
reply_light me c id from content xs xs' None turn h = quiet_as me id 3 turn h.0 (omega arith)
reply_light me c id from content xs xs' (Some r) turn (r', step, same) = merged_light (is_stray c from r) me c id from content r r' turn step

mended_light : (b : Bool) (me : ℕ) (id : ReqId) (r r' : OpenRead) (ks : List ℕ) (turn : Move) → MatchBool b (AwaitsMends id r ks quiet turn r') ((turn ≡ quiet) × (r' ≡ r)) → Light me id 1 turn
mended_light true me id r r' ks turn h = awaits_light me id 1 r r' ks quiet turn (omega arith) (quiet_light me id 1 (omega arith)) h
mended_light false me id r r' ks turn h = quiet_as me id 1 turn h.0 (omega arith)

mend_ack_light : (me : ℕ) (c : Setting) (id : ReqId) (from : ℕ) (xs xs' : List (ReqId × OpenRead)) (o : Option OpenRead) (turn : Move) → Takes (HearsMendAck c id from) id xs o turn xs' → Light me id 1 turn
mend_ack_light me c id from xs xs' None turn h = quiet_as me id 1 turn h.0 (omega arith)
mend_ack_light me c id from xs xs' (Some r) turn (r', step, same) = mended_light (is_awaited r.mending from) me id r r' (mended_by r.mending from) turn step

-- ---- by what came

same_effects : (g : Given) (o : Effects) → effects_given g ≡ o → (g.sends ≡ o.sends) × (g.entries ≡ o.entries)
same_effects g o is = (ap (λ (e : Effects). e.sends) is, ap (λ (e : Effects). e.entries) is)

-- of what is given: what a step needs to know
pub record Gives (me : ℕ) (b : Body) (id : ReqId) (g : Given) : Type 0 where
  pub own : AllByRecursion (IsOwn me id) (own_sent me g.sends)
  pub lighter : weight (own_sent me g.sends) < weight_of b
  pub quiet : filter is_entered_at_stop g.entries ≡ []

gives_light : (me : ℕ) (b : Body) (id : ReqId) (g : Given) (o : Effects) → effects_given g ≡ o → GivesLight me id (weight_of b) o → Gives me b id g
gives_light me b id g o is light =
    let same = same_effects g o is in
    record {
      own = subst (λ (xs : List Outbound). AllByRecursion (IsOwn me id) (own_sent me xs)) (sym same.0) light.own;
      lighter = subst (λ (xs : List Outbound). weight (own_sent me xs) < weight_of b) (sym same.0) light.lighter;
      quiet = ap (filter is_entered_at_stop) same.1 ∙ light.quiet;
    }

-- a body that goes back
one_own : (b : Bool) (me : ℕ) (id : ReqId) (body : Body) (k : ℕ) → (k == me) ≡ b → BodyFits body → IsPlain body ⊎ (k ≡ me → ⊥) → AllByRecursion (IsOwn me id) (cond b (outbound id body k ∷ []) [])
one_own true me id body k is fits (inl plain) = (record { upto = eqb-true k me is; request = refl; fits = fits; plain = plain }, tt)
one_own true me id body k is fits (inr away) = absurd (away (eqb-true k me is))
one_own false me id body k is fits plain = tt

one_light : (b : Bool) (id : ReqId) (body : Body) (k n : ℕ) → weight_of body < n → weight (cond b (outbound id body k ∷ []) []) < n
one_light true id body k n light = omega arith
one_light false id body k n light = omega arith

replied_gives : (me : ℕ) (b body : Body) (a : Asker) (g : Given) → effects_given g ≡ replies a body → BodyFits body → IsPlain body ⊎ (a.from ≡ me → ⊥) → weight_of body < weight_of b → Gives me b a.request g
replied_gives me b body a g is fit plain light =
    let same = same_effects g (replies a body) is in
    record {
      own = subst (λ (xs : List Outbound). AllByRecursion (IsOwn me a.request) (own_sent me xs)) (sym same.0) (one_own (a.from == me) me a.request body a.from refl fit plain);
      lighter = subst (λ (xs : List Outbound). weight (own_sent me xs) < weight_of b) (sym same.0) (one_light (a.from == me) a.request body a.from (weight_of b) light);
      quiet = ap (filter is_entered_at_stop) same.1;
    }

moved_light : {A : Type 0} (Step : A → Move → A → Type 0) (me : ℕ) (id : ReqId) (xs : List (ReqId × A)) (slot slot' : Slot A) (g : Given) (b : Body)
    → ((ys ys' : List (ReqId × A)) (o : Option A) (turn : Move) → Takes Step id ys o turn ys' → Light me id (weight_of b) turn) → Moves Step id xs slot g slot' → Gives me b id g
moved_light {A} Step me id xs slot slot' g b light m =
    gives_light me b id g (effects_of m.turn) m.gives (light (with_slot id slot xs) (with_slot id slot' xs) (open_at (with_slot id slot xs) id) m.turn m.moves)

nothing_gives : (me : ℕ) (b : Body) (id : ReqId) (g : Given) → g.sends ≡ [] → g.entries ≡ [] → 0 < weight_of b → Gives me b id g
nothing_gives me b id g sends entries heavy = record {
  own = subst (λ (xs : List Outbound). AllByRecursion (IsOwn me id) (own_sent me xs)) (sym sends) tt;
  lighter = subst (λ (xs : List Outbound). weight (own_sent me xs) < weight_of b) (sym sends) heavy;
  quiet = ap (filter is_entered_at_stop) entries;
}

mend_gives : (fits : Bool) (me : ℕ) (a : Asker) (m : Mutation) (x x' : Stage) (g : Given) → TakesMend fits a m x g x' → Gives me (Mend m) a.request g
mend_gives true me a m x x' g h = replied_gives me (Mend m) MendAck a g h.1.gives tt (inl tt) (omega arith)
mend_gives false me a m x x' g h = nothing_gives me (Mend m) a.request g h.0 h.1 (omega arith)

acked_gives_it : (b : Base) (x x' : Stage) (a : Asker) (number : ℕ) (g : Given) → (a.from ≡ b.me → ⊥) → HearsHintAck b a.from number x g x' → Gives b.me (HintAck number) a.request g
acked_gives_it b x x' a number g away takes =
    let own = acked_own b a.from number x x' g away takes in
    record {
      own = subst (λ (xs : List Outbound). AllByRecursion (IsOwn b.me a.request) xs) (sym own) tt;
      lighter = subst (λ (xs : List Outbound). weight xs < 1) (sym own) (omega arith);
      quiet = ap (filter is_entered_at_stop) takes.entries;
    }

pub body_gives : (b : Base) (x x' : Stage) (a : Asker) (body : Body) (part : Option (List Held)) (g : Given) → IsOfOther b.me a.from body → TakesBody b x a body part g x' → Gives b.me body a.request g
body_gives b x x' a (Write m) part g other h = replied_gives b.me (Write m) WriteAck a g h.gives tt (inl tt) (omega arith)
body_gives b x x' a WriteAck part g other h =
    moved_light (HearsAck b.setting a.request a.from) b.me a.request (left_writes b x.work) x.work.write x'.work.write g WriteAck (λ ys ys' o turn. ack_light b.me 1 b.setting a.request a.from ys ys' o turn (omega arith)) h.0
body_gives b x x' a (Read q) part g other ((p, there, is), same) = replied_gives b.me (Read q) (ReadReply p) a g is tt (inl tt) (omega arith)
body_gives b x x' a (ReadReply content) part g other h =
    moved_light (HearsReply b.setting a.request a.from content) b.me a.request (left_reads b x.work) x.work.read x'.work.read g (ReadReply content) (λ ys ys' o turn. reply_light b.me b.setting a.request a.from content ys ys' o turn) h.0
body_gives b x x' a (Mend m) part g other h = mend_gives (write_fits b.setting m) b.me a m x x' g h
body_gives b x x' a MendAck part g other h =
    moved_light (HearsMendAck b.setting a.request a.from) b.me a.request (left_reads b x.work) x.work.read x'.work.read g MendAck (λ ys ys' o turn. mend_ack_light b.me b.setting a.request a.from ys ys' o turn) h.0
body_gives b x x' a (Hint number m) part g other h = replied_gives b.me (Hint number m) (HintAck number) a g h.gives tt (inr (other (λ p. p))) (omega arith)
body_gives b x x' a (HintAck number) part g other h = acked_gives_it b x x' a number g (other (λ p. p)) h

-- ---- the move

abbrev asks_as : Asker → replicas.Asker
asks_as a = record { from = a.from; request = a.request }

abbrev act_at : Asker → ℕ → Body → Act
act_at a born body = Hears (record { from = a.from; born = born; request = a.request; body = body })

young : (c : Setting) (t born : ℕ) (P Q : Type 0) → is_old c t born ≡ false → Q → MatchBool (is_old c t born) P Q
young c t born P Q fresh h = subst (λ (b : Bool). MatchBool b P Q) (sym fresh) h

nothing_given : (g : Given) → g.sends ≡ [] → g.entries ≡ [] → effects_given g ≡ nothing
nothing_given g sends entries = ap (λ (xs : List Outbound). let o : Effects = record { sends = xs; entries = g.entries } in o) sends ∙ ap (λ (xs : List Entry). let o : Effects = record { sends = []; entries = xs } in o) entries

-- changes that are taken in
moved_changes : (b : Base) (d : Durable) (k : KeptHints) (x x' : Stage) (a : Asker) (born : ℕ) (body ack : Body) (m : Mutation) (g : Given) → is_old b.setting x.work.time born ≡ false → IsSameHints k x.hints → TakesChanges a m ack x g x'
    → data_of b.setting x.work.time body ≡ Data x.work.time m ∷ []
    → MovesOn b.setting b.me (loaded d) x.work.ceiling x.work.taken k (forgotten_in b x.work) (act_at a born body) (made_of (Data x.work.time m ∷ []) (replies a ack)) k (forgotten_in b x.work)
    → Moved b d k x (act_at a born body) g x'
moved_changes b d k x x' a born body ack m g fresh same takes brings moves = subst (λ (y : Stage). Moved b d k x (act_at a born body) g y) (sym takes.takes) (record {
  kept = k;
  same = same;
  taken = Data x.work.time m ∷ [];
  made = [];
  gone = [];
  takes = refl;
  makes = sym (append-nil x.work.made);
  loses = sym (append-nil x.work.gone);
  brings = ap (λ (old : Bool). if old then [] else data_of b.setting x.work.time body) fresh ∙ brings;
  moves = subst (λ (o : Effects). MovesOn b.setting b.me (loaded d) x.work.ceiling x.work.taken k (forgotten_in b x.work) (act_at a born body) (made_of (Data x.work.time m ∷ []) o) k (forgotten_in b x.work)) (sym takes.gives) moves;
})

-- a move by which nothing is kept
moved_quietly : (b : Base) (d : Durable) (k : KeptHints) (x : Stage) (w' : Work) (a : Asker) (born : ℕ) (body : Body) (g : Given) → is_old b.setting x.work.time born ≡ false → IsSameHints k x.hints → data_of b.setting x.work.time body ≡ []
    → w'.taken ≡ x.work.taken → w'.made ≡ x.work.made → w'.gone ≡ x.work.gone → ((s : NodeState) → gone_by_body (asks_as a) body s ≡ [])
    → ((e : Durable) → Commits x.work.taken d e → HearsBody b.setting b.me (asks_as a) body (state_at b k e x.work) (effects_given g) (state_under x.work.ceiling (forgotten_in b w') (keeping k e)))
    → Moved b d k x (act_at a born body) g (at w' x.hints)
moved_quietly b d k x w' a born body g fresh same brings taken made gone none moves = record {
  kept = k;
  same = same;
  taken = [];
  made = [];
  gone = [];
  takes = taken ∙ sym (append-nil x.work.taken);
  makes = made ∙ sym (append-nil x.work.made);
  loses = gone ∙ sym (append-nil x.work.gone);
  brings = ap (λ (old : Bool). if old then [] else data_of b.setting x.work.time body) fresh ∙ brings;
  moves = moves_quietly b.setting b.me (loaded d) x.work.ceiling x.work.taken k (forgotten_in b x.work) (forgotten_in b w') (act_at a born body) (effects_given g)
      (λ e commits. young b.setting x.work.time born _ _ fresh (moves e commits))
      (λ e. (refl, ap (λ (gs : List Gone). if is_old b.setting x.work.time born then [] else gs) (none (state_at b k e x.work)) ∙ none_either (is_old b.setting x.work.time born)));
}

acked : (b : Base) (w : Work) (from : ℕ) (id : ReqId) (g : Given) (k : KeptHints) (e : Durable) (slot : Slot OpenWrite) → w.request ≡ id → AckMoves b.setting id from (left_writes b w) w.write g slot
    → HearsBody b.setting b.me (record { from = from; request = id }) WriteAck (state_at b k e w) (effects_given g) (state_at b k e (record w { write = slot }))
acked b w from id g k e slot request =
    subst
    (λ (i : ReqId). AckMoves b.setting i from (left_writes b w) w.write g slot → HearsBody b.setting b.me (record { from = from; request = i }) WriteAck (state_at b k e w) (effects_given g) (state_at b k e (record w { write = slot })))
    request (λ m. (m.turn, m.moves, m.gives, refl))

replied : (b : Base) (w : Work) (from : ℕ) (id : ReqId) (content : List Held) (g : Given) (k : KeptHints) (e : Durable) (slot : Slot OpenRead) → w.request ≡ id → ReplyMoves b.setting id from content (left_reads b w) w.read g slot
    → HearsBody b.setting b.me (record { from = from; request = id }) (ReadReply content) (state_at b k e w) (effects_given g) (state_at b k e (record w { read = slot }))
replied b w from id content g k e slot request =
    subst
    (λ (i : ReqId). ReplyMoves b.setting i from content (left_reads b w) w.read g slot → HearsBody b.setting b.me (record { from = from; request = i }) (ReadReply content) (state_at b k e w) (effects_given g) (state_at b k e (record w { read = slot })))
    request (λ m. (m.turn, m.moves, m.gives, refl))

mended : (b : Base) (w : Work) (from : ℕ) (id : ReqId) (g : Given) (k : KeptHints) (e : Durable) (slot : Slot OpenRead) → w.request ≡ id → MendMoves b.setting id from (left_reads b w) w.read g slot
    → HearsBody b.setting b.me (record { from = from; request = id }) MendAck (state_at b k e w) (effects_given g) (state_at b k e (record w { read = slot }))
mended b w from id g k e slot request =
    subst
    (λ (i : ReqId). MendMoves b.setting i from (left_reads b w) w.read g slot → HearsBody b.setting b.me (record { from = from; request = i }) MendAck (state_at b k e w) (effects_given g) (state_at b k e (record w { read = slot })))
    request (λ m. (m.turn, m.moves, m.gives, refl))

fitting : (fits : Bool) (P Q : Type 0) → fits ≡ true → P → MatchBool fits P Q
fitting fits P Q test h = subst (λ (b : Bool). MatchBool b P Q) (sym test) h

unfitting : (fits : Bool) (P Q : Type 0) → fits ≡ false → Q → MatchBool fits P Q
unfitting fits P Q test h = subst (λ (b : Bool). MatchBool b P Q) (sym test) h

moves_by_mend : (c : Setting) (me : ℕ) (s : NodeState) (n : ℕ) (taken : List LogItem) (k : KeptHints) (f : Forgotten) (from born : ℕ) (request : ReqId) (m : Mutation) → is_old c f.risen born ≡ false → write_fits c m ≡ true
    → MovesOn c me s n taken k f (Hears (record { from = from; born = born; request = request; body = Mend m })) (made_of (Data f.risen m ∷ []) (replicas.replies (record { from = from; request = request }) MendAck)) k f
moves_by_mend c me s n taken k f from born request m fresh fits d d' before (mid, takes, same) =
    let all : TakesItem (Data f.risen m) d d' = subst (λ (x : Durable). TakesItem (Data f.risen m) d x) (sym same) takes in (
      young c f.risen born _ _ fresh (fitting (write_fits c m) _ _ fits (all.0, all.1, refl, ap (λ (x : Durable). state_under n f (keeping k x)) all.2)),
      refl,
      none_either (is_old c f.risen born),
    )

-- a merge that can be written is taken in, and another one does nothing
mend_moved : (fits : Bool) (b : Base) (d : Durable) (k : KeptHints) (x x' : Stage) (a : Asker) (born : ℕ) (m : Mutation) (g : Given) → write_fits b.setting m ≡ fits → is_old b.setting x.work.time born ≡ false → IsSameHints k x.hints
    → TakesMend fits a m x g x' → Moved b d k x (act_at a born (Mend m)) g x'
mend_moved true b d k x x' a born m g test fresh same h =
    moved_changes b d k x x' a born (Mend m) MendAck m g fresh same h.1 (ap (λ (t : Bool). if t then Data x.work.time m ∷ [] else []) test)
    (moves_by_mend b.setting b.me (loaded d) x.work.ceiling x.work.taken k (forgotten_in b x.work) a.from born a.request m fresh test)
mend_moved false b d k x x' a born m g test fresh same h =
    subst (λ (y : Stage). Moved b d k x (act_at a born (Mend m)) g y) (sym h.2)
    (moved_quietly b d k x x.work a born (Mend m) g fresh same (ap (λ (t : Bool). if t then Data x.work.time m ∷ [] else []) test) refl refl refl (λ s. refl)
    (λ e commits. unfitting (write_fits b.setting m) _ _ test (nothing_given g h.0 h.1, refl)))

one_part : (p q : List Held) (part : Option (List Held)) → part ≡ Some p → part ≡ Some q → p ≡ q
one_part p q part a b = some_one p q (sym a ∙ b)

body_moved : (b : Base) (d : Durable) (k : KeptHints) (x x' : Stage) (a : Asker) (born : ℕ) (body : Body) (part : Option (List Held)) (g : Given) → is_old b.setting x.work.time born ≡ false → IsSameHints k x.hints → x.work.request ≡ a.request
    → TakesBody b x a body part g x' → IsReadFor x.work.taken d body part → Moved b d k x (act_at a born body) g x'
body_moved b d k x x' a born (Write m) part g fresh same request takes read =
    moved_changes b d k x x' a born (Write m) WriteAck m g fresh same takes refl (moves_by_write b.setting b.me (loaded d) x.work.ceiling x.work.taken k (forgotten_in b x.work) a.from born a.request m fresh)
body_moved b d k x x' a born WriteAck part g fresh same request (moves, is) read =
    subst (λ (y : Stage). Moved b d k x (act_at a born WriteAck) g y) (sym is)
    (moved_quietly b d k x (record x.work { write = x'.work.write }) a born WriteAck g fresh same refl refl refl refl (λ s. refl) (λ e commits. acked b x.work a.from a.request g k e x'.work.write request moves))
body_moved b d k x x' a born (Read q) part g fresh same request ((p, there, gives), is) (p', here, answers) =
    subst (λ (y : Stage). Moved b d k x (act_at a born (Read q)) g y) (sym is)
    (moved_quietly b d k x x.work a born (Read q) g fresh same refl refl refl refl (λ s. refl)
    (λ e commits. (p, subst (λ (v : List Held). IsReplyTo (changes_of e.content) q v) (one_part p' p part here there) (answers e commits), gives, refl)))
body_moved b d k x x' a born (ReadReply content) part g fresh same request (moves, is) read =
    subst (λ (y : Stage). Moved b d k x (act_at a born (ReadReply content)) g y) (sym is)
    (moved_quietly b d k x (record x.work { read = x'.work.read }) a born (ReadReply content) g fresh same refl refl refl refl (λ s. refl) (λ e commits. replied b x.work a.from a.request content g k e x'.work.read request moves))
body_moved b d k x x' a born (Mend m) part g fresh same request takes read = mend_moved (write_fits b.setting m) b d k x x' a born m g refl fresh same takes
body_moved b d k x x' a born MendAck part g fresh same request (moves, is) read =
    subst (λ (y : Stage). Moved b d k x (act_at a born MendAck) g y) (sym is)
    (moved_quietly b d k x (record x.work { read = x'.work.read }) a born MendAck g fresh same refl refl refl refl (λ s. refl) (λ e commits. mended b x.work a.from a.request g k e x'.work.read request moves))
body_moved b d k x x' a born (Hint number m) part g fresh same request takes read =
    moved_changes b d k x x' a born (Hint number m) (HintAck number) m g fresh same takes refl (moves_by_hint b.setting b.me (loaded d) x.work.ceiling x.work.taken k (forgotten_in b x.work) a.from born a.request number m fresh)
body_moved b d k x x' a born (HintAck number) part g fresh same request takes read = acked_moved b d k x x' a.from born a.request number g fresh same takes

-- ---- what stays, and what can be kept

mend_goes_on : (fits : Bool) (a : Asker) (m : Mutation) (x x' : Stage) (g : Given) → TakesMend fits a m x g x' → GoesOn x.work x'.work
mend_goes_on true a m x x' g h = subst (λ (y : Stage). GoesOn x.work y.work) (sym h.1.takes) (record { time = refl; ceiling = refl; request = refl; queue = refl; messages = refl; entries = refl })
mend_goes_on false a m x x' g h = subst (λ (y : Stage). GoesOn x.work y.work) (sym h.2) (record { time = refl; ceiling = refl; request = refl; queue = refl; messages = refl; entries = refl })

body_goes_on : (b : Base) (x x' : Stage) (a : Asker) (body : Body) (part : Option (List Held)) (g : Given) → TakesBody b x a body part g x' → GoesOn x.work x'.work
body_goes_on b x x' a (Write m) part g h = subst (λ (y : Stage). GoesOn x.work y.work) (sym h.takes) (record { time = refl; ceiling = refl; request = refl; queue = refl; messages = refl; entries = refl })
body_goes_on b x x' a WriteAck part g (moves, is) = subst (λ (y : Stage). GoesOn x.work y.work) (sym is) (record { time = refl; ceiling = refl; request = refl; queue = refl; messages = refl; entries = refl })
body_goes_on b x x' a (Read q) part g (gives, is) = subst (λ (y : Stage). GoesOn x.work y.work) (sym is) (record { time = refl; ceiling = refl; request = refl; queue = refl; messages = refl; entries = refl })
body_goes_on b x x' a (ReadReply content) part g (moves, is) = subst (λ (y : Stage). GoesOn x.work y.work) (sym is) (record { time = refl; ceiling = refl; request = refl; queue = refl; messages = refl; entries = refl })
body_goes_on b x x' a (Mend m) part g h = mend_goes_on (write_fits b.setting m) a m x x' g h
body_goes_on b x x' a MendAck part g (moves, is) = subst (λ (y : Stage). GoesOn x.work y.work) (sym is) (record { time = refl; ceiling = refl; request = refl; queue = refl; messages = refl; entries = refl })
body_goes_on b x x' a (Hint number m) part g h = subst (λ (y : Stage). GoesOn x.work y.work) (sym h.takes) (record { time = refl; ceiling = refl; request = refl; queue = refl; messages = refl; entries = refl })
body_goes_on b x x' a (HintAck number) part g h = acked_goes_on b a.from number x x' g h

all_more : {X : Type 0} (P : X → Type 0) (xs : List X) (x : X) → AllByRecursion P xs → P x → AllByRecursion P (xs ++ x ∷ [])
all_more {X} P [] x all last = (last, tt)
all_more {X} P (y ∷ ys) x all last = (all.0, all_more P ys x all.1 last)

-- an acknowledged write writes what it wrote
fit_after : (ended : Bool) (id : ReqId) (a : OpenWrite) (xs : List (ReqId × OpenWrite)) → MutationFits a.mutation → FitWrites xs → FitWrites (after_move ended id a xs)
fit_after true id a xs fits all = all_removed (λ x. MutationFits x.1.mutation) (is_at (request_cmp id)) xs all
fit_after false id a xs fits all = all_set (λ x. MutationFits x.1.mutation) (is_at (request_cmp id)) xs a (λ k. fits) all

fit_acked : (c : Setting) (id : ReqId) (from : ℕ) (xs xs' : List (ReqId × OpenWrite)) (o : Option OpenWrite) (turn : Move) → open_at xs id ≡ o → Takes (HearsAck c id from) id xs o turn xs' → FitWrites xs → FitWrites xs'
fit_acked c id from xs xs' None turn there h all = subst FitWrites (sym h.1) all
fit_acked c id from xs xs' (Some w) turn there (w', step, after) all =
    let fits : MutationFits w.mutation = all_at (λ x. MutationFits x.1.mutation) (λ y. MutationFits y.mutation) xs id w (λ k y h. h) all there in
    subst FitWrites (sym after) (fit_after turn.ended id w' xs (subst (λ (y : OpenWrite). MutationFits y.mutation) (sym step.1) fits) all)

changes_sound : (b : Base) (x x' : Stage) (a : Asker) (m : Mutation) (ack : Body) (g : Given) → MutationFits m → IsSound b x.work → TakesChanges a m ack x g x' → IsSound b x'.work
changes_sound b x x' a m ack g fits s h = subst (λ (y : Stage). IsSound b y.work) (sym h.takes) (record {
  write = s.write;
  read = s.read;
  queue = s.queue;
  taken = all_more (IsDataAt x.work.time) x.work.taken (Data x.work.time m) s.taken (refl, fits);
  made = s.made;
  gone = s.gone;
  early = record { write = s.early.write; read = s.early.read };
  fits = s.fits;
  counted = record { writes = s.counted.writes; reads = s.counted.reads; unanswered = s.counted.unanswered; open_reads = s.counted.open_reads };
})

mend_sound : (fits : Bool) (b : Base) (x x' : Stage) (a : Asker) (m : Mutation) (g : Given) → IsSound b x.work → TakesMend fits a m x g x' → IsSound b x'.work
mend_sound true b x x' a m g s h = changes_sound b x x' a m MendAck g h.0 s h.1
mend_sound false b x x' a m g s h = subst (λ (y : Stage). IsSound b y.work) (sym h.2) s

-- an open read that moved
read_sound : (b : Base) (x : Stage) (read : Slot OpenRead) → IsSound b x.work → IsSlotOf x.work.request (left_reads b x.work) read → (IsNew read → IsNew x.work.read) → IsSound b (record x.work { read = read })
read_sound b x read s back new = record {
  write = s.write;
  read = back;
  queue = s.queue;
  taken = s.taken;
  made = s.made;
  gone = s.gone;
  early = record { write = s.early.write; read = λ h. s.early.read (new h) };
  fits = s.fits;
  counted = record { writes = s.counted.writes; reads = s.counted.reads; unanswered = s.counted.unanswered; open_reads = s.counted.open_reads };
}

body_sound : (b : Base) (x x' : Stage) (a : Asker) (body : Body) (part : Option (List Held)) (g : Given) → x.work.request ≡ a.request → BodyFits body → IsSound b x.work → TakesBody b x a body part g x' → IsSound b x'.work
body_sound b x x' a (Write m) part g request fits s h = changes_sound b x x' a m WriteAck g fits s h
body_sound b x x' a WriteAck part g request fits s (moves, is) =
    let here : AckMoves b.setting x.work.request a.from (left_writes b x.work) x.work.write g x'.work.write = subst (λ (id : ReqId). AckMoves b.setting id a.from (left_writes b x.work) x.work.write g x'.work.write) (sym request) moves in
    subst (λ (y : Stage). IsSound b y.work) (sym is) (record {
      write = here.back;
      read = s.read;
      queue = s.queue;
      taken = s.taken;
      made = s.made;
      gone = s.gone;
      early = record { write = λ h. s.early.write (here.new h); read = s.early.read };
      fits = fit_acked b.setting x.work.request a.from (with_slot x.work.request x.work.write (left_writes b x.work)) (with_slot x.work.request x'.work.write (left_writes b x.work)) (open_at (with_slot x.work.request x.work.write (left_writes b x.work)) x.work.request) here.turn refl here.moves s.fits;
      counted = record { writes = s.counted.writes; reads = s.counted.reads; unanswered = s.counted.unanswered; open_reads = s.counted.open_reads };
    })
body_sound b x x' a (Read q) part g request fits s (gives, is) = subst (λ (y : Stage). IsSound b y.work) (sym is) s
body_sound b x x' a (ReadReply content) part g request fits s (moves, is) =
    let here : ReplyMoves b.setting x.work.request a.from content (left_reads b x.work) x.work.read g x'.work.read = subst (λ (id : ReqId). ReplyMoves b.setting id a.from content (left_reads b x.work) x.work.read g x'.work.read) (sym request) moves in
    subst (λ (y : Stage). IsSound b y.work) (sym is) (read_sound b x x'.work.read s here.back here.new)
body_sound b x x' a (Mend m) part g request fits s h = mend_sound (write_fits b.setting m) b x x' a m g s h
body_sound b x x' a MendAck part g request fits s (moves, is) =
    let here : MendMoves b.setting x.work.request a.from (left_reads b x.work) x.work.read g x'.work.read = subst (λ (id : ReqId). MendMoves b.setting id a.from (left_reads b x.work) x.work.read g x'.work.read) (sym request) moves in
    subst (λ (y : Stage). IsSound b y.work) (sym is) (read_sound b x x'.work.read s here.back here.new)
body_sound b x x' a (Hint number m) part g request fits s h = changes_sound b x x' a m (HintAck number) g fits s h
body_sound b x x' a (HintAck number) part g request fits s h = acked_sound b a.from number x x' g s h

-- ---- a body that is heard, and one that is too old

pub heard_young : (b : Base) (honest : Type 0) (d : Durable) (x x' : Stage) (h : Heard) (part : Option (List Held)) (g : Given) → is_old b.setting x.work.time h.born ≡ false → IsSound b x.work → h.request ≡ x.work.request → BodyFits h.body
    → IsOfOther b.me h.from h.body → (honest → IsReadFor x.work.taken d h.body part) → TakesBody b x (record { from = h.from; request = h.request }) h.body part g x' → IsHeard b honest d x h g x'
heard_young b honest d x x' h part g fresh s request fits other read takes =
    let a : Asker = record { from = h.from; request = h.request } in
    let gives = body_gives b x x' a h.body part g other takes in
    record {
      moves = λ is k same. body_moved b d k x x' a h.born h.body part g fresh same (sym request) takes (read is);
      goes_on = body_goes_on b x x' a h.body part g takes;
      sound = body_sound b x x' a h.body part g (sym request) fits s takes;
      own = gives.own;
      lighter = gives.lighter;
      quiet = gives.quiet;
    }

heavy : (body : Body) → 0 < weight_of body
heavy (Write m) = omega arith
heavy WriteAck = omega arith
heavy (Read q) = omega arith
heavy (ReadReply content) = omega arith
heavy (Mend m) = omega arith
heavy MendAck = omega arith
heavy (Hint number m) = omega arith
heavy (HintAck number) = omega arith

old_moved : (b : Base) (d : Durable) (k : KeptHints) (x : Stage) (h : Heard) (g : Given) → is_old b.setting x.work.time h.born ≡ true → IsSameHints k x.hints → g.sends ≡ [] → g.entries ≡ [] → Moved b d k x (heard_act h) g x
old_moved b d k x h g old same sends entries = record {
  kept = k;
  same = same;
  taken = [];
  made = [];
  gone = [];
  takes = sym (append-nil x.work.taken);
  makes = sym (append-nil x.work.made);
  loses = sym (append-nil x.work.gone);
  brings = ap (λ (t : Bool). if t then [] else data_of b.setting x.work.time h.body) old;
  moves = moves_quietly b.setting b.me (loaded d) x.work.ceiling x.work.taken k (forgotten_in b x.work) (forgotten_in b x.work) (heard_act h) (effects_given g)
      (λ e commits.
      let s = state_at b k e x.work in
      subst (λ (t : Bool). MatchBool t ((effects_given g ≡ nothing) × (s ≡ s)) (HearsBody b.setting b.me (record { from = h.from; request = h.request }) h.body s (effects_given g) s)) (sym old) (nothing_given g sends entries, refl))
      (λ e. (refl, ap (λ (t : Bool). if t then [] else gone_by_body (record { from = h.from; request = h.request }) h.body (state_at b k e x.work)) old));
}

pub heard_old : (b : Base) (honest : Type 0) (d : Durable) (x : Stage) (h : Heard) (g : Given) → is_old b.setting x.work.time h.born ≡ true → IsSound b x.work → g.sends ≡ [] → g.entries ≡ [] → IsHeard b honest d x h g x
heard_old b honest d x h g old s sends entries = record {
  moves = λ is k same. old_moved b d k x h g old same sends entries;
  goes_on = record { time = refl; ceiling = refl; request = refl; queue = refl; messages = refl; entries = refl };
  sound = s;
  own = subst (λ (xs : List Outbound). AllByRecursion (IsOwn b.me h.request) (own_sent b.me xs)) (sym sends) tt;
  lighter = subst (λ (xs : List Outbound). weight (own_sent b.me xs) < weight_of h.body) (sym sends) (heavy h.body);
  quiet = ap (filter is_entered_at_stop) entries;
}
