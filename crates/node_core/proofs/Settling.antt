-- All that a node hears of its own, one after another.
use Rattle.std.proofs.Common.{◌≡◌, ◌<◌, ◌+◌, Option, Some, List, [], ◌∷◌, ◌++◌, length, drop, refl, sym, ap, subst, ◌∙◌, arith}
use Rattle.std.specs.Option.{option_to_list}
use Rattle.std.specs.List.{AllByRecursion}
use Rattle.std.proofs.lemmas.List.{length-drop}
use Rattle.cs_base.specs.declared.ids.ReqId.{ReqId}
use Rattle.peer_messages.specs.declared.chronicle.Entry.{Entry}
use Rattle.peer_messages.specs.declared.outcome.Outbound.{Outbound}
use Rattle.durable_state.specs.State.{Durable}
use Rattle.node_steps.specs.State.{NodeState}
use Rattle.node_steps.specs.Hints.{KeptHints}
use Rattle.node_steps.specs.Acts.{Act}
use Rattle.node_core.specs.declared.base.Base.{Base}
use Rattle.node_core.specs.declared.work.Given.{Given}
use Rattle.node_core.specs.declared.work.Work.{Work}
use Rattle.node_core.specs.Hinting.{Stage, at}
use Rattle.node_core.specs.Working.{IsOwn, IsSent, IsSound, own_act, own_sent, weight}
use Rattle.node_core.specs.Moving.{SendsOwn, GoesBy, GoesAlong, HasCome, IsCut, IsSettled, MovesTo}
use Rattle.node_core.proofs.Coming.{own_more, cut_more}

-- ---- weights

pub weight_append : (xs ys : List Outbound) → weight (xs ++ ys) ≡ weight xs + weight ys
weight_append [] ys = omega arith
weight_append (x ∷ xs) ys = let rest = weight_append xs ys in omega arith

-- ---- what waits is of the request, and can be kept

pub all_join : {X : Type 0} (P : X → Type 0) (xs ys : List X) → AllByRecursion P xs → AllByRecursion P ys → AllByRecursion P (xs ++ ys)
all_join {X} P [] ys a b = b
all_join {X} P (x ∷ xs) ys a b = (a.0, all_join P xs ys a.1 b)

-- what is sent and entered is nothing to it
pub sound_as : (b : Base) (w v : Work) → IsSound b w → v ≡ record w { queue = v.queue; messages = v.messages; entries = v.entries } → AllByRecursion (IsOwn b.me w.request) v.queue.items → IsSound b v
sound_as b w v s is own = subst (λ (x : Work). IsSound b x) (sym is) (record {
  write = s.write;
  read = s.read;
  queue = own;
  taken = s.taken;
  made = s.made;
  gone = s.gone;
  early = record { write = s.early.write; read = s.early.read };
  fits = s.fits;
  counted = record { writes = s.counted.writes; reads = s.counted.reads; unanswered = s.counted.unanswered; open_reads = s.counted.open_reads };
})

pub sent_sound : (b : Base) (mid w' : Work) (g : Given) → IsSound b mid → SendsOwn b mid.request g → IsSent b.me g.sends (record mid { entries = mid.entries ++ g.entries }) w' → IsSound b w'
sent_sound b mid w' g s own sent =
    sound_as b mid w' s (sent.rest ∙ ap (λ (es : List Entry). let x : Work = record mid { queue = w'.queue; messages = w'.messages; entries = es } in x) (sym (ap (λ (x : Work). x.entries) sent.rest)))
    (subst (λ (xs : List Outbound). AllByRecursion (IsOwn b.me mid.request) xs) (sym sent.queue) (all_join (IsOwn b.me mid.request) mid.queue.items (own_sent b.me g.sends) s.queue own))

-- ---- a body of its own

pub by_sound : (b : Base) (honest : Type 0) (d : Durable) (x : Outbound) (w w' : Stage) → x.request ≡ w.work.request → GoesBy b honest d x w w' → IsSound b w'.work
by_sound b honest d x w w' of by =
    sent_sound b by.mid.work w'.work by.given by.heard.sound (subst (λ (id : ReqId). SendsOwn b id by.given) (of ∙ sym by.heard.goes_on.request) by.heard.own) by.sent

by_queue : (b : Base) (honest : Type 0) (d : Durable) (x : Outbound) (w w' : Stage) → (by : GoesBy b honest d x w w') → w'.work.queue.items ≡ w.work.queue.items ++ own_sent b.me by.given.sends
by_queue b honest d x w w' by = by.sent.queue ∙ ap (λ (q : List Outbound). q ++ own_sent b.me by.given.sends) by.heard.goes_on.queue

pub by_lighter : (b : Base) (honest : Type 0) (d : Durable) (x : Outbound) (w w' : Stage) → GoesBy b honest d x w w' → weight w'.work.queue.items < weight (x ∷ w.work.queue.items)
by_lighter b honest d x w w' by =
    let queue = ap weight (by_queue b honest d x w w' by) ∙ weight_append w.work.queue.items (own_sent b.me by.given.sends) in
    let light = by.heard.lighter in
    omega arith

-- under another name of what is kept
pub by_at : (b : Base) (honest : Type 0) (d d' : Durable) (x : Outbound) (w w' : Stage) → (honest → d ≡ d') → GoesBy b honest d x w w' → GoesBy b honest d' x w w'
by_at b honest d d' x w w' same by = record {
  given = by.given;
  mid = by.mid;
  heard = record {
    moves = λ is. subst (λ (e : Durable). MovesTo b e w (own_act b.me x) by.given by.mid) (same is) (by.heard.moves is);
    goes_on = by.heard.goes_on;
    sound = by.heard.sound;
    own = by.heard.own;
    lighter = by.heard.lighter;
    quiet = by.heard.quiet;
  };
  sent = by.sent;
  hints = by.hints;
}

-- ---- one after another

pub along_none : (b : Base) (honest : Type 0) (d : Durable) (w : Stage) → IsSound b w.work → GoesAlong b honest d w w
along_none b honest d w sound = record {
  comes = λ is s matters left come. come;
  cut = λ s matters cut. cut;
  sound = sound;
  time = refl;
  ceiling = refl;
  request = refl;
}

-- what is taken from the queue
abbrev pub Pops : Work → Outbound → Work → Type 0
Pops w x v = (w.queue.items ≡ x ∷ v.queue.items) × (v ≡ record w { queue = v.queue })

requeued : (w v : Work) → v ≡ record w { queue = v.queue } → v ≡ record w { queue = v.queue; messages = v.messages; entries = v.entries }
requeued w v rest = subst (λ (x : Work). x ≡ record w { queue = x.queue; messages = x.messages; entries = x.entries }) (sym rest) refl

pub popped_sound : (b : Base) (w v : Work) (x : Outbound) → IsSound b w → Pops w x v → IsSound b v
popped_sound b w v x s (queue, rest) = let all = subst (λ (xs : List Outbound). AllByRecursion (IsOwn b.me w.request) xs) queue s.queue in sound_as b w v s (requeued w v rest) all.1

pub popped_own : (b : Base) (w v : Work) (x : Outbound) → IsSound b w → Pops w x v → IsOwn b.me v.request x
popped_own b w v x s (queue, rest) =
    let all = subst (λ (xs : List Outbound). AllByRecursion (IsOwn b.me w.request) xs) queue s.queue in
    subst (λ (id : ReqId). IsOwn b.me id x) (sym (ap (λ (y : Work). y.request) rest)) all.0

-- a chain that came to a step came to it with another queue
pub requeued_come : (b : Base) (d : Durable) (s : NodeState) (matters left : List Act) (pending : List Outbound) (w v : Stage) → v.work ≡ record w.work { queue = v.work.queue } → v.hints ≡ w.hints → HasCome b d s matters left pending w → HasCome b d s matters left pending v
requeued_come b d s matters left pending w v rest hints come =
    let is : at (record w.work { queue = v.work.queue }) w.hints ≡ v =
    ap (λ (x : Work). at x w.hints) (sym rest) ∙ ap (λ (k : KeptHints). at v.work k) (sym hints) in
    subst (λ (y : Stage). HasCome b d s matters left pending y) is (record {
      kept = come.kept;
      same = come.same;
      making = come.making;
      taken = come.taken;
      made = come.made;
      gone = come.gone;
      messages = come.messages;
      entries = come.entries;
      leads = come.leads;
    })

pub requeued_cut : (b : Base) (s : NodeState) (matters : List Act) (w v : Work) → v ≡ record w { queue = v.queue } → IsCut b s matters w → IsCut b s matters v
requeued_cut b s matters w v rest cut =
    subst (λ (y : Work). IsCut b s matters y) (sym rest) (record {
      deeds = cut.deeds;
      reached = cut.reached;
      pending = cut.pending;
      left = cut.left;
      moves = cut.moves;
      taken = cut.taken;
      entries = cut.entries;
    })

popped_come : (b : Base) (d : Durable) (s : NodeState) (matters left : List Act) (w v : Stage) (x : Outbound) → Pops w.work x v.work → v.hints ≡ w.hints → HasCome b d s matters left w.work.queue.items w → HasCome b d s matters left (x ∷ v.work.queue.items) v
popped_come b d s matters left w v x (queue, rest) hints come = requeued_come b d s matters left (x ∷ v.work.queue.items) w v rest hints (subst (λ (xs : List Outbound). HasCome b d s matters left xs w) queue come)

popped_cut : (b : Base) (s : NodeState) (matters : List Act) (w v : Work) (x : Outbound) → Pops w x v → IsCut b s matters w → IsCut b s matters v
popped_cut b s matters w v x (queue, rest) cut = requeued_cut b s matters w v rest cut

by_comes : (b : Base) (d : Durable) (s : NodeState) (matters left : List Act) (honest : Type 0) (x : Outbound) (v w' : Stage) → honest → GoesBy b honest d x v w' → HasCome b d s matters left (x ∷ v.work.queue.items) v → HasCome b d s matters left w'.work.queue.items w'
by_comes b d s matters left honest x v w' is by come =
    subst (λ (q : List Outbound). HasCome b d s matters left q w') (sym (by_queue b honest d x v w' by))
    (own_more b d s matters left v.work.queue.items x v by.mid w' by.given come (by.heard.moves is) by.heard.goes_on by.sent by.hints)

by_cuts : (b : Base) (d : Durable) (s : NodeState) (matters : List Act) (honest : Type 0) (x : Outbound) (v w' : Stage) → GoesBy b honest d x v w' → IsCut b s matters v.work → IsCut b s matters w'.work
by_cuts b d s matters honest x v w' by cut = cut_more b s matters v.work by.mid.work w'.work by.given cut by.heard.goes_on by.heard.quiet by.sent

pub along_more : (b : Base) (honest : Type 0) (d : Durable) (w0 w v w' : Stage) (x : Outbound) → GoesAlong b honest d w0 w → Pops w.work x v.work → v.hints ≡ w.hints → GoesBy b honest d x v w' → GoesAlong b honest d w0 w'
along_more b honest d w0 w v w' x along pops hints by =
    let own = popped_own b w.work v.work x along.sound pops in
    record {
      comes = λ is s matters left come. by_comes b d s matters left honest x v w' is by (popped_come b d s matters left w v x pops hints (along.comes is s matters left come));
      cut = λ s matters cut. by_cuts b d s matters honest x v w' by (popped_cut b s matters w.work v.work x pops (along.cut s matters cut));
      sound = by_sound b honest d x v w' own.request by;
      time = ap (λ (y : Work). y.time) by.sent.rest ∙ by.heard.goes_on.time ∙ ap (λ (y : Work). y.time) pops.1 ∙ along.time;
      ceiling = ap (λ (y : Work). y.ceiling) by.sent.rest ∙ by.heard.goes_on.ceiling ∙ ap (λ (y : Work). y.ceiling) pops.1 ∙ along.ceiling;
      request = ap (λ (y : Work). y.request) by.sent.rest ∙ by.heard.goes_on.request ∙ ap (λ (y : Work). y.request) pops.1 ∙ along.request;
    }

-- a body of its own that was taken from the queue, before it is heard
pub popped_cuts : (b : Base) (honest : Type 0) (d : Durable) (w0 w v : Stage) (x : Outbound) → GoesAlong b honest d w0 w → Pops w.work x v.work → (s : NodeState) (matters : List Act) → IsCut b s matters w0.work → IsCut b s matters v.work
popped_cuts b honest d w0 w v x along pops s matters cut = popped_cut b s matters w.work v.work x pops (along.cut s matters cut)

-- what was taken from the queue, as the queue tells it
pub pops_by : (w v : Work) (x : Outbound) (r : Option Outbound) → v ≡ record w { queue = v.queue } → w.queue.items ≡ option_to_list r ++ v.queue.items → r ≡ Some x → Pops w x v
pops_by w v x r rest items is = (items ∙ ap (λ (o : Option Outbound). option_to_list o ++ v.queue.items) is, rest)

none_left : (xs : List Outbound) → xs ≡ drop 1 xs → xs ≡ []
none_left [] h = refl
none_left (x ∷ xs) h = absurd (omega (arith, length-drop 1 (x ∷ xs), ap length h))

-- nothing was there to be taken
pub along_end : (b : Base) (honest : Type 0) (d : Durable) (w0 w v : Stage) → GoesAlong b honest d w0 w → v.work ≡ record w.work { queue = v.work.queue } → v.hints ≡ w.hints → w.work.queue.items ≡ v.work.queue.items → v.work.queue.items ≡ drop 1 w.work.queue.items
    → IsSettled b honest d w0 v
along_end b honest d w0 w v along rest hints same none = record {
  along = record {
    comes = λ is s matters left come. requeued_come b d s matters left v.work.queue.items w v rest hints (subst (λ (xs : List Outbound). HasCome b d s matters left xs w) same (along.comes is s matters left come));
    cut = λ s matters cut. requeued_cut b s matters w.work v.work rest (along.cut s matters cut);
    sound = sound_as b w.work v.work along.sound (requeued w.work v.work rest) (subst (λ (xs : List Outbound). AllByRecursion (IsOwn b.me w.work.request) xs) same along.sound.queue);
    time = ap (λ (y : Work). y.time) rest ∙ along.time;
    ceiling = ap (λ (y : Work). y.ceiling) rest ∙ along.ceiling;
    request = ap (λ (y : Work). y.request) rest ∙ along.request;
  };
  done = none_left v.work.queue.items (none ∙ ap (λ (xs : List Outbound). drop 1 xs) same);
}
