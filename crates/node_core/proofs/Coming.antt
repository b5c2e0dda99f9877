-- A chain of moves that grows by one.
use Rattle.std.proofs.Common.{◌≡◌, ℕ, Bool, true, false, List, [], ◌∷◌, ◌++◌, append-nil, refl, sym, ap, subst, ◌∙◌, filter, map}
use Rattle.std.specs.Prelude.{◌==◌, if◌then◌else◌, cond, flat_map}
use Rattle.std.proofs.lemmas.Grind.{flat_map-append}
use Rattle.std.proofs.lemmas.List.{map-append}
use Rattle.std.proofs.lemmas.List.Elements.{filter-append}
use Rattle.row_change.specs.declared.entry.LogItem.{LogItem}
use Rattle.peer_messages.specs.declared.chronicle.Entry.{Entry}
use Rattle.peer_messages.specs.declared.message.Message.{Message}
use Rattle.peer_messages.specs.declared.outcome.Outbound.{Outbound}
use Rattle.peer_messages.specs.declared.setting.Setting.{Setting}
use Rattle.durable_state.specs.State.{Durable}
use Rattle.durable_state.proofs.Entries.{commits_parts}
use Rattle.node_steps.specs.State.{NodeState, loaded}
use Rattle.node_steps.specs.Hints.{KeptHints}
use Rattle.node_steps.specs.Leading.{Forgotten, Making, MovesOn, effects_made, keeping, makes_more, state_under}
use Rattle.node_steps.specs.Acts.{Act, Deed, own_sends}
use Rattle.node_steps.specs.Acts.Chain.{own, matter}
use Rattle.node_steps.specs.Steps.{messages_of, sends_of, entries_of}
use Rattle.node_steps.specs.Keeping.{add_item, gone_item, data_by, data_in, hints_made, hints_gone}
use Rattle.node_steps.specs.Stops.{is_entered_at_stop}
use Rattle.hint_store.specs.Staged.{IsSameHints}
use Rattle.node_core.specs.declared.base.Base.{Base}
use Rattle.node_core.specs.declared.work.Given.{Given}
use Rattle.node_core.specs.declared.work.Work.{Work}
use Rattle.node_core.specs.Hinting.{Stage}
use Rattle.node_core.specs.Leading.{Leads}
use Rattle.node_core.specs.Working.{forgotten_in, own_act, own_acts, own_sent, IsSent}
use Rattle.node_core.specs.Moving.{GoesOn, HasCome, IsCut, Moved, MovesTo, making_of}
use Rattle.node_core.proofs.Sending.{messages_append}

-- what goes to the node itself is what it hears
own_cons : (b : Bool) (me : ℕ) (x : Outbound) (xs : List Outbound) → own_sends me xs ≡ own_acts me (own_sent me xs)
    → (if b then own_act me x ∷ own_sends me xs else own_sends me xs) ≡ own_acts me (cond b (x ∷ own_sent me xs) (own_sent me xs))
own_cons true me x xs rest = ap (λ (acts : List Act). own_act me x ∷ acts) rest
own_cons false me x xs rest = rest

pub own_heard : (me : ℕ) (xs : List Outbound) → own_sends me xs ≡ own_acts me (own_sent me xs)
own_heard me [] = refl
own_heard me (x ∷ xs) = own_cons (x.upto == me) me x xs (own_heard me xs)

-- ---- one move more

more_flat : {X Y : Type 0} (f : X → List Y) (xs : List X) (x : X) (ys zs : List Y) → flat_map f xs ≡ ys → f x ≡ zs → flat_map f (xs ++ x ∷ []) ≡ ys ++ zs
more_flat {X} {Y} f xs x ys zs is here =
    flat_map-append f xs (x ∷ []) ∙ ap (λ (bs : List Y). flat_map f xs ++ bs) (append-nil (f x)) ∙ ap (λ (bs : List Y). bs ++ f x) is ∙ ap (λ (bs : List Y). ys ++ bs) here

-- a move, as a deed
abbrev deed_of : ℕ → ℕ → KeptHints → KeptHints → Forgotten → Forgotten → Act → Making → Durable → Durable → Deed
deed_of me n k k' f f' a y d d' = record { node = me; act = a; before = state_under n f (keeping k d); after = state_under n f' (keeping k' d'); effects = effects_made y }

leads_own : (c : Setting) (me : ℕ) (d : Durable) (s : NodeState) (matters left : List Act) (n : ℕ) (x y : Making) (k k' : KeptHints) (f f' : Forgotten) (a : Act) (pending : List Act)
    → Leads c me d s matters n x k f (a ∷ pending) left → MovesOn c me (loaded d) n x.taken k f a y k' f' → data_by c f.risen a ≡ y.taken
    → Leads c me d s matters n (makes_more x y) k' f' (pending ++ own_sends me y.sent) left
leads_own c me d s matters left n x y k k' f f' a pending leads move brings d' commits =
    let parts = commits_parts x.taken y.taken d d' commits in
    let before = leads parts.0 parts.1 in
    let does = move parts.0 d' parts.1 parts.2 in
    let deed = deed_of me n k k' f f' a y parts.0 d' in
    record {
      deeds = before.deeds ++ deed ∷ [];
      moves = own before.deeds (state_under n f (keeping k parts.0)) (state_under n f' (keeping k' d')) a pending left (effects_made y) before.moves does.0;
      sent = more_flat sends_of before.deeds deed x.sent y.sent before.sent refl;
      told = more_flat entries_of before.deeds deed x.told y.told before.told refl;
      taken = more_flat (data_in c) before.deeds deed x.taken y.taken before.taken brings;
      made = more_flat (hints_made c) before.deeds deed x.made y.made before.made does.1;
      gone = more_flat (hints_gone c) before.deeds deed x.gone y.gone before.gone does.2;
    }

leads_matter : (c : Setting) (me : ℕ) (d : Durable) (s : NodeState) (matters left : List Act) (n : ℕ) (x y : Making) (k k' : KeptHints) (f f' : Forgotten) (a : Act)
    → Leads c me d s matters n x k f [] (a ∷ left) → MovesOn c me (loaded d) n x.taken k f a y k' f' → data_by c f.risen a ≡ y.taken
    → Leads c me d s matters n (makes_more x y) k' f' (own_sends me y.sent) left
leads_matter c me d s matters left n x y k k' f f' a leads move brings d' commits =
    let parts = commits_parts x.taken y.taken d d' commits in
    let before = leads parts.0 parts.1 in
    let does = move parts.0 d' parts.1 parts.2 in
    let deed = deed_of me n k k' f f' a y parts.0 d' in
    record {
      deeds = before.deeds ++ deed ∷ [];
      moves = matter before.deeds (state_under n f (keeping k parts.0)) (state_under n f' (keeping k' d')) a left (effects_made y) before.moves does.0;
      sent = more_flat sends_of before.deeds deed x.sent y.sent before.sent refl;
      told = more_flat entries_of before.deeds deed x.told y.told before.told refl;
      taken = more_flat (data_in c) before.deeds deed x.taken y.taken before.taken brings;
      made = more_flat (hints_made c) before.deeds deed x.made y.made before.made does.1;
      gone = more_flat (hints_gone c) before.deeds deed x.gone y.gone before.gone does.2;
    }

-- under other names of the ceiling, of what is forgotten and of what waits
leads_as : (c : Setting) (me : ℕ) (d : Durable) (s : NodeState) (matters left : List Act) (n n' : ℕ) (x : Making) (k : KeptHints) (f f' : Forgotten) (acts acts' : List Act) → n' ≡ n → f' ≡ f → acts ≡ acts'
    → Leads c me d s matters n x k f acts left → Leads c me d s matters n' x k f' acts' left
leads_as c me d s matters left n n' x k f f' acts acts' ceiling same waits h =
    subst (λ (m : ℕ). Leads c me d s matters m x k f' acts' left) (sym ceiling)
    (subst (λ (g : Forgotten). Leads c me d s matters n x k g acts' left) (sym same) (subst (λ (waiting : List Act). Leads c me d s matters n x k f waiting left) waits h))

-- what a chain made, with a move more, is what the step made
record Grown (b : Base) (x : Making) (y : Making) (w' : Work) : Type 0 where
  pub taken : w'.taken ≡ x.taken ++ y.taken
  pub made : w'.made ≡ map add_item (x.made ++ y.made)
  pub gone : w'.gone ≡ map gone_item (x.gone ++ y.gone)
  pub messages : w'.messages ≡ messages_of b.me w'.time (x.sent ++ y.sent)
  pub entries : w'.entries ≡ x.told ++ y.told

grown : (b : Base) (d : Durable) (s : NodeState) (matters left : List Act) (pending : List Outbound) (k : KeptHints) (w mid w' : Stage) (a : Act) (g : Given) → (come : HasCome b d s matters left pending w) → (m : Moved b d k w a g mid)
    → GoesOn w.work mid.work → IsSent b.me g.sends (record mid.work { entries = mid.work.entries ++ g.entries }) w'.work → Grown b come.making (making_of m.taken m.made m.gone g) w'.work
grown b d s matters left pending k w mid w' a g come m on sent =
    let time : w'.work.time ≡ w.work.time = ap (λ (x : Work). x.time) sent.rest ∙ on.time in
    record {
      taken = ap (λ (x : Work). x.taken) sent.rest ∙ m.takes ∙ ap (λ (xs : List LogItem). xs ++ m.taken) come.taken;
      made = ap (λ (x : Work). x.made) sent.rest ∙ m.makes ∙ ap (λ (xs : List LogItem). xs ++ map add_item m.made) come.made ∙ sym (map-append add_item come.making.made m.made);
      gone = ap (λ (x : Work). x.gone) sent.rest ∙ m.loses ∙ ap (λ (xs : List LogItem). xs ++ map gone_item m.gone) come.gone ∙ sym (map-append gone_item come.making.gone m.gone);
      messages =
          sent.messages
          ∙ ap (λ (ms : List Message). ms ++ messages_of b.me mid.work.time g.sends) (on.messages ∙ come.messages)
          ∙ ap (λ (t : ℕ). messages_of b.me w.work.time come.making.sent ++ messages_of b.me t g.sends) on.time
          ∙ sym (messages_append b.me w.work.time come.making.sent g.sends)
          ∙ ap (λ (t : ℕ). messages_of b.me t (come.making.sent ++ g.sends)) (sym time);
      entries = ap (λ (x : Work). x.entries) sent.rest ∙ ap (λ (es : List Entry). es ++ g.entries) (on.entries ∙ come.entries);
    }

-- what was sent is given, and what is forgotten is as it was
sent_state : (b : Base) (mid : Work) (w' : Work) (g : Given) → IsSent b.me g.sends (record mid { entries = mid.entries ++ g.entries }) w' → forgotten_in b w' ≡ forgotten_in b mid
sent_state b mid w' g sent = ap (λ (x : Work). forgotten_in b x) sent.rest

moves_as : (b : Base) (d : Durable) (n : ℕ) (xs ys : List LogItem) (k k' : KeptHints) (f f' : Forgotten) (a : Act) (y : Making) → xs ≡ ys → MovesOn b.setting b.me (loaded d) n xs k f a y k' f' → MovesOn b.setting b.me (loaded d) n ys k f a y k' f'
moves_as b d n xs ys k k' f f' a y is h = subst (λ (zs : List LogItem). MovesOn b.setting b.me (loaded d) n zs k f a y k' f') is h

pub own_more : (b : Base) (d : Durable) (s : NodeState) (matters left : List Act) (pending : List Outbound) (x : Outbound) (w mid w' : Stage) (g : Given) → HasCome b d s matters left (x ∷ pending) w → MovesTo b d w (own_act b.me x) g mid
    → GoesOn w.work mid.work → IsSent b.me g.sends (record mid.work { entries = mid.work.entries ++ g.entries }) w'.work → w'.hints ≡ mid.hints → HasCome b d s matters left (pending ++ own_sent b.me g.sends) w'
own_more b d s matters left pending x w mid w' g come moves on sent hints =
    let m = moves come.kept come.same in
    let y = making_of m.taken m.made m.gone g in
    let more = grown b d s matters left (x ∷ pending) come.kept w mid w' (own_act b.me x) g come m on sent in
    let ceiling : w'.work.ceiling ≡ w.work.ceiling = ap (λ (v : Work). v.ceiling) sent.rest ∙ on.ceiling in
    let acts : own_acts b.me pending ++ own_sends b.me g.sends ≡ own_acts b.me (pending ++ own_sent b.me g.sends) =
    ap (λ (acts : List Act). own_acts b.me pending ++ acts) (own_heard b.me g.sends) ∙ sym (map-append (own_act b.me) pending (own_sent b.me g.sends)) in
    record {
      kept = m.kept;
      same = subst (λ (k : KeptHints). IsSameHints m.kept k) (sym hints) m.same;
      making = makes_more come.making y;
      taken = more.taken;
      made = more.made;
      gone = more.gone;
      messages = more.messages;
      entries = more.entries;
      leads = leads_as b.setting b.me d s matters left w.work.ceiling w'.work.ceiling (makes_more come.making y) m.kept (forgotten_in b mid.work) (forgotten_in b w'.work) _ _ ceiling (sent_state b mid.work w'.work g sent) acts
          (leads_own b.setting b.me d s matters left w.work.ceiling come.making y come.kept m.kept (forgotten_in b w.work) (forgotten_in b mid.work) (own_act b.me x) (own_acts b.me pending) come.leads
          (moves_as b d w.work.ceiling w.work.taken come.making.taken come.kept m.kept (forgotten_in b w.work) (forgotten_in b mid.work) (own_act b.me x) y come.taken m.moves) m.brings);
    }

pub matter_more : (b : Base) (d : Durable) (s : NodeState) (matters left : List Act) (a : Act) (w mid w' : Stage) (g : Given) → HasCome b d s matters (a ∷ left) [] w → MovesTo b d w a g mid → GoesOn w.work mid.work
    → IsSent b.me g.sends (record mid.work { entries = mid.work.entries ++ g.entries }) w'.work → w'.hints ≡ mid.hints → HasCome b d s matters left (own_sent b.me g.sends) w'
matter_more b d s matters left a w mid w' g come moves on sent hints =
    let m = moves come.kept come.same in
    let y = making_of m.taken m.made m.gone g in
    let more = grown b d s matters (a ∷ left) [] come.kept w mid w' a g come m on sent in
    let ceiling : w'.work.ceiling ≡ w.work.ceiling = ap (λ (v : Work). v.ceiling) sent.rest ∙ on.ceiling in
    record {
      kept = m.kept;
      same = subst (λ (k : KeptHints). IsSameHints m.kept k) (sym hints) m.same;
      making = makes_more come.making y;
      taken = more.taken;
      made = more.made;
      gone = more.gone;
      messages = more.messages;
      entries = more.entries;
      leads = leads_as b.setting b.me d s matters left w.work.ceiling w'.work.ceiling (makes_more come.making y) m.kept (forgotten_in b mid.work) (forgotten_in b w'.work) _ _ ceiling (sent_state b mid.work w'.work g sent) (own_heard b.me g.sends)
          (leads_matter b.setting b.me d s matters left w.work.ceiling come.making y come.kept m.kept (forgotten_in b w.work) (forgotten_in b mid.work) a come.leads
          (moves_as b d w.work.ceiling w.work.taken come.making.taken come.kept m.kept (forgotten_in b w.work) (forgotten_in b mid.work) a y come.taken m.moves) m.brings);
    }

-- a stop before the moves that enter nothing at a stop
pub cut_more : (b : Base) (s : NodeState) (matters : List Act) (w mid w' : Work) (g : Given) → IsCut b s matters w → GoesOn w mid → filter is_entered_at_stop g.entries ≡ [] → IsSent b.me g.sends (record mid { entries = mid.entries ++ g.entries }) w'
    → IsCut b s matters w'
cut_more b s matters w mid w' g cut on quiet sent = record {
  deeds = cut.deeds;
  reached = cut.reached;
  pending = cut.pending;
  left = cut.left;
  moves = cut.moves;
  taken = cut.taken;
  entries =
      ap (filter is_entered_at_stop) (ap (λ (x : Work). x.entries) sent.rest ∙ ap (λ (es : List Entry). es ++ g.entries) on.entries)
      ∙ filter-append is_entered_at_stop w.entries g.entries
      ∙ ap (λ (es : List Entry). filter is_entered_at_stop w.entries ++ es) quiet
      ∙ append-nil (filter is_entered_at_stop w.entries)
      ∙ cut.entries;
}
