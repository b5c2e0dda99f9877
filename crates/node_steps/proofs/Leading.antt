-- A step in the making goes on move by move, and leads to what its entry makes of what the node kept.
use Rattle.std.proofs.Common.{◌≡◌, ℕ, ◌<◌, Bool, true, false, List, [], ◌∷◌, ◌++◌, append-nil, refl, sym, ap, subst, ◌∙◌}
use Rattle.std.specs.Prelude.{◌==◌, if◌then◌else◌, flat_map, MatchBool}
use Rattle.std.specs.List.{AllByRecursion}
use Rattle.std.proofs.lemmas.Grind.{flat_map-append}
use Rattle.std.proofs.lemmas.Bool.{eqb-true}
use Rattle.cs_base.specs.declared.ids.ReqId.{ReqId}
use Rattle.changes.specs.declared.Mutation.{Mutation}
use Rattle.row_change.specs.declared.entry.Hint as hint
use Rattle.row_change.specs.declared.entry.LogItem.{LogItem}
use Rattle.row_change.specs.declared.entry.LogItem.TheVariants.{Data, Paxos, HintAdd, HintGone, Ceiling, Mark, Purge}
use Rattle.row_change.specs.Grammar.{kind_of}
use Rattle.peer_messages.specs.declared.message.Body.TheVariants.{Write, WriteAck, Hint, HintAck}
use Rattle.peer_messages.specs.declared.event.Event.{Event}
use Rattle.peer_messages.specs.declared.chronicle.Entry.{Entry}
use Rattle.peer_messages.specs.declared.outcome.Outbound.{Outbound}
use Rattle.peer_messages.specs.declared.outcome.Outputs.{Outputs}
use Rattle.peer_messages.specs.declared.setting.Setting.{Setting}
use Rattle.durable_state.specs.State.{Durable}
use Rattle.durable_state.specs.Keeping.{TakesItem, Commits}
use Rattle.durable_state.proofs.Entries.{commits_parts}
use Rattle.node_steps.specs.State.{NodeState, durable_of}
use Rattle.node_steps.specs.Effects.{Effects, nothing}
use Rattle.node_steps.specs.Hints.{KeptHints, hints_in}
use Rattle.node_steps.specs.Leading.{Forgotten, forgotten_of, state_under, Making, nothing_made, makes_more, effects_made, keeping, IsLeading, MovesOn}
use Rattle.node_steps.specs.Replicas.{replies}
use Rattle.node_steps.specs.Acts.{Act, Rises, Hears, Deed, Does, Chain, own_sends, ceiling_after, is_old}
use Rattle.node_steps.specs.Acts.Chain.{begun, own, matter}
use Rattle.node_steps.specs.Steps.{NodeStep, Due, AreDue, matters_of, TellsTables, time_after, started_by, messages_of, sends_of, entries_of, is_refused}
use Rattle.node_steps.specs.Keeping.{Gone, hints_by, gone_by, hints_made, hints_gone, hint_items, ceiling_in}
use Rattle.node_steps.specs.Stops.{Leads}
use Rattle.node_steps.proofs.HintLists.{HintMove, hint_items_only}
use Rattle.node_steps.proofs.Entries.{chain_hints}

-- ---- a step begins

-- where changes led to d, these moves led the node
abbrev LeadsTo : Setting → ℕ → NodeState → List Act → ℕ → Making → KeptHints → Forgotten → List Act → List Act → Durable → Type 0
LeadsTo c me s matters n x k f pending left d =
    (deeds : List Deed) × Chain c me s matters deeds (state_under n f (keeping k d)) pending left × (flat_map sends_of deeds ≡ x.sent) × (flat_map entries_of deeds ≡ x.told)
    × (flat_map (hints_made c) deeds ≡ x.made) × (flat_map (hints_gone c) deeds ≡ x.gone)

pub leading_begun : (c : Setting) (me : ℕ) (s : NodeState) (matters : List Act) → IsLeading c me s matters s.ceiling nothing_made (hints_in s) (forgotten_of s) [] matters
leading_begun c me s matters = record {
  leads = λ d is. subst (λ (x : Durable). LeadsTo c me s matters s.ceiling nothing_made (hints_in s) (forgotten_of s) [] matters x) (sym is) ([], begun, refl, refl, refl, refl);
}

-- time rises
pub leading_risen : (c : Setting) (me : ℕ) (s : NodeState) (t : ℕ) (matters : List Act) → s.time < t
    → IsLeading c me s (Rises t ∷ matters) (ceiling_after s.ceiling t) nothing_made (hints_in s) (record (forgotten_of s) { time = t; risen = t }) [] matters
leading_risen c me s t matters later = record {
  leads = λ d is.
      let f : Forgotten = record (forgotten_of s) { time = t; risen = t } in
      let s' : NodeState = state_under (ceiling_after s.ceiling t) f (durable_of s) in
      let deed : Deed = record { node = me; act = Rises t; before = s; after = s'; effects = nothing } in
      subst (λ (x : Durable). LeadsTo c me s (Rises t ∷ matters) (ceiling_after s.ceiling t) nothing_made (hints_in s) f [] matters x) (sym is)
      (deed ∷ [], matter [] s s' (Rises t) matters nothing begun (later, refl, refl), refl, refl, refl, refl);
}

-- ---- a move more

more_flat : {X Y : Type 0} (f : X → List Y) (xs : List X) (x : X) (ys zs : List Y) → flat_map f xs ≡ ys → f x ≡ zs → flat_map f (xs ++ x ∷ []) ≡ ys ++ zs
more_flat {X} {Y} f xs x ys zs is here =
    flat_map-append f xs (x ∷ []) ∙ ap (λ (bs : List Y). flat_map f xs ++ bs) (append-nil (f x)) ∙ ap (λ (bs : List Y). bs ++ f x) is ∙ ap (λ (bs : List Y). ys ++ bs) here

-- what the node sends to itself is heard
pub leading_own : (c : Setting) (me : ℕ) (s : NodeState) (matters : List Act) (n : ℕ) (x y : Making) (k k' : KeptHints) (f f' : Forgotten) (a : Act) (pending left : List Act)
    → IsLeading c me s matters n x k f (a ∷ pending) left → MovesOn c me s n x.taken k f a y k' f' → IsLeading c me s matters n (makes_more x y) k' f' (pending ++ own_sends me y.sent) left
leading_own c me s matters n x y k k' f f' a pending left h move = record {
  leads = λ d' commits.
      let parts = commits_parts x.taken y.taken (durable_of s) d' commits in
      let d = parts.0 in
      let prev = h.leads d parts.1 in
      let deeds = prev.0 in
      let does = move d d' parts.1 parts.2 in
      let deed : Deed = record { node = me; act = a; before = state_under n f (keeping k d); after = state_under n f' (keeping k' d'); effects = effects_made y } in (
        deeds ++ deed ∷ [],
        own deeds (state_under n f (keeping k d)) (state_under n f' (keeping k' d')) a pending left (effects_made y) prev.1 does.0,
        more_flat sends_of deeds deed x.sent y.sent prev.2 refl,
        more_flat entries_of deeds deed x.told y.told prev.3 refl,
        more_flat (hints_made c) deeds deed x.made y.made prev.4 does.1,
        more_flat (hints_gone c) deeds deed x.gone y.gone prev.5 does.2,
      );
}

-- a matter is taken
pub leading_matter : (c : Setting) (me : ℕ) (s : NodeState) (matters : List Act) (n : ℕ) (x y : Making) (k k' : KeptHints) (f f' : Forgotten) (a : Act) (left : List Act)
    → IsLeading c me s matters n x k f [] (a ∷ left) → MovesOn c me s n x.taken k f a y k' f' → IsLeading c me s matters n (makes_more x y) k' f' (own_sends me y.sent) left
leading_matter c me s matters n x y k k' f f' a left h move = record {
  leads = λ d' commits.
      let parts = commits_parts x.taken y.taken (durable_of s) d' commits in
      let d = parts.0 in
      let prev = h.leads d parts.1 in
      let deeds = prev.0 in
      let does = move d d' parts.1 parts.2 in
      let deed : Deed = record { node = me; act = a; before = state_under n f (keeping k d); after = state_under n f' (keeping k' d'); effects = effects_made y } in (
        deeds ++ deed ∷ [],
        matter deeds (state_under n f (keeping k d)) (state_under n f' (keeping k' d')) a left (effects_made y) prev.1 does.0,
        more_flat sends_of deeds deed x.sent y.sent prev.2 refl,
        more_flat entries_of deeds deed x.told y.told prev.3 refl,
        more_flat (hints_made c) deeds deed x.made y.made prev.4 does.1,
        more_flat (hints_gone c) deeds deed x.gone y.gone prev.5 does.2,
      );
}

-- ---- moves

abbrev pub made_of : List LogItem → Effects → Making
made_of taken o = record { taken = taken; made = []; gone = []; sent = o.sends; told = o.entries }

-- one by which nothing is kept
pub moves_quietly : (c : Setting) (me : ℕ) (s : NodeState) (n : ℕ) (taken : List LogItem) (k : KeptHints) (f f' : Forgotten) (a : Act) (o : Effects)
    → ((d : Durable) → Commits taken (durable_of s) d → Does c me (state_under n f (keeping k d)) a o (state_under n f' (keeping k d)))
    → ((d : Durable) → (hints_by c me (state_under n f (keeping k d)) a ≡ []) × (gone_by c (state_under n f (keeping k d)) a ≡ []))
    → MovesOn c me s n taken k f a (made_of [] o) k f'
moves_quietly c me s n taken k f f' a o move none d d' before is =
    (subst (λ (x : Durable). Does c me (state_under n f (keeping k d)) a o (state_under n f' (keeping k x))) (sym is) (move d before), (none d).0, (none d).1)

heard_young : (c : Setting) (t born : ℕ) (P Q : Type 0) → is_old c t born ≡ false → Q → MatchBool (is_old c t born) P Q
heard_young c t born P Q young h = subst (λ (b : Bool). MatchBool b P Q) (sym young) h

abbrev no_gone : List Gone
no_gone = []

none_either : (b : Bool) → (if b then [] else no_gone) ≡ no_gone
none_either true = refl
none_either false = refl

-- a write is taken in
pub moves_by_write : (c : Setting) (me : ℕ) (s : NodeState) (n : ℕ) (taken : List LogItem) (k : KeptHints) (f : Forgotten) (from born : ℕ) (request : ReqId) (m : Mutation) → is_old c f.risen born ≡ false
    → MovesOn c me s n taken k f (Hears (record { from = from; born = born; request = request; body = Write m })) (made_of (Data f.risen m ∷ []) (replies (record { from = from; request = request }) WriteAck)) k f
moves_by_write c me s n taken k f from born request m young d d' before (mid, takes, same) =
    let all : TakesItem (Data f.risen m) d d' = subst (λ (x : Durable). TakesItem (Data f.risen m) d x) (sym same) takes in
    (heard_young c f.risen born _ _ young (all.0, all.1, refl, ap (λ (x : Durable). state_under n f (keeping k x)) all.2), refl, none_either (is_old c f.risen born))

-- a hint is taken in
pub moves_by_hint : (c : Setting) (me : ℕ) (s : NodeState) (n : ℕ) (taken : List LogItem) (k : KeptHints) (f : Forgotten) (from born : ℕ) (request : ReqId) (number : ℕ) (m : Mutation) → is_old c f.risen born ≡ false
    → MovesOn c me s n taken k f (Hears (record { from = from; born = born; request = request; body = Hint number m })) (made_of (Data f.risen m ∷ []) (replies (record { from = from; request = request }) (HintAck number))) k f
moves_by_hint c me s n taken k f from born request number m young d d' before (mid, takes, same) =
    let all : TakesItem (Data f.risen m) d d' = subst (λ (x : Durable). TakesItem (Data f.risen m) d x) (sym same) takes in
    (heard_young c f.risen born _ _ young (all.0, all.1, refl, ap (λ (x : Durable). state_under n f (keeping k x)) all.2), refl, none_either (is_old c f.risen born))

-- ---- the whole step

-- each of the items is of changes
abbrev pub AreTaken : List LogItem → Type 0
AreTaken items = AllByRecursion (λ x. kind_of x ≡ 1) items

-- of what is kept, all but the content
abbrev rest_of : Durable → Durable
rest_of d = record d { content = [] }

item_rest : (x : LogItem) (d d' : Durable) → kind_of x ≡ 1 → TakesItem x d d' → rest_of d' ≡ rest_of d
item_rest (Data t m) d d' is h = ap rest_of h.2
item_rest (Paxos p row) d d' is h = cc
item_rest (HintAdd h') d d' is h = cc
item_rest (HintGone peer number) d d' is h = cc
item_rest (Ceiling t) d d' is h = cc
item_rest (Mark m) d d' is h = cc
item_rest (Purge x) d d' is h = cc

items_rest : (items : List LogItem) (d d' : Durable) → AreTaken items → Commits items d d' → rest_of d' ≡ rest_of d
items_rest [] d d' all is = ap rest_of is
items_rest (x ∷ xs) d d' all (mid, takes, more) = items_rest xs mid d' all.1 more ∙ item_rest x d mid all.0 takes

raised : (b : Bool) (old n : ℕ) (mid d : Durable) → (old == n) ≡ b → mid.ceiling ≡ old → Commits (if b then [] else Ceiling n ∷ []) mid d → d ≡ record mid { ceiling = n }
raised true old n mid d same at is = is ∙ ap (λ (x : ℕ). record mid { ceiling = x }) (at ∙ eqb-true old n same)
raised false old n mid d same at (next, takes, is) = is ∙ takes

-- Once nothing is left, the step leads to whatever its entry makes
pub leading_done : (c : Setting) (me : ℕ) (s : NodeState) (e : Event) (due : List Due) (n : ℕ) (x : Making) (k : KeptHints) (f : Forgotten) (o : Outputs)
    → AreDue c me (time_after s e) s due → IsLeading c me s (matters_of c me s e due) n x k f [] [] → AreTaken x.taken → TellsTables e.what o.tables
    → o ≡ record { time = f.time; started = started_by me (time_after s e) e.what; sends = messages_of me f.time x.sent; entries = x.told; tables = o.tables; refused = is_refused c s.time (time_after s e) e e.what }
    → Leads c me s e o (x.taken ++ (hint_items x.made x.gone ++ ceiling_in s.ceiling n))
leading_done c me s e due n x k f o are h all tables outputs d commits =
    let parts = commits_parts x.taken (hint_items x.made x.gone ++ ceiling_in s.ceiling n) (durable_of s) d commits in
    let mid = parts.0 in
    let more = commits_parts (hint_items x.made x.gone) (ceiling_in s.ceiling n) mid d parts.2 in
    let prev = h.leads mid parts.1 in
    let deeds = prev.0 in
    let after : NodeState = state_under n f (keeping k mid) in
    let rest = items_rest x.taken (durable_of s) mid all parts.1 in
    let start : keeping (hints_in s) mid ≡ mid =
    ap (λ (y : Durable). record mid { hints = y.hints; numbers = y.numbers }) (sym rest) in
    let moved : HintMove (hints_in s) (flat_map (hints_made c) deeds) (flat_map (hints_gone c) deeds) k = chain_hints c me s _ deeds after [] [] prev.1 in
    let hinted : HintMove (hints_in s) x.made x.gone k =
    subst (λ (gs : List Gone). HintMove (hints_in s) x.made gs k) prev.5 (subst (λ (hs : List hint.Hint). HintMove (hints_in s) hs (flat_map (hints_gone c) deeds) k) prev.4 moved) in
    let behind : more.0 ≡ keeping k mid =
    hint_items_only (hints_in s) k x.made x.gone mid more.0 hinted (subst (λ (y : Durable). Commits (hint_items x.made x.gone) y more.0) (sym start) more.1) in
    let ceiling : more.0.ceiling ≡ s.ceiling = ap (λ (y : Durable). y.ceiling) behind ∙ ap (λ (y : Durable). y.ceiling) rest in
    let whole : d ≡ record (keeping k mid) { ceiling = n } = raised (s.ceiling == n) s.ceiling n more.0 d refl ceiling more.2 ∙ ap (λ (y : Durable). record y { ceiling = n }) behind in
    let given : (xs : List Outbound) (es : List Entry) → Outputs = λ xs es. record { time = f.time; started = started_by me (time_after s e) e.what; sends = messages_of me f.time xs; entries = es; tables = o.tables; refused = is_refused c s.time (time_after s e) e e.what } in
    let step : NodeStep c me s e deeds o after = record {
      due = due;
      are_due = are;
      moves = prev.1;
      tables = tables;
      outputs = outputs ∙ ap (λ (xs : List Outbound). given xs x.told) (sym prev.2) ∙ ap (λ (es : List Entry). given (flat_map sends_of deeds) es) (sym prev.3);
    } in
    (deeds, after, step, sym whole)
