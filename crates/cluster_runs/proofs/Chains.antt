-- The moves of a step, put into the trace one after another.
use Rattle.std.proofs.Common.{◌≡◌, ℕ, inl, inr, ◌<◌, Bool, true, false, Option, Some, List, [], ◌∷◌, ◌++◌, append_assoc, append-nil, refl, sym, ap, subst, ◌∙◌, arith, Contains, reverse}
use Rattle.std.specs.Prelude.{◌==◌, if◌then◌else◌, slice_get, slice_set, flat_map}
use Rattle.std.proofs.lemmas.List.{reverse-append}
use Rattle.std.proofs.lemmas.List.Elements.{Contains-append_cases, Contains-append_left, Contains-append_right}
use Rattle.std.proofs.lemmas.Grind.{flat_map-append}
use Rattle.std.proofs.lemmas.Bool.{eqb-true, cases_Bool}
use Rattle.cs_base.specs.declared.ids.ReqId.{ReqId}
use Rattle.changes.specs.declared.Mutation.{Mutation}
use Rattle.peer_messages.specs.declared.event.Ask.{Ask}
use Rattle.peer_messages.specs.declared.chronicle.Entry.{Entry}
use Rattle.peer_messages.specs.declared.chronicle.Entry.TheVariants.{Submitted}
use Rattle.peer_messages.specs.declared.outcome.Outbound.{Outbound}
use Rattle.peer_messages.specs.declared.setting.Setting.{Setting}
use Rattle.node_steps.specs.State.{NodeState}
use Rattle.node_steps.specs.Effects.{Effects}
use Rattle.node_steps.specs.Acts.{Act, Rises, Hears, Asks, Marks, DeadlineComes, HintExpires, Incoming, Deed, Does, Chain, own_sends}
use Rattle.node_steps.specs.Acts.Chain.{begun, own, matter}
use Rattle.node_steps.specs.Steps.{entries_of}
use Rattle.cluster_runs.specs.Trace.{Scene, WasMade, MayTake, AreTold, entered, loser, Trace, moved}
use Rattle.cs_base.proofs.Slots.{set_get, set_same, set_set}
use Rattle.cs_base.proofs.Members.{from_reverse, reverse_push, contains_flat, contains_from_flat, contains_nil, contains_cases, contains_here, contains_there, contains_one}
use Rattle.cluster_runs.proofs.Times.{timely, IsSteady, does_at_once}
use Rattle.cluster_runs.proofs.Submissions.{SubmitNothing, Submits, rises_submits, hears_submits, matter_submits}

-- the scene after these moves of node k, which is now at s'
abbrev pub after : Scene → ℕ → Bool → List Deed → NodeState → Scene
after w k lost deeds s' = record {
  nodes = slice_set w.nodes k s';
  chronicle = reverse (entered lost (flat_map entries_of deeds)) ++ w.chronicle;
  past = reverse deeds ++ w.past;
  losing = w.losing;
}

scene_made : (l : Option ℕ) (a b : List NodeState) (m n : List Entry) (x y : List Deed) → a ≡ b → m ≡ n → x ≡ y → let w : Scene = record { nodes = a; chronicle = m; past = x; losing = l } in w ≡ record { nodes = b; chronicle = n; past = y; losing = l }
scene_made l a b m n x y p q r =
    ap (λ (v : List NodeState). let w : Scene = record { nodes = v; chronicle = m; past = x; losing = l } in w) p
    ∙ ap (λ (v : List Entry). let w : Scene = record { nodes = b; chronicle = v; past = x; losing = l } in w) q
    ∙ ap (λ (v : List Deed). let w : Scene = record { nodes = b; chronicle = n; past = v; losing = l } in w) r

entries_push : (lost : Bool) (deeds : List Deed) (d : Deed) (es : List Entry) → reverse (entered lost (flat_map entries_of (deeds ++ d ∷ []))) ++ es ≡ reverse (entered lost d.effects.entries) ++ (reverse (entered lost (flat_map entries_of deeds)) ++ es)
entries_push true deeds d es = refl
entries_push false deeds d es =
    ap (λ (xs : List Entry). reverse xs ++ es) (flat_map-append entries_of deeds (d ∷ []) ∙ ap (λ (xs : List Entry). flat_map entries_of deeds ++ xs) (append-nil d.effects.entries))
    ∙ ap (λ (xs : List Entry). xs ++ es) (reverse-append (flat_map entries_of deeds) d.effects.entries)
    ∙ append_assoc (reverse d.effects.entries) (reverse (flat_map entries_of deeds)) es

-- one more move
after_more : (w : Scene) (k : ℕ) (lost : Bool) (deeds : List Deed) (d : Deed) (mid : NodeState)
    → after w k lost (deeds ++ d ∷ []) d.after
    ≡ record {
      nodes = slice_set (after w k lost deeds mid).nodes k d.after;
      chronicle = reverse (entered lost d.effects.entries) ++ (after w k lost deeds mid).chronicle;
      past = d ∷ (after w k lost deeds mid).past;
      losing = w.losing;
    }
after_more w k lost deeds d mid =
    scene_made w.losing _ _ _ _ _ _ (sym (set_set w.nodes k mid d.after)) (entries_push lost deeds d w.chronicle) (ap (λ (xs : List Deed). xs ++ w.past) (reverse_push deeds d))

-- what was told stays so while the outputs of moves are lost
told_after : (lost : Bool) (chronicle more es : List Entry) → AreTold lost chronicle es → AreTold lost (reverse (entered lost more) ++ chronicle) es
told_after true chronicle more es h = h
told_after false chronicle more es h = tt

told_before : (lost : Bool) (chronicle : List Entry) (deeds : List Deed) (d : Deed) → AreTold lost chronicle (flat_map entries_of (deeds ++ d ∷ [])) → AreTold lost chronicle (flat_map entries_of deeds)
told_before true chronicle deeds d h = λ e c. let x = contains_from_flat entries_of deeds e c in h e (contains_flat entries_of (deeds ++ d ∷ []) x.0 e (Contains-append_left deeds (d ∷ []) x.0 x.1) x.2)
told_before false chronicle deeds d h = tt

told_last : (lost : Bool) (chronicle : List Entry) (deeds : List Deed) (d : Deed) → AreTold lost chronicle (flat_map entries_of (deeds ++ d ∷ [])) → AreTold lost chronicle d.effects.entries
told_last true chronicle deeds d h = λ e c. h e (contains_flat entries_of (deeds ++ d ∷ []) d e (Contains-append_right deeds (d ∷ []) d (contains_here d [])) c)
told_last false chronicle deeds d h = tt

-- of the entries of moves, those that submit are of the matters
abbrev pub SubmitOnly : ℕ → ℕ → List Act → List Deed → Type 0
SubmitOnly k t ms deeds = (id : ReqId) (m : Mutation) → Contains (flat_map entries_of deeds) (Submitted id m) → Submits k t ms id m

only_more : (k t : ℕ) (ms : List Act) (deeds : List Deed) (d : Deed) → SubmitOnly k t ms deeds → ((id : ReqId) (m : Mutation) → Contains d.effects.entries (Submitted id m) → Submits k t ms id m) → SubmitOnly k t ms (deeds ++ d ∷ [])
only_more k t ms deeds d before last id m c =
    let x = contains_from_flat entries_of (deeds ++ d ∷ []) (Submitted id m) c in
    elim (Contains-append_cases deeds (d ∷ []) x.0 x.1) [
      | inl old ↦ before id m (contains_flat entries_of deeds x.0 (Submitted id m) old x.2)
      | inr new ↦ last id m (subst (λ (y : Deed). Contains y.effects.entries (Submitted id m)) (sym (contains_one d x.0 new)) x.2)
    ]

-- what a node has yet to hear of its own was made
abbrev IsPending : List Deed → ℕ → Act → Type 0
IsPending past k (Rises time) = ⊥
IsPending past k (Hears m) = WasMade past k m
IsPending past k (Asks ask) = ⊥
IsPending past k (Marks peer up) = ⊥
IsPending past k (DeadlineComes id) = ⊥
IsPending past k (HintExpires peer number) = ⊥

abbrev ArePending : List Deed → ℕ → List Act → Type 0
ArePending past k acts = (a : Act) → Contains acts a → IsPending past k a

made_more : (past : List Deed) (d : Deed) (k : ℕ) (m : Incoming) → WasMade past k m → WasMade (d ∷ past) k m
made_more past d k m h = record { deed = h.deed; there = contains_there d past h.deed h.there; node = h.node; made = h.made }

pending_more : (past : List Deed) (d : Deed) (k : ℕ) (a : Act) → IsPending past k a → IsPending (d ∷ past) k a
pending_more past d k (Rises time) h = h
pending_more past d k (Hears m) h = made_more past d k m h
pending_more past d k (Asks ask) h = h
pending_more past d k (Marks peer up) h = h
pending_more past d k (DeadlineComes id) h = h
pending_more past d k (HintExpires peer number) h = h

-- what node me sends to itself, by a move of its own
own_pending : (past : List Deed) (d : Deed) (me : ℕ) (xs : List Outbound) → d.node ≡ me → ((x : Outbound) → Contains xs x → Contains d.effects.sends x) → ArePending (d ∷ past) me (own_sends me xs)
own_pending past d me [] mine within a h = absurd (contains_nil a h)
own_pending past d me (x ∷ xs) mine within a h =
    let rest = own_pending past d me xs mine (λ y c. within y (contains_there x xs y c)) in
    let first : (x.upto == me) ≡ true → WasMade (d ∷ past) me (record { from = me; born = x.born; request = x.request; body = x.body }) =
    λ here. record {
      deed = d;
      there = contains_here d past;
      node = mine;
      made = subst (λ (k : ℕ). Contains d.effects.sends (record { upto = k; born = x.born; request = x.request; body = x.body })) (eqb-true x.upto me here) (within x (contains_here x xs));
    } in
    elim (cases_Bool (x.upto == me)) [
      | inl here ↦
          elim (contains_cases (Hears (record { from = me; born = x.born; request = x.request; body = x.body })) (own_sends me xs) a
          (subst (λ (b : Bool). Contains (if b then Hears (record { from = me; born = x.born; request = x.request; body = x.body }) ∷ own_sends me xs else own_sends me xs) a) here h)) [
            | inl is ↦ subst (λ (b : Act). IsPending (d ∷ past) me b) is (first here)
            | inr more ↦ rest a more
          ]
      | inr away ↦ rest a (subst (λ (b : Bool). Contains (if b then Hears (record { from = me; born = x.born; request = x.request; body = x.body }) ∷ own_sends me xs else own_sends me xs) a) away h)
    ]

none_entered : (lost : Bool) (es : List Entry) → es ≡ reverse (entered lost []) ++ es
none_entered true es = refl
none_entered false es = refl

-- the matters of a step: what is due, and the event's own, which is something that another node made, a mark, or a request,
-- and then the last
abbrev pub AreMatters : List Deed → ℕ → List Act → Type 0
AreMatters past k [] = Unit {0}
AreMatters past k (Rises time ∷ ms) = ⊥
AreMatters past k (Hears m ∷ ms) = WasMade past k m × AreMatters past k ms
AreMatters past k (Asks ask ∷ ms) = ms ≡ []
AreMatters past k (Marks peer up ∷ ms) = AreMatters past k ms
AreMatters past k (DeadlineComes id ∷ ms) = AreMatters past k ms
AreMatters past k (HintExpires peer number ∷ ms) = AreMatters past k ms

-- a step whose time has risen: of the matters these are left, and where a request is among them none was taken
pub record Going (past : List Deed) (k t : ℕ) (ms : List Act) (deeds : List Deed) (s' : NodeState) (left : List Act) : Type 0 where
  pub risen : s'.risen ≡ t
  pub matters : AreMatters past k left
  pub within : (id : ReqId) (m : Mutation) → Submits k t left id m → Submits k t ms id m
  pub fresh : (ask : Ask) → Contains left (Asks ask) → (d : Deed) → Contains deeds d → (b : Ask) → d.act ≡ Asks b → ⊥

-- how far a step is: nothing was done, or the time has risen
pub data Stage (past : List Deed) (k t : ℕ) (ms : List Act) (s : NodeState) : List Deed → NodeState → List Act → List Act → Type 0 where
  at_start : Stage past k t ms s [] s [] (Rises t ∷ ms)
  going : (deeds : List Deed) (s' : NodeState) (pending left : List Act) → Going past k t ms deeds s' left → Stage past k t ms s deeds s' pending left

pub record Sofar (c : Setting) (w : Scene) (k : ℕ) (lost : Bool) (t : ℕ) (ms : List Act) (s : NodeState) (deeds : List Deed) (s' : NodeState) (pending left : List Act) : Type 0 where
  pub trace : Trace c (after w k lost deeds s')
  pub pending_made : ArePending (reverse deeds ++ w.past) k pending
  pub stage : Stage w.past k t ms s deeds s' pending left
  pub submitted : SubmitOnly k t ms deeds

moved_on : (c : Setting) (w : Scene) (k : ℕ) (lost : Bool) (s mid s' : NodeState) (deeds : List Deed) (a : Act) (o : Effects) → w.losing ≡ loser lost k → slice_get w.nodes k ≡ Some s → Trace c (after w k lost deeds mid)
    → MayTake (reverse deeds ++ w.past) k mid a → Does c k mid a o s' → AreTold lost w.chronicle o.entries → Trace c (after w k lost (deeds ++ record { node = k; act = a; before = mid; after = s'; effects = o } ∷ []) s')
moved_on c w k lost s mid s' deeds a o losing at trace may does told =
    let d : Deed = record { node = k; act = a; before = mid; after = s'; effects = o } in
    moved (after w k lost deeds mid) (after w k lost (deeds ++ d ∷ []) s') k lost d trace (record {
      losing = losing;
      at = set_get w.nodes k s mid at;
      mine = refl;
      may_take = may;
      does = does;
      told = told_after lost w.chronicle (flat_map entries_of deeds) o.entries told;
      scene = after_more w k lost deeds d mid;
    })

past_push : (w : Scene) (deeds : List Deed) (d : Deed) → d ∷ (reverse deeds ++ w.past) ≡ reverse (deeds ++ d ∷ []) ++ w.past
past_push w deeds d = ap (λ (xs : List Deed). xs ++ w.past) (sym (reverse_push deeds d))

-- what is pending behind one more move
pending_on : (w : Scene) (k : ℕ) (deeds : List Deed) (d : Deed) (pending : List Act) → d.node ≡ k → ArePending (reverse deeds ++ w.past) k pending
    → ArePending (reverse (deeds ++ d ∷ []) ++ w.past) k (pending ++ own_sends k d.effects.sends)
pending_on w k deeds d pending mine before = subst (λ (past : List Deed). ArePending past k (pending ++ own_sends k d.effects.sends)) (past_push w deeds d)
    (λ a h. elim (Contains-append_cases pending (own_sends k d.effects.sends) a h) [
      | inl old ↦ pending_more (reverse deeds ++ w.past) d k a (before a old)
      | inr new ↦ own_pending (reverse deeds ++ w.past) d k d.effects.sends mine (λ x c. c) a new
    ])

may_hear : (past : List Deed) (k : ℕ) (s : NodeState) (a : Act) → IsPending past k a → MayTake past k s a
may_hear past k s (Rises time) h = tt
may_hear past k s (Hears m) h = h
may_hear past k s (Asks ask) h = absurd h
may_hear past k s (Marks peer up) h = tt
may_hear past k s (DeadlineComes id) h = tt
may_hear past k s (HintExpires peer number) h = tt

-- what a node hears of its own submits nothing
pending_submits : (c : Setting) (past : List Deed) (k : ℕ) (s : NodeState) (a : Act) (o : Effects) (s' : NodeState) → IsPending past k a → Does c k s a o s' → SubmitNothing o.entries
pending_submits c past k s (Rises time) o s' h does = absurd h
pending_submits c past k s (Hears m) o s' h does = hears_submits c k m s o s' does
pending_submits c past k s (Asks ask) o s' h does = absurd h
pending_submits c past k s (Marks peer up) o s' h does = absurd h
pending_submits c past k s (DeadlineComes id) o s' h does = absurd h
pending_submits c past k s (HintExpires peer number) o s' h does = absurd h

nil_cons : {X : Type 0} (x : X) (xs : List X) → [] ≡ x ∷ xs → ⊥
nil_cons x xs e = cc

heads : (a b : Act) (xs ys : List Act) → a ∷ xs ≡ b ∷ ys → (a ≡ b) × (xs ≡ ys)
heads a b xs ys e = (cc, cc)

not_ask : (t : ℕ) (ask : Ask) → Rises t ≡ Asks ask → ⊥
not_ask t ask e = cc

-- ---- one matter more

steady_matter : (past : List Deed) (k : ℕ) (a : Act) (left : List Act) → AreMatters past k (a ∷ left) → IsSteady a
steady_matter past k (Rises time) left h = absurd h
steady_matter past k (Hears m) left h = tt
steady_matter past k (Asks ask) left h = tt
steady_matter past k (Marks peer up) left h = tt
steady_matter past k (DeadlineComes id) left h = tt
steady_matter past k (HintExpires peer number) left h = tt

steady_pending : (past : List Deed) (k : ℕ) (a : Act) → IsPending past k a → IsSteady a
steady_pending past k (Rises time) h = absurd h
steady_pending past k (Hears m) h = tt
steady_pending past k (Asks ask) h = absurd h
steady_pending past k (Marks peer up) h = absurd h
steady_pending past k (DeadlineComes id) h = absurd h
steady_pending past k (HintExpires peer number) h = absurd h

pending_asks_not : (past : List Deed) (k : ℕ) (a : Act) (b : Ask) → IsPending past k a → a ≡ Asks b → ⊥
pending_asks_not past k a b h is = subst (λ (x : Act). IsPending past k x) is h

left_matters : (past : List Deed) (k : ℕ) (a : Act) (left : List Act) → AreMatters past k (a ∷ left) → AreMatters past k left
left_matters past k (Rises time) left h = absurd h
left_matters past k (Hears m) left h = h.1
left_matters past k (Asks ask) left h = subst (λ (xs : List Act). AreMatters past k xs) (sym h) tt
left_matters past k (Marks peer up) left h = h
left_matters past k (DeadlineComes id) left h = h
left_matters past k (HintExpires peer number) left h = h

left_submits : (past : List Deed) (k t : ℕ) (a : Act) (left : List Act) → AreMatters past k (a ∷ left) → (id : ReqId) (m : Mutation) → Submits k t left id m → Submits k t (a ∷ left) id m
left_submits past k t (Rises time) left h id m x = absurd h
left_submits past k t (Hears n) left h id m x = x
left_submits past k t (Asks ask) left h id m x = absurd (subst (λ (xs : List Act). Submits k t xs id m) h x)
left_submits past k t (Marks peer up) left h id m x = x
left_submits past k t (DeadlineComes r) left h id m x = x
left_submits past k t (HintExpires peer number) left h id m x = x

this_submits : (past : List Deed) (k t : ℕ) (a : Act) (left : List Act) → AreMatters past k (a ∷ left) → (id : ReqId) (m : Mutation) → Submits k t (a ∷ []) id m → Submits k t (a ∷ left) id m
this_submits past k t (Rises time) left h id m x = absurd h
this_submits past k t (Hears n) left h id m x = absurd x
this_submits past k t (Asks ask) left h id m x = x
this_submits past k t (Marks peer up) left h id m x = absurd x
this_submits past k t (DeadlineComes r) left h id m x = absurd x
this_submits past k t (HintExpires peer number) left h id m x = absurd x

-- behind a request no matter is left
last_ask : (past : List Deed) (k : ℕ) (a : Act) (left : List Act) (b : Ask) → AreMatters past k (a ∷ left) → a ≡ Asks b → left ≡ []
last_ask past k a left b h is = subst (λ (x : Act). AreMatters past k (x ∷ left)) is h

may_take_own : (c : Setting) (w : Scene) (k t : ℕ) (ms : List Act) (s : NodeState) (deeds : List Deed) (mid : NodeState) (a : Act) (left : List Act) → Trace c w → slice_get w.nodes k ≡ Some s → s.time < t → Going w.past k t ms deeds mid (a ∷ left)
    → AreMatters w.past k (a ∷ left) → ((ask : Ask) → a ≡ Asks ask → Contains (a ∷ left) (Asks ask)) → MayTake (reverse deeds ++ w.past) k mid a
may_take_own c w k t ms s deeds mid (Rises time) left trace at later g h here = tt
may_take_own c w k t ms s deeds mid (Hears m) left trace at later g h here = record { deed = h.0.deed; there = Contains-append_right (reverse deeds) w.past h.0.deed h.0.there; node = h.0.node; made = h.0.made }
may_take_own c w k t ms s deeds mid (Asks ask) left trace at later g h here = λ x there asked.
    elim (Contains-append_cases (reverse deeds) w.past x there) [
      | inl new ↦ g.fresh ask (here ask refl) x (from_reverse deeds x new) asked.2.0 asked.2.1
      | inr old ↦
          let before = (timely c w trace).passed x old s (subst (λ (j : ℕ). slice_get w.nodes j ≡ Some s) (sym asked.0) at) in
          let below = ((timely c w trace).risen k s at).risen in
          let same : x.before.risen ≡ t = asked.1 ∙ g.risen in
          absurd (omega (arith, before, below, same, later))
    ]
may_take_own c w k t ms s deeds mid (Marks peer up) left trace at later g h here = tt
may_take_own c w k t ms s deeds mid (DeadlineComes id) left trace at later g h here = tt
may_take_own c w k t ms s deeds mid (HintExpires peer number) left trace at later g h here = tt

-- what a chain of moves starts from
pub record Starts (c : Setting) (w : Scene) (k : ℕ) (lost : Bool) (t : ℕ) (ms : List Act) (s : NodeState) : Type 0 where
  pub trace : Trace c w
  pub losing : w.losing ≡ loser lost k
  pub at : slice_get w.nodes k ≡ Some s
  pub later : s.time < t
  pub matter : AreMatters w.past k ms

-- the first move of a step: its time rises
sofar_rises : (c : Setting) (w : Scene) (k : ℕ) (lost : Bool) (t : ℕ) (ms : List Act) (s s' : NodeState) (o : Effects) → Starts c w k lost t ms s
    → Sofar c w k lost t ms s [] s [] (Rises t ∷ ms) → Does c k s (Rises t) o s' → AreTold lost w.chronicle o.entries
    → Sofar c w k lost t ms s (record { node = k; act = Rises t; before = s; after = s'; effects = o } ∷ []) s' (own_sends k o.sends) ms
sofar_rises c w k lost t ms s s' o start prev does told =
    let d : Deed = record { node = k; act = Rises t; before = s; after = s'; effects = o } in
    record {
      trace = moved_on c w k lost s s s' [] (Rises t) o start.losing start.at prev.trace tt does told;
      pending_made = pending_on w k [] d [] refl (λ a h. absurd (contains_nil a h));
      stage = going (d ∷ []) s' (own_sends k o.sends) ms (record {
        risen = ap (λ (x : NodeState). x.risen) does.2;
        matters = start.matter;
        within = λ id m h. h;
        fresh = λ ask h x there b is. not_ask t b (subst (λ (y : Deed). y.act ≡ Asks b) (sym (contains_one d x there)) is);
      });
      submitted = only_more k t ms [] d prev.submitted (λ id m h. absurd (rises_submits c k t s o s' does id m h));
    }

-- a matter is taken
sofar_matter : (c : Setting) (w : Scene) (k : ℕ) (lost : Bool) (t : ℕ) (ms : List Act) (s : NodeState) (deeds : List Deed) (mid s' : NodeState) (a : Act) (left : List Act) (o : Effects) → Starts c w k lost t ms s
    → Sofar c w k lost t ms s deeds mid [] (a ∷ left) → Going w.past k t ms deeds mid (a ∷ left) → Does c k mid a o s' → AreTold lost w.chronicle o.entries
    → Sofar c w k lost t ms s (deeds ++ record { node = k; act = a; before = mid; after = s'; effects = o } ∷ []) s' (own_sends k o.sends) left
sofar_matter c w k lost t ms s deeds mid s' a left o start prev g does told =
    let d : Deed = record { node = k; act = a; before = mid; after = s'; effects = o } in
    record {
      trace = moved_on c w k lost s mid s' deeds a o start.losing start.at prev.trace
          (may_take_own c w k t ms s deeds mid a left start.trace start.at start.later g g.matters (λ ask is. subst (λ (x : Act). Contains (a ∷ left) x) is (contains_here a left))) does told;
      pending_made = pending_on w k deeds d [] refl (λ b h. absurd (contains_nil b h));
      stage = going (deeds ++ d ∷ []) s' (own_sends k o.sends) left (record {
        risen = (does_at_once c k mid a o s' (steady_matter w.past k a left g.matters) does).risen ∙ g.risen;
        matters = left_matters w.past k a left g.matters;
        within = λ id m h. g.within id m (left_submits w.past k t a left g.matters id m h);
        fresh = λ ask h x there b is. elim (Contains-append_cases deeds (d ∷ []) x there) [
          | inl old ↦ g.fresh ask (contains_there a left (Asks ask) h) x old b is
          | inr new ↦ contains_nil (Asks ask) (subst (λ (xs : List Act). Contains xs (Asks ask)) (last_ask w.past k a left b g.matters (subst (λ (y : Deed). y.act ≡ Asks b) (sym (contains_one d x new)) is)) h)
        ];
      });
      submitted = only_more k t ms deeds d prev.submitted (λ id m h. g.within id m (this_submits w.past k t a left g.matters id m (matter_submits c k t a mid o s' g.risen does id m h)));
    }

-- what a node hears of its own is taken
stage_own : (c : Setting) (past newer : List Deed) (k t : ℕ) (ms : List Act) (s : NodeState) (deeds : List Deed) (mid s' : NodeState) (a : Act) (p pending left : List Act) (o : Effects)
    → Stage past k t ms s deeds mid p left → p ≡ a ∷ pending → IsPending newer k a → Does c k mid a o s' → Going past k t ms (deeds ++ record { node = k; act = a; before = mid; after = s'; effects = o } ∷ []) s' left
stage_own c past newer k t ms s _ _ s' a _ pending _ o at_start e mine does = absurd (nil_cons a pending e)
stage_own c past newer k t ms s _ _ s' a _ pending _ o (going deeds mid p left g) e mine does = record {
  risen = (does_at_once c k mid a o s' (steady_pending newer k a mine) does).risen ∙ g.risen;
  matters = g.matters;
  within = g.within;
  fresh = λ ask h x there b is. elim (Contains-append_cases deeds _ x there) [
    | inl old ↦ g.fresh ask h x old b is
    | inr new ↦ pending_asks_not newer k a b mine (subst (λ (y : Deed). y.act ≡ Asks b) (sym (contains_one _ x new)) is)
  ];
}

sofar_next : (c : Setting) (w : Scene) (k : ℕ) (lost : Bool) (t : ℕ) (ms : List Act) (s : NodeState) (deeds : List Deed) (mid s' : NodeState) (a : Act) (p left l : List Act) (o : Effects) → Starts c w k lost t ms s
    → Sofar c w k lost t ms s deeds mid p l → Stage w.past k t ms s deeds mid p l → p ≡ [] → l ≡ a ∷ left → Does c k mid a o s' → AreTold lost w.chronicle o.entries
    → Sofar c w k lost t ms s (deeds ++ record { node = k; act = a; before = mid; after = s'; effects = o } ∷ []) s' (own_sends k o.sends) left
sofar_next c w k lost t ms s _ _ s' a _ left _ o start prev at_start none e does told =
    let h = heads (Rises t) a ms left e in
    subst (λ (b : Act). Sofar c w k lost t ms s (record { node = k; act = b; before = s; after = s'; effects = o } ∷ []) s' (own_sends k o.sends) left) h.0
    (subst (λ (xs : List Act). Sofar c w k lost t ms s (record { node = k; act = Rises t; before = s; after = s'; effects = o } ∷ []) s' (own_sends k o.sends) xs) h.1
    (sofar_rises c w k lost t ms s s' o start prev (subst (λ (b : Act). Does c k s b o s') (sym h.0) does) told))
sofar_next c w k lost t ms s _ _ s' a _ left _ o start prev (going deeds mid p l g) none e does told =
    sofar_matter c w k lost t ms s deeds mid s' a left o start
    (subst (λ (xs : List Act). Sofar c w k lost t ms s deeds mid xs (a ∷ left)) none (subst (λ (xs : List Act). Sofar c w k lost t ms s deeds mid p xs) e prev))
    (subst (λ (xs : List Act). Going w.past k t ms deeds mid xs) e g) does told

pub sofar : (c : Setting) (w : Scene) (k : ℕ) (lost : Bool) (t : ℕ) (ms : List Act) (s : NodeState) → Starts c w k lost t ms s
    → (deeds : List Deed) (s' : NodeState) (pending left : List Act) → Chain c k s (Rises t ∷ ms) deeds s' pending left → AreTold lost w.chronicle (flat_map entries_of deeds) → Sofar c w k lost t ms s deeds s' pending left
sofar c w k lost t ms s start _ _ _ _ begun told = record {
  trace = subst (λ (x : Scene). Trace c x) (scene_made w.losing _ _ _ _ _ _ (sym (set_same w.nodes k s start.at)) (none_entered lost w.chronicle) refl) start.trace;
  pending_made = λ a h. absurd (contains_nil a h);
  stage = at_start;
  submitted = λ id m h. absurd (contains_nil _ h);
}
sofar c w k lost t ms s start _ _ _ _ (own deeds mid s' a pending left o chain does) told =
    let d : Deed = record { node = k; act = a; before = mid; after = s'; effects = o } in
    let prev = sofar c w k lost t ms s start deeds mid (a ∷ pending) left chain (told_before lost w.chronicle deeds d told) in
    let mine = prev.pending_made a (contains_here a pending) in
    record {
      trace = moved_on c w k lost s mid s' deeds a o start.losing start.at prev.trace (may_hear (reverse deeds ++ w.past) k mid a mine) does (told_last lost w.chronicle deeds d told);
      pending_made = pending_on w k deeds d pending refl (λ b h. prev.pending_made b (contains_there a pending b h));
      stage = going (deeds ++ d ∷ []) s' (pending ++ own_sends k o.sends) left (stage_own c w.past (reverse deeds ++ w.past) k t ms s deeds mid s' a (a ∷ pending) pending left o prev.stage refl mine does);
      submitted = only_more k t ms deeds d prev.submitted (λ id m h. absurd (pending_submits c (reverse deeds ++ w.past) k mid a o s' mine does id m h));
    }
sofar c w k lost t ms s start _ _ _ _ (matter deeds mid s' a left o chain does) told =
    let d : Deed = record { node = k; act = a; before = mid; after = s'; effects = o } in
    let prev = sofar c w k lost t ms s start deeds mid [] (a ∷ left) chain (told_before lost w.chronicle deeds d told) in
    sofar_next c w k lost t ms s deeds mid s' a [] left (a ∷ left) o start prev prev.stage refl refl does (told_last lost w.chronicle deeds d told)
