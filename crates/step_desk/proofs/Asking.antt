-- What comes of a request at the first node of a cluster, as its chronicle tells it.
use Rattle.std.proofs.Common.{◌≡◌, ℕ, inl, inr, Bool, true, false, cond, Option, Some, None, Result, Ok, Err, List, [], ◌∷◌, ◌++◌, reverse, refl, sym, ap, subst, ◌∙◌, Contains}
use Rattle.std.specs.Prelude.{find, filter, option_and_then, slice_get}
use Rattle.std.specs.List.{flat_map}
use Rattle.std.specs.Option.{option_or}
use Rattle.std.proofs.lemmas.List.{reverse-append}
use Rattle.std.proofs.lemmas.List.Folds.{find-append}
use Rattle.cs_base.proofs.Members.{contains_here, contains_there}
use Rattle.cs_base.specs.declared.ids.ReqId.{ReqId}
use Rattle.peer_messages.specs.declared.event.Ask.{Ask}
use Rattle.peer_messages.specs.declared.event.What.TheVariants.{Client}
use Rattle.peer_messages.specs.declared.chronicle.Entry.{Entry}
use Rattle.peer_messages.specs.declared.chronicle.Entry.TheVariants.{Asked, Marks, Time}
use Rattle.peer_messages.specs.declared.chronicle.Invalid.TheVariants.{PartitionTooLarge}
use Rattle.peer_messages.specs.declared.chronicle.Refusal.{Refusal}
use Rattle.peer_messages.specs.declared.chronicle.Refusal.TheVariants.{Overloaded, Invalid}
use Rattle.peer_messages.specs.declared.outcome.Outputs.{Outputs}
use Rattle.node_steps.specs.State.{NodeState}
use Rattle.node_steps.specs.Acts.{request_at}
use Rattle.node_steps.specs.Steps.{time_after, entries_of}
use Rattle.node_steps.specs.Stops.{is_entered_at_stop, remains_in}
use Rattle.cluster_runs.specs.Run.{alive_in, closing, failure, entered_by, entered_at_stop}
use Rattle.cluster_model.specs.State.{Showing, Up, Off, Site, ClusterState, is_up, runs_of, runs_at}
use Rattle.cluster_model.specs.Takes.{Takes, ComesAt, ComesBy, StepsAt, StopsAt, event_at, turned_away}
use Rattle.cluster_model.specs.declared.event.ClusterEvent.TheVariants as event
use Rattle.step_desk.specs.Outcomes.{outcome_by, is_outcome, outcome, named_by}
use Rattle.step_desk.specs.Calls.{IsNamed, AsksNode}
use Rattle.step_desk.proofs.Plain.{ArePlain, plain_append, deeds_plain}

-- ---- lists

plain_none : (es : List Entry) → ArePlain es → find is_outcome es ≡ None
plain_none [] h = refl
plain_none (e ∷ es) h = ap (λ (b : Bool). cond b (Some e) (find is_outcome es)) h.0 ∙ plain_none es h.1

plain_reverse : (es : List Entry) → ArePlain es → ArePlain (reverse es)
plain_reverse [] h = tt
plain_reverse (e ∷ es) h = subst (λ (xs : List Entry). ArePlain xs) (sym (reverse-append (e ∷ []) es)) (plain_append (reverse es) (e ∷ []) (plain_reverse es h.1) (h.0, tt))

plain_filter : (es : List Entry) → ArePlain es → ArePlain (filter is_entered_at_stop es)
plain_filter [] h = tt
plain_filter (e ∷ es) h = by (is_entered_at_stop e) (plain_filter es h.1)
  where
    by : (b : Bool) → ArePlain (filter is_entered_at_stop es) → ArePlain (cond b (e ∷ filter is_entered_at_stop es) (filter is_entered_at_stop es))
    by true rest = (h.0, rest)
    by false rest = rest

closing_plain : (k : ℕ) (n : Option ℕ) → ArePlain (closing k n)
closing_plain k None = tt
closing_plain k (Some n) = (refl, tt)

failure_plain : (k : ℕ) (b : Bool) → ArePlain (failure b k)
failure_plain k true = (refl, tt)
failure_plain k false = tt

found_in : (xs : List Entry) (e : Entry) → find is_outcome xs ≡ Some e → Contains xs e
found_in [] e h = cc
found_in (x ∷ xs) e h = by (is_outcome x) h (λ k. found_in xs e k)
  where
    by : (b : Bool) → cond b (Some x) (find is_outcome xs) ≡ Some e → (find is_outcome xs ≡ Some e → Contains xs e) → Contains (x ∷ xs) e
    by true k rest = subst (λ (y : Entry). Contains (x ∷ xs) y) (let same : x ≡ e = cc in same) (contains_here x xs)
    by false k rest = contains_there x xs e (rest k)

first_begun : (id : ReqId) (rest : List Entry) → ArePlain rest → find is_outcome (reverse (Asked (Some id) ∷ rest)) ≡ Some (Asked (Some id))
first_begun id rest plain =
    ap (λ (xs : List Entry). find is_outcome xs) (reverse-append (Asked (Some id) ∷ []) rest)
    ∙ find-append is_outcome (reverse rest) (Asked (Some id) ∷ [])
    ∙ ap (λ (o : Option Entry). option_or o (Some (Asked (Some id)))) (plain_none (reverse rest) (plain_reverse rest plain))

-- ---- a request that its node began

record IsBegun (v : ClusterState) (id : ReqId) (v' : ClusterState) : Type 0 where
  pub entered : List Entry
  pub chronicle : v'.chronicle ≡ entered ++ v.chronicle
  pub found : find is_outcome entered ≡ Some (Asked (Some id))

begun_named : (v v' : ClusterState) (id : ReqId) → IsBegun v id v' → IsNamed v id v'
begun_named v v' id h = record { entered = h.entered; chronicle = h.chronicle; named = found_in h.entered (Asked (Some id)) h.found }

begun_told : (v v' : ClusterState) (id : ReqId) → IsBegun v id v' → outcome v'.chronicle ≡ Some (Ok id)
begun_told v v' id h =
    ap outcome h.chronicle
    ∙ ap (λ (f : Option Entry). option_and_then outcome_by f)
    (find-append is_outcome h.entered v.chronicle ∙ ap (λ (f : Option Entry). option_or f (find is_outcome v.chronicle)) h.found)

steps_begin : (v v' : ClusterState) (site : Site) (s : NodeState) (ask : Ask) → StepsAt v 0 site s (Client ask) v'
    → (id : ReqId) × IsBegun v id v'
steps_begin v v' site s ask h =
    let id = request_at 0 (time_after s (event_at site.clock (Client ask))) in (
      id,
      record {
        entered = reverse (entered_by v.setting 0 h.outputs h.after);
        chronicle = ap (λ (w : ClusterState). w.chronicle) h.state;
        found = subst (λ (o : Outputs). find is_outcome (reverse (entered_by v.setting 0 o h.after)) ≡ Some (Asked (Some id))) (sym h.step.outputs)
            (first_begun id (Marks 0 (alive_in v.setting h.after) ∷ Time 0 h.after.time ∷ (flat_map entries_of h.deeds ++ closing 0 h.outputs.tables)) (
              refl,
              (
                refl,
                plain_append (flat_map entries_of h.deeds) (closing 0 h.outputs.tables)
                    (deeds_plain v.setting 0 s _ h.deeds h.after [] [] h.step.moves) (closing_plain 0 h.outputs.tables),
              ),
            ));
      },
    )

stops_begin : (v v' : ClusterState) (site : Site) (s : NodeState) (ask : Ask) → StopsAt v 0 site s (Client ask) v'
    → (id : ReqId) × IsBegun v id v'
stops_begin v v' site s ask h =
    let id = request_at 0 (time_after s (event_at site.clock (Client ask))) in (
      id,
      record {
        entered = reverse (entered_at_stop 0 (remains_in 0 s (event_at site.clock (Client ask)) h.deeds) h.failed);
        chronicle = ap (λ (w : ClusterState). w.chronicle) h.state;
        found = first_begun id (filter is_entered_at_stop (flat_map entries_of h.deeds) ++ failure h.failed 0)
            (plain_append (filter is_entered_at_stop (flat_map entries_of h.deeds)) (failure h.failed 0)
            (plain_filter (flat_map entries_of h.deeds) (deeds_plain v.setting 0 s _ h.deeds h.cut.reached h.cut.pending h.cut.left h.cut.moves))
            (failure_plain 0 h.failed));
      },
    )

-- ---- what is answered

finish : (v v' : ClusterState) (ask : Ask) (runs b : Bool) (o x : Option (Result ReqId Refusal)) → runs ≡ b → o ≡ x → AsksNode v ask (named_by b x) v' → AsksNode v ask (named_by runs o) v'
finish v v' ask runs b o x eb ex h =
    subst (λ (c : Bool). AsksNode v ask (named_by c o) v') (sym eb) (subst (λ (y : Option (Result ReqId Refusal)). AsksNode v ask (named_by b y) v') (sym ex) h)

when_begun : (v v' : ClusterState) (ask : Ask) (runs : Bool) (o : Option (Result ReqId Refusal)) → Takes v (event.Ask 0 ask) v' → runs ≡ true → o ≡ outcome v'.chronicle
    → (id : ReqId) × IsBegun v id v' → AsksNode v ask (named_by runs o) v'
when_begun v v' ask runs o takes up at h = finish v v' ask runs true o (Some (Ok h.0)) up (at ∙ begun_told v v' h.0 h.1) (takes, begun_named v v' h.0 h.1)

when_turned : (v v' : ClusterState) (ask : Ask) (runs : Bool) (o : Option (Result ReqId Refusal)) (refusal : Refusal) → Takes v (event.Ask 0 ask) v' → runs ≡ true → o ≡ outcome v'.chronicle
    → v' ≡ turned_away v 0 (Client ask) refusal → AsksNode v ask (named_by runs o) v'
when_turned v v' ask runs o refusal takes up at h =
    finish v v' ask runs true o (Some (Err refusal)) up (at ∙ ap (λ (w : ClusterState). outcome w.chronicle) h) (takes, inl (ap (λ (w : ClusterState). w.chronicle) h))

by_node : (v v' : ClusterState) (ask : Ask) (runs : Bool) (o : Option (Result ReqId Refusal)) (site : Site) (n : Showing) → Takes v (event.Ask 0 ask) v' → runs ≡ is_up n → o ≡ outcome v'.chronicle
    → ComesBy v 0 site n (Client ask) v' → AsksNode v ask (named_by runs o) v'
by_node v v' ask runs o site Off takes up at h = finish v v' ask runs false o o up refl (takes, inl (ap (λ (w : ClusterState). w.chronicle) h))
by_node v v' ask runs o site (Up s) takes up at h = elim h [
  | inl steps ↦ when_begun v v' ask runs o takes up at (steps_begin v v' site s ask steps)
  | inr other ↦ elim other [
    | inl stops ↦ when_begun v v' ask runs o takes up at (stops_begin v v' site s ask stops)
    | inr refused ↦ elim refused [
      | inl full ↦ when_turned v v' ask runs o Overloaded takes up at full.1.state
      | inr large ↦ when_turned v v' ask runs o (Invalid PartitionTooLarge) takes up at large.1.state
    ]
  ]
]

by_site : (v v' : ClusterState) (ask : Ask) (runs : Bool) (o : Option (Result ReqId Refusal)) (site : Option Site) → slice_get v.sites 0 ≡ site → Takes v (event.Ask 0 ask) v' → runs ≡ runs_of site → o ≡ outcome v'.chronicle
    → ComesAt v 0 (Client ask) site v' → AsksNode v ask (named_by runs o) v'
by_site v v' ask runs o None none takes up at h = finish v v' ask runs false o o up refl (takes, inr (none, refl))
by_site v v' ask runs o (Some site) there takes up at h = by_node v v' ask runs o site site.node takes up at h

pub asks_node : (v v' : ClusterState) (ask : Ask) (runs : Bool) (o : Option (Result ReqId Refusal)) → runs ≡ runs_at v 0 → Takes v (event.Ask 0 ask) v' → o ≡ outcome v'.chronicle → AsksNode v ask (named_by runs o) v'
asks_node v v' ask runs o up takes at = by_site v v' ask runs o (slice_get v.sites 0) refl takes up at takes
