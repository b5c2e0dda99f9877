-- One move more: what was known is carried on, and what is new is known.
use Rattle.std.proofs.Common.{◌≡◌, ℕ, inl, inr, Bool, true, false, Some, List, [], ◌∷◌, ◌++◌, refl, sym, ap, subst, ◌∙◌, Contains, reverse}
use Rattle.std.specs.Prelude.{slice_get, slice_set}
use Rattle.std.proofs.lemmas.List.Elements.{Contains-append_cases}
use Rattle.cs_base.proofs.Slots.{get_set}
use Rattle.cs_base.proofs.Members.{contains_nil, contains_cases, contains_here, contains_there, contains_map, contains_from_map, from_reverse}
use Rattle.changes.specs.declared.Partition.{Partition}
use Rattle.changes.specs.declared.Held.{Held}
use Rattle.peer_messages.specs.declared.chronicle.Entry.{Entry}
use Rattle.peer_messages.specs.declared.chronicle.Entry.TheVariants.{Asked, Submitted, Acked, Refused, Used, Began, Rows, Marks, Time, Turned, Tables, Stopped}
use Rattle.peer_messages.specs.declared.outcome.Outbound.{Outbound}
use Rattle.peer_messages.specs.declared.setting.Setting.{Setting}
use Rattle.durable_state.specs.State.{Durable, change_of, changes_of, Holds, IsSameKept}
use Rattle.node_steps.specs.State.{NodeState, durable_of, loaded}
use Rattle.node_steps.specs.Effects.{Effects}
use Rattle.node_steps.specs.Acts.{Act, Deed}
use Rattle.cluster_runs.specs.Trace.{Scene, entered, forgetting}
use Rattle.read_consistency.proofs.Facts.{Reaches}
use Rattle.read_consistency.proofs.Step.{deed_of, with_entry, waking}
use Rattle.read_consistency.proofs.Cases.{next}
use Rattle.reads_forward.specs.ReadsForward.{GoesForward, ReadsForward}
use Rattle.reads_forward.proofs.Facts.{BodyAhead, NodeAhead, EntryAhead, Ahead}
use Rattle.reads_forward.proofs.Grows.{Grown, FollowOn, Grows, follows_itself, body_on, node_on, answer_on, AreNew, IsNew, starts_kept, begins_kept}

nodes_grow : (w : Scene) (k : ℕ) (s s' : NodeState) → slice_get w.nodes k ≡ Some s → Grown s s' → FollowOn w.past s.reads s'.reads → (j : ℕ) (r' : NodeState) → slice_get (slice_set w.nodes k s') j ≡ Some r'
    → (r : NodeState) × (slice_get w.nodes j ≡ Some r) × Grown r r' × FollowOn w.past r.reads r'.reads
nodes_grow w k s s' at more follow j r' h = elim (get_set w.nodes k s' j r' h) [
  | inl (here, is) ↦ (s, subst (λ (i : ℕ). slice_get w.nodes i ≡ Some s) (sym here) at, subst (λ (v : NodeState). Grown s v) (sym is) more, subst (λ (v : NodeState). FollowOn w.past s.reads v.reads) (sym is) follow)
  | inr (away, old) ↦ (r', old, (λ p x r. r), follows_itself w.past r'.reads)
]

-- what comes into the chronicle was made
pub in_entered : (lost : Bool) (es : List Entry) (e : Entry) → Contains (reverse (entered lost es)) e → Contains es e
in_entered true es e h = absurd (contains_nil e h)
in_entered false es e h = from_reverse es e h

pub next_grows : (w : Scene) (k : ℕ) (lost : Bool) (a : Act) (s : NodeState) (o : Effects) (s' : NodeState) → slice_get w.nodes k ≡ Some s → Grown s s' → FollowOn w.past s.reads s'.reads → AreNew w.past o.entries → Grows w (next w k lost a s o s')
next_grows w k lost a s o s' at more follow new =
    let come : AreNew w.past (reverse (entered lost o.entries)) = λ e there. new e (in_entered lost o.entries e there) in
    record {
      past = λ d h. contains_there _ w.past d h;
      begins = λ id q l v b h. begins_kept w.past (reverse (entered lost o.entries)) w.chronicle id q l v come b h;
      starts = λ id x b h. starts_kept w.past (reverse (entered lost o.entries)) w.chronicle id x come b h;
      nodes = nodes_grow w k s s' at more follow;
    }

bodies_ahead : (c : Setting) (w w' : Scene) (k : ℕ) (d : Deed) → Grows w w' → Ahead c w → d.node ≡ k → ((x : Outbound) → Contains d.effects.sends x → BodyAhead w' k x.request x.body)
    → (b : Deed) → Contains (d ∷ w.past) b → (x : Outbound) → Contains b.effects.sends x → BodyAhead w' b.node x.request x.body
bodies_ahead c w w' k d g e mine new b h x there = elim (contains_cases d w.past b h) [
  | inl here ↦
      let node : k ≡ b.node = sym mine ∙ ap (λ (v : Deed). v.node) here in
      subst (λ (j : ℕ). BodyAhead w' j x.request x.body) node (new x (subst (λ (v : Deed). Contains v.effects.sends x) (sym here) there))
  | inr old ↦ body_on c w w' g e b.node x.request x.body (e.bodies b old x there)
]

nodes_ahead : (c : Setting) (w w' : Scene) (k : ℕ) (s' : NodeState) → Grows w w' → Ahead c w → w'.nodes ≡ slice_set w.nodes k s' → NodeAhead c w' k s' → (j : ℕ) (r : NodeState) → slice_get w'.nodes j ≡ Some r → NodeAhead c w' j r
nodes_ahead c w w' k s' g e is new j r h = elim (get_set w.nodes k s' j r (subst (λ (ns : List NodeState). slice_get ns j ≡ Some r) is h)) [
  | inl (here, same) ↦ subst (λ (i : ℕ). NodeAhead c w' i r) (sym here) (subst (λ (v : NodeState). NodeAhead c w' k v) (sym same) new)
  | inr (away, old) ↦ node_on c w w' g e j r (e.nodes j r old)
]

pub next_ahead : (c : Setting) (w : Scene) (k : ℕ) (lost : Bool) (a : Act) (s : NodeState) (o : Effects) (s' : NodeState) → Ahead c w → Grows w (next w k lost a s o s') → NodeAhead c (next w k lost a s o s') k s'
    → ((x : Outbound) → Contains o.sends x → BodyAhead (next w k lost a s o s') k x.request x.body) → ((x : Entry) → Contains (reverse (entered lost o.entries)) x → EntryAhead c (next w k lost a s o s') x)
    → ReadsForward c (reverse (entered lost o.entries) ++ w.chronicle) → Ahead c (next w k lost a s o s')
next_ahead c w k lost a s o s' e g node bodies entries forward =
    let w' = next w k lost a s o s' in
    record {
      nodes = nodes_ahead c w w' k s' g e refl node;
      bodies = bodies_ahead c w w' k (deed_of k a s s' o) g e refl bodies;
      entries = λ x h. elim (Contains-append_cases (reverse (entered lost o.entries)) w.chronicle x h) [
        | inl new ↦ entries x new
        | inr old ↦ answer_on c w w' g x (e.entries x old)
      ];
      forward = forward;
    }

-- ---- entries that neither begin nor answer a read

abbrev pub IsPlain : Entry → Type 0
IsPlain (Began id q l v) = ⊥
IsPlain (Rows r rows more grounds) = ⊥
IsPlain (Submitted id m) = Unit {0}
IsPlain (Used r keyspace) = Unit {0}
IsPlain (Acked id l heard) = Unit {0}
IsPlain (Asked r) = Unit {0}
IsPlain (Refused r refusal) = Unit {0}
IsPlain (Marks k alive) = Unit {0}
IsPlain (Time k t) = Unit {0}
IsPlain (Turned k refusal) = Unit {0}
IsPlain (Tables k n) = Unit {0}
IsPlain (Stopped k) = Unit {0}

abbrev pub ArePlain : List Entry → Type 0
ArePlain es = (e : Entry) → Contains es e → IsPlain e

-- such an entry is new, and there is nothing to know of it
record Plain (c : Setting) (w w' : Scene) (e : Entry) : Type 0 where
  new : IsNew w.past e
  ahead : EntryAhead c w' e
  forward : (earlier : List Entry) → GoesForward c earlier e

plain : (c : Setting) (w w' : Scene) (e : Entry) → IsPlain e → Plain c w w' e
plain c w w' (Began id q l v) h = absurd h
plain c w w' (Rows r rows more grounds) h = absurd h
plain c w w' (Submitted id m) h = record { new = tt; ahead = tt; forward = λ earlier. tt }
plain c w w' (Used r keyspace) h = record { new = tt; ahead = tt; forward = λ earlier. tt }
plain c w w' (Acked id l heard) h = record { new = tt; ahead = tt; forward = λ earlier. tt }
plain c w w' (Asked r) h = record { new = tt; ahead = tt; forward = λ earlier. tt }
plain c w w' (Refused r refusal) h = record { new = tt; ahead = tt; forward = λ earlier. tt }
plain c w w' (Marks k alive) h = record { new = tt; ahead = tt; forward = λ earlier. tt }
plain c w w' (Time k t) h = record { new = tt; ahead = tt; forward = λ earlier. tt }
plain c w w' (Turned k refusal) h = record { new = tt; ahead = tt; forward = λ earlier. tt }
plain c w w' (Tables k n) h = record { new = tt; ahead = tt; forward = λ earlier. tt }
plain c w w' (Stopped k) h = record { new = tt; ahead = tt; forward = λ earlier. tt }

pub plain_new : (c : Setting) (w : Scene) (es : List Entry) → ArePlain es → AreNew w.past es
plain_new c w es h e there = (plain c w w e (h e there)).new

plain_forward : (c : Setting) (w : Scene) (es earlier : List Entry) → ArePlain es → ReadsForward c earlier → ReadsForward c (es ++ earlier)
plain_forward c w [] earlier h forward = forward
plain_forward c w (e ∷ es) earlier h forward = ((plain c w w e (h e (contains_here e es))).forward (es ++ earlier), plain_forward c w es earlier (λ x there. h x (contains_there e es x there)) forward)

-- a move whose entries are plain
pub plain_next : (c : Setting) (w : Scene) (k : ℕ) (lost : Bool) (a : Act) (s : NodeState) (o : Effects) (s' : NodeState) → Ahead c w → ArePlain o.entries → Grows w (next w k lost a s o s') → NodeAhead c (next w k lost a s o s') k s'
    → ((x : Outbound) → Contains o.sends x → BodyAhead (next w k lost a s o s') k x.request x.body) → Ahead c (next w k lost a s o s')
plain_next c w k lost a s o s' e are g node bodies =
    let come : ArePlain (reverse (entered lost o.entries)) = λ x there. are x (in_entered lost o.entries x there) in
    next_ahead c w k lost a s o s' e g node bodies (λ x there. (plain c w (next w k lost a s o s') x (come x there)).ahead) (plain_forward c w (reverse (entered lost o.entries)) w.chronicle come e.forward)

-- ---- entries that no move makes

pub entry_ahead : (c : Setting) (w : Scene) (x : Entry) → Ahead c w → IsPlain x → Ahead c (with_entry w x)
entry_ahead c w x e is =
    let w' = with_entry w x in
    let known = plain c w w' x is in
    let come : AreNew w.past (x ∷ []) = λ y there. elim (contains_cases x [] y there) [ inl here ↦ subst (IsNew w.past) here known.new | inr none ↦ absurd (contains_nil y none) ] in
    let g : Grows w w' = record {
      past = λ d h. h;
      begins = λ id q l v b h. begins_kept w.past (x ∷ []) w.chronicle id q l v come b h;
      starts = λ id y b h. starts_kept w.past (x ∷ []) w.chronicle id y come b h;
      nodes = λ j s h. (s, h, (λ p y r. r), follows_itself w.past s.reads);
    } in
    record {
      nodes = λ k s at. node_on c w w' g e k s (e.nodes k s at);
      bodies = λ d there y sent. body_on c w w' g e d.node y.request y.body (e.bodies d there y sent);
      entries = λ y there. elim (contains_cases x w.chronicle y there) [
        | inl here ↦ subst (λ (v : Entry). EntryAhead c w' v) here known.ahead
        | inr old ↦ answer_on c w w' g y (e.entries y old)
      ];
      forward = (known.forward w.chronicle, e.forward);
    }

-- ---- loads

pub waking_ahead : (c : Setting) (w : Scene) (k : ℕ) → Ahead c w → Ahead c (waking w k)
waking_ahead c w k e =
    let w' = waking w k in
    let g : Grows w w' = record {
      past = λ d h. h;
      begins = λ id q l v b h. h;
      starts = λ id y b h. h;
      nodes = λ j s h. (s, h, (λ p y r. r), follows_itself w.past s.reads);
    } in
    record {
      nodes = λ j s at. node_on c w w' g e j s (e.nodes j s at);
      bodies = λ d there y sent. body_on c w w' g e d.node y.request y.body (e.bodies d there y sent);
      entries = λ y there. answer_on c w w' g y (e.entries y there);
      forward = e.forward;
    }

held_on : (d d' : Durable) → IsSameKept d d' → (p : Partition) (x : Held) → Holds (changes_of d.content) p x → Holds (changes_of d'.content) p x
held_on d d' same p x h = let y = contains_from_map change_of d.content _ h in subst (λ z. Contains (changes_of d'.content) z) y.2 (contains_map change_of d'.content y.0 ((same.content y.0).1 y.1))

reached_on : (d d' : Durable) → IsSameKept d d' → (p : Partition) (x : Held) → Reaches (changes_of d.content) p x → Reaches (changes_of d'.content) p x
reached_on d d' same p x (inl h) = inl (held_on d d' same p x h)
reached_on d d' same p x (inr (y, h, over)) = inr (y, held_on d d' same p y h, over)

-- what a node holds it holds on, and its open reads are gone
pub forgetting_ahead : (c : Setting) (w : Scene) (k : ℕ) (s : NodeState) (found : Durable) → Ahead c w → slice_get w.nodes k ≡ Some s → IsSameKept (durable_of s) found → Ahead c (forgetting w k found)
forgetting_ahead c w k s found e at same =
    let w' = forgetting w k found in
    let none : FollowOn w.past s.reads [] = λ id u h. absurd (contains_nil _ h) in
    let g : Grows w w' = record {
      past = λ d h. h;
      begins = λ id q l v b h. h;
      starts = λ id y b h. h;
      nodes = nodes_grow w k s (loaded found) at (reached_on (durable_of s) found same) none;
    } in
    record {
      nodes = nodes_ahead c w w' k (loaded found) g e refl (record { distinct = tt; reads = λ id o h. absurd (contains_nil _ h) });
      bodies = λ d there y sent. body_on c w w' g e d.node y.request y.body (e.bodies d there y sent);
      entries = λ y there. answer_on c w w' g y (e.entries y there);
      forward = e.forward;
    }
