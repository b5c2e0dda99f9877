-- One move more: what was known is carried on, and what is new is known.
use Rattle.std.proofs.Common.{◌≡◌, ◌≢◌, ℕ, inl, inr, Some, None, List, [], ◌∷◌, refl, sym, ap, subst, ◌∙◌, Contains}
use Rattle.std.specs.Prelude.{◌==◌, slice_get, slice_set}
use Rattle.std.proofs.lemmas.Bool.{eq-eqb}
use Rattle.changes.specs.declared.Partition.{Partition}
use Rattle.changes.specs.declared.Held.{Held}
use Rattle.row_change.specs.declared.entry.Hint.{Hint}
use Rattle.peer_messages.specs.declared.chronicle.Entry.{Entry}
use Rattle.peer_messages.specs.declared.outcome.Outbound.{Outbound}
use Rattle.peer_messages.specs.declared.setting.Setting.{Setting}
use Rattle.durable_state.specs.State.{Durable, change_of, changes_of, hints_of, Holds, IsSameKept}
use Rattle.node_steps.specs.State.{NodeState, durable_of, loaded}
use Rattle.node_steps.specs.Effects.{Effects}
use Rattle.node_steps.specs.Acts.{Act, Deed}
use Rattle.cluster_runs.specs.Trace.{Scene, forgetting}
use Rattle.cs_base.proofs.Slots.{get_set}
use Rattle.cs_base.proofs.Members.{contains_nil, contains_cases, contains_there, contains_map, contains_from_map, contains_filter, contains_from_filter}
use Rattle.read_consistency.specs.ReadRight.{IsRightEntry}
use Rattle.read_consistency.proofs.Facts.{Reaches, BodyOk, NodeOk, EntryOk, Explains}
use Rattle.read_consistency.proofs.Grows.{Grows, StaysLosing, of_on, body_on, hint_on, node_on, entry_on, IsNew, submission_kept, start_kept}

abbrev pub deed_of : ℕ → Act → NodeState → NodeState → Effects → Deed
deed_of k a s s' o = record { node = k; act = a; before = s; after = s'; effects = o }

-- the scene behind a move of which no entry comes into the chronicle: it made none, or its outputs are lost
abbrev pub quietly : Scene → ℕ → Act → NodeState → NodeState → Effects → Scene
quietly w k a s s' o = record { nodes = slice_set w.nodes k s'; chronicle = w.chronicle; past = deed_of k a s s' o ∷ w.past; losing = w.losing }

-- and behind one that makes one entry
abbrev pub telling : Scene → ℕ → Act → NodeState → NodeState → List Outbound → Entry → Scene
telling w k a s s' sends e = record { nodes = slice_set w.nodes k s'; chronicle = e ∷ w.chronicle; past = deed_of k a s s' (record { sends = sends; entries = e ∷ [] }) ∷ w.past; losing = w.losing }

abbrev Grown : NodeState → NodeState → Type 0
Grown s s' = (p : Partition) (x : Held) → Reaches (changes_of s.content) p x → Reaches (changes_of s'.content) p x

nodes_grow : (nodes : List NodeState) (k : ℕ) (s s' : NodeState) → slice_get nodes k ≡ Some s → Grown s s' → (j : ℕ) (r' : NodeState) → slice_get (slice_set nodes k s') j ≡ Some r'
    → (r : NodeState) × (slice_get nodes j ≡ Some r) × Grown r r'
nodes_grow nodes k s s' at more j r' h = elim (get_set nodes k s' j r' h) [
  | inl (here, is) ↦ (s, subst (λ (i : ℕ). slice_get nodes i ≡ Some s) (sym here) at, subst (λ (v : NodeState). Grown s v) (sym is) more)
  | inr (away, old) ↦ (r', old, λ p x r. r)
]

pub quietly_grows : (w : Scene) (k : ℕ) (a : Act) (s s' : NodeState) (o : Effects) → slice_get w.nodes k ≡ Some s → Grown s s' → Grows w (quietly w k a s s' o)
quietly_grows w k a s s' o at more = record {
  past = λ d h. contains_there _ w.past d h;
  chronicle = λ e h. h;
  submissions = λ id b. refl;
  starts = λ id e b h. h;
  nodes = nodes_grow w.nodes k s s' at more;
}

pub telling_grows : (w : Scene) (k : ℕ) (a : Act) (s s' : NodeState) (sends : List Outbound) (e : Entry) → slice_get w.nodes k ≡ Some s → Grown s s' → IsNew w.past e → Grows w (telling w k a s s' sends e)
telling_grows w k a s s' sends e at more new = record {
  past = λ d h. contains_there _ w.past d h;
  chronicle = λ x h. contains_there e w.chronicle x h;
  submissions = λ id b. submission_kept w.past e w.chronicle id new b;
  starts = λ id x b h. start_kept w.past e w.chronicle id x new b h;
  nodes = nodes_grow w.nodes k s s' at more;
}

nodes_ok : (c : Setting) (w w' : Scene) (k : ℕ) (s' : NodeState) → Grows w w' → Explains c w → ((j : ℕ) → j ≢ k → StaysLosing w w' j) → w'.nodes ≡ slice_set w.nodes k s' → NodeOk c w' k s'
    → (j : ℕ) (r : NodeState) → slice_get w'.nodes j ≡ Some r → NodeOk c w' j r
nodes_ok c w w' k s' g e stays is new j r h = elim (get_set w.nodes k s' j r (subst (λ (ns : List NodeState). slice_get ns j ≡ Some r) is h)) [
  | inl (here, same) ↦ subst (λ (i : ℕ). NodeOk c w' i r) (sym here) (subst (λ (v : NodeState). NodeOk c w' k v) (sym same) new)
  | inr (away, old) ↦ node_on c w w' g e j (stays j away) r (e.nodes j r old)
]

bodies_ok : (c : Setting) (w w' : Scene) (k : ℕ) (d : Deed) → Grows w w' → Explains c w → d.node ≡ k → ((x : Outbound) → Contains d.effects.sends x → BodyOk w' k x)
    → (b : Deed) → Contains (d ∷ w.past) b → (x : Outbound) → Contains b.effects.sends x → BodyOk w' b.node x
bodies_ok c w w' k d g e mine new b h x there = elim (contains_cases d w.past b h) [
  | inl here ↦
      let node : k ≡ b.node = sym mine ∙ ap (λ (v : Deed). v.node) here in
      subst (λ (j : ℕ). BodyOk w' j x) node (new x (subst (λ (v : Deed). Contains v.effects.sends x) (sym here) there))
  | inr old ↦ body_on c w w' g e b.node x (e.bodies b old x there)
]

pub explains_quietly : (c : Setting) (w : Scene) (k : ℕ) (a : Act) (s s' : NodeState) (o : Effects) → Explains c w → slice_get w.nodes k ≡ Some s → Grown s s'
    → NodeOk c (quietly w k a s s' o) k s' → ((x : Outbound) → Contains o.sends x → BodyOk (quietly w k a s s' o) k x) → Explains c (quietly w k a s s' o)
explains_quietly c w k a s s' o e at more node bodies =
    let w' = quietly w k a s s' o in
    let g = quietly_grows w k a s s' o at more in
    record {
      nodes = nodes_ok c w w' k s' g e (λ j away l. l) refl node;
      bodies = bodies_ok c w w' k (deed_of k a s s' o) g e refl bodies;
      entries = λ x h. entry_on c w w' g x (e.entries x h);
      right = e.right;
    }

pub explains_telling : (c : Setting) (w : Scene) (k : ℕ) (a : Act) (s s' : NodeState) (sends : List Outbound) (x : Entry) → Explains c w → slice_get w.nodes k ≡ Some s → Grown s s' → IsNew w.past x
    → NodeOk c (telling w k a s s' sends x) k s' → ((b : Outbound) → Contains sends b → BodyOk (telling w k a s s' sends x) k b) → EntryOk c (telling w k a s s' sends x) x → IsRightEntry c w.chronicle x
    → Explains c (telling w k a s s' sends x)
explains_telling c w k a s s' sends x e at more new node bodies entry right =
    let w' = telling w k a s s' sends x in
    let g = telling_grows w k a s s' sends x at more new in
    record {
      nodes = nodes_ok c w w' k s' g e (λ j away l. l) refl node;
      bodies = bodies_ok c w w' k (deed_of k a s s' (record { sends = sends; entries = x ∷ [] })) g e refl bodies;
      entries = λ y h. elim (contains_cases x w.chronicle y h) [
        | inl here ↦ subst (λ (v : Entry). EntryOk c w' v) here entry
        | inr old ↦ entry_on c w w' g y (e.entries y old)
      ];
      right = (right, e.right);
    }

-- an entry that no move makes
abbrev pub with_entry : Scene → Entry → Scene
with_entry w e = record w { chronicle = e ∷ w.chronicle }

pub entry_grows : (w : Scene) (e : Entry) → IsNew w.past e → Grows w (with_entry w e)
entry_grows w e new = record {
  past = λ d h. h;
  chronicle = λ x h. contains_there e w.chronicle x h;
  submissions = λ id b. submission_kept w.past e w.chronicle id new b;
  starts = λ id x b h. start_kept w.past e w.chronicle id x new b h;
  nodes = λ j s h. (s, h, λ p x r. r);
}

pub explains_entry : (c : Setting) (w : Scene) (e : Entry) → Explains c w → IsNew w.past e → EntryOk c (with_entry w e) e → IsRightEntry c w.chronicle e → Explains c (with_entry w e)
explains_entry c w e h new entry right =
    let g = entry_grows w e new in
    record {
      nodes = λ k s at. node_on c w (with_entry w e) g h k (λ l. l) s (h.nodes k s at);
      bodies = λ d there x sent. body_on c w (with_entry w e) g h d.node x (h.bodies d there x sent);
      entries = λ y there. elim (contains_cases e w.chronicle y there) [
        | inl here ↦ subst (λ (v : Entry). EntryOk c (with_entry w e) v) here entry
        | inr old ↦ entry_on c w (with_entry w e) g y (h.entries y old)
      ];
      right = (right, h.right);
    }

-- ---- loads

-- a node begins to be loaded
abbrev pub waking : Scene → ℕ → Scene
waking w k = record w { losing = Some k }

waking_grows : (w : Scene) (k : ℕ) → Grows w (waking w k)
waking_grows w k = record {
  past = λ d h. h;
  chronicle = λ x h. h;
  submissions = λ id b. refl;
  starts = λ id x b h. h;
  nodes = λ j s h. (s, h, λ p x r. r);
}

pub none_some : {X : Type 0} (x : X) → None ≡ Some x → ⊥
none_some x e = cc

one_node : (j k : ℕ) → Some k ≡ Some j → j ≡ k
one_node j k e = cc

pub explains_waking : (c : Setting) (w : Scene) (k : ℕ) → Explains c w → w.losing ≡ None → Explains c (waking w k)
explains_waking c w k e none =
    let w' = waking w k in
    let g = waking_grows w k in
    record {
      nodes = λ j s at. node_on c w w' g e j (λ l. absurd (none_some j (sym none ∙ l))) s (e.nodes j s at);
      bodies = λ d there x sent. body_on c w w' g e d.node x (e.bodies d there x sent);
      entries = λ x h. entry_on c w w' g x (e.entries x h);
      right = e.right;
    }

-- what is held is the same
held_both : (d d' : Durable) → IsSameKept d d' → (p : Partition) (x : Held) → (Holds (changes_of d.content) p x → Holds (changes_of d'.content) p x) × (Holds (changes_of d'.content) p x → Holds (changes_of d.content) p x)
held_both d d' same p x = (
  λ h. let y = contains_from_map change_of d.content _ h in subst (λ z. Contains (changes_of d'.content) z) y.2 (contains_map change_of d'.content y.0 ((same.content y.0).1 y.1)),
  λ h. let y = contains_from_map change_of d'.content _ h in subst (λ z. Contains (changes_of d.content) z) y.2 (contains_map change_of d.content y.0 ((same.content y.0).0 y.1)),
)

reached_both : (d d' : Durable) → IsSameKept d d' → (p : Partition) (x : Held) → Reaches (changes_of d.content) p x → Reaches (changes_of d'.content) p x
reached_both d d' same p x (inl h) = inl ((held_both d d' same p x).0 h)
reached_both d d' same p x (inr (y, h, over)) = inr (y, (held_both d d' same p y).0 h, over)

forgetting_grows : (w : Scene) (k : ℕ) (s : NodeState) (found : Durable) → slice_get w.nodes k ≡ Some s → IsSameKept (durable_of s) found → Grows w (forgetting w k found)
forgetting_grows w k s found at same = record {
  past = λ d h. h;
  chronicle = λ x h. h;
  submissions = λ id b. refl;
  starts = λ id x b h. h;
  nodes = nodes_grow w.nodes k s (loaded found) at (reached_both (durable_of s) found same);
}

-- a hint stands among those of its peer
kept_before : (d d' : Durable) → IsSameKept d d' → (x : Hint) → Contains d'.hints x → Contains d.hints x
kept_before d d' same x h =
    let mine : Contains (hints_of d'.hints x.peer) x = contains_filter (λ y. y.peer == x.peer) d'.hints x h (eq-eqb x.peer x.peer refl) in
    (contains_from_filter (λ y. y.peer == x.peer) d.hints x (subst (λ (xs : List Hint). Contains xs x) (same.hints x.peer) mine)).0

-- what a node holds it holds on, and its open requests are gone
pub explains_forgetting : (c : Setting) (w : Scene) (k : ℕ) (s : NodeState) (found : Durable) → Explains c w → w.losing ≡ Some k → slice_get w.nodes k ≡ Some s → IsSameKept (durable_of s) found → Explains c (forgetting w k found)
explains_forgetting c w k s found e losing at same =
    let w' = forgetting w k found in
    let g = forgetting_grows w k s found at same in
    let old = e.nodes k s at in
    record {
      nodes = nodes_ok c w w' k (loaded found) g e (λ j away l. absurd (away (one_node j k (sym losing ∙ l)))) refl (record {
        of = λ p x h. of_on w w' g p _ _ x (λ y r. reached_both (durable_of s) found same p y r) (old.of p x ((held_both (durable_of s) found same p x).1 h));
        writes = λ id o h. absurd (contains_nil _ h);
        reads = λ id o h. absurd (contains_nil _ h);
        hints = λ x h. hint_on w w' g k x (old.hints x (kept_before (durable_of s) found same x h));
      });
      bodies = λ d there x sent. body_on c w w' g e d.node x (e.bodies d there x sent);
      entries = λ x h. entry_on c w w' g x (e.entries x h);
      right = e.right;
    }
