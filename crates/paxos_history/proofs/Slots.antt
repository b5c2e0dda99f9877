-- Of changes that act on a slot: the last by their ballots, which outranks which, and changes of one update, which rank as its
-- drafts do.
use Rattle.std.proofs.Common.{◌≡◌, ◌⊎◌, ℕ, ◌≤◌, inl, inr, List, [], ◌∷◌, refl, sym, ap, subst, arith, ◌∙◌, Contains}
use Rattle.std.specs.Prelude.{ℤ, pos, ◌≤ℤ◌, ◌<ℤ◌}
use Rattle.std.proofs.lemmas.Int.{ints}
use Rattle.std.specs.Ordering.{ordering_then}
use Rattle.std.specs.Cmp.{int_cmp_is}
use Rattle.std.specs.declared.cmp.Ordering.{Ordering}
use Rattle.std.specs.declared.cmp.Ordering.TheVariants.{Less, Equal, Greater}
use Rattle.std.proofs.lemmas.Cmp.{nat_cmp_total, int_cmp_total, tied_itself}
use Rattle.cs_base.specs.declared.ids.ReqId.{ReqId}
use Rattle.cs_base.specs.Requests.{request_cmp}
use Rattle.changes.specs.declared.Place.{Place}
use Rattle.changes.specs.declared.Draft.{Draft}
use Rattle.changes.specs.declared.Held.{Held}
use Rattle.changes.specs.Order.{value_cmp, rank_cmp, Encloses, Outranks}
use Rattle.changes.proofs.Ranks.{above, outranks, beats_late}
use Rattle.changes.proofs.Places.{Encloses_trans}
use Rattle.cs_base.proofs.Members.{contains_nil, contains_here, contains_there, contains_cases}
use Rattle.single_copy.specs.Maps.{Slot, place_of, ActsOn, DraftOutranks}
use Rattle.single_copy.proofs.Slots.{acts_or_not}
use Rattle.paxos_history.specs.Protocol.{proposed_at}

-- the last of the changes that act on the slot, by their ballots
abbrev pub Top : List Held → Slot → Type 0
Top xs k = ((t : Held) × Contains xs t × ActsOn t.place k × ((x : Held) → Contains xs x → ActsOn x.place k → x.submitted ≤ t.submitted)) ⊎ ((x : Held) → Contains xs x → ActsOn x.place k → ⊥)

pub top : (xs : List Held) (k : Slot) → Top xs k
top [] k = inr (λ x h a. contains_nil x h)
top (m ∷ xs) k = go (acts_or_not m.place k) (top xs k)
  where
    go : ActsOn m.place k ⊎ (ActsOn m.place k → ⊥) → Top xs k → Top (m ∷ xs) k
    go (inr not') (inr none) = inr (λ x h a. elim (contains_cases m xs x h) [ inl e ↦ not' (subst (λ (z : Held). ActsOn z.place k) (sym e) a) | inr was ↦ none x was a ])
    go (inr not') (inl (t, mem, acts, most)) = inl (t, contains_there m xs t mem, acts, λ x h a. elim (contains_cases m xs x h) [ inl e ↦ absurd (not' (subst (λ (z : Held). ActsOn z.place k) (sym e) a)) | inr was ↦ most x was a ])
    go (inl now) (inr none) = inl (m, contains_here m xs, now, λ x h a. elim (contains_cases m xs x h) [ inl e ↦ (let same : m.submitted ≡ x.submitted = ap (λ (z : Held). z.submitted) e in omega arith) | inr was ↦ absurd (none x was a) ])
    go (inl now) (inl (t, mem, acts, most)) = pick_one (grind arith)
      where
        pick_one : (m.submitted ≤ t.submitted) ⊎ (t.submitted ≤ m.submitted) → Top (m ∷ xs) k
        pick_one (inl le) = inl (t, contains_there m xs t mem, acts, λ x h a. elim (contains_cases m xs x h) [ inl e ↦ (let same : m.submitted ≡ x.submitted = ap (λ (z : Held). z.submitted) e in omega arith) | inr was ↦ most x was a ])
        pick_one (inr le) = inl (m, contains_here m xs, now, λ x h a. elim (contains_cases m xs x h) [ inl e ↦ (let same : m.submitted ≡ x.submitted = ap (λ (z : Held). z.submitted) e in omega arith) | inr was ↦ (let up : x.submitted ≤ t.submitted = most x was a in omega arith) ])

-- what outranks a change acts where it acts, and is not older

pub acts_above : (x y : Held) (k : Slot) → Outranks x y → ActsOn y.place k → ActsOn x.place k
acts_above x y k over a = elim (above x y over) [
  | inl b ↦ subst (λ (z : Place). ActsOn z k) (sym b.0) a
  | inr e ↦ elim a [
    | inl at ↦ inr (subst (λ (z : Place). Encloses x.place z) at e.0)
    | inr f ↦ inr (Encloses_trans x.place y.place (place_of k) e.0 f)
  ]
]

pub not_older : (x y : Held) → Outranks x y → y.timestamp ≤ℤ x.timestamp
not_older x y over = elim (above x y over) [ inl b ↦ beats_late x y b.1 | inr e ↦ e.1 ]

first_greater : (a b : Ordering) → a ≡ Greater → ordering_then a b ≡ Greater
first_greater Less b e = cc
first_greater Equal b e = cc
first_greater Greater b e = refl

-- what acts on a cell and is later outranks what stands there
pub later_outranks : (x y : Held) (k : Slot) → ActsOn x.place k → y.place ≡ place_of k → y.timestamp <ℤ x.timestamp → Outranks x y
later_outranks x y k (inl at) is lt = inl (at ∙ sym is, first_greater _ _ (sym (int_cmp_is x.timestamp y.timestamp Greater lt)))
later_outranks x y k (inr e) is lt = outranks x y (inr (subst (λ (z : Place). Encloses x.place z) (sym is) e, omega (arith, ints, lt)))

-- changes of one update rank as its drafts do

then_self : (o p : Ordering) → p ≡ Equal → ordering_then o p ≡ o
then_self Less p e = refl
then_self Equal p e = e
then_self Greater p e = refl

then_equals : (o p : Ordering) → o ≡ Equal → ordering_then o p ≡ p
then_equals Less p e = cc
then_equals Equal p e = refl
then_equals Greater p e = cc

request_same : (r : ReqId) → request_cmp r r ≡ Equal
request_same r = then_equals _ _ (tied_itself nat_cmp_total r.node) ∙ tied_itself nat_cmp_total r.time

rank_drafts : (b : ℕ) (r : ReqId) (d e : Draft) → rank_cmp (proposed_at b r d) (proposed_at b r e) ≡ value_cmp d.value e.value
rank_drafts b r d e =
    then_equals _ _ (tied_itself int_cmp_total (pos b))
    ∙ then_self (value_cmp d.value e.value) _ (then_equals _ _ (tied_itself nat_cmp_total b) ∙ request_same r)

pub to_draft : (b : ℕ) (r : ReqId) (d e : Draft) → Outranks (proposed_at b r d) (proposed_at b r e) → DraftOutranks d e
to_draft b r d e over = elim (above (proposed_at b r d) (proposed_at b r e) over) [
  | inl h ↦ inl (h.0, sym (rank_drafts b r d e) ∙ h.1)
  | inr f ↦ inr f.0
]

pub from_draft : (b : ℕ) (r : ReqId) (d e : Draft) → DraftOutranks d e → Outranks (proposed_at b r d) (proposed_at b r e)
from_draft b r d e (inl h) = inl (h.0, rank_drafts b r d e ∙ h.1)
from_draft b r d e (inr f) = outranks (proposed_at b r d) (proposed_at b r e) (inr (f, le_self (pos b)))
  where
    le_self : (z : ℤ) → z ≤ℤ z
    le_self z = omega (arith, ints)
