-- Open requests by id, with what a step made of one of them.
use Rattle.std.proofs.Common.{◌≡◌, Bool, true, false, cond, Option, Some, None, List, [], ◌∷◌, refl, sym, ap, subst, ◌∙◌}
use Rattle.std.specs.Map.{lookup, set_value, remove_entry, keys_of}
use Rattle.std.specs.BTreeMap.{BTreeMap, is_at, insert_entry, IsOrdered}
use Rattle.std.specs.Cmp.{IsTotalOrder}
use Rattle.std.specs.Ordering.{is_eq, match_ordering}
use Rattle.std.specs.declared.cmp.Ordering.{Ordering}
use Rattle.std.specs.declared.cmp.Ordering.TheVariants.{Less, Equal, Greater}
use Rattle.std.proofs.lemmas.Cmp.{nat_cmp_total, on_total, then_total, tied_itself, eq_by_cmp_equiv}
use Rattle.std.proofs.lemmas.Map.{lookup-remove_entry}
use Rattle.std.proofs.lemmas.Map.Keys.{IsDistinct-from_sorted}
use Rattle.cs_base.specs.declared.ids.ReqId.{ReqId}
use Rattle.cs_base.specs.Requests.{request_cmp}
use Rattle.peer_messages.specs.declared.outcome.Move.{Move}
use Rattle.peer_messages.specs.Moves.{quiet}
use Rattle.node_steps.specs.Effects.{open_at, after_move, Takes, AtRequest}
use Rattle.node_core.specs.declared.slot.Found.{Found}
use Rattle.node_core.specs.declared.slot.Slot.{Slot}
use Rattle.node_core.specs.declared.slot.Slot.TheVariants.{Untouched, New, Old, Gone}
use Rattle.node_core.specs.declared.work.Given.{Given}
use Rattle.node_core.specs.Slots.{IsFound, TakesNew, IsNew, slot_after}
use Rattle.node_core.specs.Working.{with_slot, IsSlotOf}
use Rattle.node_core.specs.Hearing.{Opens, Moves}

pub some_not_none : {X : Type 0} (x : X) → Some x ≡ None → ⊥
some_not_none x e = cc

pub some_one : {X : Type 0} (x y : X) → Some x ≡ Some y → x ≡ y
some_one x y e = cc

-- ---- lists by key

remove_cond : {K A : Type 0} (b : Bool) (test : K → Bool) (e : K × A) (es : List (K × A)) (w : A) → b ≡ test e.0 → remove_entry test (set_value test es w) ≡ remove_entry test es
    → remove_entry test (cond b ((e.0, w) ∷ es) (e ∷ set_value test es w)) ≡ cond b es (e ∷ remove_entry test es)
remove_cond {K} {A} true test e es w at rest = ap (λ (b : Bool). cond b es ((e.0, w) ∷ remove_entry test es)) (sym at)
remove_cond {K} {A} false test e es w at rest = ap (λ (b : Bool). cond b (set_value test es w) (e ∷ remove_entry test (set_value test es w))) (sym at) ∙ ap (λ (r : List (K × A)). e ∷ r) rest

pub remove_written : {K A : Type 0} (test : K → Bool) (es : List (K × A)) (w : A) → remove_entry test (set_value test es w) ≡ remove_entry test es
remove_written test [] w = refl
remove_written test (e ∷ es) w = remove_cond (test e.0) test e es w refl (remove_written test es w)

set_cond : {K A : Type 0} (b : Bool) (test : K → Bool) (e : K × A) (es : List (K × A)) (w v : A) → b ≡ test e.0 → set_value test (set_value test es w) v ≡ set_value test es v
    → set_value test (cond b ((e.0, w) ∷ es) (e ∷ set_value test es w)) v ≡ cond b ((e.0, v) ∷ es) (e ∷ set_value test es v)
set_cond {K} {A} true test e es w v at rest = ap (λ (b : Bool). cond b ((e.0, v) ∷ es) ((e.0, w) ∷ set_value test es v)) (sym at)
set_cond {K} {A} false test e es w v at rest = ap (λ (b : Bool). cond b ((e.0, v) ∷ set_value test es w) (e ∷ set_value test (set_value test es w) v)) (sym at) ∙ ap (λ (r : List (K × A)). e ∷ r) rest

pub set_written : {K A : Type 0} (test : K → Bool) (es : List (K × A)) (w v : A) → set_value test (set_value test es w) v ≡ set_value test es v
set_written test [] w v = refl
set_written test (e ∷ es) w v = set_cond (test e.0) test e es w v refl (set_written test es w v)

found_cond : {K A : Type 0} (b : Bool) (test : K → Bool) (e : K × A) (es : List (K × A)) (w v : A) → b ≡ test e.0 → cond b (Some e.1) (lookup test es) ≡ Some v → (lookup test es ≡ Some v → lookup test (set_value test es w) ≡ Some w)
    → lookup test (cond b ((e.0, w) ∷ es) (e ∷ set_value test es w)) ≡ Some w
found_cond {K} {A} true test e es w v at there rest = ap (λ (b : Bool). cond b (Some w) (lookup test es)) (sym at)
found_cond {K} {A} false test e es w v at there rest = ap (λ (b : Bool). cond b (Some e.1) (lookup test (set_value test es w))) (sym at) ∙ rest there

found_written : {K A : Type 0} (test : K → Bool) (es : List (K × A)) (w v : A) → lookup test es ≡ Some v → lookup test (set_value test es w) ≡ Some w
found_written test [] w v there = absurd (some_not_none v (sym there))
found_written test (e ∷ es) w v there = found_cond (test e.0) test e es w v refl there (found_written test es w v)

-- ---- a key that is put in

abbrev put_in : {K A : Type 0} → Ordering → (K → K → Ordering) → (K × A) → List (K × A) → K → A → List (K × A)
put_in {K} {A} o cmp e es k v = match_ordering o ((k, v) ∷ e ∷ es) ((e.0, v) ∷ es) (e ∷ insert_entry cmp es k v)

insert_found_cases : {K A : Type 0} (cmp : K → K → Ordering) (o : Ordering) (e : K × A) (es : List (K × A)) (k : K) (v : A) → o ≡ cmp k e.0 → is_eq (cmp k k) ≡ true → lookup (is_at (cmp k)) (insert_entry cmp es k v) ≡ Some v
    → lookup (is_at (cmp k)) (put_in o cmp e es k v) ≡ Some v
insert_found_cases {K} {A} cmp Less e es k v at same rest = ap (λ (b : Bool). cond b (Some v) (lookup (is_at (cmp k)) (e ∷ es))) same
insert_found_cases {K} {A} cmp Equal e es k v at same rest = ap (λ (o : Ordering). cond (is_eq o) (Some v) (lookup (is_at (cmp k)) es)) (sym at)
insert_found_cases {K} {A} cmp Greater e es k v at same rest = ap (λ (o : Ordering). cond (is_eq o) (Some e.1) (lookup (is_at (cmp k)) (insert_entry cmp es k v))) (sym at) ∙ rest

insert_found : {K A : Type 0} (cmp : K → K → Ordering) (es : List (K × A)) (k : K) (v : A) → is_eq (cmp k k) ≡ true → lookup (is_at (cmp k)) (insert_entry cmp es k v) ≡ Some v
insert_found {K} {A} cmp [] k v same = ap (λ (b : Bool). cond b (Some v) None) same
insert_found {K} {A} cmp (e ∷ es) k v same = insert_found_cases cmp (cmp k e.0) e es k v refl same (insert_found cmp es k v same)

insert_set_cases : {K A : Type 0} (cmp : K → K → Ordering) (o : Ordering) (e : K × A) (es : List (K × A)) (k : K) (v w : A) → o ≡ cmp k e.0 → is_eq (cmp k k) ≡ true
    → set_value (is_at (cmp k)) (insert_entry cmp es k v) w ≡ insert_entry cmp es k w
    → set_value (is_at (cmp k)) (put_in o cmp e es k v) w ≡ put_in o cmp e es k w
insert_set_cases {K} {A} cmp Less e es k v w at same rest = ap (λ (b : Bool). cond b ((k, w) ∷ e ∷ es) ((k, v) ∷ set_value (is_at (cmp k)) (e ∷ es) w)) same
insert_set_cases {K} {A} cmp Equal e es k v w at same rest = ap (λ (o : Ordering). cond (is_eq o) ((e.0, w) ∷ es) ((e.0, v) ∷ set_value (is_at (cmp k)) es w)) (sym at)
insert_set_cases {K} {A} cmp Greater e es k v w at same rest =
    ap (λ (o : Ordering). cond (is_eq o) ((e.0, w) ∷ insert_entry cmp es k v) (e ∷ set_value (is_at (cmp k)) (insert_entry cmp es k v) w)) (sym at) ∙ ap (λ (r : List (K × A)). e ∷ r) rest

insert_set : {K A : Type 0} (cmp : K → K → Ordering) (es : List (K × A)) (k : K) (v w : A) → is_eq (cmp k k) ≡ true → set_value (is_at (cmp k)) (insert_entry cmp es k v) w ≡ insert_entry cmp es k w
insert_set {K} {A} cmp [] k v w same = ap (λ (b : Bool). cond b ((k, w) ∷ []) ((k, v) ∷ [])) same
insert_set {K} {A} cmp (e ∷ es) k v w same = insert_set_cases cmp (cmp k e.0) e es k v w refl same (insert_set cmp es k v w same)

insert_remove_cases : {K A : Type 0} (cmp : K → K → Ordering) (o : Ordering) (e : K × A) (es : List (K × A)) (k : K) (v : A) → o ≡ cmp k e.0 → is_eq (cmp k k) ≡ true → lookup (is_at (cmp k)) (e ∷ es) ≡ None
    → (lookup (is_at (cmp k)) es ≡ None → remove_entry (is_at (cmp k)) (insert_entry cmp es k v) ≡ es)
    → remove_entry (is_at (cmp k)) (put_in o cmp e es k v) ≡ e ∷ es
insert_remove_cases {K} {A} cmp Less e es k v at same none rest = ap (λ (b : Bool). cond b (e ∷ es) ((k, v) ∷ remove_entry (is_at (cmp k)) (e ∷ es))) same
insert_remove_cases {K} {A} cmp Equal e es k v at same none rest =
    absurd (some_not_none _ (ap (λ (o : Ordering). cond (is_eq o) (Some e.1) (lookup (is_at (cmp k)) es)) at ∙ none))
insert_remove_cases {K} {A} cmp Greater e es k v at same none rest =
    let away : is_at (cmp k) e.0 ≡ false = ap is_eq (sym at) in
    ap (λ (b : Bool). cond b (insert_entry cmp es k v) (e ∷ remove_entry (is_at (cmp k)) (insert_entry cmp es k v))) away
    ∙ ap (λ (r : List (K × A)). e ∷ r) (rest (ap (λ (b : Bool). cond b (Some e.1) (lookup (is_at (cmp k)) es)) (sym away) ∙ none))

-- what was put in and taken out again leaves all as it was
pub remove_inserted : {K A : Type 0} (cmp : K → K → Ordering) (es : List (K × A)) (k : K) (v : A) → is_eq (cmp k k) ≡ true → lookup (is_at (cmp k)) es ≡ None
    → remove_entry (is_at (cmp k)) (insert_entry cmp es k v) ≡ es
remove_inserted {K} {A} cmp [] k v same none = ap (λ (b : Bool). cond b [] ((k, v) ∷ [])) same
remove_inserted {K} {A} cmp (e ∷ es) k v same none = insert_remove_cases cmp (cmp k e.0) e es k v refl same none (λ n. remove_inserted cmp es k v same n)

-- ---- requests

pub request_total : IsTotalOrder request_cmp
request_total = then_total (on_total (λ (r : ReqId). r.node) nat_cmp_total) (on_total (λ (r : ReqId). r.time) nat_cmp_total)

pub request_itself : (id : ReqId) → is_eq (request_cmp id id) ≡ true
request_itself id = ap is_eq (tied_itself request_total id)

-- a request that was taken out is not open
pub gone_is_none : {A : Type 0} (id : ReqId) (m : BTreeMap ReqId A) → IsOrdered request_cmp m → open_at (remove_entry (is_at (request_cmp id)) m.entries) id ≡ None
gone_is_none {A} id m ordered =
    let laws = eq_by_cmp_equiv request_total in
    lookup-remove_entry laws (is_at (request_cmp id)) (λ x y same. laws.congr id x y same) id m.entries (IsDistinct-from_sorted request_cmp (keys_of m.entries) ordered)
    ∙ ap (λ (b : Bool). cond b None (open_at m.entries id)) (request_itself id)

-- a request that was open before does not begin
new_old : {A : Type 0} (ended : Bool) (a : A) → IsNew (slot_after false ended a) → ⊥
new_old {A} true a h = h
new_old {A} false a h = h

abbrev opens_as : {A : Type 0} → ReqId → List (ReqId × A) → Slot A → Found A → Type 0
opens_as {A} id xs slot f = Opens id xs slot f

opens_new : {A : Type 0} (id : ReqId) (xs : List (ReqId × A)) (a : A) → open_at xs id ≡ None → Opens id xs (New a) (record { now = a; is_new = true })
opens_new {A} id xs a none = record {
  at = insert_found request_cmp xs id a (request_itself id);
  after = after_it;
  back = back_it;
  new = λ ended b h. tt;
}
  where
    after_it : (ended : Bool) (b : A) → with_slot id (slot_after true ended b) xs ≡ after_move ended id b (insert_entry request_cmp xs id a)
    after_it true b = sym (remove_inserted request_cmp xs id a (request_itself id) none)
    after_it false b = sym (insert_set request_cmp xs id a b (request_itself id))

    back_it : (ended : Bool) (b : A) → IsSlotOf id xs (slot_after true ended b)
    back_it true b = tt
    back_it false b = none

opens_old : {A : Type 0} (id : ReqId) (xs : List (ReqId × A)) (a v : A) → open_at xs id ≡ Some v → Opens id xs (Old a) (record { now = a; is_new = false })
opens_old {A} id xs a v there = record {
  at = found_written (is_at (request_cmp id)) xs a v there;
  after = after_it;
  back = back_it;
  new = new_old;
}
  where
    after_it : (ended : Bool) (b : A) → with_slot id (slot_after false ended b) xs ≡ after_move ended id b (set_value (is_at (request_cmp id)) xs a)
    after_it true b = sym (remove_written (is_at (request_cmp id)) xs a)
    after_it false b = sym (set_written (is_at (request_cmp id)) xs a b)

    back_it : (ended : Bool) (b : A) → IsSlotOf id xs (slot_after false ended b)
    back_it true b = tt
    back_it false b = (v, there)

pub opens_before : {A : Type 0} (id : ReqId) (xs : List (ReqId × A)) (a : A) → open_at xs id ≡ Some a → Opens id xs Untouched (record { now = a; is_new = false })
opens_before {A} id xs a there = record { at = there; after = after_it; back = back_it; new = new_old }
  where
    after_it : (ended : Bool) (b : A) → with_slot id (slot_after false ended b) xs ≡ after_move ended id b xs
    after_it true b = refl
    after_it false b = refl

    back_it : (ended : Bool) (b : A) → IsSlotOf id xs (slot_after false ended b)
    back_it true b = tt
    back_it false b = (a, there)

-- ---- as it is taken out of its slot

pub taken_opens : {A : Type 0} (id : ReqId) (xs : List (ReqId × A)) (slot slot' : Slot A) (f : Found A) → IsSlotOf id xs slot → IsFound slot (Some f) slot' → Opens id xs slot f
taken_opens {A} id xs Untouched slot' f is h = absurd (some_not_none f h.0)
taken_opens {A} id xs (New a) slot' f is h = subst (λ (g : Found A). opens_as id xs (New a) g) (sym (some_one f _ h.0)) (opens_new id xs a is)
taken_opens {A} id xs (Old a) slot' f (v, there) h = subst (λ (g : Found A). opens_as id xs (Old a) g) (sym (some_one f _ h.0)) (opens_old id xs a v there)
taken_opens {A} id xs Gone slot' f is h = absurd (some_not_none f h.0)

untouched_gone : {A : Type 0} → let u : Slot A = Untouched in u ≡ Gone → ⊥
untouched_gone {A} e = cc

pub taken_gone : {A : Type 0} (id : ReqId) (xs : List (ReqId × A)) (slot slot' : Slot A) → open_at (remove_entry (is_at (request_cmp id)) xs) id ≡ None → IsFound slot None slot' → slot' ≡ Gone → (open_at (with_slot id slot xs) id ≡ None) × (slot' ≡ slot)
taken_gone {A} id xs Untouched slot' none h gone = absurd (untouched_gone (sym h.1 ∙ gone))
taken_gone {A} id xs (New a) slot' none h gone = absurd (some_not_none _ (sym h.0))
taken_gone {A} id xs (Old a) slot' none h gone = absurd (some_not_none _ (sym h.0))
taken_gone {A} id xs Gone slot' none h gone = (none, h.1)

pub taken_untouched : {A : Type 0} (slot slot' : Slot A) → IsFound slot None slot' → (slot' ≡ Gone → ⊥) → (slot ≡ Untouched) × (slot' ≡ slot)
taken_untouched {A} Untouched slot' h other = (refl, h.1)
taken_untouched {A} (New a) slot' h other = absurd (some_not_none _ (sym h.0))
taken_untouched {A} (Old a) slot' h other = absurd (some_not_none _ (sym h.0))
taken_untouched {A} Gone slot' h other = absurd (other h.1)

-- ---- a move

takes_some : {A : Type 0} (Step : A → Move → A → Type 0) (id : ReqId) (xs : List (ReqId × A)) (slot : Slot A) (f : Found A) (turn : Move) (a : A) → Opens id xs slot f → Step f.now turn a
    → AtRequest Step id (with_slot id slot xs) turn (with_slot id (slot_after f.is_new turn.ended a) xs)
takes_some {A} Step id xs slot f turn a opens step =
    subst (λ (o : Option A). Takes Step id (with_slot id slot xs) o turn (with_slot id (slot_after f.is_new turn.ended a) xs)) (sym opens.at) (a, step, opens.after turn.ended a)

pub moves_made : {A : Type 0} (Step : A → Move → A → Type 0) (id : ReqId) (xs : List (ReqId × A)) (slot slot' : Slot A) (f : Found A) (turn : Move) (a : A) (g : Given) → Opens id xs slot f → Step f.now turn a → slot' ≡ slot_after f.is_new turn.ended a
    → g.sends ≡ turn.sends → g.entries ≡ turn.entries → Moves Step id xs slot g slot'
moves_made {A} Step id xs slot slot' f turn a g opens step is sends entries = record {
  turn = turn;
  moves = subst (λ (s : Slot A). AtRequest Step id (with_slot id slot xs) turn (with_slot id s xs)) (sym is) (takes_some Step id xs slot f turn a opens step);
  gives = cc;
  back = subst (λ (s : Slot A). IsSlotOf id xs s) (sym is) (opens.back turn.ended a);
  new = subst (λ (s : Slot A). IsNew s → IsNew slot) (sym is) (opens.new turn.ended a);
}

pub moves_none : {A : Type 0} (Step : A → Move → A → Type 0) (id : ReqId) (xs : List (ReqId × A)) (slot slot' : Slot A) (g : Given) → open_at (with_slot id slot xs) id ≡ None → slot' ≡ slot → IsSlotOf id xs slot → g.sends ≡ [] → g.entries ≡ []
    → Moves Step id xs slot g slot'
moves_none {A} Step id xs slot slot' g none same is sends entries = record {
  turn = quiet;
  moves = subst (λ (s : Slot A). AtRequest Step id (with_slot id slot xs) quiet (with_slot id s xs)) (sym same)
      (subst (λ (o : Option A). Takes Step id (with_slot id slot xs) o quiet (with_slot id slot xs)) (sym none) (refl, refl));
  gives = cc;
  back = subst (λ (s : Slot A). IsSlotOf id xs s) (sym same) is;
  new = subst (λ (s : Slot A). IsNew s → IsNew slot) (sym same) (λ h. h);
}

-- one that the step has not touched, and that is done with by this move
pub moves_last : {A : Type 0} (Step : A → Move → A → Type 0) (id : ReqId) (xs : List (ReqId × A)) (slot slot' : Slot A) (turn : Move) (a : A) (g : Given) → slot ≡ Untouched → open_at xs id ≡ Some a → Step a turn a → turn.ended ≡ true → slot' ≡ Gone
    → g.sends ≡ turn.sends → g.entries ≡ turn.entries → Moves Step id xs slot g slot'
moves_last {A} Step id xs slot slot' turn a g untouched there step ended gone sends entries =
    subst (λ (s : Slot A). Moves Step id xs s g slot') (sym untouched)
    (moves_made Step id xs Untouched slot' (record { now = a; is_new = false }) turn a g (opens_before id xs a there) step (gone ∙ ap (λ (b : Bool). slot_after false b a) (sym ended)) sends entries)

-- what is taken out as new is what began
pub new_taken : {A : Type 0} (slot slot' : Slot A) (r : Option A) (a : A) → TakesNew slot r slot' → r ≡ Some a → slot ≡ New a
new_taken {A} Untouched slot' r a h is = absurd (some_not_none a (sym is ∙ h.0))
new_taken {A} (New b) slot' r a h is = ap (λ (x : A). let s : Slot A = New x in s) (some_one b a (sym h.0 ∙ is))
new_taken {A} (Old b) slot' r a h is = absurd (some_not_none a (sym is ∙ h.0))
new_taken {A} Gone slot' r a h is = absurd (some_not_none a (sym is ∙ h.0))
