-- What moves at one partition make of all look-ups.
use Rattle.std.proofs.Common.{◌≡◌, ℕ, ◌<◌, ◌+◌, Bool, true, false, cond, Option, Some, None, List, [], ◌∷◌, ◌++◌, length, take, get_or, refl, sym, ap, ◌∙◌}
use Rattle.std.specs.Prelude.{◌||◌, if◌then◌else◌, is_some, not}
use Rattle.std.specs.BTreeMap.{is_at}
use Rattle.std.specs.Ordering.{is_eq}
use Rattle.std.proofs.lemmas.Cmp.{tied_itself}
use Rattle.std.proofs.lemmas.List.{append_assoc}
use Rattle.std.proofs.lemmas.List.Folds.{list_any-append, list_any_more}
use Rattle.changes.specs.declared.Partition.{Partition}
use Rattle.changes.specs.Order.{partition_cmp}
use Rattle.changes.specs.Totals.{partition_total}
use Rattle.changes.proofs.Orderings.{equal_is}
use Rattle.changes.proofs.Partitions.{partition_exact}
use Rattle.row_change.specs.declared.entry.PaxosRow.{PaxosRow}
use Rattle.row_store.specs.declared.slot.Slot.{Slot}
use Rattle.row_store.specs.Slots.{current_by, settled_in, staged_in, current_in}
use Rattle.durable_state.specs.declared.parts.RowAt.{RowAt}
use Rattle.durable_state.specs.State.{row_at}
use Rattle.row_store.specs.Stores.{AreSlotsOf, IsPutIn, kept_slot, slot_at, row_before, row_now, staged_at, is_noted, AreNoted, AreSameSlots, IsMovedAt, IsSetIn, IsSettledIn, IsUnsetIn, AreSettledIn, AreUnsetIn}

-- ---- one partition

pub is_one : (p q : Partition) → is_at (partition_cmp p) q ≡ true → p ≡ q
is_one p q e = partition_exact p q (equal_is (partition_cmp p q) e)

is_itself : (p : Partition) → is_at (partition_cmp p) p ≡ true
is_itself p = ap is_eq (tied_itself partition_total p)

pub both_ways : (p q : Partition) → is_at (partition_cmp p) q ≡ is_at (partition_cmp q) p
both_ways p q = go (is_at (partition_cmp p) q) (is_at (partition_cmp q) p) refl refl
  where
    go : (s t : Bool) → is_at (partition_cmp p) q ≡ s → is_at (partition_cmp q) p ≡ t → is_at (partition_cmp p) q ≡ is_at (partition_cmp q) p
    go true true e f = e ∙ sym f
    go false false e f = e ∙ sym f
    go true false e f = ap (λ (r : Partition). is_at (partition_cmp p) r) (sym (is_one p q e)) ∙ ap (λ (r : Partition). is_at (partition_cmp r) p) (is_one p q e)
    go false true e f = ap (λ (r : Partition). is_at (partition_cmp r) q) (sym (is_one q p f)) ∙ ap (λ (r : Partition). is_at (partition_cmp q) r) (is_one q p f)

-- what is so at a partition and as before at each other one
at_each : {A : Type 0} (p q : Partition) (f g : Partition → A) (x : A) → f p ≡ x → ((r : Partition) → is_at (partition_cmp p) r ≡ false → f r ≡ g r) → f q ≡ (if is_at (partition_cmp p) q then x else g q)
at_each {A} p q f g x here others = go (is_at (partition_cmp p) q) refl
  where
    go : (b : Bool) → is_at (partition_cmp p) q ≡ b → f q ≡ (if b then x else g q)
    go true e = ap f (sym (is_one p q e)) ∙ here
    go false e = others q e

-- what is the same there too is the same at each
same_each : {A : Type 0} (p q : Partition) (f g : Partition → A) → f p ≡ g p → ((r : Partition) → is_at (partition_cmp p) r ≡ false → f r ≡ g r) → f q ≡ g q
same_each {A} p q f g here others = go (is_at (partition_cmp p) q) refl
  where
    go : (b : Bool) → is_at (partition_cmp p) q ≡ b → f q ≡ g q
    go true e = ap f (sym (is_one p q e)) ∙ here ∙ ap g (is_one p q e)
    go false e = others q e

-- ---- an empty slot comes

slot_same : {A : Type 0} (p q : Partition) (es es' : List (Partition × Slot)) (empty : Slot) (f : Option Slot → A) → slot_at es p ≡ None → f (Some empty) ≡ f None
    → slot_at es' q ≡ cond (is_at (partition_cmp p) q) (Some empty) (slot_at es q) → f (slot_at es' q) ≡ f (slot_at es q)
slot_same {A} p q es es' empty f none without is = go (is_at (partition_cmp p) q) refl is
  where
    go : (b : Bool) → is_at (partition_cmp p) q ≡ b → slot_at es' q ≡ cond b (Some empty) (slot_at es q) → f (slot_at es' q) ≡ f (slot_at es q)
    go true e at = ap f at ∙ without ∙ sym (ap f (ap (slot_at es) (sym (is_one p q e)) ∙ none))
    go false e at = ap f at

pub added_same : (p : Partition) (es es' : List (Partition × Slot)) (empty : Slot) → empty ≡ record { settled = None; staged = None } → slot_at es p ≡ None
    → ((q : Partition) → slot_at es' q ≡ cond (is_at (partition_cmp p) q) (Some empty) (slot_at es q)) → AreSameSlots es es'
added_same p es es' empty is none at = record {
  before = λ q. slot_same p q es es' empty settled_in none (ap (λ (s : Slot). settled_in (Some s)) is) (at q);
  staged = λ q. slot_same p q es es' empty staged_in none (ap (λ (s : Slot). staged_in (Some s)) is) (at q);
  now = λ q. slot_same p q es es' empty current_in none (ap (λ (s : Slot). current_in (Some s)) is) (at q);
}

-- ---- a row is set

module _ (p : Partition) (row : PaxosRow) (es mid es' : List (Partition × Slot)) (same : AreSameSlots es mid) (is : IsSetIn p row mid es') where
  pub set_now : (q : Partition) → row_now es' q ≡ (if is_at (partition_cmp p) q then Some row else row_now es q)
  set_now q = at_each p q (row_now es') (row_now es) (Some row) is.now_here (λ r e. is.now_others r e ∙ same.now r)

  pub set_before : (q : Partition) → row_before es' q ≡ row_before es q
  set_before q = same_each p q (row_before es') (row_before mid) is.before_here is.before_others ∙ same.before q

  staged_now : (q : Partition) → staged_at es' q ≡ (if is_at (partition_cmp p) q then Some row else staged_at mid q)
  staged_now q = at_each p q (staged_at es') (staged_at mid) (Some row) is.staged_here is.staged_others

  pub noted_still : (set : List Partition) → AreNoted es set → is_some (staged_at mid p) ≡ true → AreNoted es' set
  noted_still set noted was q = go (is_at (partition_cmp p) q) refl (staged_now q)
    where
      go : (b : Bool) → is_at (partition_cmp p) q ≡ b → staged_at es' q ≡ (if b then Some row else staged_at mid q) → is_some (staged_at es' q) ≡ is_noted set q
      go true e at = ap is_some at ∙ sym was ∙ ap is_some (same.staged p) ∙ noted p ∙ ap (is_noted set) (is_one p q e)
      go false e at = ap is_some at ∙ ap is_some (same.staged q) ∙ noted q

  pub noted_too : (set : List Partition) → AreNoted es set → AreNoted es' (set ++ p ∷ [])
  noted_too set noted q = go (is_at (partition_cmp p) q) (is_noted set q) refl refl (staged_now q) ∙ sym (list_any-append (is_at (partition_cmp q)) set (p ∷ []) ∙ ap (λ (b : Bool). is_noted set q || (b || false)) (both_ways q p))
    where
      go : (b n : Bool) → is_at (partition_cmp p) q ≡ b → is_noted set q ≡ n → staged_at es' q ≡ (if b then Some row else staged_at mid q) → is_some (staged_at es' q) ≡ (is_noted set q || (is_at (partition_cmp p) q || false))
      go true true e f at = ap is_some at ∙ sym (ap (λ (c : Bool). c || (is_at (partition_cmp p) q || false)) f)
      go true false e f at = ap is_some at ∙ sym (ap (λ (c : Bool). c || (is_at (partition_cmp p) q || false)) f ∙ ap (λ (c : Bool). c || false) e)
      go false true e f at = ap is_some at ∙ ap is_some (same.staged q) ∙ noted q ∙ f ∙ sym (ap (λ (c : Bool). c || (is_at (partition_cmp p) q || false)) f)
      go false false e f at = ap is_some at ∙ ap is_some (same.staged q) ∙ noted q ∙ f ∙ sym (ap (λ (c : Bool). c || (is_at (partition_cmp p) q || false)) f ∙ ap (λ (c : Bool). c || false) e)

-- ---- what was set goes, partition by partition

-- of one more partition nothing is set
staged_more : (p q : Partition) (done : Bool) (old mid new : Option PaxosRow) → mid ≡ (if done then None else old) → new ≡ (if is_at (partition_cmp p) q then None else mid) → new ≡ (if done || is_at (partition_cmp q) p then None else old)
staged_more p q done old mid new was is = go done (is_at (partition_cmp p) q) was is (both_ways p q)
  where
    go : (d b : Bool) → mid ≡ (if d then None else old) → new ≡ (if b then None else mid) → b ≡ is_at (partition_cmp q) p → new ≡ (if d || is_at (partition_cmp q) p then None else old)
    go true true was is same = is
    go true false was is same = is ∙ was
    go false true was is same = is ∙ ap (λ (c : Bool). if c then None else old) same
    go false false was is same = is ∙ was ∙ ap (λ (c : Bool). if c then None else old) same

noted_more : (set : List Partition) (i : ℕ) (p q : Partition) → i < length set → p ≡ get_or set i p → is_noted (take (i + 1) set) q ≡ (is_noted (take i set) q || is_at (partition_cmp q) p)
noted_more set i p q within at = list_any_more (is_at (partition_cmp q)) set i p within ∙ ap (λ (r : Partition). is_noted (take i set) q || is_at (partition_cmp q) r) (sym at)

moved_more : (set : List Partition) (i : ℕ) (p : Partition) (es mid es' : List (Partition × Slot)) (x y : Option PaxosRow) → i < length set → p ≡ get_or set i p
    → ((q : Partition) → staged_at mid q ≡ (if is_noted (take i set) q then None else staged_at es q)) → IsMovedAt p x None y mid es'
    → (q : Partition) → staged_at es' q ≡ (if is_noted (take (i + 1) set) q then None else staged_at es q)
moved_more set i p es mid es' x y within at so_far is q =
    staged_more p q (is_noted (take i set) q) (staged_at es q) (staged_at mid q) (staged_at es' q) (so_far q) (at_each p q (staged_at es') (staged_at mid) None is.staged_here is.staged_others)
    ∙ ap (λ (c : Bool). if c then None else staged_at es q) (sym (noted_more set i p q within at))

pub settled_more : (set : List Partition) (i : ℕ) (p : Partition) (es mid es' : List (Partition × Slot)) → i < length set → p ≡ get_or set i p → AreSettledIn (take i set) es mid → IsSettledIn p mid es' → AreSettledIn (take (i + 1) set) es es'
settled_more set i p es mid es' within at so_far is = record {
  now = λ q. same_each p q (row_now es') (row_now mid) is.now_here is.now_others ∙ so_far.now q;
  staged = moved_more set i p es mid es' (row_now mid p) (row_now mid p) within at so_far.staged is;
}

pub unset_more : (set : List Partition) (i : ℕ) (p : Partition) (es mid es' : List (Partition × Slot)) → i < length set → p ≡ get_or set i p → AreUnsetIn (take i set) es mid → IsUnsetIn p mid es' → AreUnsetIn (take (i + 1) set) es es'
unset_more set i p es mid es' within at so_far is = record {
  before = λ q. same_each p q (row_before es') (row_before mid) is.before_here is.before_others ∙ so_far.before q;
  staged = moved_more set i p es mid es' (row_before mid p) (row_before mid p) within at so_far.staged is;
}

-- ---- behind all of them

-- where all that is set was noted, nothing is set any more
none_staged : (set : List Partition) (es es' : List (Partition × Slot)) → AreNoted es set → ((q : Partition) → staged_at es' q ≡ (if is_noted set q then None else staged_at es q)) → (q : Partition) → staged_at es' q ≡ None
none_staged set es es' noted is q = go (is_noted set q) refl (is q)
  where
    none : (x : Option PaxosRow) → is_some x ≡ false → x ≡ None
    none None e = refl
    none (Some row) e = cc

    go : (b : Bool) → is_noted set q ≡ b → staged_at es' q ≡ (if b then None else staged_at es q) → staged_at es' q ≡ None
    go true e at = at
    go false e at = at ∙ none (staged_at es q) (noted q ∙ e)

nothing_staged : (s : Option Slot) → staged_in s ≡ None → current_in s ≡ settled_in s
nothing_staged None e = refl
nothing_staged (Some s) e = ap (λ (x : Option PaxosRow). current_by x s.settled) e

pub none_noted : (es : List (Partition × Slot)) → ((q : Partition) → staged_at es q ≡ None) → AreNoted es []
none_noted es none q = ap is_some (none q)

module _ (set : List Partition) (es es' : List (Partition × Slot)) (noted : AreNoted es set) where
  pub settled_noted : AreSettledIn set es es' → AreNoted es' []
  settled_noted is = none_noted es' (none_staged set es es' noted is.staged)

  pub settled_before : AreSettledIn set es es' → (q : Partition) → row_before es' q ≡ row_now es q
  settled_before is q = sym (nothing_staged (slot_at es' q) (none_staged set es es' noted is.staged q)) ∙ is.now q

  pub unset_noted : AreUnsetIn set es es' → AreNoted es' []
  unset_noted is = none_noted es' (none_staged set es es' noted is.staged)

  pub unset_now : AreUnsetIn set es es' → (q : Partition) → row_now es' q ≡ row_before es q
  unset_now is q = nothing_staged (slot_at es' q) (none_staged set es es' noted is.staged q) ∙ is.before q

-- ---- rows that were kept, the last first

row_comes : (p q : Partition) (row : PaxosRow) (es es' : List (Partition × Slot)) (slot : Slot) (rest : Option PaxosRow) → slot ≡ record { settled = Some row; staged = None } → row_before es q ≡ rest
    → slot_at es' q ≡ cond (is_at (partition_cmp p) q) (Some slot) (slot_at es q) → row_before es' q ≡ (if is_at (partition_cmp p) q then Some row else rest)
row_comes p q row es es' slot rest is was at = go (is_at (partition_cmp p) q) at
  where
    go : (b : Bool) → slot_at es' q ≡ cond b (Some slot) (slot_at es q) → row_before es' q ≡ (if b then Some row else rest)
    go true e = ap settled_in e ∙ ap (λ (s : Slot). s.settled) is
    go false e = ap settled_in e ∙ was

none_comes : (p q : Partition) (row : PaxosRow) (es es' : List (Partition × Slot)) (slot : Slot) → slot ≡ record { settled = Some row; staged = None } → staged_at es q ≡ None
    → slot_at es' q ≡ cond (is_at (partition_cmp p) q) (Some slot) (slot_at es q) → staged_at es' q ≡ None
none_comes p q row es es' slot is was at = go (is_at (partition_cmp p) q) at
  where
    go : (b : Bool) → slot_at es' q ≡ cond b (Some slot) (slot_at es q) → staged_at es' q ≡ None
    go true e = ap staged_in e ∙ ap (λ (s : Slot). s.staged) is
    go false e = ap staged_in e ∙ was

pub slots_more : (x : RowAt) (done : List RowAt) (es es' : List (Partition × Slot)) (slot : Slot) → slot ≡ record { settled = Some x.row; staged = None } → AreSlotsOf done es
    → ((q : Partition) → slot_at es' q ≡ cond (is_at (partition_cmp x.partition) q) (Some slot) (slot_at es q)) → AreSlotsOf (x ∷ done) es'
slots_more x done es es' slot is was at = record {
  before = λ q. row_comes x.partition q x.row es es' slot (row_at done q) is (was.before q) (at q);
  staged = λ q. none_comes x.partition q x.row es es' slot is (was.staged q) (at q);
}

pub was_set : (b : Bool) → false ≡ not b → b ≡ true
was_set true e = refl
was_set false e = cc

pub at_set : (p q : Partition) (row : PaxosRow) (x y : Option PaxosRow) → x ≡ y → (if is_at (partition_cmp p) q then Some row else x) ≡ (if is_at (partition_cmp p) q then Some row else y)
at_set p q row x y same = ap (λ (z : Option PaxosRow). if is_at (partition_cmp p) q then Some row else z) same

pub kept_more : (all left left' : List RowAt) (x : RowAt) (es es' : List (Partition × Slot)) → (done : List RowAt) × (left ++ done ≡ all) × AreSlotsOf done es → left ≡ left' ++ x ∷ [] → IsPutIn x es es'
    → (done : List RowAt) × (left' ++ done ≡ all) × AreSlotsOf done es'
kept_more all left left' x es es' was is at =
    (x ∷ was.0, sym (append_assoc left' (x ∷ []) was.0) ∙ ap (λ (l : List RowAt). l ++ was.0) (sym is) ∙ was.1, slots_more x was.0 es es' (kept_slot x.row) refl was.2 at)
