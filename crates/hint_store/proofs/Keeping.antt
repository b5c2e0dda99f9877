-- A store through its changes.
use Rattle.std.proofs.Common.{◌≡◌, ℕ, ◌+◌, ◌-◌, ◌<◌, ◌≤◌, ◌^◌, ◌↔◌, inl, inr, Bool, true, false, List, [], ◌∷◌, Some, None, filter, length, refl, sym, ap, subst, ◌∙◌, arith, Contains}
use Rattle.std.specs.Prelude.{◌==◌, ◌&&◌, ◌||◌, not, nat_lt, if◌then◌else◌, slice_index_or}
use Rattle.std.specs.List.{list_any}
use Rattle.std.specs.Map.{values_of}
use Rattle.std.specs.BTreeSet.{insert_key}
use Rattle.std.proofs.lemmas.Bool.{or_parts, cases_Bool, eqb-true, eq-eqb, ltb-true, ltb-false, lt-ltb, le-ltb, lt-leb, not-true, not-false, and_parts}
use lib.Dec.{leb}
use Rattle.std.proofs.lemmas.List.Elements.{filter-append}
use Rattle.cs_base.proofs.Members.{contains_nil, some_passes}
use Rattle.changes.specs.declared.Mutation.{Mutation}
use Rattle.row_change.specs.declared.entry.Hint.{Hint}
use Rattle.durable_state.specs.declared.parts.LastNumber.{LastNumber}
use Rattle.durable_state.specs.State.{hints_of, last_of}
use Rattle.durable_state.specs.Keeping.{without_hint}
use Rattle.node_steps.specs.Hints.{KeptHints, is_full, next_hint, with_hint, push_hint, is_kept, drop_hint}
use Rattle.hint_store.specs.declared.tally.Tally.{Tally}
use Rattle.hint_store.specs.Staged.{IsSameHints, no_hints, next_number}
use Rattle.hint_store.specs.declared.aging.Expired.{Expired}
use Rattle.hint_store.specs.Expiry.{IsExpired, expired_of}
use Rattle.hint_store.specs.Tables.{place_cmp, is_hint, passing}
use Rattle.hint_store.specs.Tallies.{numbers_from, SetsAt}
use Rattle.hint_store.specs.Stores.{is_gone, is_added, hints_before, hints_now, Counts, AreGiven, IsStore, HasNow}
use Rattle.hint_store.proofs.Keys.{count_from_some, count_from_none}
use Rattle.hint_store.proofs.Indexing.{any_of}
use Rattle.hint_store.proofs.Staging.{last_is, none_went, none_came, new_is_left, given_on, sets_up, count_on, last_on, given_more, now_loses, all_left, none_left, count_off, count_others}

-- the hints and the numbers that a table, what went of it and a tally tell
abbrev pub kept_of : List Hint → List ℕ → KeptHints
kept_of hints lasts = record { hints = hints; numbers = numbers_from 0 lasts }

-- ---- nothing came or went

pub now_all : (gone : List (ℕ × ℕ)) (es : List ((ℕ × ℕ) × Hint)) → gone ≡ [] → hints_now gone es ≡ values_of es
now_all gone es none = ap (λ (g : List (ℕ × ℕ)). hints_now g es) none ∙ none_went es

pub before_all : (added : List (ℕ × ℕ)) (es : List ((ℕ × ℕ) × Hint)) → added ≡ [] → hints_before added es ≡ values_of es
before_all added es none = ap (λ (a : List (ℕ × ℕ)). hints_before a es) none ∙ none_came es

pub rests : (t : Tally) (es : List ((ℕ × ℕ) × Hint)) (gone added : List (ℕ × ℕ)) → gone ≡ [] → added ≡ [] → Counts t (values_of es) → IsStore es gone added t t
rests t es gone added none nothing counts = record {
  now = λ peer. counts peer ∙ ap (λ (hs : List Hint). length (hints_of hs peer)) (sym (now_all gone es none));
  before = λ peer. counts peer ∙ ap (λ (hs : List Hint). length (hints_of hs peer)) (sym (before_all added es nothing));
  given = λ x h. absurd (contains_nil x (subst (λ (g : List (ℕ × ℕ)). Contains g x) none h));
}

-- what the step did is kept, or undone
pub settled : (es es' : List ((ℕ × ℕ) × Hint)) (gone added gone' added' : List (ℕ × ℕ)) (current before : Tally) → IsStore es gone added current before → es' ≡ filter (λ e. not (is_gone gone e.1)) es → gone' ≡ [] → added' ≡ []
    → IsStore es' gone' added' current current
settled es es' gone added gone' added' current before store is none nothing =
    rests current es' gone' added' none nothing (λ peer. store.now peer ∙ ap (λ (xs : List ((ℕ × ℕ) × Hint)). length (hints_of (values_of xs) peer)) (sym is))

pub undone : (es es' : List ((ℕ × ℕ) × Hint)) (gone added gone' added' : List (ℕ × ℕ)) (current before : Tally) → IsStore es gone added current before → es' ≡ filter (λ e. not (is_added added e.0)) es → gone' ≡ [] → added' ≡ []
    → IsStore es' gone' added' before before
undone es es' gone added gone' added' current before store is none nothing =
    rests before es' gone' added' none nothing (λ peer. store.before peer ∙ ap (λ (xs : List ((ℕ × ℕ) × Hint)). length (hints_of (values_of xs) peer)) (sym is))

-- ---- a hint comes

pub gained : (es es' : List ((ℕ × ℕ) × Hint)) (gone added added' : List (ℕ × ℕ)) (current current' before : Tally) (h : Hint) → IsStore es gone added current before → hints_before added' es' ≡ hints_before added es → HasNow h es es'
    → SetsAt h.peer h.number current.last current'.last → SetsAt h.peer (slice_index_or current.count h.peer 0 + 1) current.count current'.count → slice_index_or current.last h.peer 0 < h.number
    → IsStore es' gone added' current' before
gained es es' gone added added' current current' before h store same has last count above = record {
  now = λ peer. count_on h current.count current'.count (hints_now gone es) (hints_now gone es') peer count (has gone peer (new_is_left current gone h store.given above)) (store.now peer);
  before = λ peer. store.before peer ∙ ap (λ (hs : List Hint). length (hints_of hs peer)) (sym same);
  given = given_on current current' gone (sets_up h.peer h.number current.last current'.last last (omega (arith, above))) store.given;
}

pub missed : (es es' : List ((ℕ × ℕ) × Hint)) (gone added added' : List (ℕ × ℕ)) (current before : Tally) → IsStore es gone added current before → hints_before added' es' ≡ hints_before added es → es' ≡ es → IsStore es' gone added' current before
missed es es' gone added added' current before store same is = record {
  now = λ peer. store.now peer ∙ ap (λ (xs : List ((ℕ × ℕ) × Hint)). length (hints_of (hints_now gone xs) peer)) (sym is);
  before = λ peer. store.before peer ∙ ap (λ (hs : List Hint). length (hints_of hs peer)) (sym same);
  given = store.given;
}

push_if : (b : Bool) (k k' : KeptHints) (h : Hint) → b ≡ false → IsSameHints (with_hint h k) k' → IsSameHints (if b then k else with_hint h k) k'
push_if true k k' h is same = cc
push_if false k k' h is same = same

pub pushed_in : (es es' : List ((ℕ × ℕ) × Hint)) (gone : List (ℕ × ℕ)) (current current' : Tally) (h : Hint) → is_full (kept_of (hints_now gone es) current.last) h.peer ≡ false → h.number ≡ slice_index_or current.last h.peer 0 + 1
    → AreGiven current gone → HasNow h es es' → SetsAt h.peer h.number current.last current'.last
    → IsSameHints (push_hint h.peer h.born h.mutation (kept_of (hints_now gone es) current.last)) (kept_of (hints_now gone es') current'.last)
pushed_in es es' gone current current' h room number given has last =
    let k : KeptHints = kept_of (hints_now gone es) current.last in
    let is : next_hint h.peer h.born h.mutation k ≡ h = ap (λ (n : ℕ). record h { number = n }) (ap (λ (n : ℕ). n + 1) (last_is current.last h.peer) ∙ sym number) in
    let left : is_gone gone h ≡ false = new_is_left current gone h given (omega (arith, number)) in
    push_if (is_full k h.peer) k (kept_of (hints_now gone es') current'.last) (next_hint h.peer h.born h.mutation k) room
    (subst (λ (g : Hint). IsSameHints (with_hint g k) (kept_of (hints_now gone es') current'.last)) (sym is) (record {
      hints = λ peer. has gone peer left ∙ sym (filter-append (λ x. x.peer == peer) (hints_now gone es) (h ∷ []));
      numbers = λ peer. last_on h.peer h.number current.last current'.last last peer;
    }))

-- ---- a hint goes

number_given : (k : KeptHints) (peer number : ℕ) → is_kept k peer number ≡ true → (number ≤ last_of k.numbers peer) × (list_any (is_hint peer number) k.hints ≡ true)
number_given k peer number kept =
    let parts = and_parts (not (nat_lt (last_of k.numbers peer) number)) (list_any (is_hint peer number) k.hints) kept in
    let below = ltb-false (last_of k.numbers peer) number (not-true (nat_lt (last_of k.numbers peer) number) parts.0) in
    (below, parts.1)

not_there : (b : Bool) (any : Bool) → (b ≡ true → any ≡ false) → any ≡ true → b ≡ false
not_there true any none is = let off = none refl in let clash : false ≡ true = sym off ∙ is in cc
not_there false any none is = refl

-- all that the table has of the number are left, and go
all_of_it : (es : List ((ℕ × ℕ) × Hint)) (gone : List (ℕ × ℕ)) (last : List ℕ) (peer number : ℕ) → is_kept (kept_of (hints_now gone es) last) peer number ≡ true
    → passing (is_hint peer number) (hints_now gone es) ≡ passing (is_hint peer number) (values_of es)
all_of_it es gone last peer number kept =
    let given = number_given (kept_of (hints_now gone es) last) peer number kept in
    all_left gone peer number es (not_there (is_added gone (peer, number)) (list_any (is_hint peer number) (hints_now gone es)) (none_left gone peer number es) given.1)

pub so_many : (es : List ((ℕ × ℕ) × Hint)) (gone added : List (ℕ × ℕ)) (current before : Tally) (peer number n : ℕ) → IsStore es gone added current before → is_kept (kept_of (hints_now gone es) current.last) peer number ≡ true
    → n ≡ length (filter (is_hint peer number) (values_of es)) → n ≤ slice_index_or current.count peer 0
so_many es gone added current before peer number n store kept count =
    let all = all_of_it es gone current.last peer number kept in
    let off = count_off peer number (hints_now gone es) in
    let now = store.now peer in
    omega (arith, all, off, now, count)

pub lost : (es : List ((ℕ × ℕ) × Hint)) (gone gone' added : List (ℕ × ℕ)) (current current' before : Tally) (peer number n : ℕ) → IsStore es gone added current before → is_kept (kept_of (hints_now gone es) current.last) peer number ≡ true
    → gone' ≡ insert_key place_cmp gone (peer, number) → n ≡ length (filter (is_hint peer number) (values_of es)) → SetsAt peer (slice_index_or current.count peer 0 - n) current.count current'.count → current'.last ≡ current.last
    → IsStore es gone' added current' before
lost es gone gone' added current current' before peer number n store kept is count sets last =
    let all = all_of_it es gone current.last peer number kept in
    let off = count_off peer number (hints_now gone es) in
    let given = number_given (kept_of (hints_now gone es) current.last) peer number kept in
    let below : number ≤ slice_index_or current.last peer 0 = subst (λ (m : ℕ). number ≤ m) (last_is current.last peer) given.0 in
    record {
      now = λ q. elim (cases_Bool (q == peer)) [
        | inl same ↦
            let counted : slice_index_or current'.count peer 0 ≡ length (hints_of (without_hint (hints_now gone es) peer number) peer) =
            (let here = sets.here in let now = store.now peer in omega (arith, here, now, all, off, count)) in
            subst (λ (k : ℕ). slice_index_or current'.count k 0 ≡ length (hints_of (hints_now gone' es) k)) (sym (eqb-true q peer same))
            (counted ∙ ap (λ (hs : List Hint). length (hints_of hs peer)) (sym (now_loses gone gone' peer number es is)))
        | inr apart ↦
            let other : q ≡ peer → ⊥ = λ e. off_on (q == peer) apart (eq-eqb q peer e) in
            sets.others q other ∙ store.now q ∙ ap (λ (hs : List Hint). length hs) (sym (count_others peer number q (hints_now gone es) other))
            ∙ ap (λ (hs : List Hint). length (hints_of hs q)) (sym (now_loses gone gone' peer number es is))
      ];
      before = store.before;
      given = subst (λ (l : List ℕ). (x : ℕ × ℕ) → Contains gone' x → x.1 ≤ slice_index_or l x.0 0) (sym last) (given_more current gone gone' peer number is below store.given);
    }
  where
    off_on : (b : Bool) → b ≡ false → b ≡ true → ⊥
    off_on true h k = cc
    off_on false h k = cc

drop_if : (b : Bool) (k k' : KeptHints) (peer number : ℕ) → b ≡ true → k' ≡ record k { hints = without_hint k.hints peer number } → k' ≡ (if b then record k { hints = without_hint k.hints peer number } else k)
drop_if true k k' peer number is same = same
drop_if false k k' peer number is same = cc

pub dropped : (es : List ((ℕ × ℕ) × Hint)) (gone gone' : List (ℕ × ℕ)) (last last' : List ℕ) (peer number : ℕ) → is_kept (kept_of (hints_now gone es) last) peer number ≡ true → gone' ≡ insert_key place_cmp gone (peer, number) → last' ≡ last
    → kept_of (hints_now gone' es) last' ≡ drop_hint peer number (kept_of (hints_now gone es) last)
dropped es gone gone' last last' peer number kept is same =
    drop_if (is_kept (kept_of (hints_now gone es) last) peer number) (kept_of (hints_now gone es) last) (kept_of (hints_now gone' es) last') peer number kept
    (ap (λ (hs : List Hint). kept_of hs last') (now_loses gone gone' peer number es is) ∙ ap (λ (l : List ℕ). kept_of (without_hint (hints_now gone es) peer number) l) same)

stays_if : (b : Bool) (k : KeptHints) (peer number : ℕ) → b ≡ false → k ≡ (if b then record k { hints = without_hint k.hints peer number } else k)
stays_if true k peer number is = cc
stays_if false k peer number is = refl

pub not_dropped : (k : KeptHints) (peer number : ℕ) → is_kept k peer number ≡ false → k ≡ drop_hint peer number k
not_dropped k peer number is = stays_if (is_kept k peer number) k peer number is

full_if : (b : Bool) (k : KeptHints) (h : Hint) → b ≡ true → (if b then k else with_hint h k) ≡ k
full_if true k h is = refl
full_if false k h is = cc

pub full_takes_none : (k : KeptHints) (peer born : ℕ) (m : Mutation) → is_full k peer ≡ true → push_hint peer born m k ≡ k
full_takes_none k peer born m is = full_if (is_full k peer) k (next_hint peer born m k) is

-- ---- ages

pub is_older : (expiry time : ℕ) (h : Hint) → h.born < time - expiry → IsExpired expiry time h
is_older expiry time h below = omega (arith, below)

pub is_expired : (expiry time : ℕ) (h : Hint) → IsExpired expiry time h → h.born < time - expiry
is_expired expiry time h past = omega (arith, past)

pub any_expired : (expiry time : ℕ) (hints : List Hint) → (list_any (λ h. nat_lt h.born (time - expiry)) hints ≡ true) ↔ ((h : Hint) × Contains hints h × IsExpired expiry time h)
any_expired expiry time hints = (
  λ any. (let found = some_passes (λ (h : Hint). nat_lt h.born (time - expiry)) hints any in (found.0, found.1, is_older expiry time found.0 (ltb-true found.0.born (time - expiry) found.2))),
  λ (h, there, past). any_of (λ (x : Hint). nat_lt x.born (time - expiry)) hints h there (lt-ltb h.born (time - expiry) (is_expired expiry time h past)),
)

-- ---- what a store begins with

pub nothing_now : (gone : List (ℕ × ℕ)) (es : List ((ℕ × ℕ) × Hint)) (last : List ℕ) → gone ≡ [] → es ≡ [] → numbers_from 0 last ≡ [] → kept_of (hints_now gone es) last ≡ no_hints
nothing_now gone es last none empty numbers =
    ap (λ (hs : List Hint). kept_of hs last) (now_all gone es none ∙ ap (λ (xs : List ((ℕ × ℕ) × Hint)). values_of xs) empty) ∙ ap (λ (ns : List LastNumber). record { hints = []; numbers = ns }) numbers

pub nothing_before : (added : List (ℕ × ℕ)) (es : List ((ℕ × ℕ) × Hint)) (last : List ℕ) → added ≡ [] → es ≡ [] → numbers_from 0 last ≡ [] → kept_of (hints_before added es) last ≡ no_hints
nothing_before added es last none empty numbers =
    ap (λ (hs : List Hint). kept_of hs last) (before_all added es none ∙ ap (λ (xs : List ((ℕ × ℕ) × Hint)). values_of xs) empty) ∙ ap (λ (ns : List LastNumber). record { hints = []; numbers = ns }) numbers

pub same_restored : (gone : List (ℕ × ℕ)) (es : List ((ℕ × ℕ) × Hint)) (last : List ℕ) (hints : List Hint) (numbers : List LastNumber) → gone ≡ [] → ((peer : ℕ) → hints_of (values_of es) peer ≡ hints_of hints peer)
    → ((peer : ℕ) → slice_index_or last peer 0 ≡ last_of numbers peer) → IsSameHints (record { hints = hints; numbers = numbers }) (kept_of (hints_now gone es) last)
same_restored gone es last hints numbers none own lasts = record {
  hints = λ peer. ap (λ (hs : List Hint). hints_of hs peer) (now_all gone es none) ∙ own peer;
  numbers = λ peer. last_is last peer ∙ lasts peer;
}

pub both_same : (gone added : List (ℕ × ℕ)) (es : List ((ℕ × ℕ) × Hint)) (last : List ℕ) → gone ≡ [] → added ≡ [] → kept_of (hints_before added es) last ≡ kept_of (hints_now gone es) last
both_same gone added es last none nothing = ap (λ (hs : List Hint). kept_of hs last) (before_all added es nothing ∙ sym (now_all gone es none))

-- ---- what is told of a peer

eq_or_less : (b : Bool) (n m : ℕ) → n ≤ m → nat_lt n m ≡ b → (n == m) ≡ not b
eq_or_less true n m below is = apart_if (n == m) refl
  where
    apart_if : (d : Bool) → (n == m) ≡ d → d ≡ false
    apart_if true same = let e = eqb-true n m same in let less = ltb-true n m is in absurd (omega (arith, e, less))
    apart_if false same = refl
eq_or_less false n m below is = let above = ltb-false n m is in eq-eqb n m (omega (arith, above, below))

pub room_told : (t : Tally) (hints : List Hint) (count last peer : ℕ) → count ≡ slice_index_or t.count peer 0 → slice_index_or t.count peer 0 ≡ length (hints_of hints peer) → last ≡ slice_index_or t.last peer 0 → count < 65536 → last ≤ 2 ^ 64 - 1
    → (last == (2 ^ 64 - 1)) ≡ is_full (kept_of hints t.last) peer
room_told t hints count last peer counts own lasts few fits =
    eq_or_less (nat_lt last (2 ^ 64 - 1)) last (2 ^ 64 - 1) fits refl
    ∙ ap (λ (n : ℕ). not (nat_lt n (2 ^ 64 - 1))) (lasts ∙ sym (last_is t.last peer))
    ∙ ap (λ (b : Bool). not b || not (nat_lt (last_of (numbers_from 0 t.last) peer) (2 ^ 64 - 1))) (sym (lt-ltb (length (hints_of hints peer)) 65536 (omega (arith, counts, own, few))))

told_if : (b : Bool) (n : ℕ) (q : Hint → Bool) (xs : List Hint) → list_any q xs ≡ b → n ≡ passing q xs → nat_lt 0 n ≡ b
told_if true n q xs any is = let many = count_from_some q xs any in lt-ltb 0 n (omega (arith, many, is))
told_if false n q xs any is = let none = count_from_none q xs any in le-ltb 0 n (omega (arith, none, is))

pub left_told : (es : List ((ℕ × ℕ) × Hint)) (gone : List (ℕ × ℕ)) (peer number n : ℕ) → is_added gone (peer, number) ≡ false → n ≡ length (filter (is_hint peer number) (values_of es)) → nat_lt 0 n ≡ list_any (is_hint peer number) (hints_now gone es)
left_told es gone peer number n left is =
    told_if (list_any (is_hint peer number) (hints_now gone es)) n (is_hint peer number) (hints_now gone es) refl (is ∙ sym (all_left gone peer number es left))

pub kept_told : (k : KeptHints) (peer number last : ℕ) (b : Bool) → last ≡ last_of k.numbers peer → number ≤ last → b ≡ list_any (is_hint peer number) k.hints → b ≡ is_kept k peer number
kept_told k peer number last b lasts below is =
    is ∙ ap (λ (c : Bool). not c && list_any (is_hint peer number) k.hints) (sym (le-ltb (last_of k.numbers peer) number (omega (arith, lasts, below))))

pub not_kept_told : (k : KeptHints) (peer number last : ℕ) → last ≡ last_of k.numbers peer → last < number → leb number last ≡ is_kept k peer number
not_kept_told k peer number last lasts above =
    lt-leb number last above ∙ ap (λ (c : Bool). not c && list_any (is_hint peer number) k.hints) (sym (lt-ltb (last_of k.numbers peer) number (omega (arith, lasts, above))))

-- ---- the hints that are too old

pub expired_each : (expiry time limit : ℕ) (hints hints' : List Hint) (all : List Expired) → limit ≡ time - expiry → hints ≡ hints' → ((x : Expired) → Contains all x ↔ ((h : Hint) × Contains hints h × (h.born < limit) × (x ≡ expired_of h)))
    → (x : Expired) → Contains all x ↔ ((h : Hint) × Contains hints' h × IsExpired expiry time h × (x ≡ expired_of h))
expired_each expiry time limit hints hints' all is same each x = (
  λ there.
      let found = (each x).0 there in
      (found.0, subst (λ (hs : List Hint). Contains hs found.0) same found.1, is_older expiry time found.0 (subst (λ (n : ℕ). found.0.born < n) is found.2), found.3),
  λ (h, there, past, at). (each x).1 (h, subst (λ (hs : List Hint). Contains hs h) (sym same) there, subst (λ (n : ℕ). h.born < n) (sym is) (is_expired expiry time h past), at),
)

-- ---- room for a further hint

pub room_of : (k : KeptHints) (peer : ℕ) → is_full k peer ≡ false → (length (hints_of k.hints peer) < 65536) × (last_of k.numbers peer < 2 ^ 64 - 1)
room_of k peer room =
    let parts = or_parts (not (nat_lt (length (hints_of k.hints peer)) 65536)) (not (nat_lt (last_of k.numbers peer) (2 ^ 64 - 1))) room in (
      ltb-true (length (hints_of k.hints peer)) 65536 (not-false (nat_lt (length (hints_of k.hints peer)) 65536) parts.0),
      ltb-true (last_of k.numbers peer) (2 ^ 64 - 1) (not-false (nat_lt (last_of k.numbers peer) (2 ^ 64 - 1)) parts.1),
    )

next_if : (b : Bool) (n : ℕ) (number : ℕ) → b ≡ false → number ≡ n + 1 → Some number ≡ (if b then None else Some (n + 1))
next_if true n number room is = cc
next_if false n number room is = ap (λ (m : ℕ). Some m) is

pub next_told : (k : KeptHints) (peer number : ℕ) → is_full k peer ≡ false → number ≡ last_of k.numbers peer + 1 → Some number ≡ next_number k peer
next_told k peer number room is = next_if (is_full k peer) (last_of k.numbers peer) number room is
