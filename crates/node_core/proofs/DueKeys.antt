-- All that is due, as its keys tell it.
use Rattle.std.proofs.Common.{◌≡◌, ◌↔◌, ◌⊎◌, inl, inr, ℕ, suc, ◌+◌, ◌++◌, ◌<◌, ◌≤◌, Bool, true, false, cond, Some, None, List, [], ◌∷◌, map, take, refl, sym, ap, subst, ◌∙◌, arith, Contains}
use Rattle.std.specs.Prelude.{nat_lt, not, take_while, slice_get}
use Rattle.std.specs.List.{All, AllByRecursion, prefix_len}
use Rattle.std.specs.List.Sorted.{IsStrictlySortedBy}
use Rattle.std.specs.Map.{keys_of}
use Rattle.std.specs.BTreeMap.{BTreeMap, IsOrdered}
use Rattle.std.specs.BTreeSet.{insert_key}
use Rattle.std.specs.Ordering.{nat_cmp, ordering_then, match_ordering, is_gt}
use Rattle.std.specs.Cmp.{nat_cmp_is, ranked}
use Rattle.std.specs.declared.cmp.Ordering.{Ordering}
use Rattle.std.specs.declared.cmp.Ordering.TheVariants.{Less, Equal, Greater}
use Rattle.std.proofs.lemmas.Bool.{cases_Bool, lt-ltb, ltb-true, ltb-false}
use Rattle.std.proofs.lemmas.List.Elements.{All-contains}
use Rattle.std.proofs.lemmas.Map.Lookups.{exact_unsigned}
use Rattle.cs_base.specs.declared.ids.ReqId.{ReqId}
use Rattle.cs_base.specs.Requests.{request_cmp}
use Rattle.cs_base.proofs.Entries.{contains_insert_key}
use Rattle.cs_base.proofs.Members.{contains_nil, contains_cases, contains_here, contains_there, contains_map, contains_from_map, contains_push}
use Rattle.changes.proofs.Orderings.{then_equal}
use Rattle.row_change.specs.declared.entry.Hint.{Hint}
use Rattle.peer_messages.specs.Moves.{deadline_of}
use Rattle.node_steps.specs.Hints.{KeptHints}
use Rattle.node_steps.specs.Steps.{Due, AreAscending, IsDue, IsDeadline, IsExpiry, due_cmp, expiry_of, kind_of}
use Rattle.node_steps.proofs.Opened.{request_exact}
use Rattle.hint_store.specs.declared.aging.Expired.{Expired}
use Rattle.hint_store.specs.Expiry.{IsExpired, expired_of}
use Rattle.node_core.specs.declared.base.Base.{Base}
use Rattle.node_core.specs.declared.due.DueKind.{DueKind}
use Rattle.node_core.specs.declared.due.DueKind.TheVariants.{Deadline, Expiry}
use Rattle.node_core.specs.declared.due.DueKey.{DueKey}
use Rattle.node_core.proofs.Slots.{some_one}
use Rattle.node_core.specs.Due.{AreDueKeys, AreOwn, IsDeadlineKey, IsExpiryKey, act_at, act_by, deadline_key, due_by, expiry_key, is_due_at, key_cmp, kind_number, waits_in}

-- ---- keys in a set

key_made : {a b : DueKey} → a.moment ≡ b.moment → a.request ≡ b.request → a.kind ≡ b.kind → a.peer ≡ b.peer → a.number ≡ b.number → a ≡ b
key_made {a} {b} moment request kind peer number =
    ap (λ (n : ℕ). let k : DueKey = record { moment = n; request = a.request; kind = a.kind; peer = a.peer; number = a.number } in k) moment
    ∙ ap (λ (r : ReqId). let k : DueKey = record { moment = b.moment; request = r; kind = a.kind; peer = a.peer; number = a.number } in k) request
    ∙ ap (λ (d : DueKind). let k : DueKey = record { moment = b.moment; request = b.request; kind = d; peer = a.peer; number = a.number } in k) kind
    ∙ ap (λ (n : ℕ). let k : DueKey = record { moment = b.moment; request = b.request; kind = b.kind; peer = n; number = a.number } in k) peer
    ∙ ap (λ (n : ℕ). let k : DueKey = record { moment = b.moment; request = b.request; kind = b.kind; peer = b.peer; number = n } in k) number

kind_exact : (a b : DueKind) → kind_number a ≡ kind_number b → a ≡ b
kind_exact Deadline Deadline e = refl
kind_exact Deadline Expiry e = cc
kind_exact Expiry Deadline e = cc
kind_exact Expiry Expiry e = refl

pub key_exact : (a b : DueKey) → key_cmp a b ≡ Equal → a ≡ b
key_exact a b e =
    let one = then_equal (nat_cmp a.moment b.moment) _ e in
    let two = then_equal (request_cmp a.request b.request) _ one.1 in
    let three = then_equal (nat_cmp (kind_number a.kind) (kind_number b.kind)) _ two.1 in
    let four = then_equal (nat_cmp a.peer b.peer) _ three.1 in
    let kind = kind_exact a.kind b.kind (exact_unsigned (kind_number a.kind) (kind_number b.kind) three.0) in
    key_made (exact_unsigned a.moment b.moment one.0) (request_exact a.request b.request two.0) kind (exact_unsigned a.peer b.peer four.0) (exact_unsigned a.number b.number four.1)

-- an order is that of the keys, where it is at each two kinds
pub same_orders : (F : DueKey → DueKey → Ordering) → ((a b : DueKey) → F (record a { kind = Deadline }) (record b { kind = Deadline }) ≡ key_cmp (record a { kind = Deadline }) (record b { kind = Deadline }))
    → ((a b : DueKey) → F (record a { kind = Deadline }) (record b { kind = Expiry }) ≡ key_cmp (record a { kind = Deadline }) (record b { kind = Expiry }))
    → ((a b : DueKey) → F (record a { kind = Expiry }) (record b { kind = Deadline }) ≡ key_cmp (record a { kind = Expiry }) (record b { kind = Deadline }))
    → ((a b : DueKey) → F (record a { kind = Expiry }) (record b { kind = Expiry }) ≡ key_cmp (record a { kind = Expiry }) (record b { kind = Expiry })) → (a b : DueKey) → F a b ≡ key_cmp a b
same_orders F dd de ed ee a b = at a.kind b.kind a b
  where
    at : (d e : DueKind) (a b : DueKey) → F (record a { kind = d }) (record b { kind = e }) ≡ key_cmp (record a { kind = d }) (record b { kind = e })
    at Deadline Deadline a b = dd a b
    at Deadline Expiry a b = de a b
    at Expiry Deadline a b = ed a b
    at Expiry Expiry a b = ee a b

pub put_as : (F : DueKey → DueKey → Ordering) (ks : List DueKey) (k : DueKey) → ((x : DueKey) → F k x ≡ key_cmp k x) → insert_key F ks k ≡ insert_key key_cmp ks k
put_as F [] k same = refl
put_as F (x ∷ xs) k same =
    ap (λ (o : Ordering). match_ordering o (k ∷ x ∷ xs) (x ∷ xs) (x ∷ insert_key F xs k)) (same x) ∙ ap (λ (ys : List DueKey). match_ordering (key_cmp k x) (k ∷ x ∷ xs) (x ∷ xs) (x ∷ ys)) (put_as F xs k same)

pub put_key : (ks : List DueKey) (k x : DueKey) → Contains (insert_key key_cmp ks k) x ↔ ((x ≡ k) ⊎ Contains ks x)
put_key ks k x = contains_insert_key key_cmp key_exact ks k x

-- ---- the deadlines of some requests

pub deadlines_none : (ks : List DueKey) (k : DueKey) → Contains ks k ↔ (Contains ks k ⊎ IsDeadlineKey [] k)
deadlines_none ks k = (λ h. inl h, λ h. elim h [ inl there ↦ there | inr d ↦ absurd (contains_nil k.request d.there) ])

key_more : (ids : List ReqId) (id : ReqId) (k : DueKey) → IsDeadlineKey ids k → IsDeadlineKey (ids ++ id ∷ []) k
key_more ids id k d = record { there = (contains_push ids id k.request).1 (inl d.there); key = d.key }

pub deadlines_more : (old ks : List DueKey) (ids : List ReqId) (id : ReqId) → ((k : DueKey) → Contains ks k ↔ (Contains old k ⊎ IsDeadlineKey ids k))
    → (k : DueKey) → Contains (insert_key key_cmp ks (deadline_key id)) k ↔ (Contains old k ⊎ IsDeadlineKey (ids ++ id ∷ []) k)
deadlines_more old ks ids id so_far k =
    let put = put_key ks (deadline_key id) k in (
      λ h. elim (put.0 h) [
        | inl new ↦ inr (subst (λ (x : DueKey). IsDeadlineKey (ids ++ id ∷ []) x) (sym new) (record { there = (contains_push ids id id).1 (inr refl); key = refl }))
        | inr before ↦ elim ((so_far k).0 before) [ inl first ↦ inl first | inr d ↦ inr (key_more ids id k d) ]
      ],
      λ h. elim h [
        | inl first ↦ put.1 (inr ((so_far k).1 (inl first)))
        | inr d ↦ elim ((contains_push ids id k.request).0 d.there) [
          | inl there ↦ put.1 (inr ((so_far k).1 (inr (record { there = there; key = d.key }))))
          | inr here ↦ put.1 (inl (d.key ∙ ap deadline_key (sym here)))
        ]
      ],
    )

-- ---- the ends of some hints

pub expiries_none : (me expiry : ℕ) (ks : List DueKey) (k : DueKey) → Contains ks k ↔ (Contains ks k ⊎ IsExpiryKey me expiry [] k)
expiries_none me expiry ks k = (λ h. inl h, λ h. elim h [ inl there ↦ there | inr d ↦ absurd (contains_nil d.expired d.there) ])

pub expiries_more : (me expiry : ℕ) (old ks : List DueKey) (xs : List Expired) (x : Expired) → ((k : DueKey) → Contains ks k ↔ (Contains old k ⊎ IsExpiryKey me expiry xs k))
    → (k : DueKey) → Contains (insert_key key_cmp ks (expiry_key me expiry x)) k ↔ (Contains old k ⊎ IsExpiryKey me expiry (xs ++ x ∷ []) k)
expiries_more me expiry old ks xs x so_far k =
    let put = put_key ks (expiry_key me expiry x) k in (
      λ h. elim (put.0 h) [
        | inl new ↦ inr (record { expired = x; there = (contains_push xs x x).1 (inr refl); key = new })
        | inr before ↦ elim ((so_far k).0 before) [ inl first ↦ inl first | inr d ↦ inr (record { expired = d.expired; there = (contains_push xs x d.expired).1 (inl d.there); key = d.key }) ]
      ],
      λ h. elim h [
        | inl first ↦ put.1 (inr ((so_far k).1 (inl first)))
        | inr d ↦ elim ((contains_push xs x d.expired).0 d.there) [
          | inl there ↦ put.1 (inr ((so_far k).1 (inr (record { expired = d.expired; there = there; key = d.key }))))
          | inr here ↦ put.1 (inl (d.key ∙ ap (expiry_key me expiry) (sym here)))
        ]
      ],
    )

-- ---- a front of the open requests

all_in : {X : Type 0} (P : X → Type 0) (xs : List X) (x : X) → AllByRecursion P xs → Contains xs x → P x
all_in {X} P [] x all there = absurd (contains_nil x there)
all_in {X} P (y ∷ ys) x all there = elim (contains_cases y ys x there) [ inl here ↦ subst P here all.0 | inr later ↦ all_in P ys x all.1 later ]

-- the deadlines of one node's requests come in the order of the requests
node_less : (o p : Ordering) → o ≡ Equal → ordering_then o p ≡ Less → p ≡ Less
node_less Less p e h = cc
node_less Equal p e h = h
node_less Greater p e h = cc

earlier : (a b : ReqId) → a.node ≡ b.node → request_cmp a b ≡ Less → a.time < b.time
earlier a b same less =
    let nodes : nat_cmp a.node b.node ≡ Equal = ap (λ (n : ℕ). nat_cmp n b.node) same ∙ sym (nat_cmp_is b.node b.node Equal refl) in
    ranked a.time b.time Less (sym (node_less (nat_cmp a.node b.node) (nat_cmp a.time b.time) nodes less))

not_due : (time : ℕ) (id : ReqId) → is_due_at time id ≡ false → time < deadline_of id
not_due time id is = ltb-true time (deadline_of id) (not_false (nat_lt time (deadline_of id)) is)
  where
    not_false : (b : Bool) → not b ≡ false → b ≡ true
    not_false true h = refl
    not_false false h = sym h

due_by_time : (time : ℕ) (id : ReqId) → is_due_at time id ≡ true → deadline_of id ≤ time
due_by_time time id is = ltb-false time (deadline_of id) (not_true (nat_lt time (deadline_of id)) is)
  where
    not_true : (b : Bool) → not b ≡ true → b ≡ false
    not_true true h = sym h
    not_true false h = refl

is_due_by : (time : ℕ) (id : ReqId) → deadline_of id ≤ time → is_due_at time id ≡ true
is_due_by time id le = elim (cases_Bool (is_due_at time id)) [ inl yes' ↦ yes' | inr no' ↦ let late = not_due time id no' in absurd (omega arith) ]

later_not_due : (time : ℕ) (a b : ReqId) → a.time < b.time → is_due_at time a ≡ false → is_due_at time b ≡ false
later_not_due time a b lt is =
    let late = not_due time a is in
    ap not (lt-ltb time (deadline_of b) (omega arith))

-- behind one that is not due none is
abbrev Falls : ℕ → List ReqId → Type 0
Falls time [] = Unit {0}
Falls time (id ∷ ids) = (is_due_at time id ≡ false → AllByRecursion (λ (k : ReqId). is_due_at time k ≡ false) ids) × Falls time ids

none_behind : (time me : ℕ) (id : ReqId) (ids : List ReqId) → id.node ≡ me → AllByRecursion (λ (k : ReqId). k.node ≡ me) ids → AllByRecursion (λ (k : ReqId). request_cmp id k ≡ Less) ids → is_due_at time id ≡ false
    → AllByRecursion (λ (k : ReqId). is_due_at time k ≡ false) ids
none_behind time me id [] own all less not' = tt
none_behind time me id (k ∷ ids) own all less not' = (later_not_due time id k (earlier id k (own ∙ sym all.0) less.0) not', none_behind time me id ids own all.1 less.1 not')

falls : (time me : ℕ) (ids : List ReqId) → AllByRecursion (λ (k : ReqId). k.node ≡ me) ids → IsStrictlySortedBy request_cmp ids → Falls time ids
unfolding IsStrictlySortedBy
falls time me [] own sorted = tt
falls time me (id ∷ ids) own sorted = (λ not'. none_behind time me id ids own.0 own.1 sorted.0 not', falls time me ids own.1 sorted.1)

own_keys : {A : Type 0} (me : ℕ) (xs : List (ReqId × A)) → AreOwn me xs → AllByRecursion (λ (k : ReqId). k.node ≡ me) (keys_of xs)
own_keys {A} me [] own = tt
own_keys {A} me (x ∷ xs) own = (own.0, own_keys me xs own.1)

-- the front has those that are due
front_cond : (b : Bool) (time : ℕ) (id : ReqId) (ids : List ReqId) (k : ReqId) → is_due_at time id ≡ b → (Contains (take (prefix_len (is_due_at time) ids) ids) k ↔ (Contains ids k × (is_due_at time k ≡ true)))
    → (is_due_at time id ≡ false → AllByRecursion (λ (j : ReqId). is_due_at time j ≡ false) ids) → Contains (take (cond b (1 + prefix_len (is_due_at time) ids) 0) (id ∷ ids)) k ↔ (Contains (id ∷ ids) k × (is_due_at time k ≡ true))
front_cond true time id ids k is rest behind =
    let step : take (1 + prefix_len (is_due_at time) ids) (id ∷ ids) ≡ id ∷ take (prefix_len (is_due_at time) ids) ids = one_more (prefix_len (is_due_at time) ids) id ids in (
      λ h. elim (contains_cases id (take (prefix_len (is_due_at time) ids) ids) k (subst (λ (ys : List ReqId). Contains ys k) step h)) [
        | inl here ↦ (subst (λ (j : ReqId). Contains (id ∷ ids) j) here (contains_here id ids), ap (is_due_at time) (sym here) ∙ is)
        | inr there ↦ let both = rest.0 there in (contains_there id ids k both.0, both.1)
      ],
      λ h. subst (λ (ys : List ReqId). Contains ys k) (sym step) (elim (contains_cases id ids k h.0) [
        | inl here ↦ subst (λ (j : ReqId). Contains (id ∷ take (prefix_len (is_due_at time) ids) ids) j) here (contains_here id (take (prefix_len (is_due_at time) ids) ids))
        | inr there ↦ contains_there id (take (prefix_len (is_due_at time) ids) ids) k (rest.1 (there, h.1))
      ]),
    )
  where
    one_more : (n : ℕ) (x : ReqId) (xs : List ReqId) → take (1 + n) (x ∷ xs) ≡ x ∷ take n xs
    one_more n x xs = ap (λ (m : ℕ). take m (x ∷ xs)) (one_plus n)
      where
        one_plus : (n : ℕ) → 1 + n ≡ suc n
        one_plus n = omega arith
front_cond false time id ids k is rest behind = (
  λ h. absurd (contains_nil k h),
  λ h. elim (contains_cases id ids k h.0) [
    | inl here ↦ absurd (false_true (sym is ∙ ap (is_due_at time) here ∙ h.1))
    | inr there ↦ absurd (false_true (sym (all_in (λ (j : ReqId). is_due_at time j ≡ false) ids k (behind is) there) ∙ h.1))
  ],
)
  where
    false_true : false ≡ true → ⊥
    false_true e = cc

pub front : (time : ℕ) (ids : List ReqId) → Falls time ids → (k : ReqId) → Contains (take_while (is_due_at time) ids) k ↔ (Contains ids k × (is_due_at time k ≡ true))
front time [] f k = (λ h. absurd (contains_nil k h), λ h. absurd (contains_nil k h.0))
front time (id ∷ ids) f k = front_cond (is_due_at time id) time id ids k refl (front time ids f.1 k) f.0

pub front_of : {A : Type 0} (time me : ℕ) (m : BTreeMap ReqId A) → IsOrdered request_cmp m → AreOwn me m.entries → (k : ReqId) → Contains (take_while (is_due_at time) (keys_of m.entries)) k ↔ (Contains (keys_of m.entries) k × (is_due_at time k ≡ true))
front_of {A} time me m ordered own = front time (keys_of m.entries) (falls time me (keys_of m.entries) (own_keys me m.entries own) ordered)

-- a due one has a deadline that a program can tell
pub front_short : {A : Type 0} (time me : ℕ) (m : BTreeMap ReqId A) → IsOrdered request_cmp m → AreOwn me m.entries → (k : ReqId) → Contains (take_while (is_due_at time) (keys_of m.entries)) k → deadline_of k ≤ time
front_short {A} time me m ordered own k there = due_by_time time k ((front_of time me m ordered own k).0 there).1

-- where the first is not due none is
pub none_due : {A : Type 0} (time me : ℕ) (xs : List (ReqId × A)) (id : ReqId) → AreOwn me xs → id.node ≡ me → is_due_at time id ≡ false → All (λ (k : ReqId). is_gt (request_cmp id k) ≡ false) (keys_of xs) → (k : ReqId) → Contains (keys_of xs) k → time < deadline_of k
none_due {A} time me xs id own mine not' all k there =
    let le = at_least id k (mine ∙ sym (all_in (λ (j : ReqId). j.node ≡ me) (keys_of xs) k (own_keys me xs own) there)) (All-contains (λ (j : ReqId). is_gt (request_cmp id j) ≡ false) (keys_of xs) k all there) in
    let late = not_due time id not' in
    omega arith
  where
    not_greater : (o p : Ordering) → o ≡ Equal → is_gt (ordering_then o p) ≡ false → is_gt p ≡ false
    not_greater Less p e h = cc
    not_greater Equal p e h = h
    not_greater Greater p e h = cc

    low : (m n : ℕ) (o : Ordering) → o ≡ nat_cmp m n → is_gt o ≡ false → m ≤ n
    low m n Less is h = let lt = ranked m n Less is in omega arith
    low m n Equal is h = let eq = ranked m n Equal is in omega arith
    low m n Greater is h = absurd (true_false h)
      where
        true_false : true ≡ false → ⊥
        true_false e = cc

    at_least : (a b : ReqId) → a.node ≡ b.node → is_gt (request_cmp a b) ≡ false → a.time ≤ b.time
    at_least a b same h =
        let nodes : nat_cmp a.node b.node ≡ Equal = ap (λ (n : ℕ). nat_cmp n b.node) same ∙ sym (nat_cmp_is b.node b.node Equal refl) in
        low a.time b.time (nat_cmp a.time b.time) refl (not_greater (nat_cmp a.node b.node) (nat_cmp a.time b.time) nodes h)

-- the first is the node's own
pub first_own : {A : Type 0} (me : ℕ) (xs : List (ReqId × A)) (id : ReqId) (a : A) → AreOwn me xs → slice_get xs 0 ≡ Some (id, a) → id.node ≡ me
first_own {A} me [] id a own is = absurd (none_some (id, a) is)
  where
    none_some : (y : ReqId × A) → None ≡ Some y → ⊥
    none_some y e = cc
first_own {A} me (x ∷ xs) id a own is = ap (λ (y : ReqId × A). y.0.node) (sym (some_one x (id, a) is)) ∙ own.0

-- ---- nothing is due

pub nothing_due : (b : Base) (k : KeptHints) (time : ℕ) → ((id : ReqId) → Contains (keys_of b.writes.entries) id → time < deadline_of id) → ((id : ReqId) → Contains (keys_of b.reads.entries) id → time < deadline_of id)
    → (((h : Hint) × Contains k.hints h × IsExpired b.setting.expiry time h) → ⊥) → AreDueKeys b k time []
nothing_due b k time writes reads expired = record {
  ascending = tt;
  each = λ d. (λ h. absurd (contains_nil d h), λ h. absurd (none_of d h.0 h.1));
}
  where
    none_of : (d : Due) → d.moment ≤ time → IsDeadline (waits_in b k) d ⊎ IsExpiry b.setting b.me (waits_in b k) d → ⊥
    none_of d le (inl (inl open', is)) = let late = writes d.request open' in let at = ap (λ (x : Due). x.moment) is in omega arith
    none_of d le (inl (inr open', is)) = let late = reads d.request open' in let at = ap (λ (x : Due). x.moment) is in omega arith
    none_of d le (inr (h, there, is)) = let at = ap (λ (x : Due). x.moment) is in let young : h.born + b.setting.expiry + 1 ≤ time = omega arith in expired (h, there, young)

-- ---- all that is due

kind_at : (kind : DueKind) (request : ReqId) (peer number : ℕ) → kind_of (act_at kind request peer number) ≡ kind_number kind
kind_at Deadline request peer number = refl
kind_at Expiry request peer number = refl

-- what is due comes in the order of its keys
same_order : (a b : DueKey) → due_cmp (due_by a) (due_by b) ≡ key_cmp a b
same_order a b =
    ap (λ (n : ℕ). ordering_then (nat_cmp a.moment b.moment) (ordering_then (request_cmp a.request b.request) (ordering_then (nat_cmp n (kind_of (act_by b))) (ordering_then (nat_cmp a.peer b.peer) (nat_cmp a.number b.number)))))
    (kind_at a.kind a.request a.peer a.number)
    ∙ ap (λ (n : ℕ). ordering_then (nat_cmp a.moment b.moment) (ordering_then (request_cmp a.request b.request) (ordering_then (nat_cmp (kind_number a.kind) n) (ordering_then (nat_cmp a.peer b.peer) (nat_cmp a.number b.number)))))
    (kind_at b.kind b.request b.peer b.number)

ascend : (ks : List DueKey) → IsStrictlySortedBy key_cmp ks → AreAscending (map due_by ks)
unfolding IsStrictlySortedBy
ascend [] sorted = tt
ascend (k ∷ ks) sorted = (λ e there. above e (contains_from_map due_by ks e there), ascend ks sorted.1)
  where
    above : (e : Due) → (x : DueKey) × Contains ks x × (due_by x ≡ e) → due_cmp (due_by k) e ≡ Less
    above e (x, there, is) = ap (λ (d : Due). due_cmp (due_by k) d) (sym is) ∙ same_order k x ∙ all_in (λ (y : DueKey). key_cmp k y ≡ Less) ks x sorted.0 there

pub record Found (b : Base) (k : KeptHints) (time : ℕ) (ws rs : List ReqId) (xs : List Expired) (keys : List DueKey) : Type 0 where
  pub writes : (id : ReqId) → Contains ws id ↔ (Contains (keys_of b.writes.entries) id × (is_due_at time id ≡ true))
  pub reads : (id : ReqId) → Contains rs id ↔ (Contains (keys_of b.reads.entries) id × (is_due_at time id ≡ true))
  pub expired : (x : Expired) → Contains xs x ↔ ((h : Hint) × Contains k.hints h × IsExpired b.setting.expiry time h × (x ≡ expired_of h))
  pub keys_are : (d : DueKey) → Contains keys d ↔ (IsDeadlineKey ws d ⊎ IsDeadlineKey rs d ⊎ IsExpiryKey b.me b.setting.expiry xs d)
  pub ordered : IsStrictlySortedBy key_cmp keys

pub keys_found : (k0 k1 k2 k3 : List DueKey) (W R E : DueKey → Type 0) (d : DueKey) → k0 ≡ [] → (Contains k1 d ↔ (Contains k0 d ⊎ W d)) → (Contains k2 d ↔ (Contains k1 d ⊎ R d)) → (Contains k3 d ↔ (Contains k2 d ⊎ E d)) → Contains k3 d ↔ (W d ⊎ R d ⊎ E d)
keys_found k0 k1 k2 k3 W R E d none one two three = (
  λ h. elim (three.0 h) [
    | inl second ↦ elim (two.0 second) [
      | inl first ↦ elim (one.0 first) [ inl there ↦ absurd (contains_nil d (subst (λ (ks : List DueKey). Contains ks d) none there)) | inr w ↦ inl w ]
      | inr r ↦ inr (inl r)
    ]
    | inr e ↦ inr (inr e)
  ],
  λ h. elim h [
    | inl w ↦ three.1 (inl (two.1 (inl (one.1 (inr w)))))
    | inr (inl r) ↦ three.1 (inl (two.1 (inr r)))
    | inr (inr e) ↦ three.1 (inr e)
  ],
)

abbrev Due_in : Base → KeptHints → ℕ → Due → Type 0
Due_in b k time d = (d.moment ≤ time) × (IsDeadline (waits_in b k) d ⊎ IsExpiry b.setting b.me (waits_in b k) d)

deadline_is_due : (b : Base) (k : KeptHints) (time : ℕ) (id : ReqId) → Contains (keys_of b.writes.entries) id ⊎ Contains (keys_of b.reads.entries) id → is_due_at time id ≡ true → Due_in b k time (due_by (deadline_key id))
deadline_is_due b k time id open' is = (due_by_time time id is, inl (open', refl))

hint_is_due : (b : Base) (k : KeptHints) (time : ℕ) (x : Expired) → ((h : Hint) × Contains k.hints h × IsExpired b.setting.expiry time h × (x ≡ expired_of h)) → Due_in b k time (due_by (expiry_key b.me b.setting.expiry x))
hint_is_due b k time x (h, there, old, is) =
    let same : due_by (expiry_key b.me b.setting.expiry x) ≡ expiry_of b.setting b.me h = ap (λ (y : Expired). due_by (expiry_key b.me b.setting.expiry y)) is in
    subst (λ (d : Due). Due_in b k time d) (sym same) (old, inr (h, there, refl))

key_is_due : (b : Base) (k : KeptHints) (time : ℕ) (ws rs : List ReqId) (xs : List Expired) (keys : List DueKey) → Found b k time ws rs xs keys → (d : DueKey) → IsDeadlineKey ws d ⊎ IsDeadlineKey rs d ⊎ IsExpiryKey b.me b.setting.expiry xs d → Due_in b k time (due_by d)
key_is_due b k time ws rs xs keys f d (inl w) =
    let at = (f.writes d.request).0 w.there in subst (λ (x : DueKey). Due_in b k time (due_by x)) (sym w.key) (deadline_is_due b k time d.request (inl at.0) at.1)
key_is_due b k time ws rs xs keys f d (inr (inl r)) =
    let at = (f.reads d.request).0 r.there in subst (λ (x : DueKey). Due_in b k time (due_by x)) (sym r.key) (deadline_is_due b k time d.request (inr at.0) at.1)
key_is_due b k time ws rs xs keys f d (inr (inr e)) =
    subst (λ (x : DueKey). Due_in b k time (due_by x)) (sym e.key) (hint_is_due b k time e.expired ((f.expired e.expired).0 e.there))

due_has_key : (b : Base) (k : KeptHints) (time : ℕ) (ws rs : List ReqId) (xs : List Expired) (keys : List DueKey) → Found b k time ws rs xs keys → (d : Due) → d.moment ≤ time → IsDeadline (waits_in b k) d ⊎ IsExpiry b.setting b.me (waits_in b k) d
    → Contains (map due_by keys) d
due_has_key b k time ws rs xs keys f d le (inl (open', is)) =
    let at = ap (λ (x : Due). x.moment) is in
    let due' : is_due_at time d.request ≡ true = is_due_by time d.request (omega arith) in
    let there : Contains keys (deadline_key d.request) = (f.keys_are (deadline_key d.request)).1 (elim open' [
      | inl w ↦ inl (record { there = (f.writes d.request).1 (w, due'); key = refl })
      | inr r ↦ inr (inl (record { there = (f.reads d.request).1 (r, due'); key = refl }))
    ]) in
    subst (λ (x : Due). Contains (map due_by keys) x) (sym is) (contains_map due_by keys (deadline_key d.request) there)
due_has_key b k time ws rs xs keys f d le (inr (h, in_it, is)) =
    let at = ap (λ (x : Due). x.moment) is in
    let old : IsExpired b.setting.expiry time h = omega arith in
    let listed : Contains xs (expired_of h) = (f.expired (expired_of h)).1 (h, in_it, old, refl) in
    let there : Contains keys (expiry_key b.me b.setting.expiry (expired_of h)) = (f.keys_are (expiry_key b.me b.setting.expiry (expired_of h))).1 (inr (inr (record { expired = expired_of h; there = listed; key = refl }))) in
    subst (λ (x : Due). Contains (map due_by keys) x) (sym is) (contains_map due_by keys (expiry_key b.me b.setting.expiry (expired_of h)) there)

pub all_due : (b : Base) (k : KeptHints) (time : ℕ) (ws rs : List ReqId) (xs : List Expired) (keys : List DueKey) → Found b k time ws rs xs keys → AreDueKeys b k time keys
all_due b k time ws rs xs keys f = record {
  ascending = ascend keys f.ordered;
  each = λ d. (λ h. is_due d (contains_from_map due_by keys d h), λ h. due_has_key b k time ws rs xs keys f d h.0 h.1);
}
  where
    is_due : (d : Due) → (x : DueKey) × Contains keys x × (due_by x ≡ d) → IsDue b.setting b.me time (waits_in b k) d
    is_due d (x, there, is) = subst (λ (y : Due). Due_in b k time y) is (key_is_due b k time ws rs xs keys f x ((f.keys_are x).0 there))

-- ---- something is due

-- the first of these, where its deadline has come
pub first_due : {A : Type 0} (time : ℕ) (xs : List (ReqId × A)) (id : ReqId) (a : A) → slice_get xs 0 ≡ Some (id, a) → is_due_at time id ≡ true → (j : ReqId) × Contains (keys_of xs) j × (deadline_of j ≤ time)
first_due {A} time [] id a is due = absurd (none_some (id, a) is)
  where
    none_some : (y : ReqId × A) → None ≡ Some y → ⊥
    none_some y e = cc
first_due {A} time (x ∷ xs) id a is due =
    (id, subst (λ (j : ReqId). Contains (keys_of (x ∷ xs)) j) (ap (λ (y : ReqId × A). y.0) (some_one x (id, a) is)) (contains_here x.0 (keys_of xs)), due_by_time time id due)

pub deadline_due : (b : Base) (k : KeptHints) (time : ℕ) (id : ReqId) → Contains (keys_of b.writes.entries) id ⊎ Contains (keys_of b.reads.entries) id → deadline_of id ≤ time → (d : Due) × IsDue b.setting b.me time (waits_in b k) d
deadline_due b k time id open' le = (due_by (deadline_key id), (le, inl (open', refl)))

pub expiry_due : (b : Base) (k : KeptHints) (time : ℕ) → ((h : Hint) × Contains k.hints h × IsExpired b.setting.expiry time h) → (d : Due) × IsDue b.setting b.me time (waits_in b k) d
expiry_due b k time (h, there, old) = (expiry_of b.setting b.me h, (old, inr (h, there, refl)))
