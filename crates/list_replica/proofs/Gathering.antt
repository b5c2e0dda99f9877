-- Changes staged by partition.
use Rattle.std.proofs.Common.{◌≡◌, ◌≢◌, ◌↔◌, ◌⊎◌, ℕ, ◌+◌, ◌^◌, ◌≤◌, ◌<◌, length, get_or, take, drop, take-append-drop, append-nil, inl, inr, Bool, true, false, ◌&&◌, Option, Some, None, List, [], ◌∷◌, ◌++◌, Contains, refl, sym, ◌∙◌, ap, subst, append_assoc}
use Rattle.std.specs.Prelude.{map, IsSomeAnd}
use Rattle.std.specs.BTreeMap.{get}
use Rattle.std.proofs.lemmas.List.{drop_more}
use Rattle.std.proofs.lemmas.List.Elements.{Contains-append_cases, Contains-append_left, Contains-append_right}
use Rattle.cs_base.proofs.Members.{contains_nil, contains_here, contains_there, contains_cases, contains_filter_map, filter_map_more}
use Rattle.changes.specs.declared.Held.{Held}
use Rattle.changes.specs.declared.Mutation.{Mutation}
use Rattle.changes.specs.declared.Partition.{Partition}
use Rattle.changes.specs.Contents.{IsContent, IsMergeOf}
use Rattle.changes.specs.Order.{partition_cmp}
use Rattle.partition_content.specs.Arrivals.{held_of, ComeAt}
use Rattle.partition_content.specs.Partition.{Partition as Content, changes_in, IsReadyFor}
use Rattle.partition_content.specs.Lengths.{IsMergedLength}
use Rattle.row_change.specs.declared.entry.LogItem.{LogItem}
use Rattle.row_change.specs.declared.entry.LogItem.TheVariants.{Data, Paxos, HintAdd, HintGone, Ceiling, Mark, Purge}
use Rattle.durable_state.specs.Taking.{IsTouched, InOne}
use Rattle.list_replica.specs.declared.staging.Staged.{Staged}
use Rattle.list_replica.specs.Staging.{Map, mutation_of, mutations, Brings, IsStagedAt, AreOnce, Stages, StagesAt, AreReady, FitsAt, AllFit, held_at, IsMergedWithin, IsWithin, IsPast, StaysWithin, GrowsPast, AllStayWithin, IsFirstPast, Comes, AllCome}
use Rattle.list_replica.specs.Stores.{stored_if, stored_at, IsReadyAt}

-- ---- what items bring

brought : (item : LogItem) (p : Partition) (x : Held) → Brings item p x → (items : List LogItem) → Contains items item → InOne (mutations items) p x
brought item p x b items k = (b.0, contains_filter_map mutation_of items item b.0 k b.1, b.2, b.3)

-- the changes so far, and those of one item more
pub brought_more : (items : List LogItem) (item : LogItem) (p : Partition) (xs ys : List Held) → ((x : Held) → Contains xs x ↔ InOne (mutations items) p x) → ((x : Held) → Contains ys x ↔ (Contains xs x ⊎ Brings item p x))
    → (x : Held) → Contains ys x ↔ InOne (mutations (items ++ item ∷ [])) p x
brought_more items item p xs ys so_far more x = (
  λ k. elim ((more x).0 k) [
    | inl was ↦ let h = (so_far x).0 was in (h.0, (filter_map_more mutation_of items item h.0).1 (inl h.1), h.2, h.3)
    | inr b ↦ (b.0, (filter_map_more mutation_of items item b.0).1 (inr b.1), b.2, b.3)
  ],
  λ h. (more x).1 (elim ((filter_map_more mutation_of items item h.0).0 h.1) [
    | inl was ↦ inl ((so_far x).1 (h.0, was, h.2, h.3))
    | inr e ↦ inr (h.0, e, h.2, h.3)
  ]),
)

-- all that an item brings is there behind the others
pub brings_all : (item : LogItem) (m : Mutation) (p : Partition) (old new : List Held) → Some m ≡ mutation_of item → m.partition ≡ p → new ≡ old ++ m.changes → (x : Held) → Contains new x ↔ (Contains old x ⊎ Brings item p x)
brings_all item m p old new is at all x = (
  λ k. elim (Contains-append_cases old m.changes x (subst (λ (l : List Held). Contains l x) all k)) [ inl was ↦ inl was | inr here ↦ inr (m, sym is, at, here) ],
  λ u. subst (λ (l : List Held). Contains l x) (sym all) (elim u [
    | inl was ↦ Contains-append_left old m.changes x was
    | inr (n, e, of, k) ↦
        let one : n ≡ m = cc in
        Contains-append_right old m.changes x (subst (λ (v : Mutation). Contains v.changes x) one k)
  ]),
)

pub none_brought : (p : Partition) (x : Held) → Contains [] x ↔ InOne (mutations []) p x
none_brought p x = (λ k. absurd (contains_nil x k), λ h. absurd (contains_nil h.0 h.1))

-- ---- what is staged

once_more : (staged : List Staged) (s : Staged) → AreOnce staged → (IsStagedAt staged s.partition → ⊥) → AreOnce (staged ++ s ∷ [])
once_more [] s once fresh = ((λ t k. absurd (contains_nil t k)), tt)
once_more (r ∷ staged) s once fresh = (
  λ t k e. elim (Contains-append_cases staged (s ∷ []) t k) [
    | inl there ↦ once.0 t there e
    | inr last ↦ elim (contains_cases s [] t last) [
      | inl is ↦ fresh (r, contains_here r staged, sym e ∙ sym (ap (λ (u : Staged). u.partition) is))
      | inr none ↦ contains_nil t none
    ]
  ],
  once_more staged s once.1 (λ h. fresh (h.0, contains_there r staged h.0 h.1, h.2)),
)

staged_push : (staged : List Staged) (s : Staged) (p : Partition) → IsStagedAt staged p → IsStagedAt (staged ++ s ∷ []) p
staged_push staged s p h = (h.0, Contains-append_left staged (s ∷ []) h.0 h.1, h.2)

-- the items so far touch what they touched, and what one more touches
touched_cases : (front : List LogItem) (item : LogItem) (p : Partition) → IsTouched (mutations (front ++ item ∷ [])) p → IsTouched (mutations front) p ⊎ ((m : Mutation) × (mutation_of item ≡ Some m) × (m.partition ≡ p))
touched_cases front item p t = elim ((filter_map_more mutation_of front item t.0).0 t.1) [ inl was ↦ inl (t.0, was, t.2) | inr e ↦ inr (t.0, e, t.2) ]

pub stages_none : (items : List LogItem) → Stages items [] []
stages_none items = record { once = tt; content = λ s k. absurd (contains_nil s k); within = λ s k. absurd (contains_nil s k); all = λ p t. absurd (contains_nil t.0 t.1) }

-- an item that brings nothing
pub stages_still : (items front : List LogItem) (item : LogItem) (staged : List Staged) → Stages items front staged → mutation_of item ≡ None → Stages items (front ++ item ∷ []) staged
stages_still items front item staged h none = record {
  once = h.once;
  content = h.content;
  within = h.within;
  all = λ p t. elim (touched_cases front item p t) [ inl was ↦ h.all p was | inr (m, e, at) ↦ absurd (let f = sym none ∙ e in cc) ];
}

-- and one that brings changes
pub stages_more : (items front : List LogItem) (item : LogItem) (m : Mutation) (staged staged' : List Staged) → Stages items front staged → Contains items item → mutation_of item ≡ Some m → StagesAt items m.partition staged staged'
    → Stages items (front ++ item ∷ []) staged'
stages_more items front item m staged staged' h there is (inl (had, same)) =
    subst (λ (l : List Staged). Stages items (front ++ item ∷ []) l) (sym same) (record {
      once = h.once;
      content = h.content;
      within = h.within;
      all = λ p t. elim (touched_cases front item p t) [
        | inl was ↦ h.all p was
        | inr (n, e, at) ↦
            let one : m ≡ n = cc in
            (had.0, had.1, had.2 ∙ ap (λ (v : Mutation). v.partition) one ∙ at)
      ];
    })
stages_more items front item m staged staged' h there is (inr (fresh, s, pushed, of, content)) =
    subst (λ (l : List Staged). Stages items (front ++ item ∷ []) l) (sym pushed) (record {
      once = once_more staged s h.once (λ k. fresh (subst (λ (q : Partition). IsStagedAt staged q) of k));
      content = λ r k. elim (Contains-append_cases staged (s ∷ []) r k) [
        | inl was ↦ h.content r was
        | inr last ↦ elim (contains_cases s [] r last) [
          | inl e ↦ subst (λ (v : Staged). IsContent v.changes (InOne (mutations items) v.partition)) e (subst (λ (q : Partition). IsContent s.changes (InOne (mutations items) q)) (sym of) content)
          | inr none ↦ absurd (contains_nil r none)
        ]
      ];
      within = λ r k. elim (Contains-append_cases staged (s ∷ []) r k) [
        | inl was ↦ h.within r was
        | inr last ↦ elim (contains_cases s [] r last) [
          | inl e ↦ (m, contains_filter_map mutation_of items item m there is, sym of ∙ ap (λ (v : Staged). v.partition) e)
          | inr none ↦ absurd (contains_nil r none)
        ]
      ];
      all = λ p t. elim (touched_cases front item p t) [
        | inl was ↦ staged_push staged s p (h.all p was)
        | inr (n, e, at) ↦
            let one : m ≡ n = cc in
            (s, Contains-append_right staged (s ∷ []) s (contains_here s []), of ∙ ap (λ (v : Mutation). v.partition) one ∙ at)
      ];
    })

-- ---- one of those that are staged

pub apart_once : (front : List Staged) (s : Staged) (rest : List Staged) → AreOnce (front ++ s ∷ rest) → (t : Staged) → Contains front t → t.partition ≢ s.partition
apart_once [] s rest once t k = absurd (contains_nil t k)
apart_once (r ∷ front) s rest once t k = elim (contains_cases r front t k) [
  | inl is ↦ λ e. once.0 s (Contains-append_right front (s ∷ rest) s (contains_here s rest)) (sym e ∙ sym (ap (λ (u : Staged). u.partition) is))
  | inr later ↦ apart_once front s rest once.1 t later
]

pub apart_behind : (front : List Staged) (s : Staged) (rest : List Staged) → AreOnce (front ++ s ∷ rest) → (t : Staged) → Contains rest t → t.partition ≢ s.partition
apart_behind [] s rest once t k = once.0 t k
apart_behind (r ∷ front) s rest once t k = apart_behind front s rest once.1 t k

-- memory stays at another partition
pub ready_still : (old new : Map) (s : Staged) → get partition_cmp new s.partition ≡ get partition_cmp old s.partition → IsReadyAt old s.partition s.changes → IsReadyAt new s.partition s.changes
ready_still old new s same ready = subst (λ (o : Option Content). IsSomeAnd o (λ content. IsReadyFor content s.changes)) (sym same) ready

pub ready_more : (old new : Map) (front : List Staged) (s : Staged) (rest : List Staged) → AreOnce (front ++ s ∷ rest) → AreReady old front → IsReadyAt new s.partition s.changes
    → ((q : Partition) → q ≢ s.partition → get partition_cmp new q ≡ get partition_cmp old q) → AreReady new (front ++ s ∷ [])
ready_more old new front s rest once ready here others t k = elim (Contains-append_cases front (s ∷ []) t k) [
  | inl was ↦ ready_still old new t (others t.partition (apart_once front s rest once t was)) (ready t was)
  | inr last ↦ elim (contains_cases s [] t last) [
    | inl e ↦ subst (λ (u : Staged). IsReadyAt new u.partition u.changes) e here
    | inr none ↦ absurd (contains_nil t none)
  ]
]

pub both_true : (a b : Bool) → (a && b) ≡ true → (a ≡ true) × (b ≡ true)
both_true true b t = (refl, t)
both_true false b t = cc

-- so does what fits
fit_still : (old new : Map) (s : Staged) → get partition_cmp new s.partition ≡ get partition_cmp old s.partition → FitsAt old s.partition s.changes → FitsAt new s.partition s.changes
fit_still old new s same fit = subst (λ (o : Option Content). IsSomeAnd o (λ content. IsMergedWithin (changes_in content) s.changes)) (sym same) fit

pub fit_more : (old new : Map) (front : List Staged) (s : Staged) (rest : List Staged) → AreOnce (front ++ s ∷ rest) → AllFit old front → FitsAt new s.partition s.changes
    → ((q : Partition) → q ≢ s.partition → get partition_cmp new q ≡ get partition_cmp old q) → AllFit new (front ++ s ∷ [])
fit_more old new front s rest once fit here others t k = elim (Contains-append_cases front (s ∷ []) t k) [
  | inl was ↦ fit_still old new t (others t.partition (apart_once front s rest once t was)) (fit t was)
  | inr last ↦ elim (contains_cases s [] t last) [
    | inl e ↦ subst (λ (u : Staged). FitsAt new u.partition u.changes) e here
    | inr none ↦ absurd (contains_nil t none)
  ]
]

pub ready_rest : (old new : Map) (front : List Staged) (s : Staged) (rest : List Staged) → AreOnce (front ++ s ∷ rest) → AreReady old (s ∷ rest) → ((q : Partition) → q ≢ s.partition → get partition_cmp new q ≡ get partition_cmp old q)
    → AreReady new rest
ready_rest old new front s rest once ready others t k = ready_still old new t (others t.partition (apart_behind front s rest once t k)) (ready t (contains_there s rest t k))

-- ---- lengths

pub within_found : (contents : Map) (s : Staged) (content : Content) (n : ℕ) → Some content ≡ get partition_cmp contents s.partition → IsMergedLength (changes_in content) s.changes n → n ≤ 2 ^ 24 → IsWithin contents s
within_found contents s content n at long le merged merge order =
    subst (λ (k : ℕ). k ≤ 2 ^ 24) (long merged (subst (λ (o : Option Content). IsMergeOf merged (map held_of (stored_if o)) s.changes) (sym at) merge) order) le

pub past_found : (contents : Map) (s : Staged) (content : Content) (n : ℕ) → Some content ≡ get partition_cmp contents s.partition → IsMergedLength (changes_in content) s.changes n → 2 ^ 24 < n → IsPast contents s
past_found contents s content n at long past merged merge order =
    subst (λ (k : ℕ). 2 ^ 24 < k) (long merged (subst (λ (o : Option Content). IsMergeOf merged (map held_of (stored_if o)) s.changes) (sym at) merge) order) past

pub ready_found : (contents : Map) (s : Staged) (content : Content) → Some content ≡ get partition_cmp contents s.partition → IsReadyAt contents s.partition s.changes → IsReadyFor content s.changes
ready_found contents s content at ready = subst (λ (o : Option Content). IsSomeAnd o (λ c. IsReadyFor c s.changes)) (sym at) ready

pub not_ready : (contents : Map) (s : Staged) → None ≡ get partition_cmp contents s.partition → IsReadyAt contents s.partition s.changes → ⊥
not_ready contents s at ready = subst (λ (o : Option Content). IsSomeAnd o (λ c. IsReadyFor c s.changes)) (sym at) ready

fits_if : (o : Option Content) (changes : List Held) → IsSomeAnd o (λ content. IsMergedWithin (changes_in content) changes) → IsMergedWithin (map held_of (stored_if o)) changes
fits_if None changes fit = absurd fit
fits_if (Some content) changes fit = fit

-- where all that is staged fits, each partition that the items touch stays within
pub all_fit : (contents : Map) (items : List LogItem) (staged : List Staged) → Stages items items staged → AllFit contents staged → AllStayWithin contents staged items
all_fit contents items staged h fit p t =
    let at = h.all p t in
    record {
      changes = at.0;
      there = at.1;
      of = at.2;
      within = fits_if (get partition_cmp contents at.0.partition) at.0.changes (fit at.0 at.1);
    }

-- ---- the partitions of the items so far

pub within_none : (contents : Map) (staged : List Staged) → AllStayWithin contents staged []
within_none contents staged p t = absurd (contains_nil t.0 t.1)

pub within_still : (contents : Map) (staged : List Staged) (front : List LogItem) (item : LogItem) → AllStayWithin contents staged front → mutation_of item ≡ None → AllStayWithin contents staged (front ++ item ∷ [])
within_still contents staged front item so_far none p t = elim (touched_cases front item p t) [
  | inl was ↦ so_far p was
  | inr (m, e, at) ↦ absurd (let f = sym none ∙ e in cc)
]

pub within_more : (contents : Map) (staged : List Staged) (front : List LogItem) (item : LogItem) (m : Mutation) → AllStayWithin contents staged front → mutation_of item ≡ Some m → StaysWithin contents staged m.partition → AllStayWithin contents staged (front ++ item ∷ [])
within_more contents staged front item m so_far is within p t = elim (touched_cases front item p t) [
  | inl was ↦ so_far p was
  | inr (n, e, at) ↦
      let one : m ≡ n = cc in
      subst (λ (q : Partition). StaysWithin contents staged q) (ap (λ (v : Mutation). v.partition) one ∙ at) within
]

-- an item that brings a mutation is one of data
pub is_data : (item : LogItem) (m : Mutation) → mutation_of item ≡ Some m → (arrival : ℕ) × (item ≡ Data arrival m)
is_data (Data arrival n) m is = (arrival, ap (λ (v : Mutation). Data arrival v) (let e : n ≡ m = cc in e))
is_data (Paxos p row) m is = cc
is_data (HintAdd h) m is = cc
is_data (HintGone peer number) m is = cc
is_data (Ceiling time) m is = cc
is_data (Mark mark) m is = cc
is_data (Purge x) m is = cc

pub first_one : (contents : Map) (staged : List Staged) (items front : List LogItem) (item : LogItem) (rest : List LogItem) (m : Mutation) → front ++ item ∷ rest ≡ items → mutation_of item ≡ Some m → AllStayWithin contents staged front
    → GrowsPast contents staged m.partition → IsFirstPast contents staged items m.partition
first_one contents staged items front item rest m split is within past =
    let found = is_data item m is in
    record {
      front = front;
      arrival = found.0;
      mutation = m;
      rest = rest;
      split = sym split ∙ ap (λ (i : LogItem). front ++ i ∷ rest) found.1;
      of = refl;
      past = past;
      first = within;
    }

-- what an item of the entry touches is staged
pub staged_for : (items : List LogItem) (staged : List Staged) (item : LogItem) (m : Mutation) → Stages items items staged → Contains items item → mutation_of item ≡ Some m → IsStagedAt staged m.partition
staged_for items staged item m h there is = h.all m.partition (m, contains_filter_map mutation_of items item m there is, refl)

-- ---- changes come

pub none_come : (time : ℕ) (contents : Map) → AllCome time contents contents []
none_come time contents = record { each = λ s k. absurd (contains_nil s k); others = λ q n. refl }

-- what is looked up is the same
comes_on : (time : ℕ) (old mid new : Map) (s : Staged) → get partition_cmp new s.partition ≡ get partition_cmp mid s.partition → Comes time old mid s → Comes time old new s
comes_on time old mid new s same h = record {
  merged = subst (λ (o : Option Content). IsMergeOf (map held_of (stored_if o)) (held_at old s.partition) s.changes) (sym same) h.merged;
  arrivals = subst (λ (o : Option Content). ComeAt time (stored_at old s.partition) (stored_if o)) (sym same) h.arrivals;
}

comes_from : (time : ℕ) (old mid new : Map) (s : Staged) → get partition_cmp mid s.partition ≡ get partition_cmp old s.partition → Comes time mid new s → Comes time old new s
comes_from time old mid new s same h = record {
  merged = subst (λ (o : Option Content). IsMergeOf (held_at new s.partition) (map held_of (stored_if o)) s.changes) same h.merged;
  arrivals = subst (λ (o : Option Content). ComeAt time (stored_if o) (stored_at new s.partition)) same h.arrivals;
}

pub come_more : (time : ℕ) (old mid new : Map) (front : List Staged) (s : Staged) (rest : List Staged) → AreOnce (front ++ s ∷ rest) → AllCome time old mid front → Comes time mid new s
    → ((q : Partition) → q ≢ s.partition → get partition_cmp new q ≡ get partition_cmp mid q) → AllCome time old new (front ++ s ∷ [])
come_more time old mid new front s rest once come here others = record {
  each = λ t k. elim (Contains-append_cases front (s ∷ []) t k) [
    | inl was ↦ comes_on time old mid new t (others t.partition (apart_once front s rest once t was)) (come.each t was)
    | inr last ↦ elim (contains_cases s [] t last) [
      | inl e ↦ subst (λ (u : Staged). Comes time old new u) e (comes_from time old mid new s (come.others s.partition (λ h. apart_once front s rest once h.0 h.1 h.2)) here)
      | inr none ↦ absurd (contains_nil t none)
    ]
  ];
  others = λ q n.
      others q (λ e. n (s, Contains-append_right front (s ∷ []) s (contains_here s []), sym e))
      ∙ come.others q (λ h. n (h.0, Contains-append_left front (s ∷ []) h.0 h.1, h.2));
}

-- ---- lists

pub split_more : {X : Type 0} (all front it rest : List X) (x : X) → front ++ it ≡ all → it ≡ x ∷ rest → (front ++ x ∷ []) ++ rest ≡ all
split_more {X} all front it rest x split next = append_assoc front (x ∷ []) rest ∙ ap (λ (l : List X). front ++ l) (sym next) ∙ split

pub split_next : {X : Type 0} (all front it rest : List X) (x : X) → front ++ it ≡ all → it ≡ x ∷ rest → front ++ x ∷ rest ≡ all
split_next {X} all front it rest x split next = ap (λ (l : List X). front ++ l) (sym next) ∙ split

pub nothing_left : {X : Type 0} (xs : List X) (n : ℕ) → n ≡ length xs → n ≡ 0 → xs ≡ []
nothing_left [] n e z = refl
nothing_left (x ∷ xs) n e z = let f = sym z ∙ e in cc

pub all_taken : {X : Type 0} (all front it : List X) → front ++ it ≡ all → it ≡ [] → front ≡ all
all_taken {X} all front it split none = sym (append-nil front) ∙ ap (λ (l : List X). front ++ l) (sym none) ∙ split

pub split_at : {X : Type 0} (xs : List X) (i : ℕ) (x : X) → i < length xs → x ≡ get_or xs i x → take i xs ++ x ∷ drop (i + 1) xs ≡ xs
split_at {X} xs i x below is =
    ap (λ (y : X). take i xs ++ y ∷ drop (i + 1) xs) is ∙ ap (λ (l : List X). take i xs ++ l) (sym (drop_more xs i x below)) ∙ take-append-drop i xs
