-- Cells and markers in the order of their places, and the tree that is made of them.
use Rattle.std.proofs.Common.{◌≡◌, ◌≢◌, ◌⊎◌, ◌-◌, ◌+◌, ◌<◌, ℕ, suc, inl, inr, Bool, true, false, cond, List, [], ◌∷◌, ◌++◌, length, append-nil, take, Option, Some, None, Result, Ok, Err, IfOk, OnOk, OnErr, Contains, map, refl, sym, ◌∙◌, ap, subst, arith}
use Rattle.std.specs.Prelude.{T, ◌&&◌, slice_get, get_or}
use Rattle.std.specs.BTreeMap.{BTreeMap, IsFromIterResult, is_at}
use Rattle.std.specs.FinMap.Entries.{find, below_all, is_sorted, same_entries}
use Rattle.std.specs.List.{AllByRecursion, sum_by}
use Rattle.std.specs.List.Sorted.{IsStrictlySortedBy}
use Rattle.std.specs.Map.{keys_of, lookup}
use Rattle.std.specs.declared.cmp.Ordering.TheVariants.{Less, Equal}
use Rattle.std.specs.Ordering.{eq_by_cmp, is_eq, is_lt}
use Rattle.std.specs.declared.cmp.Ordering.{Ordering}
use Rattle.std.proofs.lemmas.Cmp.{tied_itself, eq_by_cmp_equiv}
use Rattle.std.proofs.lemmas.Map.Keys.{IsDistinct-from_sorted}
use Rattle.std.proofs.lemmas.Map.Made.{update_all_none}
use Rattle.std.specs.Option.{option_map}
use Rattle.std.proofs.lemmas.List.{length-map}
use Rattle.std.proofs.lemmas.List.Sums.{sum_by_push}
use Rattle.std.proofs.lemmas.Option.{slice_get-map}
use Rattle.std.proofs.lemmas.List.Elements.{Contains-append_cases, Contains-append_left, Contains-append_right}
use Rattle.cs_base.proofs.Members.{contains_nil, contains_here, contains_cases, contains_from_map, front_more}
use Rattle.cell_merge.proofs.InOrder.{sorted_across, sorted_both}
use Rattle.cell_merge.specs.Parts.{IsInnermost}
use Rattle.changes.specs.declared.Held.{Held}
use Rattle.changes.specs.declared.Place.{Place}
use Rattle.changes.specs.declared.Place.TheVariants.{Cell, Marker, RowGone, RangeGone, PartGone}
use Rattle.changes.specs.Contents.{AreApart, IsMergeOf}
use Rattle.changes.specs.Lengths.{held_length}
use Rattle.changes.specs.Order.{Outranks, LiesIn, Encloses}
use Rattle.changes.specs.Places.{stored_cmp, AreInOrder}
use Rattle.changes.proofs.Places.{stored_total}
use Rattle.change_laws.proofs.Outranking.{Outranks_irrefl}
use Rattle.partition_content.specs.declared.Arrived.{Arrived}
use Rattle.partition_content.specs.declared.spots.Spot.{Spot}
use Rattle.partition_content.specs.declared.spots.Spot.TheVariants.{At}
use Rattle.partition_content.specs.Arrivals.{held_of, ComeAt}
use Rattle.partition_content.specs.Partition.{Partition, AreBare}
use Rattle.partition_content.specs.Runs.{arrived_at, entry_of, IsLoaded}
use Rattle.partition_content.specs.Slots.{stored_of, helds_in, changes_of, AreFiled, IsGood}
use Rattle.partition_content.specs.Spots.{spot_cmp}
use Rattle.partition_content.specs.SpotLaws.{spot_total}
use Rattle.partition_content.proofs.HeldLemmas.{helds-keys, stored_changes}
use Rattle.partition_content.proofs.SpotLemmas.{key_exact}

-- ---- a place has one change

less_not_equal : Less ≢ Equal
less_not_equal e = cc

not_below_itself : (x y : Held) → stored_cmp x y ≡ Less → x.place ≡ y.place → ⊥
not_below_itself x y below same =
    let tied : stored_cmp x x ≡ Equal = tied_itself stored_total x in
    let also : stored_cmp x x ≡ Less = subst (λ (p : Place). stored_cmp x (record x { place = p }) ≡ Less) (sym same) below in
    less_not_equal (sym also ∙ tied)

all_below : {K : Type 0} (P : K → Type 0) (xs : List K) (y : K) → AllByRecursion P xs → Contains xs y → P y
all_below P [] y h k = absurd (contains_nil y k)
all_below P (x ∷ xs) y h k = elim (contains_cases x xs y k) [ inl e ↦ subst P e h.0 | inr later ↦ all_below P xs y h.1 later ]

once : (xs : List Held) (x y : Held) → AreInOrder xs → Contains xs x → Contains xs y → x.place ≡ y.place → x ≡ y
unfolding IsStrictlySortedBy
once [] x y ordered hx hy same = absurd (contains_nil x hx)
once (z ∷ xs) x y ordered hx hy same =
    elim (contains_cases z xs x hx) [
      | inl e ↦ elim (contains_cases z xs y hy) [
        | inl f ↦ sym e ∙ f
        | inr later ↦ absurd (not_below_itself z y (all_below (λ w. stored_cmp z w ≡ Less) xs y ordered.0 later) (ap (λ (w : Held). w.place) e ∙ same))
      ]
      | inr before ↦ elim (contains_cases z xs y hy) [
        | inl f ↦ absurd (not_below_itself z x (all_below (λ w. stored_cmp z w ≡ Less) xs x ordered.0 before) (ap (λ (w : Held). w.place) f ∙ sym same))
        | inr later ↦ once xs x y ordered.1 before later same
      ]
    ]

encloses_none : (p q : Place) → IsInnermost p → Encloses p q → ⊥
encloses_none (Cell row column) q inner e = e
encloses_none (Marker row) q inner e = e
encloses_none (RowGone row) q inner e = inner
encloses_none (RangeGone from upto) q inner e = inner
encloses_none PartGone q inner e = inner

lies_at : (p q : Place) → IsInnermost p → LiesIn q p → p ≡ q
lies_at p q inner (inl same) = same
lies_at p q inner (inr e) = absurd (encloses_none p q inner e)

-- a cell or a marker outranks nothing but at its place
own_place : (x y : Held) → IsInnermost x.place → Outranks x y → x.place ≡ y.place
own_place x y inner (inl beats) = beats.0
own_place x y inner (inr (covers, other)) = lies_at x.place y.place inner covers.1

pub run_apart : (xs : List Held) → AreInOrder xs → AreBare xs → AreApart xs
run_apart xs ordered bare x y hx hy over =
    let same : x ≡ y = once xs x y ordered hx hy (own_place x y (bare x hx) over) in
    Outranks_irrefl x (subst (Outranks x) (sym same) over)

-- ---- more behind them

pub both_bare : (a b : List Held) → AreBare a → AreBare b → AreBare (a ++ b)
both_bare a b first second x k = elim (Contains-append_cases a b x k) [ inl front ↦ first x front | inr behind ↦ second x behind ]

pub run_merge : (a b : List Held) → AreInOrder (a ++ b) → AreBare (a ++ b) → IsMergeOf (a ++ b) a b
run_merge a b ordered bare = record {
  within = λ x k. Contains-append_cases a b x k;
  reached = λ x u. elim u [ inl k ↦ inl (Contains-append_left a b x k) | inr k ↦ inl (Contains-append_right a b x k) ];
  apart = run_apart (a ++ b) ordered bare;
}

pub held_arrived : (time : ℕ) (xs : List Held) → map held_of (map (arrived_at time) xs) ≡ xs
held_arrived time [] = refl
held_arrived time (x ∷ xs) = ap (λ (l : List Held). x ∷ l) (held_arrived time xs)

pub held_both : (a b : List Arrived) → map held_of (a ++ b) ≡ map held_of a ++ map held_of b
held_both [] b = refl
held_both (x ∷ a) b = ap (λ (l : List Held). x.held ∷ l) (held_both a b)

pub held_more : (time : ℕ) (run : List Arrived) (xs : List Held) → map held_of (run ++ map (arrived_at time) xs) ≡ map held_of run ++ xs
held_more time run xs = held_both run (map (arrived_at time) xs) ∙ ap (λ (l : List Held). map held_of run ++ l) (held_arrived time xs)

pub run_come : (time : ℕ) (run : List Arrived) (xs : List Held) → AreInOrder (map held_of run ++ xs) → ComeAt time run (run ++ map (arrived_at time) xs)
run_come time run xs ordered a k =
    elim (Contains-append_cases run (map (arrived_at time) xs) a k) [
      | inl old ↦ inl old
      | inr new ↦
          let x = contains_from_map (arrived_at time) xs a new in
          let held : x.0 ≡ a.held = ap (λ (v : Arrived). v.held) x.2 in
          inr (
            λ there. not_below_itself a.held x.0 (sorted_across stored_cmp (map held_of run) xs ordered a.held x.0 there x.1) (ap (λ (v : Held). v.place) (sym held)),
            sym (ap (λ (v : Arrived). v.arrival) x.2),
          )
    ]

-- ---- as the code looks at them

last_behind : (y z : Held) (xs : List Held) (last : Held) → slice_get (y ∷ z ∷ xs) (length (y ∷ z ∷ xs) - 1) ≡ Some last → slice_get (z ∷ xs) (length (z ∷ xs) - 1) ≡ Some last
last_behind y z xs last at =
    let here : length (z ∷ xs) - 1 ≡ length xs = omega arith in
    let there : length (y ∷ z ∷ xs) - 1 ≡ suc (length xs) = omega arith in
    let found : slice_get (y ∷ z ∷ xs) (suc (length xs)) ≡ Some last = subst (λ (i : ℕ). slice_get (y ∷ z ∷ xs) i ≡ Some last) there at in
    ap (λ (i : ℕ). slice_get (z ∷ xs) i) here ∙ found

-- the last of a list stands above the others
pub last_above : (xs : List Held) (last : Held) → AreInOrder xs → slice_get xs (length xs - 1) ≡ Some last → (x : Held) → Contains xs x → (x ≡ last) ⊎ (stored_cmp x last ≡ Less)
unfolding IsStrictlySortedBy
last_above [] last ordered at x k = absurd (contains_nil x k)
last_above (y ∷ []) last ordered at x k =
    let is : y ≡ last = cc in
    elim (contains_cases y [] x k) [ inl e ↦ inl (sym e ∙ is) | inr none ↦ absurd (contains_nil x none) ]
last_above (y ∷ z ∷ xs) last ordered at x k =
    let rest = last_above (z ∷ xs) last ordered.1 (last_behind y z xs last at) in
    elim (contains_cases y (z ∷ xs) x k) [
      | inl e ↦
          let one = rest z (contains_here z xs) in
          let low : stored_cmp y z ≡ Less = ordered.0.0 in
          inr (subst (λ (w : Held). stored_cmp w last ≡ Less) e (elim one [ inl same ↦ subst (λ (w : Held). stored_cmp y w ≡ Less) same low | inr less ↦ stored_total.trans y z last low less ]))
      | inr later ↦ rest x later
    ]

pub all_before : (xs : List Held) (last first : Held) → AreInOrder xs → slice_get xs (length xs - 1) ≡ Some last → stored_cmp last first ≡ Less → (x : Held) → Contains xs x → stored_cmp x first ≡ Less
all_before xs last first ordered at below x k =
    elim (last_above xs last ordered at x k) [
      | inl same ↦ subst (λ (w : Held). stored_cmp w first ≡ Less) (sym same) below
      | inr less ↦ stored_total.trans x last first less below
    ]

pub in_order_behind : (a b : List Held) (first : Held) → AreInOrder a → AreInOrder b → slice_get b 0 ≡ Some first → ((x : Held) → Contains a x → stored_cmp x first ≡ Less) → AreInOrder (a ++ b)
unfolding IsStrictlySortedBy
in_order_behind a [] first ordered more at below = cc
in_order_behind a (y ∷ b) first ordered more at below =
    let is : y ≡ first = cc in
    sorted_both stored_cmp a (y ∷ b) ordered more (λ x z hx hz.
    let low : stored_cmp x y ≡ Less = subst (λ (w : Held). stored_cmp x w ≡ Less) (sym is) (below x hx) in
    elim (contains_cases y b z hz) [
      | inl e ↦ subst (λ (w : Held). stored_cmp x w ≡ Less) e low
      | inr later ↦ stored_total.trans x y z low (all_below (λ w. stored_cmp y w ≡ Less) b z more.0 later)
    ])

-- ---- the tree of them

pub run_stored : (run : List Arrived) → stored_of (map entry_of run) ≡ run
run_stored [] = refl
run_stored (a ∷ run) = ap (λ (l : List Arrived). a ∷ l) (run_stored run)

pub run_changes : (run : List Arrived) → changes_of (helds_in (map entry_of run)) ≡ map held_of run
run_changes run = sym (stored_changes (map entry_of run)) ∙ ap (map held_of) (run_stored run)

keys_above : (a : Arrived) (run : List Arrived) → AllByRecursion (λ y. stored_cmp a.held y ≡ Less) (map held_of run) → AllByRecursion (λ s. spot_cmp (At a.held.place) s ≡ Less) (keys_of (map entry_of run))
keys_above a [] h = tt
keys_above a (b ∷ run) h = (h.0, keys_above a run h.1)

pub run_sorted : (run : List Arrived) → AreInOrder (map held_of run) → IsStrictlySortedBy spot_cmp (keys_of (map entry_of run))
unfolding IsStrictlySortedBy
run_sorted [] ordered = tt
run_sorted (a ∷ run) ordered = (keys_above a run ordered.0, run_sorted run ordered.1)

pub run_filed : (run : List Arrived) → AreFiled (helds_in (map entry_of run))
run_filed [] s x k = absurd (contains_nil (s, Some x) k)
run_filed (a ∷ run) s x k = elim (contains_cases (At a.held.place, Some a.held) (helds_in (map entry_of run)) (s, Some x) k) [
  | inl e ↦ let spot : At a.held.place ≡ s = ap (λ (d : Spot × Option Held). d.0) e in let held : Some a.held ≡ Some x = ap (λ (d : Spot × Option Held). d.1) e in let is : a.held ≡ x = cc in sym spot ∙ ap (λ (h : Held). At h.place) is
  | inr later ↦ run_filed run s x later
]

pub run_good : (run : List Arrived) → AreInOrder (map held_of run) → AreBare (map held_of run) → IsGood (record { entries = helds_in (map entry_of run) })
run_good run ordered bare = record {
  sorted = subst (IsStrictlySortedBy spot_cmp) (sym (helds-keys (map entry_of run))) (run_sorted run ordered);
  filed = run_filed run;
  apart = subst AreApart (sym (run_changes run)) (run_apart (map held_of run) ordered bare);
}

abbrev pub Entries : Type 0
Entries = List (Spot × Option Arrived)

found_as : (q : Spot) (es : Entries) → find spot_cmp q es ≡ lookup (is_at (spot_cmp q)) es
found_as q [] = refl
found_as q (e ∷ es) = ap (λ (o : Option (Option Arrived)). cond (is_eq (spot_cmp q e.0)) (Some e.1) o) (found_as q es)

told_both : (a b : Bool) → T a → T b → T (a && b)
told_both true b h k = k
told_both false b h k = h

told_less : (o : Ordering) → o ≡ Less → T (is_lt o)
told_less o e = subst (λ (r : Ordering). T (is_lt r)) (sym e) tt

rise_above : (s : Spot) (es : Entries) → AllByRecursion (λ k. spot_cmp s k ≡ Less) (keys_of es) → T (below_all spot_cmp s es)
rise_above s [] h = tt
rise_above s (e ∷ es) h = told_both (is_lt (spot_cmp s e.0)) (below_all spot_cmp s es) (told_less (spot_cmp s e.0) h.0) (rise_above s es h.1)

rise : (es : Entries) → IsStrictlySortedBy spot_cmp (keys_of es) → T (is_sorted spot_cmp es)
unfolding IsStrictlySortedBy
rise [] h = tt
rise (e ∷ es) h = told_both (below_all spot_cmp e.0 es) (is_sorted spot_cmp es) (rise_above e.0 es h.0) (rise es h.1)

-- keys that rise are found as they stand
pub tree_of : (es : Entries) (n : BTreeMap Spot (Option Arrived)) → IsFromIterResult spot_cmp es n → IsStrictlySortedBy spot_cmp (keys_of es) → n.entries ≡ es
tree_of es n made sorted =
    same_entries spot_cmp spot_total (λ x y e. sym (key_exact x y e)) n.entries es (rise n.entries made.1) (rise es sorted)
    (λ q. found_as q n.entries ∙ made.0 q ∙ update_all_none (eq_by_cmp_equiv spot_total) (eq_by_cmp spot_cmp) (λ x y. refl) es q (IsDistinct-from_sorted spot_cmp (keys_of es) sorted) ∙ sym (found_as q es))

pub if_ok_weaker : {X E : Type 0} (r : Result X E) (P Q : X → Type 0) → ((x : X) → P x → Q x) → IfOk r P → IfOk r Q
if_ok_weaker (Ok x) P Q to h = to x h
if_ok_weaker (Err e) P Q to h = tt

pub last_of : (run : List Arrived) (last : Arrived) → slice_get run (length run - 1) ≡ Some last → slice_get (map held_of run) (length (map held_of run) - 1) ≡ Some last.held
last_of run last at =
    slice_get-map held_of run (length (map held_of run) - 1)
    ∙ ap (λ (n : ℕ). option_map held_of (slice_get run (n - 1))) (length-map run held_of)
    ∙ ap (option_map held_of) at

pub in_order_before_none : (a b : List Held) → AreInOrder a → slice_get b 0 ≡ None → AreInOrder (a ++ b)
in_order_before_none a [] ordered none = subst AreInOrder (sym (append-nil a)) ordered
in_order_before_none a (y ∷ b) ordered none = cc

pub sum_more : (run : List Arrived) (i : ℕ) (x : Arrived) → i < length run → x ≡ get_or run i x → sum_by held_length (map held_of (take (i + 1) run)) ≡ sum_by held_length (map held_of (take i run)) + held_length x.held
sum_more run i x below at =
    ap (λ (l : List Arrived). sum_by held_length (map held_of l)) (front_more run i x below at)
    ∙ ap (sum_by held_length) (held_both (take i run) (x ∷ []))
    ∙ sum_by_push held_length (map held_of (take i run)) x.held

pub stored_none : (stored : List Arrived) → map held_of stored ≡ [] → stored ≡ []
stored_none [] e = refl
stored_none (a ∷ stored) e = cc

-- ---- what a load has of a partition

none_ordered : AreInOrder []
unfolding IsStrictlySortedBy
none_ordered = tt

pub loaded_none : (run : List Arrived) (content : Partition) → run ≡ [] → IsLoaded run content
loaded_none run content none = subst (λ (l : List Arrived). IsLoaded l content) (sym none) (record { ordered = none_ordered; bare = λ x k. absurd (contains_nil x k); alone = inl refl })

-- where changes went on a run, or memory ran out
pub pushed_loaded : {X E : Type 0} (r : Result X E) (old new : List Arrived) (xs : List Held) (time : ℕ) (content : Partition) → IsLoaded old content → AreInOrder (map held_of old ++ xs) → AreBare xs → content.stored ≡ []
    → OnOk r (new ≡ old ++ map (arrived_at time) xs) → OnErr r (new ≡ old) → IsLoaded new content
pushed_loaded (Ok x) old new xs time content loaded ordered bare none pushed kept =
    let changes : map held_of new ≡ map held_of old ++ xs = ap (map held_of) pushed ∙ held_more time old xs in
    record {
      ordered = subst AreInOrder (sym changes) ordered;
      bare = subst AreBare (sym changes) (both_bare (map held_of old) xs loaded.bare bare);
      alone = inr none;
    }
pushed_loaded (Err e) old new xs time content loaded ordered bare none pushed kept = subst (λ (l : List Arrived). IsLoaded l content) (sym kept) loaded

pub pushed_merge : (old new stored : List Arrived) (xs : List Held) (time : ℕ) → AreInOrder (map held_of old ++ xs) → AreBare (map held_of old) → AreBare xs → stored ≡ [] → new ≡ old ++ map (arrived_at time) xs
    → IsMergeOf (map held_of (new ++ stored)) (map held_of (old ++ stored)) xs
pushed_merge old new stored xs time ordered first second none pushed =
    let before : map held_of (old ++ stored) ≡ map held_of old = ap (λ (l : List Arrived). map held_of (old ++ l)) none ∙ ap (map held_of) (append-nil old) in
    let after : map held_of (new ++ stored) ≡ map held_of old ++ xs = ap (λ (l : List Arrived). map held_of (new ++ l)) none ∙ ap (map held_of) (append-nil new) ∙ ap (map held_of) pushed ∙ held_more time old xs in
    subst (λ (l : List Held). IsMergeOf l (map held_of (old ++ stored)) xs) (sym after)
    (subst (λ (l : List Held). IsMergeOf (map held_of old ++ xs) l xs) (sym before) (run_merge (map held_of old) xs ordered (both_bare (map held_of old) xs first second)))

pub pushed_come : (old new stored : List Arrived) (xs : List Held) (time : ℕ) → AreInOrder (map held_of old ++ xs) → stored ≡ [] → new ≡ old ++ map (arrived_at time) xs → ComeAt time (old ++ stored) (new ++ stored)
pushed_come old new stored xs time ordered none pushed =
    subst (λ (l : List Arrived). ComeAt time (old ++ l) (new ++ l)) (sym none)
    (subst (λ (l : List Arrived). ComeAt time l (new ++ [])) (sym (append-nil old)) (subst (λ (l : List Arrived). ComeAt time old l) (sym (append-nil new ∙ pushed)) (run_come time old xs ordered)))
