-- Blocks of deletions of rows, of which one reaches as far as each.
use Rattle.std.proofs.Common.{◌≡◌, ℕ, ◌+◌, ◌-◌, ◌<◌, ◌≤◌, inl, inr, true, false, None, IsSome, List, [], ◌∷◌, ◌++◌, length, length-take, length-drop, get_or, take, drop, refl, sym, ◌∙◌, ap, subst, arith}
use Rattle.std.specs.List.Sorted.{IsPartitionPoint}
use Rattle.std.specs.Ordering.{is_lt, is_le, ordering_reverse}
use Rattle.std.specs.declared.cmp.Ordering.{Ordering}
use Rattle.std.specs.declared.cmp.Ordering.TheVariants.{Less, Equal, Greater}
use Rattle.std.proofs.lemmas.Bool.{cases_lt, both_ways}
use Rattle.std.proofs.lemmas.List.{get_or_default, get_or_append_left, get_or_push, get_or-take, get_or-drop}
use Rattle.changes.specs.declared.Bound.{Bound}
use Rattle.changes.specs.declared.Held.{Held}
use Rattle.changes.specs.declared.Place.{Place}
use Rattle.changes.specs.declared.Place.TheVariants.{Cell, Marker, RowGone, RangeGone, PartGone}
use Rattle.changes.specs.Order.{bound_signs, row_signs, row_of, signs_cmp, Encloses, Outranks}
use Rattle.changes.specs.Totals.{signs_total}
use Rattle.changes.proofs.Orderings.{less_is}
use Rattle.changes.proofs.Ranks.{above}
use Rattle.changes.proofs.Signs.{NotAbove_trans, NotAbove_refl, below_upto}
use Rattle.cell_merge.specs.declared.ranges.Block.{Block}
use Rattle.cell_merge.specs.declared.ranges.RangeIndex.{RangeIndex}
use Rattle.cell_merge.specs.Tests.{begins_by, reaches_to}
use Rattle.cell_merge.specs.Parts.{IsOutrankedBy}
use Rattle.cell_merge.specs.Ranges.{AllWide, AllInRows, ReachesAsFar, IsBlockAt, AreBlocks, IsIndexOf, IsJoined}
use Rattle.cell_merge.proofs.PlaceOrder.{le_tells, le_true}

-- ---- what a deletion of rows that outranks a change reaches

begins_itself : (p : Place) → row_of p ≡ None → begins_by p p ≡ true
begins_itself PartGone n = refl
begins_itself (RangeGone a b) n = le_true (signs_cmp (bound_signs a) (bound_signs a)) (NotAbove_refl (bound_signs a))
begins_itself (RowGone r) n = cc
begins_itself (Marker r) n = cc
begins_itself (Cell r c) n = cc

reaches_itself : (p : Place) → row_of p ≡ None → reaches_to p p ≡ true
reaches_itself PartGone n = refl
reaches_itself (RangeGone a b) n = le_true (signs_cmp (bound_signs b) (bound_signs b)) (NotAbove_refl (bound_signs b))
reaches_itself (RowGone r) n = cc
reaches_itself (Marker r) n = cc
reaches_itself (Cell r c) n = cc

begins_around : (p q : Place) → row_of p ≡ None → Encloses p q → begins_by p q ≡ true
begins_around PartGone q n e = refl
begins_around (RangeGone f u) PartGone n e = absurd e
begins_around (RangeGone f u) (RangeGone a b) n e = le_true (signs_cmp (bound_signs f) (bound_signs a)) e.0
begins_around (RangeGone f u) (RowGone r) n e = ap is_lt e.0
begins_around (RangeGone f u) (Marker r) n e = ap is_lt e.0
begins_around (RangeGone f u) (Cell r c) n e = ap is_lt e.0
begins_around (RowGone r) q n e = cc
begins_around (Marker r) q n e = cc
begins_around (Cell r c) q n e = cc

reaches_around : (p q : Place) → row_of p ≡ None → Encloses p q → reaches_to p q ≡ true
reaches_around PartGone q n e = refl
reaches_around (RangeGone f u) PartGone n e = absurd e
reaches_around (RangeGone f u) (RangeGone a b) n e = le_true (signs_cmp (bound_signs b) (bound_signs u)) e.1
reaches_around (RangeGone f u) (RowGone r) n e = ap is_lt e.1
reaches_around (RangeGone f u) (Marker r) n e = ap is_lt e.1
reaches_around (RangeGone f u) (Cell r c) n e = ap is_lt e.1
reaches_around (RowGone r) q n e = cc
reaches_around (Marker r) q n e = cc
reaches_around (Cell r c) q n e = cc

begins_at : (y x : Held) → row_of y.place ≡ None → Outranks y x → begins_by y.place x.place ≡ true
begins_at y x n over =
    elim (above y x over) [
      | inl (same, g) ↦ subst (λ (p : Place). begins_by y.place p ≡ true) same (begins_itself y.place n)
      | inr (e, late) ↦ begins_around y.place x.place n e
    ]

reaches_at : (y x : Held) → row_of y.place ≡ None → Outranks y x → reaches_to y.place x.place ≡ true
reaches_at y x n over =
    elim (above y x over) [
      | inl (same, g) ↦ subst (λ (p : Place). reaches_to y.place p ≡ true) same (reaches_itself y.place n)
      | inr (e, late) ↦ reaches_around y.place x.place n e
    ]

-- ---- which reaches further

range_as_far : (f u a b : Bound) → reaches_to (RangeGone f u) (RangeGone a b) ≡ true → ReachesAsFar (RangeGone f u) (RangeGone a b)
range_as_far f u a b h PartGone t = cc
range_as_far f u a b h (RangeGone c d) t =
    le_true (signs_cmp (bound_signs d) (bound_signs u)) (NotAbove_trans (bound_signs d) (bound_signs b) (bound_signs u) (le_tells (signs_cmp (bound_signs d) (bound_signs b)) t) (le_tells (signs_cmp (bound_signs b) (bound_signs u)) h))
range_as_far f u a b h (RowGone r) t =
    ap is_lt (below_upto (row_signs r) (bound_signs b) (bound_signs u) (less_is (signs_cmp (row_signs r) (bound_signs b)) t) (le_tells (signs_cmp (bound_signs b) (bound_signs u)) h))
range_as_far f u a b h (Marker r) t =
    ap is_lt (below_upto (row_signs r) (bound_signs b) (bound_signs u) (less_is (signs_cmp (row_signs r) (bound_signs b)) t) (le_tells (signs_cmp (bound_signs b) (bound_signs u)) h))
range_as_far f u a b h (Cell r c) t =
    ap is_lt (below_upto (row_signs r) (bound_signs b) (bound_signs u) (less_is (signs_cmp (row_signs r) (bound_signs b)) t) (le_tells (signs_cmp (bound_signs b) (bound_signs u)) h))

pub as_far : (p q : Place) → row_of q ≡ None → reaches_to p q ≡ true → ReachesAsFar p q
as_far PartGone q n h = λ r t. refl
as_far (RangeGone f u) PartGone n h = cc
as_far (RangeGone f u) (RangeGone a b) n h = range_as_far f u a b h
as_far (RangeGone f u) (RowGone r) n h = cc
as_far (RangeGone f u) (Marker r) n h = cc
as_far (RangeGone f u) (Cell r c) n h = cc
as_far (RowGone r) q n h = cc
as_far (Marker r) q n h = cc
as_far (Cell r c) q n h = cc

is_greater : (o : Ordering) → is_le o ≡ false → o ≡ Greater
is_greater Less h = cc
is_greater Equal h = cc
is_greater Greater h = refl

pub not_as_far : (p q : Place) → row_of p ≡ None → row_of q ≡ None → reaches_to p q ≡ false → ReachesAsFar q p
not_as_far PartGone q m n h = cc
not_as_far (RangeGone f u) PartGone m n h = λ r t. refl
not_as_far (RangeGone f u) (RangeGone a b) m n h =
    let less : signs_cmp (bound_signs u) (bound_signs b) ≡ Less = signs_total.antisymm (bound_signs u) (bound_signs b) ∙ ap ordering_reverse (is_greater (signs_cmp (bound_signs b) (bound_signs u)) h) in
    range_as_far a b f u (le_true (signs_cmp (bound_signs u) (bound_signs b)) (λ over. let e = sym less ∙ over in cc))
not_as_far (RangeGone f u) (RowGone r) m n h = cc
not_as_far (RangeGone f u) (Marker r) m n h = cc
not_as_far (RangeGone f u) (Cell r c) m n h = cc
not_as_far (RowGone r) q m n h = cc
not_as_far (Marker r) q m n h = cc
not_as_far (Cell r c) q m n h = cc

-- what the code reads of a list at a place is what stands there
pub read_at : (P : Held → Type 0) (xs : List Held) (i : ℕ) (x d : Held) → i < length xs → x ≡ get_or xs i x → P x → P (get_or xs i d)
read_at P xs i x d below is h = subst P (is ∙ get_or_default xs i x d below) h

-- ---- blocks

wide_at : (wide : List Held) (i : ℕ) (x : Held) → AllWide wide → i < length wide → x ≡ get_or wide i x → row_of x.place ≡ None
wide_at wide i x over below is = subst (λ (y : Held). row_of y.place ≡ None) (sym is) (over i x below)

pub joined_first : (wide : List Held) (first second both : Block) (x y : Held) → AllWide wide → first.furthest < length wide → second.furthest < length wide → both.start ≡ first.start → both.furthest ≡ first.furthest
    → x ≡ get_or wide second.furthest x → y ≡ get_or wide first.furthest y → reaches_to x.place y.place ≡ false → IsJoined wide first second both
joined_first wide first second both x y over low high start same is_x is_y f = record {
  start = start;
  furthest = inl same;
  first_reach = λ d. subst (λ (k : ℕ). ReachesAsFar (get_or wide k d).place (get_or wide first.furthest d).place) (sym same) (λ r t. t);
  second_reach = λ d.
      subst (λ (k : ℕ). ReachesAsFar (get_or wide k d).place (get_or wide second.furthest d).place) (sym same)
      (read_at (λ z. ReachesAsFar z.place (get_or wide second.furthest d).place) wide first.furthest y d low is_y
      (read_at (λ z. ReachesAsFar y.place z.place) wide second.furthest x d high is_x
      (not_as_far x.place y.place (wide_at wide second.furthest x over high is_x) (wide_at wide first.furthest y over low is_y) f)));
}

pub joined_second : (wide : List Held) (first second both : Block) (x y : Held) → AllWide wide → first.furthest < length wide → second.furthest < length wide → both.start ≡ first.start → both.furthest ≡ second.furthest
    → x ≡ get_or wide second.furthest x → y ≡ get_or wide first.furthest y → reaches_to x.place y.place ≡ true → IsJoined wide first second both
joined_second wide first second both x y over low high start same is_x is_y t = record {
  start = start;
  furthest = inr same;
  first_reach = λ d.
      subst (λ (k : ℕ). ReachesAsFar (get_or wide k d).place (get_or wide first.furthest d).place) (sym same)
      (read_at (λ z. ReachesAsFar z.place (get_or wide first.furthest d).place) wide second.furthest x d high is_x
      (read_at (λ z. ReachesAsFar x.place z.place) wide first.furthest y d low is_y
      (as_far x.place y.place (wide_at wide first.furthest y over low is_y) t)));
  second_reach = λ d. subst (λ (k : ℕ). ReachesAsFar (get_or wide k d).place (get_or wide second.furthest d).place) (sym same) (λ r t. t);
}

-- a block of one change
pub block_alone : (wide : List Held) (i : ℕ) (b : Block) → b.start ≡ i → b.furthest ≡ i → IsBlockAt wide i b
block_alone wide i b start same = record {
  start = omega (arith, start);
  furthest = omega (arith, same);
  reach = λ j d low high.
      let here : j ≡ b.furthest = omega (arith, start, same, low, high) in
      subst (λ (k : ℕ). ReachesAsFar (get_or wide b.furthest d).place (get_or wide k d).place) (sym here) (λ r t. t);
}

pub block_joined : (wide : List Held) (i at : ℕ) (first second both : Block) → at + 1 ≡ second.start → IsBlockAt wide at first → IsBlockAt wide i second → IsJoined wide first second both → IsBlockAt wide i both
block_joined wide i at first second both next low high h = record {
  start = omega (arith, next, low.start, high.start, h.start);
  furthest = elim h.furthest [ inl e ↦ omega (arith, e, next, low.furthest, high.start) | inr e ↦ omega (arith, e, high.furthest) ];
  reach = λ j d from upto. elim (cases_lt j second.start) [
    | inl before ↦ λ r t. h.first_reach d r (low.reach j d (omega (arith, from, h.start)) (omega (arith, before, next)) r t)
    | inr behind ↦ λ r t. h.second_reach d r (high.reach j d behind upto r t)
  ];
}

pub blocks_more : (wide : List Held) (n : ℕ) (blocks : List Block) (b : Block) → length blocks ≡ n → AreBlocks wide n blocks → IsBlockAt wide n b → AreBlocks wide (n + 1) (blocks ++ b ∷ [])
blocks_more wide n blocks b size before here i c below =
    elim (cases_lt i n) [
      | inl lt ↦ subst (λ (x : Block). IsBlockAt wide i x) (sym (get_or_append_left blocks (b ∷ []) c i (omega (arith, lt, size)))) (before i c lt)
      | inr ge ↦
          let last : i ≡ n = omega (arith, below, ge) in
          subst (λ (k : ℕ). IsBlockAt wide k (get_or (blocks ++ b ∷ []) k c)) (sym last)
          (subst (λ (x : Block). IsBlockAt wide n x) (sym (get_or_push blocks b c n size)) here)
    ]

-- ---- the search

-- none from a place on outranks x
abbrev pub NoneFrom : List Held → Held → ℕ → Type 0
NoneFrom wide x end = (k : ℕ) (d : Held) → end ≤ k → k < length wide → Outranks (get_or wide k d) x → ⊥

pub none_behind : (wide : List Held) (x : Held) (end : ℕ) → AllWide wide → IsPartitionPoint (λ y. begins_by y.place x.place ≡ true) (λ y. begins_by y.place x.place ≡ false) wide end → NoneFrom wide x end
none_behind wide x end over point k d low below out =
    both_ways (begins_by (get_or wide k d).place x.place) (point.1 k d low below) (begins_at (get_or wide k d) x (over k d below) out)

pub none_in_block : (wide : List Held) (x f : Held) (end : ℕ) (b : Block) → AllWide wide → 0 < end → end ≤ length wide → IsBlockAt wide (end - 1) b → f ≡ get_or wide b.furthest f → reaches_to f.place x.place ≡ false → NoneFrom wide x end → NoneFrom wide x b.start
none_in_block wide x f end b over some within block is short none k d low below out =
    elim (cases_lt k end) [
      | inr behind ↦ none k d behind below out
      | inl before ↦
          let inside : b.furthest < length wide = omega (arith, block.furthest, some, within) in
          let far : ReachesAsFar (get_or wide b.furthest d).place (get_or wide k d).place = block.reach k d low (omega (arith, before)) in
          both_ways (reaches_to (get_or wide b.furthest d).place x.place)
          (read_at (λ z. reaches_to z.place x.place ≡ false) wide b.furthest f d inside is short)
          (far x.place (reaches_at (get_or wide k d) x (over k d below) out))
    ]

pub none_at : (wide : List Held) (x y : Held) (end : ℕ) → end < length wide → y ≡ get_or wide end y → (Outranks y x → ⊥) → NoneFrom wide x (end + 1) → NoneFrom wide x end
none_at wide x y end below is f none k d low high =
    elim (cases_lt end k) [
      | inl behind ↦ none k d (omega (arith, behind)) high
      | inr here ↦ let same : end ≡ k = omega (arith, here, low) in subst (λ (i : ℕ). Outranks (get_or wide i d) x → ⊥) same (read_at (λ z. Outranks z x → ⊥) wide end y d below is f)
    ]

pub none_left : (wide : List Held) (x : Held) (end : ℕ) → end ≡ 0 → NoneFrom wide x end → IsOutrankedBy wide x → ⊥
none_left wide x end e none (y, (k, below, at), out) = none k y (omega (arith, e)) below (subst (λ (z : Held). Outranks z x) (sym at) out)

-- ---- changes in no single row, and those in rows

pub wide_front : (xs front : List Held) (n : ℕ) → n ≤ length xs → IsPartitionPoint (λ y. row_of y.place ≡ None) (λ y. IsSome (row_of y.place)) xs n → front ≡ take n xs → AllWide front
wide_front xs front n within point is =
    subst AllWide (sym is) (λ k d below.
    let size : length (take n xs) ≤ n = omega (arith, length-take n xs) in
    subst (λ (y : Held). row_of y.place ≡ None) (sym (get_or-take n xs k d (omega (arith, below, size)))) (point.0 k d (omega arith) (omega (arith, below, size))))

pub rows_back : (xs back : List Held) (n : ℕ) → n ≤ length xs → IsPartitionPoint (λ y. row_of y.place ≡ None) (λ y. IsSome (row_of y.place)) xs n → back ≡ drop n xs → AllInRows back
rows_back xs back n within point is =
    subst AllInRows (sym is) (λ k d below.
    subst (λ (y : Held). IsSome (row_of y.place)) (sym (get_or-drop n xs k d)) (point.1 (n + k) d (omega arith) (omega (arith, below, within, length-drop n xs))))

pub block_read : (wide : List Held) (index : RangeIndex) (i : ℕ) (b : Block) → IsIndexOf wide index → i < length wide → b ≡ get_or index.blocks.items i b → IsBlockAt wide i b
block_read wide index i b h below is = subst (IsBlockAt wide i) (sym is) (h.blocks i b below)
