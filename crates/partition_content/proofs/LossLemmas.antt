-- What a change takes away is found in the keys that lie in its place.
use Rattle.std.proofs.Common.{◌≡◌, ◌≢◌, ℕ, ◌+◌, ◌⊎◌, ◌↔◌, IsTrue, inl, inr, Bool, true, false, cond, not, ◌&&◌, filter, List, [], ◌∷◌, Option, Some, None, Contains, refl, sym, ◌∙◌, ap, subst, arith}
use Rattle.std.specs.BTreeMap.Range.{range_contains, entries_between}
use Rattle.std.specs.Ordering.{is_le, is_lt, ordering_reverse}
use Rattle.std.specs.declared.cmp.Ordering.{Ordering}
use Rattle.std.specs.declared.cmp.Ordering.TheVariants.{Less, Greater}
use Rattle.std.specs.declared.ops.Bound.TheVariants.{Included, Excluded, Unbounded}
use Rattle.std.proofs.lemmas.Bool.{false≢true}
use Rattle.std.proofs.lemmas.Cmp.{tied_itself}
use Rattle.changes.specs.declared.Bound.{Bound}
use Rattle.changes.specs.declared.Held.{Held}
use Rattle.changes.specs.declared.Place.{Place}
use Rattle.changes.specs.declared.Place.TheVariants.{Cell, Marker, RowGone, RangeGone, PartGone}
use Rattle.changes.specs.Order.{Outranks, Encloses, IsBetween, row_of, row_signs, signs_cmp}
use Rattle.changes.proofs.Ranks.{above}
use Rattle.cell_merge.specs.Parts.{IsInnermost}
use Rattle.cs_base.proofs.Members.{contains_nil, contains_here, contains_there}
use Rattle.partition_content.specs.declared.keys.Keys.{Keys}
use Rattle.partition_content.specs.declared.keys.Span.{Span}
use Rattle.partition_content.specs.declared.keys.Span.TheVariants.{Alone, Under, Row, Rows}
use Rattle.partition_content.specs.declared.spots.Spot.{Spot}
use Rattle.partition_content.specs.declared.spots.Spot.TheVariants.{At, Edge}
use Rattle.partition_content.specs.Spots.{spot_cmp}
use Rattle.partition_content.specs.SpotLaws.{spot_total}
use Rattle.partition_content.specs.Keys.{AreKeysOf, span_for}
use Rattle.partition_content.specs.Reading.{first_row, wide_of}
use Rattle.partition_content.specs.Slots.{AreFiled, IsCountedWith, IsLengthOf, IsNewlyOutranked}
use Rattle.partition_content.proofs.SpotLemmas.{edge_stands, edge_above}
use Rattle.partition_content.proofs.SlotLemmas.{AreLost}
use Rattle.partition_content.proofs.ReachLemmas.{before_rows}
use Rattle.partition_content.proofs.ReadLemmas.{row_passes, both_pass, passes}
use Rattle.partition_content.proofs.RowLemmas.{passed, lost_filtered, row_inside, row_deletion}
use Rattle.partition_content.proofs.ClearLemmas.{only_own}

abbrev Entry : Type 0
Entry = Spot × Option Held

-- ---- counting

counted_as : (P Q : Held → Type 0) (o : Option Held) (a b : ℕ) → ((y : Held) → P y → Q y) → ((y : Held) → Q y → P y) → IsCountedWith P o a b → IsCountedWith Q o a b
counted_as P Q None a b to back h = h
counted_as P Q (Some y) a b to back (inl (told, e)) = inl (to y told, e)
counted_as P Q (Some y) a b to back (inr (free, e)) = inr (λ q. free (back y q), e)

length_as : (P Q : Held → Type 0) (es : List (Spot × Option Held)) (n : ℕ) → ((y : Held) → P y → Q y) → ((y : Held) → Q y → P y) → IsLengthOf P es n → IsLengthOf Q es n
length_as P Q [] n to back h = h
length_as P Q (e ∷ es) n to back (rest, fewer, one) = (rest, length_as P Q es rest to back fewer, counted_as P Q e.1 rest n to back one)

-- beside no others all that x outranks counts
pub lost_alone : (x : Held) (es : List (Spot × Option Held)) (n : ℕ) → IsLengthOf (IsNewlyOutranked [] x) es n → AreLost x es n
lost_alone x es n h = length_as (IsNewlyOutranked [] x) (λ y. Outranks x y) es n (λ y k. k.0) (λ y over. (over, λ k. contains_nil k.0 k.1)) h

pub newly_told : (P Q : Type 0) (b : Bool) → P → IsTrue b ↔ Q → IsTrue (not b) ↔ (P × (Q → ⊥))
newly_told P Q true p told = (λ t. absurd (false≢true t), λ k. absurd (k.1 (told.0 refl)))
newly_told P Q false p told = (λ t. (p, λ q. false≢true (told.1 q)), λ k. refl)

pub nothing_counted : (P : Held → Type 0) (es : List (Spot × Option Held)) → ((s : Spot) (y : Held) → Contains es (s, Some y) → P y → ⊥) → IsLengthOf P es 0
nothing_counted P [] free = refl
nothing_counted P (e ∷ es) free = (
  0,
  nothing_counted P es (λ s y h. free s y (contains_there {X = Spot × Option Held} e es (s, Some y) h)),
  passed P e.1 0 (λ y is. free e.0 y (subst (λ (o : Option Held). Contains {X = Spot × Option Held} (e ∷ es) (e.0, o)) is (contains_here {X = Spot × Option Held} e es))),
)

-- ---- two parts of the tree

abbrev IsCountedIf : Bool → (Held → Type 0) → Option Held → ℕ → ℕ → Type 0
IsCountedIf true P o rest all = IsCountedWith P o rest all
IsCountedIf false P o rest all = all ≡ rest

first_of : (P : Held → Type 0) (b : Bool) (e : Spot × Option Held) (fs : List (Spot × Option Held)) (a : ℕ) → IsLengthOf P (cond b (e ∷ fs) fs) a → (r : ℕ) × IsLengthOf P fs r × IsCountedIf b P e.1 r a
first_of P true e fs a h = h
first_of P false e fs a h = (a, h, refl)

abbrev IsInOne : Bool → Bool → Type 0
IsInOne true true = ⊥
IsInOne true false = Unit {0}
IsInOne false true = Unit {0}
IsInOne false false = ⊥

both_count : (P : Held → Type 0) (b c : Bool) (o : Option Held) (r s m n : ℕ) → ((y : Held) → o ≡ Some y → P y → IsInOne b c) → IsCountedIf b P o r m → IsCountedIf c P o s n → IsCountedWith P o (r + s) (m + n)
both_count P true true None r s m n one h k = omega (arith, h, k)
both_count P true false None r s m n one h k = omega (arith, h, k)
both_count P false true None r s m n one h k = omega (arith, h, k)
both_count P false false None r s m n one h k = omega (arith, h, k)
both_count P true true (Some y) r s m n one (inl (told, e)) k = absurd (one y refl told)
both_count P true true (Some y) r s m n one (inr (free, e)) (inl (told, f)) = absurd (free told)
both_count P true true (Some y) r s m n one (inr (free, e)) (inr (also, f)) = inr (free, omega (arith, e, f))
both_count P true false (Some y) r s m n one (inl (told, e)) k = inl (told, omega (arith, e, k))
both_count P true false (Some y) r s m n one (inr (free, e)) k = inr (free, omega (arith, e, k))
both_count P false true (Some y) r s m n one h (inl (told, f)) = inl (told, omega (arith, h, f))
both_count P false true (Some y) r s m n one h (inr (free, f)) = inr (free, omega (arith, h, f))
both_count P false false (Some y) r s m n one h k = inr (λ told. one y refl told, omega (arith, h, k))

both_lengths : (P : Held → Type 0) (p q : Spot × Option Held → Bool) (es : List (Spot × Option Held)) (a b : ℕ) → ((s : Spot) (y : Held) → Contains es (s, Some y) → P y → IsInOne (p (s, Some y)) (q (s, Some y))) → IsLengthOf P (filter p es) a → IsLengthOf P (filter q es) b → IsLengthOf P es (a + b)
both_lengths P p q [] a b one h k = omega (arith, h, k)
both_lengths P p q (e ∷ es) a b one h k =
    let f = first_of P (p e) e (filter p es) a h in
    let g = first_of P (q e) e (filter q es) b k in (
      f.0 + g.0,
      both_lengths P p q es f.0 g.0 (λ s y here. one s y (contains_there {X = Spot × Option Held} e es (s, Some y) here)) f.1 g.1,
      both_count P (p e) (q e) e.1 f.0 g.0 a b
          (λ y is told. subst (λ (o : Option Held). IsInOne (p (e.0, o)) (q (e.0, o))) (sym is)
          (one e.0 y (subst (λ (o : Option Held). Contains {X = Spot × Option Held} (e ∷ es) (e.0, o)) is (contains_here {X = Spot × Option Held} e es)) told))
          f.2 g.2,
    )

-- ---- deletions of ranges

first_below : (row : List ℕ) → signs_cmp ((0, 0) ∷ []) (row_signs row) ≡ Less
first_below [] = refl
first_below (x ∷ row) = refl

-- what lies in a range is in a row between its bounds, or in none
pub in_range : (f u : Bound) (q : Place) → Encloses (RangeGone f u) q → (row_of q ≡ None) ⊎ ((row : List ℕ) × (row_of q ≡ Some row) × IsBetween f u row)
in_range f u (Cell r c) h = inr (r, refl, h)
in_range f u (Marker r) h = inr (r, refl, h)
in_range f u (RowGone r) h = inr (r, refl, h)
in_range f u (RangeGone a b) h = inl refl
in_range f u PartGone h = absurd h

abbrev WideTest : Spot × Option Held → Bool
WideTest d = range_contains spot_cmp Unbounded (Excluded first_row) d.0

in_one_at : (b c d e : Bool) → b ≡ d → c ≡ e → IsInOne d e → IsInOne b c
in_one_at b c d e first second h = subst (λ (v : Bool). IsInOne v c) (sym first) (subst (λ (v : Bool). IsInOne d v) (sym second) h)

in_one : (f u : Bound) (q : Place) → (row_of q ≡ None) ⊎ ((row : List ℕ) × (row_of q ≡ Some row) × IsBetween f u row)
    → IsInOne (range_contains spot_cmp Unbounded (Excluded first_row) (At q)) (range_contains spot_cmp (Excluded (Edge f)) (Excluded (Edge u)) (At q))
in_one f u q (inl none) =
    in_one_at (range_contains spot_cmp Unbounded (Excluded first_row) (At q)) (range_contains spot_cmp (Excluded (Edge f)) (Excluded (Edge u)) (At q)) true false
    (before_rows q none) (ap (λ (o : Ordering). is_lt o && not (is_le (spot_cmp (Edge u) (At q)))) (edge_above f q none)) tt
in_one f u q (inr (row, is, inside)) =
    in_one_at (range_contains spot_cmp Unbounded (Excluded first_row) (At q)) (range_contains spot_cmp (Excluded (Edge f)) (Excluded (Edge u)) (At q)) false true
    (ap (λ (o : Ordering). not (is_le o)) (edge_stands (record { at = []; after = false }) q row is ∙ first_below row)) (row_passes f u q row is inside) tt

range_reached : (x y : Held) (f u : Bound) → x.place ≡ RangeGone f u → Outranks x y → (row_of y.place ≡ None) ⊎ ((row : List ℕ) × (row_of y.place ≡ Some row) × IsBetween f u row)
range_reached x y f u is over =
    elim (above x y over) [
      | inl b ↦ inl (ap row_of (sym b.0 ∙ is))
      | inr i ↦ in_range f u y.place (subst (λ (p : Place). Encloses p y.place) is i.0)
    ]

span_rows : (bare : Bool) (p : Place) (from upto : Spot) → span_for bare p ≡ Rows from upto → (f u : Bound) × (p ≡ RangeGone f u) × (from ≡ Edge f) × (upto ≡ Edge u)
span_rows true (Cell r c) from upto e = cc
span_rows false (Cell r c) from upto e = cc
span_rows true (Marker r) from upto e = cc
span_rows false (Marker r) from upto e = cc
span_rows bare (RowGone r) from upto e = cc
span_rows bare (RangeGone f u) from upto e = (let a : Edge f ≡ from = cc in let b : Edge u ≡ upto = cc in (f, u, refl, sym a, sym b))
span_rows bare PartGone from upto e = cc

pub range_deletion : (own : Keys) (p : Place) (from upto : Spot) → AreKeysOf own p → own.span ≡ Rows from upto → (f u : Bound) × (p ≡ RangeGone f u) × (from ≡ Edge f) × (upto ≡ Edge u)
range_deletion own p from upto (bare, is) e = span_rows bare p from upto (sym (ap (λ (k : Keys). k.span) is) ∙ e)

range_lengths : (others : List Held) (x : Held) (f u : Bound) (es : List (Spot × Option Held)) (a b : ℕ) → x.place ≡ RangeGone f u → AreFiled es → IsLengthOf (IsNewlyOutranked others x) (wide_of es) a
    → IsLengthOf (IsNewlyOutranked others x) (entries_between spot_cmp (Excluded (Edge f)) (Excluded (Edge u)) es) b → IsLengthOf (IsNewlyOutranked others x) es (a + b)
range_lengths others x f u es a b is filed wide rows =
    both_lengths (IsNewlyOutranked others x) (λ (d : Spot × Option Held). range_contains spot_cmp Unbounded (Excluded first_row) d.0) (λ (d : Spot × Option Held). range_contains spot_cmp (Excluded (Edge f)) (Excluded (Edge u)) d.0) es a b
    (λ s y here told. subst (λ (k : Spot). IsInOne (range_contains spot_cmp Unbounded (Excluded first_row) k) (range_contains spot_cmp (Excluded (Edge f)) (Excluded (Edge u)) k)) (sym (filed s y here))
    (in_one f u y.place (range_reached x y f u is told.0)))
    wide rows

pub lost_in_range : (others : List Held) (x : Held) (own : Keys) (from upto : Spot) (es : List (Spot × Option Held)) (a b : ℕ) → AreKeysOf own x.place → own.span ≡ Rows from upto → AreFiled es → IsLengthOf (IsNewlyOutranked others x) (wide_of es) a
    → IsLengthOf (IsNewlyOutranked others x) (entries_between spot_cmp (Excluded from) (Excluded upto) es) b → IsLengthOf (IsNewlyOutranked others x) es (a + b)
lost_in_range others x own from upto es a b keys span filed wide rows =
    let r = range_deletion own x.place from upto keys span in
    range_lengths others x r.0 r.1 es a b r.2 filed wide
    (subst (λ (k : Spot). IsLengthOf (IsNewlyOutranked others x) (entries_between spot_cmp (Excluded (Edge r.0)) (Excluded k) es) b) r.4
    (subst (λ (k : Spot). IsLengthOf (IsNewlyOutranked others x) (entries_between spot_cmp (Excluded k) (Excluded upto) es) b) r.3 rows))

-- in bounds that aren't forward nothing is
between_forward : (from upto s : Spot) → spot_cmp from s ≡ Less → spot_cmp upto s ≡ Greater → spot_cmp from upto ≡ Less
between_forward from upto s low high = spot_total.trans from s upto low (spot_total.antisymm s upto ∙ ap ordering_reverse high)

pub none_between : (from upto : Spot) (es : List (Spot × Option Held)) (o : Ordering) → o ≡ spot_cmp from upto → o ≢ Less → (d : Spot × Option Held) → Contains (entries_between spot_cmp (Excluded from) (Excluded upto) es) d → ⊥
none_between from upto es o e other d h =
    let b = both_pass (spot_cmp from d.0) (spot_cmp upto d.0) (passes (λ (c : Spot × Option Held). range_contains spot_cmp (Excluded from) (Excluded upto) c.0) es d h) in
    other (e ∙ between_forward from upto d.0 b.0 b.1)

pub nothing_between : (P : Held → Type 0) (from upto : Spot) (es : List (Spot × Option Held)) (o : Ordering) → o ≡ spot_cmp from upto → o ≢ Less → IsLengthOf P (entries_between spot_cmp (Excluded from) (Excluded upto) es) 0
nothing_between P from upto es o e other =
    nothing_counted P (entries_between spot_cmp (Excluded from) (Excluded upto) es) (λ s y h told. none_between from upto es o e other (s, Some y) h)

-- ---- one key, and a row

pub lost_at_own : (others : List Held) (x : Held) (at : Spot) (es : List (Spot × Option Held)) (n : ℕ) → at ≡ At x.place → IsInnermost x.place → AreFiled es → IsLengthOf (IsNewlyOutranked others x) (entries_between spot_cmp (Included at) (Included at) es) n → IsLengthOf (IsNewlyOutranked others x) es n
lost_at_own others x at es n is narrow filed h =
    lost_filtered (IsNewlyOutranked others x) (λ (d : Spot × Option Held). range_contains spot_cmp (Included at) (Included at) d.0) es n
    (λ s y here told. subst (λ (k : Spot). range_contains spot_cmp (Included at) (Included at) k ≡ true) (is ∙ sym (only_own x es narrow filed s y here told.0))
    (ap (λ (o : Ordering). is_le o && not (is_lt o)) (tied_itself spot_total at)))
    h

pub row_lengths : (others : List Held) (x : Held) (own : Keys) (end : Spot) (es : List (Spot × Option Held)) (n : ℕ) → AreKeysOf own x.place → own.span ≡ Row end → AreFiled es → IsLengthOf (IsNewlyOutranked others x) (entries_between spot_cmp (Included own.at) (Excluded end) es) n → IsLengthOf (IsNewlyOutranked others x) es n
row_lengths others x own end es n keys span filed h =
    lost_filtered (IsNewlyOutranked others x) (λ (d : Spot × Option Held). range_contains spot_cmp (Included own.at) (Excluded end) d.0) es n
    (λ s y here told. row_inside x own.at end es (row_deletion own x end keys span) filed s y here told.0) h

pub span_narrow : (bare : Bool) (p : Place) (s : Span) → span_for bare p ≡ s → (s ≡ Alone) ⊎ ((k : Spot) × (s ≡ Under k)) → IsInnermost p
span_narrow bare (Cell r c) s e h = tt
span_narrow bare (Marker r) s e h = tt
span_narrow bare (RowGone r) s e h = elim h [ inl a ↦ (let f = e ∙ a in cc) | inr u ↦ (let f = e ∙ u.1 in cc) ]
span_narrow bare (RangeGone a b) s e h = elim h [ inl a ↦ (let f = e ∙ a in cc) | inr u ↦ (let f = e ∙ u.1 in cc) ]
span_narrow bare PartGone s e h = elim h [ inl a ↦ (let f = e ∙ a in cc) | inr u ↦ (let f = e ∙ u.1 in cc) ]

pub narrow_keys : (own : Keys) (p : Place) → AreKeysOf own p → (own.span ≡ Alone) ⊎ ((k : Spot) × (own.span ≡ Under k)) → IsInnermost p
narrow_keys own p (bare, is) h = span_narrow bare p own.span (sym (ap (λ (k : Keys). k.span) is)) h
