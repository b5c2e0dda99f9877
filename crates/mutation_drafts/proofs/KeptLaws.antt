-- The first of each run of sorted drafts are those that are kept.
use Rattle.std.proofs.Common.{◌≡◌, ◌≢◌, Option, Some, None, List, Bool, true, false, refl, sym, ◌∙◌, ap, subst}
use Rattle.std.specs.Prelude.{ℤ, is_none, is_some}
use Rattle.std.specs.Cmp.{IsTotalOrder, bool_cmp_total}
use Rattle.std.specs.Cmp.Lexicographic.{options_total}
use Rattle.std.specs.List.{dedup}
use Rattle.std.specs.List.Sorted.{IsPermutation, IsSorted, IsStrictlySortedBy}
use Rattle.std.specs.Option.{option_cmp}
use Rattle.std.specs.Ordering.{int_cmp, is_eq, is_lt, ordering_then}
use Rattle.std.specs.declared.cmp.Ordering.{Ordering}
use Rattle.std.specs.declared.cmp.Ordering.TheVariants.{Less, Equal, Greater}
use Rattle.std.proofs.lemmas.Bool.{false≢true, true≢false}
use Rattle.std.proofs.lemmas.Cmp.{int_cmp_total, on_total, then_total, back_total, eq_by_cmp_equiv, tied_itself}
use Rattle.std.proofs.lemmas.List.Kept.{Contains-from_dedup, IsStrictlySortedBy-dedup}
use Rattle.std.proofs.lemmas.List.Sorted.{Contains-permutation, IsPermutation-sym, ranks_by}
use Rattle.changes.specs.declared.Draft.{Draft}
use Rattle.changes.specs.Order.{value_cmp}
use Rattle.changes.specs.Totals.{place_total}
use Rattle.changes.proofs.Orderings.{equal_is, then_equal}
use Rattle.changes.proofs.Places.{place_exact}
use Rattle.changes.proofs.Ranks.{value_total}
use Rattle.changes.proofs.Sorted.{kept_for}
use Rattle.mutation_drafts.specs.Kept.{AreRivals, IsKept, Stands, best_first, clock_cmp, draft_order, rank_cmp, sorting_cmp, timestamp_cmp}

clock_exact : (a b : Option ℤ) → clock_cmp a b ≡ Equal → is_some a ≡ is_some b
clock_exact None None p = refl
clock_exact None (Some b) p = cc
clock_exact (Some a) None p = cc
clock_exact (Some a) (Some b) p = refl

-- drafts that compare alike are rivals
rivals_exact : (x y : Draft) → draft_order x y ≡ Equal → AreRivals x y
rivals_exact x y e =
    let parts = then_equal _ _ e in
    (place_exact x.place y.place parts.0, clock_exact x.timestamp y.timestamp parts.1)

pub order_total : IsTotalOrder draft_order
order_total = then_total (on_total (λ (d : Draft). d.place) place_total) (on_total (λ (d : Draft). is_none d.timestamp) bool_cmp_total)

pub sorting_total : IsTotalOrder sorting_cmp
sorting_total =
    then_total order_total (then_total (on_total (λ (d : Draft). d.timestamp) (back_total (options_total int_cmp_total))) (on_total (λ (d : Draft). d.value) (back_total value_total)))

-- timestamps of one clock
pub times_alike : (a b : Option ℤ) → is_some a ≡ is_some b → option_cmp int_cmp a b ≡ timestamp_cmp a b
times_alike None None p = refl
times_alike None (Some b) p = absurd (false≢true p)
times_alike (Some a) None p = absurd (true≢false p)
times_alike (Some a) (Some b) p = refl

best_by_rank : (x y : Draft) → AreRivals x y → best_first y x ≡ rank_cmp x y
best_by_rank x y rivals = ap (λ (o : Ordering). ordering_then o (value_cmp x.value y.value)) (times_alike x.timestamp y.timestamp rivals.1)

not_less : (o : Ordering) → is_lt o ≡ false → o ≢ Less
not_less o p e = true≢false (sym (ap is_lt e) ∙ p)

stands : (x y : Draft) → is_eq (draft_order y x) ≡ true → is_lt (sorting_cmp y x) ≡ false → Stands x y
stands x y same standing =
    let equal = equal_is (draft_order y x) same in
    let back = rivals_exact y x equal in
    let rivals : AreRivals x y = (sym back.0, sym back.1) in
    let ranked : sorting_cmp y x ≡ rank_cmp x y = ap (λ (o : Ordering). ordering_then o (best_first y x)) equal ∙ best_by_rank x y rivals in
    (rivals, λ e. not_less (sorting_cmp y x) standing (ranked ∙ e))

time_itself : (a : Option ℤ) → timestamp_cmp a a ≡ Equal
time_itself None = refl
time_itself (Some a) = tied_itself int_cmp_total a

stands_itself : (x : Draft) → Stands x x
stands_itself x =
    let tied : rank_cmp x x ≡ Equal = ap (λ (o : Ordering). ordering_then o (value_cmp x.value x.value)) (time_itself x.timestamp) ∙ tied_itself value_total x.value in
    ((refl, refl), λ less. cc)

-- drafts in order are all kept
pub ordered_is_kept : (all : List Draft) → IsStrictlySortedBy draft_order all → IsKept all all
ordered_is_kept all up = record { within = λ x at. at; reached = λ y at. (y, at, stands_itself y); sorted = up }

first_sorted : (a b : Ordering) → is_lt (ordering_then a b) ≡ false → is_lt a ≡ false
first_sorted Less b p = p
first_sorted Equal b p = refl
first_sorted Greater b p = refl

pub kept_is : (all sorted kept : List Draft) → IsPermutation all sorted → IsSorted sorting_cmp sorted → kept ≡ dedup (λ x y. is_eq (draft_order x y)) sorted → IsKept kept all
kept_is all sorted kept moved up is =
    let same : Draft → Draft → Bool = λ x y. is_eq (draft_order x y) in
    subst (λ (l : List Draft). IsKept l all) (sym is) (record {
      within = λ x at. Contains-permutation sorted all x (IsPermutation-sym all sorted moved) (Contains-from_dedup same sorted x at);
      reached = λ y at.
          let found = kept_for (eq_by_cmp_equiv order_total) (ranks_by sorting_total (λ (d : Draft). d)) sorted up y (Contains-permutation all sorted y moved at) in
          (found.0, found.1, stands found.0 y found.2.0 found.2.1);
      sorted = IsStrictlySortedBy-dedup order_total (λ x y. refl) sorted (λ k d low high. first_sorted _ _ (up k d low high));
    })
