-- What is kept of drafts is one list.
use Rattle.std.proofs.Common.{◌≡◌, ◌≢◌, inl, inr, Option, Some, None, List, Contains, refl, sym, ◌∙◌, ap, subst}
use Rattle.std.specs.Prelude.{ℕ, ℤ, is_some}
use Rattle.std.specs.Cmp.{IsTotalOrder}
use Rattle.std.specs.Cmp.Lexicographic.{options_total}
use Rattle.std.specs.Option.{option_cmp}
use Rattle.std.specs.Ordering.{int_cmp, ordering_then}
use Rattle.std.specs.declared.cmp.Ordering.{Ordering}
use Rattle.std.specs.declared.cmp.Ordering.TheVariants.{Less, Equal, Greater}
use Rattle.std.proofs.lemmas.Cmp.{int_cmp_total, on_total, then_total}
use Rattle.changes.specs.declared.Draft.{Draft}
use Rattle.changes.specs.declared.Place.{Place}
use Rattle.changes.specs.Order.{value_cmp}
use Rattle.changes.proofs.Orderings.{bytes_exact, cases_ordering, greater_back, int_exact, then_equal, then_on}
use Rattle.changes.proofs.Places.{place_tied}
use Rattle.changes.proofs.Ranks.{value_total}
use Rattle.changes.proofs.Sorted.{one_at, sorted_one}
use Rattle.mutation_drafts.specs.Kept.{AreRivals, IsKept, clock_cmp, draft_order, rank_cmp}
use Rattle.mutation_drafts.specs.Laws.{KeptAreOne}
use Rattle.mutation_drafts.proofs.KeptLaws.{order_total, times_alike}

-- ---- drafts of one place and clock that rank alike are one

value_exact : (a b : Option (List ℕ)) → value_cmp a b ≡ Equal → a ≡ b
value_exact None None p = refl
value_exact None (Some b) p = cc
value_exact (Some a) None p = cc
value_exact (Some a) (Some b) p = ap (λ (n : List ℕ). Some n) (bytes_exact a b p)

time_exact : (a b : Option ℤ) → option_cmp int_cmp a b ≡ Equal → a ≡ b
time_exact None None p = refl
time_exact None (Some b) p = cc
time_exact (Some a) None p = cc
time_exact (Some a) (Some b) p = ap (λ (n : ℤ). Some n) (int_exact a b p)

draft_made : {x y : Draft} → x.place ≡ y.place → x.value ≡ y.value → x.timestamp ≡ y.timestamp → x ≡ y
draft_made {x} {y} p q r =
    ap (λ (v : Place). let d : Draft = record { place = v; value = x.value; timestamp = x.timestamp } in d) p
    ∙ ap (λ (v : Option (List ℕ)). let d : Draft = record { place = y.place; value = v; timestamp = x.timestamp } in d) q
    ∙ ap (λ (v : Option ℤ). let d : Draft = record { place = y.place; value = y.value; timestamp = v } in d) r

abbrev full_rank : Draft → Draft → Ordering
full_rank x y = ordering_then (option_cmp int_cmp x.timestamp y.timestamp) (value_cmp x.value y.value)

full_total : IsTotalOrder full_rank
full_total = then_total (on_total (λ (d : Draft). d.timestamp) (options_total int_cmp_total)) (on_total (λ (d : Draft). d.value) value_total)

by_rank : (x y : Draft) → AreRivals x y → full_rank x y ≡ rank_cmp x y
by_rank x y rivals = ap (λ (o : Ordering). ordering_then o (value_cmp x.value y.value)) (times_alike x.timestamp y.timestamp rivals.1)

alike : (x y : Draft) → full_rank x y ≢ Less → full_rank y x ≢ Less → full_rank x y ≡ Equal
alike x y low high =
    elim (cases_ordering (full_rank x y)) [
      | inl less ↦ absurd (low less)
      | inr rest ↦ elim rest [ inl equal ↦ equal | inr greater ↦ absurd (high (greater_back full_total x y greater)) ]
    ]

-- neither beats the other
rivals_one : (x y : Draft) → AreRivals x y → rank_cmp x y ≢ Less → rank_cmp y x ≢ Less → x ≡ y
rivals_one x y rivals low high =
    let back : AreRivals y x = (sym rivals.0, sym rivals.1) in
    let tied = alike x y (λ e. low (sym (by_rank x y rivals) ∙ e)) (λ e. high (sym (by_rank y x back) ∙ e)) in
    let parts = then_equal _ _ tied in
    draft_made rivals.0 (value_exact x.value y.value parts.1) (time_exact x.timestamp y.timestamp parts.0)

clock_tied : (a b : Option ℤ) → is_some a ≡ is_some b → clock_cmp a b ≡ Equal
clock_tied None None p = refl
clock_tied None (Some b) p = absurd (cc)
clock_tied (Some a) None p = absurd (cc)
clock_tied (Some a) (Some b) p = refl

order_tied : (x y : Draft) → AreRivals x y → draft_order x y ≡ Equal
order_tied x y rivals = then_on _ _ (place_tied x.place y.place rivals.0) ∙ clock_tied x.timestamp y.timestamp rivals.1

-- ---- what one list holds the other does

held_too : (all kept other : List Draft) → IsKept kept all → IsKept other all → (x : Draft) → Contains kept x → Contains other x
held_too all kept other k o x at =
    let there = o.reached x (k.within x at) in
    let back = k.reached there.0 (o.within there.0 there.1) in
    let rivals : AreRivals there.0 x = there.2.0 in
    let again : AreRivals back.0 there.0 = back.2.0 in
    let round : AreRivals back.0 x = (again.0 ∙ rivals.0, again.1 ∙ rivals.1) in
    let same : back.0 ≡ x = one_at order_total kept k.sorted back.0 x back.1 at (order_tied back.0 x round) in
    let over : rank_cmp x there.0 ≢ Less = subst (λ (z : Draft). rank_cmp z there.0 ≢ Less) same back.2.1 in
    let twin : there.0 ≡ x = rivals_one there.0 x rivals there.2.1 over in
    subst (Contains other) twin there.1

pub kept_are_one : KeptAreOne
kept_are_one all kept other k o = sorted_one order_total kept other k.sorted o.sorted (held_too all kept other k o) (held_too all other kept o k)
