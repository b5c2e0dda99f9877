-- The rank of changes: total, and exact at one place; and outranking, said without deletions.
use Rattle.std.proofs.Common.{◌≡◌, ◌≢◌, ℕ, ◌⊎◌, ◌↔◌, Bool, IsTrue, inl, inr, Option, Some, None, List, refl, sym, ◌∙◌, ap, subst, arith}
use Rattle.std.specs.Prelude.{ℤ, ◌≤ℤ◌}
use Rattle.std.proofs.lemmas.Int.{ints}
use Rattle.std.specs.Cmp.{IsTotalOrder}
use Rattle.std.specs.Ordering.{int_cmp, ordering_reverse, is_gt}
use Rattle.std.specs.declared.cmp.Ordering.TheVariants.{Less, Equal, Greater}
use Rattle.std.proofs.lemmas.Cmp.{nat_cmp_total, int_cmp_total, nat_list_cmp_total, on_total, then_total, int_ranked}
use Rattle.std.proofs.lemmas.Map.Lookups.{exact_unsigned}
use Rattle.cs_base.specs.declared.ids.ReqId.{ReqId}
use Rattle.cs_base.specs.Requests.{request_cmp}
use Rattle.changes.specs.declared.Place.{Place}
use Rattle.changes.specs.declared.Held.{Held}
use Rattle.changes.specs.Order.{value_cmp, rank_cmp, Encloses, LiesIn, Beats, Outranks}
use Rattle.changes.proofs.Orderings.{then_equal, then_greater, cases_ordering, bytes_exact, int_exact, greater_is, less_back, greater_back}
use Rattle.changes.proofs.Places.{Encloses_irrefl, Encloses_deletion, same_encloses_not}

value_antisymm : (x y : Option (List ℕ)) → value_cmp x y ≡ ordering_reverse (value_cmp y x)
value_antisymm None None = refl
value_antisymm None (Some y) = refl
value_antisymm (Some x) None = refl
value_antisymm (Some x) (Some y) = nat_list_cmp_total.antisymm x y

value_trans : (x y z : Option (List ℕ)) → value_cmp x y ≡ Less → value_cmp y z ≡ Less → value_cmp x z ≡ Less
value_trans None None z p q = cc
value_trans None (Some y) z p q = cc
value_trans (Some x) None None p q = cc
value_trans (Some x) None (Some z) p q = cc
value_trans (Some x) (Some y) None p q = refl
value_trans (Some x) (Some y) (Some z) p q = nat_list_cmp_total.trans x y z p q

value_congr : (x y z : Option (List ℕ)) → value_cmp x y ≡ Equal → value_cmp x z ≡ value_cmp y z
value_congr None None z p = refl
value_congr None (Some y) z p = cc
value_congr (Some x) None z p = cc
value_congr (Some x) (Some y) None p = refl
value_congr (Some x) (Some y) (Some z) p = nat_list_cmp_total.congr x y z p

pub value_total : IsTotalOrder value_cmp
value_total = record { antisymm = value_antisymm; trans = value_trans; congr = value_congr }

pub request_total : IsTotalOrder request_cmp
request_total = then_total (on_total (λ (r : ReqId). r.node) nat_cmp_total) (on_total (λ (r : ReqId). r.time) nat_cmp_total)

pub rank_total : IsTotalOrder rank_cmp
rank_total =
    then_total
    (on_total (λ (x : Held). x.timestamp) int_cmp_total)
    (then_total (on_total (λ (x : Held). x.value) value_total) (then_total (on_total (λ (x : Held). x.submitted) nat_cmp_total) (on_total (λ (x : Held). x.request) request_total)))

-- ---- what ranks alike is one

value_exact : (x y : Option (List ℕ)) → value_cmp x y ≡ Equal → x ≡ y
value_exact None None p = refl
value_exact None (Some y) p = cc
value_exact (Some x) None p = cc
value_exact (Some x) (Some y) p = ap (λ (n : List ℕ). Some n) (bytes_exact x y p)

pub request_made : {a b : ReqId} → a.node ≡ b.node → a.time ≡ b.time → a ≡ b
request_made {a} {b} p q =
    ap (λ (n : ℕ). let r : ReqId = record { node = n; time = a.time } in r) p ∙ ap (λ (n : ℕ). let r : ReqId = record { node = b.node; time = n } in r) q

held_made : {x y : Held} → x.place ≡ y.place → x.value ≡ y.value → x.timestamp ≡ y.timestamp → x.submitted ≡ y.submitted → x.request ≡ y.request → x ≡ y
held_made {x} {y} p q r s t =
    ap (λ (v : Place). let c : Held = record { place = v; value = x.value; timestamp = x.timestamp; submitted = x.submitted; request = x.request } in c) p
    ∙ ap (λ (v : Option (List ℕ)). let c : Held = record { place = y.place; value = v; timestamp = x.timestamp; submitted = x.submitted; request = x.request } in c) q
    ∙ ap (λ (v : ℤ). let c : Held = record { place = y.place; value = y.value; timestamp = v; submitted = x.submitted; request = x.request } in c) r
    ∙ ap (λ (v : ℕ). let c : Held = record { place = y.place; value = y.value; timestamp = y.timestamp; submitted = v; request = x.request } in c) s
    ∙ ap (λ (v : ReqId). let c : Held = record { place = y.place; value = y.value; timestamp = y.timestamp; submitted = y.submitted; request = v } in c) t

-- changes that rank alike have one value
pub rank_value : (x y : Held) → rank_cmp x y ≡ Equal → x.value ≡ y.value
rank_value x y p =
    let time = then_equal _ _ p in
    let value = then_equal _ _ time.1 in
    value_exact x.value y.value value.0

-- changes of one place that rank alike are one
pub rank_exact : (x y : Held) → x.place ≡ y.place → rank_cmp x y ≡ Equal → x ≡ y
rank_exact x y same p =
    let time = then_equal _ _ p in
    let value = then_equal _ _ time.1 in
    let submitted = then_equal _ _ value.1 in
    let ids = then_equal _ _ submitted.1 in
    held_made same (value_exact x.value y.value value.0) (int_exact x.timestamp y.timestamp time.0) (exact_unsigned x.submitted y.submitted submitted.0)
    (request_made (exact_unsigned x.request.node y.request.node ids.0) (exact_unsigned x.request.time y.request.time ids.1))

not_later : (a b : ℤ) → (int_cmp a b ≡ Greater) ⊎ (int_cmp a b ≡ Equal) → b ≤ℤ a
not_later a b (inl p) = let r = int_ranked a b (int_cmp a b) refl in let s = rw p at r in omega (arith, ints, s)
not_later a b (inr p) = let r = int_ranked a b (int_cmp a b) refl in let s = rw p at r in omega (arith, ints, s)

pub beats_late : (x y : Held) → rank_cmp x y ≡ Greater → y.timestamp ≤ℤ x.timestamp
beats_late x y p = not_later x.timestamp y.timestamp (then_greater _ _ p)

pub Beats_trans : (x y z : Held) → Beats x y → Beats y z → Beats x z
Beats_trans x y z p q =
    (p.0 ∙ q.0, less_back rank_total z x (rank_total.trans z y x (greater_back rank_total y z q.1) (greater_back rank_total x y p.1)))

-- ---- outranking

-- x beats y, or y lies strictly inside x and is not later
abbrev pub Above : Held → Held → Type 0
Above x y = Beats x y ⊎ (Encloses x.place y.place × (y.timestamp ≤ℤ x.timestamp))

above_covers : (x y : Held) → LiesIn y.place x.place → y.timestamp ≤ℤ x.timestamp → (Beats y x → ⊥) → x ≢ y → Above x y
above_covers x y (inl same) late unbeaten other =
    elim (cases_ordering (rank_cmp x y)) [
      | inl less ↦ absurd (unbeaten (sym same, less_back rank_total x y less))
      | inr (inl equal) ↦ absurd (other (rank_exact x y same equal))
      | inr (inr greater) ↦ inl (same, greater)
    ]
above_covers x y (inr e) late unbeaten other = inr (e, late)

pub above : (x y : Held) → Outranks x y → Above x y
above x y (inl b) = inl b
above x y (inr ((d, lies, late, unbeaten), other)) = above_covers x y lies late unbeaten other

pub outranks : (x y : Held) → Above x y → Outranks x y
outranks x y (inl b) = inl b
outranks x y (inr (e, late)) =
    let apart : x.place ≢ y.place = λ p. Encloses_irrefl y.place (subst (λ (v : Place). Encloses v y.place) p e) in
    inr ((Encloses_deletion x.place y.place x.value e, inr e, late, λ b. apart (sym b.0)), λ p. apart (ap (λ (c : Held). c.place) p))

-- ---- what the code tells

pub beats_by : (x y : Held) (t : Bool) → x.place ≡ y.place → t ≡ is_gt (rank_cmp x y) → IsTrue t ↔ Beats x y
beats_by x y t same is = (λ h. (same, greater_is (rank_cmp x y) (sym is ∙ h)), λ beats. is ∙ ap is_gt beats.1)

-- at one place what outranks is what beats
pub outranks_at : (x y : Held) (t : Bool) → x.place ≡ y.place → t ≡ is_gt (rank_cmp x y) → IsTrue t ↔ Outranks x y
outranks_at x y t same is = (
  λ h. inl ((beats_by x y t same is).0 h),
  λ over. elim (above x y over) [
    | inl beats ↦ (beats_by x y t same is).1 beats
    | inr (e, late) ↦ absurd (same_encloses_not x.place y.place same e)
  ],
)

-- elsewhere what lies around it
pub outranks_over : (x y : Held) (t : Bool) → x.place ≢ y.place → y.timestamp ≤ℤ x.timestamp → (IsTrue t ↔ Encloses x.place y.place) → IsTrue t ↔ Outranks x y
outranks_over x y t other late iff = (
  λ h. outranks x y (inr (iff.0 h, late)),
  λ over. elim (above x y over) [ inl beats ↦ absurd (other beats.0) | inr (e, _) ↦ iff.1 e ],
)
