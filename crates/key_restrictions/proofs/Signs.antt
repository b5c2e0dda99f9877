-- Rows and bounds compare word by word.
use Rattle.std.proofs.Common.{◌≡◌, ℕ, suc, ◌++◌, ◌∷◌, [], Bool, true, false, List, Some, map, arith, refl, sym, ap, ◌∙◌, append_assoc}
use Rattle.std.specs.declared.cmp.Ordering.{Ordering}
use Rattle.std.specs.Ordering.{nat_cmp, ordering_then, ordering_reverse}
use Rattle.std.specs.declared.cmp.Ordering.TheVariants.{Less, Equal, Greater}
use Rattle.std.specs.Cmp.{IsTotalOrder}
use Rattle.std.specs.Cmp.Lexicographic.{slice_cmp}
use Rattle.std.proofs.lemmas.Bool.Decides.{nat_tests}
use Rattle.std.proofs.lemmas.Cmp.{on_total, then_total, lists_total, nat_cmp_total}
use Rattle.std.proofs.lemmas.List.{map-append, append-nil}
use Rattle.std.proofs.lemmas.Map.Lookups.{exact_bytes}
use Rattle.cql_values.specs.Value.{IsValue}
use Rattle.cql_values.specs.Order.{KeepsOrder, directed, order_word, value_order}
use Rattle.cql_values.specs.declared.value.CqlValue.{CqlValue}
use Rattle.changes.specs.Order.{byte_sign, signs, sign_cmp, signs_cmp}

sign_total : IsTotalOrder sign_cmp
sign_total = then_total (on_total (λ (s : ℕ × ℕ). s.0) nat_cmp_total) (on_total (λ (s : ℕ × ℕ). s.1) nat_cmp_total)

pub signs_turned : (a b : List (ℕ × ℕ)) → signs_cmp a b ≡ ordering_reverse (signs_cmp b a)
signs_turned a b = (lists_total sign_total).antisymm a b

-- ---- words

-- o is the order of the bytes, unless it is Equal and what follows them decides
abbrev Decide : Ordering → List ℕ → List ℕ → Type 0
Decide o a b = (x y : List ℕ) → slice_cmp nat_cmp (a ++ x) (b ++ y) ≡ ordering_then o (slice_cmp nat_cmp x y)

abbrev pub DecideSigns : Ordering → List ℕ → List ℕ → Type 0
DecideSigns o a b = (x y : List (ℕ × ℕ)) → signs_cmp (map byte_sign a ++ x) (map byte_sign b ++ y) ≡ ordering_then o (signs_cmp x y)

above_next : (b : ℕ) → nat_cmp (suc b) b ≡ Greater
above_next b = grind (arith, nat_tests)

below_next : (b : ℕ) → nat_cmp b (suc b) ≡ Less
below_next b = grind (arith, nat_tests)

at_none : (o : Ordering) → Decide o [] [] → DecideSigns o [] []
at_none Less h = absurd (let e : ◌≡◌ {A = Ordering} Greater Less = h (0 ∷ []) [] in cc)
at_none Equal h = λ x y. refl
at_none Greater h = absurd (let e : ◌≡◌ {A = Ordering} Less Greater = h [] (0 ∷ []) in cc)

at_first : (o : Ordering) (b : ℕ) (bs : List ℕ) → Decide o [] (b ∷ bs) → DecideSigns o [] (b ∷ bs)
at_first Less b bs h = absurd (let e : ordering_then (nat_cmp (suc b) b) (slice_cmp nat_cmp [] (bs ++ [])) ≡ Less = h (suc b ∷ []) [] in
    let f = ap (λ (c : Ordering). ordering_then c (slice_cmp nat_cmp [] (bs ++ []))) (above_next b) in cc)
at_first Equal b bs h = absurd (let e : ◌≡◌ {A = Ordering} Less Equal = h [] [] in cc)
at_first Greater b bs h = absurd (let e : ◌≡◌ {A = Ordering} Less Greater = h [] [] in cc)

at_second : (o : Ordering) (a : ℕ) (xs : List ℕ) → Decide o (a ∷ xs) [] → DecideSigns o (a ∷ xs) []
at_second Less a xs h = absurd (let e : ◌≡◌ {A = Ordering} Greater Less = h [] [] in cc)
at_second Equal a xs h = absurd (let e : ◌≡◌ {A = Ordering} Greater Equal = h [] [] in cc)
at_second Greater a xs h = absurd (let e : ordering_then (nat_cmp a (suc a)) (slice_cmp nat_cmp (xs ++ []) []) ≡ Greater = h [] (suc a ∷ []) in
    let f = ap (λ (c : Ordering). ordering_then c (slice_cmp nat_cmp (xs ++ []) [])) (below_next a) in cc)

at_both : (o c : Ordering) (xs ys : List ℕ) → ((x y : List ℕ) → ordering_then c (slice_cmp nat_cmp (xs ++ x) (ys ++ y)) ≡ ordering_then o (slice_cmp nat_cmp x y))
    → (Decide o xs ys → DecideSigns o xs ys)
    → (x y : List (ℕ × ℕ)) → ordering_then c (signs_cmp (map byte_sign xs ++ x) (map byte_sign ys ++ y)) ≡ ordering_then o (signs_cmp x y)
at_both Less Less xs ys h more = λ x y. refl
at_both Equal Less xs ys h more = absurd (let e : ◌≡◌ {A = Ordering} Less Greater = h (0 ∷ []) [] in cc)
at_both Greater Less xs ys h more = absurd (let e : ◌≡◌ {A = Ordering} Less Greater = h [] [] in cc)
at_both o Equal xs ys h more = more h
at_both Less Greater xs ys h more = absurd (let e : ◌≡◌ {A = Ordering} Greater Less = h [] [] in cc)
at_both Equal Greater xs ys h more = absurd (let e : ◌≡◌ {A = Ordering} Greater Less = h [] (0 ∷ []) in cc)
at_both Greater Greater xs ys h more = λ x y. refl

decide_signs : (o : Ordering) (xs ys : List ℕ) → Decide o xs ys → DecideSigns o xs ys
decide_signs o [] [] h = at_none o h
decide_signs o [] (b ∷ bs) h = at_first o b bs h
decide_signs o (a ∷ xs) [] h = at_second o a xs h
decide_signs o (a ∷ xs) (b ∷ bs) h = at_both o (nat_cmp a b) xs bs h (λ g. decide_signs o xs bs g)

-- the words of two values decide, and then what follows them
pub words_decide : KeepsOrder → (desc : Bool) (v w : CqlValue) (o : Ordering) → IsValue v → IsValue w → value_order v w ≡ Some o
    → DecideSigns (directed desc o) (order_word desc v) (order_word desc w)
words_decide keeps desc v w o fits_v fits_w e =
    decide_signs (directed desc o) (order_word desc v) (order_word desc w) (λ x y. keeps desc v w o x y fits_v fits_w e)

pub directed_equal : (desc : Bool) → directed desc Equal ≡ Equal
directed_equal true = refl
directed_equal false = refl

pub same_word : KeepsOrder → (desc : Bool) (v w : CqlValue) → IsValue v → IsValue w → value_order v w ≡ Some Equal → order_word desc v ≡ order_word desc w
same_word keeps desc v w fits_v fits_w e =
    exact_bytes (order_word desc v) (order_word desc w)
    ((λ i. slice_cmp nat_cmp (sym (append-nil (order_word desc v)) i) (sym (append-nil (order_word desc w)) i))
    ∙ (keeps desc v w Equal [] [] fits_v fits_w e ∙ ap (λ (o : Ordering). ordering_then o Equal) (directed_equal desc)))

-- ---- fronts and ends

pub signs_append : (a b : List ℕ) (last : ℕ) → signs (a ++ b) last ≡ map byte_sign a ++ signs b last
signs_append a b last = ap (λ (l : List (ℕ × ℕ)). l ++ (last, 0) ∷ []) (map-append byte_sign a b) ∙ append_assoc (map byte_sign a) (map byte_sign b) ((last, 0) ∷ [])

itself : (b : ℕ) → nat_cmp b b ≡ Equal
itself b = grind (arith, nat_tests)

pub same_front : (front : List ℕ) (x y : List (ℕ × ℕ)) → signs_cmp (map byte_sign front ++ x) (map byte_sign front ++ y) ≡ signs_cmp x y
same_front [] x y = refl
same_front (b ∷ bs) x y =
    ap (λ (o : Ordering). ordering_then o (signs_cmp (map byte_sign bs ++ x) (map byte_sign bs ++ y))) (itself b) ∙ same_front bs x y

-- a row lies behind the first end, and before the last
pub behind_first : (row : List ℕ) → signs_cmp (signs row 1) ((0, 0) ∷ []) ≡ Greater
behind_first [] = refl
behind_first (b ∷ bs) = refl

pub before_last : (row : List ℕ) → signs_cmp (signs row 1) ((3, 0) ∷ []) ≡ Less
before_last [] = refl
before_last (b ∷ bs) = refl
