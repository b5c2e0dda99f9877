-- A single copy answers in one way, and goes on to one map. A content is one map.
use Rattle.std.proofs.Common.{◌≡◌, ◌⊎◌, inl, inr, ℕ, Option, Some, None, List, [], ◌∷◌, map, refl, sym, ap, subst, ◌∙◌, Contains}
use Rattle.std.specs.Prelude.{take}
use Rattle.std.specs.Cmp.{IsTotalOrder}
use Rattle.std.specs.Ordering.{nat_cmp, ordering_reverse}
use Rattle.std.specs.List.Sorted.{IsStrictlySortedBy}
use Rattle.std.specs.declared.cmp.Ordering.{Ordering}
use Rattle.std.specs.declared.cmp.Ordering.TheVariants.{Less, Equal, Greater}
use Rattle.std.proofs.lemmas.Cmp.{nat_cmp_total, on_total, tied_itself}
use Rattle.changes.specs.declared.Draft.{Draft}
use Rattle.changes.specs.declared.Query.{Query}
use Rattle.changes.specs.declared.ShownRow.{ShownRow}
use Rattle.changes.specs.declared.ShownCell.{ShownCell}
use Rattle.changes.specs.Order.{row_signs}
use Rattle.changes.specs.Shown.{row_cmp, in_order}
use Rattle.changes.specs.Totals.{signs_total}
use Rattle.changes.proofs.Sorted.{all_at}
use Rattle.cs_base.proofs.Members.{contains_nil, contains_here, contains_there, contains_cases, contains_map, contains_from_map}
use Rattle.statement_plan.specs.declared.operation.Test.{Test}
use Rattle.statement_plan.specs.declared.operation.Test.TheVariants as test
use Rattle.statement_plan.specs.declared.operation.ConditionalOperation.{ConditionalOperation}
use Rattle.condition_test.specs.Conditions.{condition_holds}
use Rattle.single_copy.specs.Maps.{PartitionMap, seen, Writes}
use Rattle.single_copy.specs.ConditionalStep.{ConditionalReply, AreCellsOf, IsRowAt, AreRowsOf, reply_by, TestsRow, AnswersBy, drafts_by}
use Rattle.single_copy.specs.Laws.{StepsAreOne, MapsAreOne}
use Rattle.single_copy.proofs.Slots.{drafts_act}
use Rattle.single_copy.proofs.SameMaps.{map_same, option_same}

-- ---- lists sorted strictly by a key that have the same members are one

first_below : {K : Type 0} (R : K → K → Ordering) (k : K) (ks : List K) (j : K) → IsStrictlySortedBy R (k ∷ ks) → Contains ks j → R k j ≡ Less
unfolding IsStrictlySortedBy
first_below R k ks j s is = all_at (λ y. R k y ≡ Less) ks j s.0 is

rest_sorted : {K : Type 0} (R : K → K → Ordering) (k : K) (ks : List K) → IsStrictlySortedBy R (k ∷ ks) → IsStrictlySortedBy R ks
unfolding IsStrictlySortedBy
rest_sorted R k ks s = s.1

module _ {X K : Type 0} (f : X → K) (R : K → K → Ordering) (o : IsTotalOrder R) where
  below : (x : X) (xs : List X) (y : X) → IsStrictlySortedBy R (map f (x ∷ xs)) → Contains xs y → R (f x) (f y) ≡ Less
  below x xs y s is = first_below R (f x) (map f xs) (f y) s (contains_map f xs y is)

  not_less : (k : K) → R k k ≡ Less → ⊥
  not_less k e = differ (sym e ∙ tied_itself o k)
    where
      differ : Less ≡ Equal → ⊥
      differ g = cc

  not_both : (j k : K) → R j k ≡ Less → R k j ≡ Less → ⊥
  not_both j k a b = differ (sym a ∙ o.antisymm j k ∙ ap ordering_reverse b)
    where
      differ : Less ≡ Greater → ⊥
      differ g = cc

  keyed_same : (xs ys : List X) → IsStrictlySortedBy R (map f xs) → IsStrictlySortedBy R (map f ys) → ((x : X) → Contains xs x → Contains ys x) → ((y : X) → Contains ys y → Contains xs y) → xs ≡ ys
  keyed_same [] [] s t to back = refl
  keyed_same [] (y ∷ ys) s t to back = absurd (contains_nil y (back y (contains_here y ys)))
  keyed_same (x ∷ xs) [] s t to back = absurd (contains_nil x (to x (contains_here x xs)))
  keyed_same (x ∷ xs) (y ∷ ys) s t to back = go (contains_cases y ys x (to x (contains_here x xs))) (contains_cases x xs y (back y (contains_here y ys)))
      (λ e. keyed_same xs ys (rest_sorted R (f x) (map f xs) s) (rest_sorted R (f y) (map f ys) t)
      (λ z is. rest_of x xs y ys e s z is (contains_cases y ys z (to z (contains_there x xs z is))))
      (λ z is. rest_of y ys x xs (sym e) t z is (contains_cases x xs z (back z (contains_there y ys z is)))))
    where
      rest_of : (u : X) (us : List X) (v : X) (vs : List X) → v ≡ u → IsStrictlySortedBy R (map f (u ∷ us)) → (z : X) → Contains us z → (v ≡ z) ⊎ Contains vs z → Contains vs z
      rest_of u us v vs e sorted z is (inl same) = absurd (not_less (f u) (subst (λ (w : X). R (f u) (f w) ≡ Less) (sym same ∙ e) (below u us z sorted is)))
      rest_of u us v vs e sorted z is (inr there) = there

      go : (y ≡ x) ⊎ Contains ys x → (x ≡ y) ⊎ Contains xs y → (y ≡ x → xs ≡ ys) → (x ∷ xs) ≡ (y ∷ ys)
      go (inl e) other tail = λ i. sym e i ∷ tail e i
      go (inr a) (inl e) tail = λ i. e i ∷ tail (sym e) i
      go (inr a) (inr b) tail = absurd (not_both (f y) (f x) (below y ys x t a) (below x xs y s b))

-- ---- rows

some_same : (v w : List ℕ) → Some v ≡ Some w → v ≡ w
some_same v w e = cc

row_made : (a b : ShownRow) → a.row ≡ b.row → a.cells ≡ b.cells → a ≡ b
row_made a b p q = λ i. record { row = p i; cells = q i }

abbrev column_of : ShownCell → ℕ
column_of x = x.column

abbrev row_of : ShownRow → List ℕ
row_of r = r.row

cells_one : (m : PartitionMap) (a b : ShownRow) → a.row ≡ b.row → AreCellsOf m a → AreCellsOf m b → a.cells ≡ b.cells
cells_one m a b e p q = keyed_same column_of nat_cmp nat_cmp_total a.cells b.cells p.sorted q.sorted
    (λ x is. (q.each x.column x.value).1 (subst (λ (row : List ℕ). m.value row x.column ≡ Some x.value) e ((p.each x.column x.value).0 is)))
    (λ x is. (p.each x.column x.value).1 (subst (λ (row : List ℕ). m.value row x.column ≡ Some x.value) (sym e) ((q.each x.column x.value).0 is)))

row_one : (m : PartitionMap) (row : List ℕ) (a b : Option ShownRow) → IsRowAt m row a → IsRowAt m row b → a ≡ b
row_one m row None None p q = refl
row_one m row None (Some b) p q = absurd (p q.0)
row_one m row (Some a) None p q = absurd (q p.0)
row_one m row (Some a) (Some b) p q = ap (λ (r : ShownRow). Some r) (row_made a b (p.1 ∙ sym q.1) (cells_one m a b (p.1 ∙ sym q.1) p.2 q.2))

rows_total : IsTotalOrder row_cmp
rows_total = on_total row_signs signs_total

rows_into : (m : PartitionMap) (q : Query) (xs ys : List ShownRow) → AreRowsOf m q xs → AreRowsOf m q ys → (r : ShownRow) → Contains xs r → Contains ys r
rows_into m q xs ys p t r is =
    let there = (t.each r.row).1 ((p.each r.row).0 (contains_map row_of xs r is)) in
    let s = contains_from_map row_of ys r.row there in
    subst (λ (z : ShownRow). Contains ys z) (row_made s.0 r s.2 (cells_one m s.0 r s.2 (t.cells s.0 s.1) (p.cells r is))) s.1

rows_one : (m : PartitionMap) (q : Query) (xs ys : List ShownRow) → AreRowsOf m q xs → AreRowsOf m q ys → xs ≡ ys
rows_one m q xs ys p t = keyed_same row_of row_cmp rows_total xs ys p.sorted t.sorted (rows_into m q xs ys p t) (rows_into m q ys xs t p)

reply_made : (a b : ConditionalReply) → a.applied ≡ b.applied → a.rows ≡ b.rows → a ≡ b
reply_made a b p q = λ i. record { applied = p i; rows = q i }

tests_one : (m : PartitionMap) (op : ConditionalOperation) (a b : ConditionalReply) → TestsRow m op a → TestsRow m op b → a ≡ b
tests_one m op a b (r, is, e) (s, is', f) = e ∙ ap (λ (z : Option ShownRow). reply_by (condition_holds z op.test) z) (row_one m op.row r s is is') ∙ sym f

answers_one : (t : Test) (m : PartitionMap) (op : ConditionalOperation) (a b : ConditionalReply) → AnswersBy t m op a → AnswersBy t m op b → a ≡ b
answers_one (test.Read q) m op a b (f, shows) (g, shows') = reply_made a b (f ∙ sym g) (shows.2 ∙ ap (λ (z : List ShownRow). take q.limit (in_order q.reversed z)) (rows_one m q shows.0 shows'.0 shows.1 shows'.1) ∙ sym shows'.2)
answers_one test.Absent m op a b p q = tests_one m op a b p q
answers_one test.Present m op a b p q = tests_one m op a b p q
answers_one (test.Cells tests) m op a b p q = tests_one m op a b p q

-- ---- maps

writes_one : (drafts : List Draft) (m a b : PartitionMap) → Writes drafts m a → Writes drafts m b → a ≡ b
writes_one drafts m a b p q = map_same a b (λ k. elim (drafts_act drafts k) [
  | inl d ↦ option_same (seen a k) (seen b k) (λ v e. (q.written k d.0 d.1 d.2 v).1 ((p.written k d.0 d.1 d.2 v).0 e)) (λ v e. (p.written k d.0 d.1 d.2 v).1 ((q.written k d.0 d.1 d.2 v).0 e))
  | inr none ↦ p.kept k none ∙ sym (q.kept k none)
])

pub steps_are_one : StepsAreOne
steps_are_one m op a b r s (answer, writes) (answer', writes') =
    let same = answers_one op.test m op r s answer answer' in
    (writes_one (drafts_by r.applied op.changes) m a b writes (subst (λ (z : ConditionalReply). Writes (drafts_by z.applied op.changes) m b) (sym same) writes'), same)

pub maps_are_one : MapsAreOne
maps_are_one content m m' is is' = map_same m m' (λ k. option_same (seen m k) (seen m' k) (λ v e. (is' k v).1 ((is k v).0 e)) (λ v e. (is k v).1 ((is' k v).0 e)))
