-- The front of a row is that of the bounds, or it decides.
use Rattle.std.proofs.Common.{◌≡◌, ◌+◌, ◌≤◌, ◌<◌, ◌⊎◌, inl, inr, ℕ, ◌++◌, ◌∷◌, [], ◌&&◌, Bool, true, false, cond, List, Some, drop, map, arith, refl, sym, ap, ◌∙◌, subst, append_assoc}
use Rattle.std.specs.Prelude.{slice_get}
use Rattle.std.specs.declared.cmp.Ordering.{Ordering}
use Rattle.std.specs.declared.cmp.Ordering.TheVariants.{Less, Equal, Greater}
use Rattle.std.specs.Ordering.{is_eq, ordering_then}
use Rattle.std.proofs.lemmas.List.{map-append}
use Rattle.cql_values.specs.Order.{KeepsOrder, ComparesTypes, directed, order_word}
use Rattle.cql_values.specs.declared.value.CqlValue.{CqlValue}
use Rattle.changes.specs.Order.{byte_sign, signs, signs_cmp}
use Rattle.schema_book.specs.declared.table.ColumnDef.{ColumnDef}
use Rattle.schema_book.specs.declared.table.ColumnKind.{ColumnKind}
use Rattle.schema_book.specs.declared.table.ColumnKind.TheVariants.{Partition, Clustering, Regular}
use Rattle.key_restrictions.specs.declared.restriction.Restriction.{Restriction}
use Rattle.key_restrictions.specs.Operators.{is_equal}
use Rattle.key_restrictions.specs.Places.{is_partition, is_clustering, is_key, is_of_kind, is_partition_at, is_clustering_at, is_fixed, fixes, fixing, open_from}
use Rattle.key_restrictions.specs.Checks.{is_on_row}
use Rattle.key_restrictions.specs.Rows.{word_in, prefix_from}
use Rattle.key_restrictions.specs.Laws.{meets, NameRows, IsRow, bytes_from}
use Rattle.key_restrictions.proofs.Lookups.{found, some_found, head_at, left_next}
use Rattle.key_restrictions.proofs.Columns.{column_of, Compared, compared, meets_is, meets_equal}
use Rattle.key_restrictions.proofs.Signs.{words_decide, same_word, directed_equal, signs_append}

-- the columns that are fixed have the row's values, and so it goes on behind their bytes
pub record Same (columns : List ColumnDef) (rs : List (Restriction CqlValue)) (row : ℕ → CqlValue) (place end : ℕ) (prefix bytes : List ℕ) : Type 0 where
  pub front : bytes ≡ prefix ++ bytes_from row end (drop end columns)
  pub met : (at : ℕ) (d : ColumnDef) → place ≤ at → at < end → slice_get columns at ≡ Some d → d.kind ≡ Clustering
      → (f : Restriction CqlValue) × (fixing rs at ≡ Some f) × (meets (row at) f ≡ true)

-- one of them has another value, which decides whatever follows their bytes
pub record Apart (columns : List ColumnDef) (rs : List (Restriction CqlValue)) (row : ℕ → CqlValue) (prefix bytes : List ℕ) : Type 0 where
  pub place : ℕ
  pub relation : Restriction CqlValue
  pub stands : slice_get rs place ≡ Some relation
  pub on_row : is_on_row columns relation ≡ true
  pub unmet : meets (row relation.column) relation ≡ false
  pub order : Ordering
  pub decided : (y : List (ℕ × ℕ)) → signs_cmp (signs bytes 1) (map byte_sign prefix ++ y) ≡ order

pub data Front (columns : List ColumnDef) (rs : List (Restriction CqlValue)) (row : ℕ → CqlValue) (place end : ℕ) (prefix bytes : List ℕ) : Type 0 where
  same : Same columns rs row place end prefix bytes → Front columns rs row place end prefix bytes
  apart : Apart columns rs row prefix bytes → Front columns rs row place end prefix bytes

recast : (columns : List ColumnDef) (rs : List (Restriction CqlValue)) (row : ℕ → CqlValue) (place end end' : ℕ) (prefix prefix' bytes bytes' : List ℕ)
    → end ≡ end' → prefix ≡ prefix' → bytes ≡ bytes' → Front columns rs row place end' prefix' bytes' → Front columns rs row place end prefix bytes
recast columns rs row place end end' prefix prefix' bytes bytes' o p b f =
    subst (λ (x : ℕ). Front columns rs row place x prefix bytes) (sym o)
    (subst (λ (x : List ℕ). Front columns rs row place end' x bytes) (sym p) (subst (λ (x : List ℕ). Front columns rs row place end' prefix' x) (sym b) f))

first_or_later : (place at : ℕ) → place ≤ at → (at ≡ place) ⊎ (place + 1 ≤ at)
first_or_later place at h = grind arith

-- ---- a column that is not fixed, and one of the partition key

stop : (columns : List ColumnDef) (rs : List (Restriction CqlValue)) (row : ℕ → CqlValue) (place : ℕ) (ds : List ColumnDef) → drop place columns ≡ ds
    → Front columns rs row place place [] (bytes_from row place ds)
stop columns rs row place ds left = same (record {
  front = sym (ap (bytes_from row place) left);
  met = λ at d low high stands kind. absurd (omega arith);
})

skip : (columns : List ColumnDef) (rs : List (Restriction CqlValue)) (row : ℕ → CqlValue) (place end : ℕ) (prefix bytes : List ℕ) (d : ColumnDef)
    → slice_get columns place ≡ Some d → d.kind ≡ Partition
    → Front columns rs row (place + 1) end prefix bytes → Front columns rs row place end prefix bytes
skip columns rs row place end prefix bytes d here kind (apart a) = apart a
skip columns rs row place end prefix bytes d here kind (same s) = same (record {
  front = s.front;
  met = λ at e low high stands clustering. go at e (first_or_later place at low) high stands clustering;
})
  where
    go : (at : ℕ) (e : ColumnDef) → (at ≡ place) ⊎ (place + 1 ≤ at) → at < end → slice_get columns at ≡ Some e → e.kind ≡ Clustering
        → (f : Restriction CqlValue) × (fixing rs at ≡ Some f) × (meets (row at) f ≡ true)
    go at e (inl first) high stands clustering =
        let again : slice_get columns at ≡ Some d = ap (slice_get columns) first ∙ here in
        let equal : d ≡ e = cc in
        let other = ap (λ (x : ColumnDef). x.kind) equal in
        absurd (cc)
    go at e (inr later) high stands clustering = s.met at e later high stands clustering

-- ---- a clustering column that is fixed

behind_front : (a b : List ℕ) (y : List (ℕ × ℕ)) → map byte_sign (a ++ b) ++ y ≡ map byte_sign a ++ (map byte_sign b ++ y)
behind_front a b y = ap (λ (l : List (ℕ × ℕ)). l ++ y) (map-append byte_sign a b) ∙ append_assoc (map byte_sign a) (map byte_sign b) y

-- the two words decide, and else what is behind them
word_first : KeepsOrder → (desc : Bool) (w : CqlValue) (r : Restriction CqlValue) (c : Compared w r) (prefix bytes : List ℕ) (y : List (ℕ × ℕ))
    → signs_cmp (signs (order_word desc w ++ bytes) 1) (map byte_sign (order_word desc r.value ++ prefix) ++ y)
    ≡ ordering_then (directed desc c.order) (signs_cmp (signs bytes 1) (map byte_sign prefix ++ y))
word_first keeps desc w r c prefix bytes y =
    (λ i. signs_cmp (signs_append (order_word desc w) bytes 1 i) (behind_front (order_word desc r.value) prefix y i))
    ∙ words_decide keeps desc w r.value c.order c.row_fits c.fits c.ordered (signs bytes 1) (map byte_sign prefix ++ y)

strict_order : (desc : Bool) (o z : Ordering) → is_eq o ≡ false → ordering_then (directed desc o) z ≡ directed desc o
strict_order true Less z e = refl
strict_order true Equal z e = absurd (cc)
strict_order true Greater z e = refl
strict_order false Less z e = refl
strict_order false Equal z e = absurd (cc)
strict_order false Greater z e = refl

is_equal_order : (o : Ordering) → is_eq o ≡ true → o ≡ Equal
is_equal_order Less e = absurd (cc)
is_equal_order Equal e = refl
is_equal_order Greater e = absurd (cc)

-- the relation that fixes a clustering column
record Fixed (columns : List ColumnDef) (rs : List (Restriction CqlValue)) (row : ℕ → CqlValue) (place : ℕ) (d : ColumnDef) : Type 0 where
  relation : Restriction CqlValue
  is : fixing rs place ≡ Some relation
  index : ℕ
  stands : slice_get rs index ≡ Some relation
  column : relation.column ≡ place
  compared : Compared (row place) relation
  meets_order : meets (row place) relation ≡ is_eq compared.order

fixed_at : ComparesTypes → (columns : List ColumnDef) (rs : List (Restriction CqlValue)) (row : ℕ → CqlValue) → NameRows columns rs → IsRow columns row
    → (place : ℕ) (d : ColumnDef) → slice_get columns place ≡ Some d → d.kind ≡ Clustering → is_fixed rs place ≡ true → Fixed columns rs row place d
fixed_at compares columns rs row named is_row place d at kind fixed =
    let s = some_found (fixes place) rs fixed in
    let p = found (fixes place) rs s.0 s.1 in
    let parts = column_of is_equal place s.0 p.passes in
    let c = compared compares columns rs row named is_row p.place s.0 place d p.stands parts.0 at kind in
    record {
      relation = s.0;
      is = s.1;
      index = p.place;
      stands = p.stands;
      column = parts.0;
      compared = c;
      meets_order = meets_is (row place) s.0 c ∙ meets_equal s.0.operator c.order parts.1;
    }

-- the bytes so far, with those of this column before them
abbrev Before : List ColumnDef → List (Restriction CqlValue) → (ℕ → CqlValue) → ℕ → ℕ → ColumnDef → CqlValue → List ℕ → List ℕ → Type 0
Before columns rs row place end d v prefix bytes =
    Front columns rs row place end (order_word d.is_descending v ++ prefix) (order_word d.is_descending (row place) ++ bytes)

other_value : KeepsOrder → (columns : List ColumnDef) (rs : List (Restriction CqlValue)) (row : ℕ → CqlValue) (place end : ℕ) (prefix bytes : List ℕ) (d : ColumnDef)
    → slice_get columns place ≡ Some d → d.kind ≡ Clustering → (f : Fixed columns rs row place d) → is_eq f.compared.order ≡ false
    → Before columns rs row place end d f.relation.value prefix bytes
other_value keeps columns rs row place end prefix bytes d at kind f e = apart (record {
  place = f.index;
  relation = f.relation;
  stands = f.stands;
  on_row = ap (is_clustering_at columns) f.column ∙ (ap (is_of_kind is_clustering) at ∙ ap is_clustering kind);
  unmet = ap (λ (n : ℕ). meets (row n) f.relation) f.column ∙ (f.meets_order ∙ e);
  order = directed d.is_descending f.compared.order;
  decided = λ y. word_first keeps d.is_descending (row place) f.relation f.compared prefix bytes y
      ∙ strict_order d.is_descending f.compared.order (signs_cmp (signs bytes 1) (map byte_sign prefix ++ y)) e;
})

same_value : KeepsOrder → (columns : List ColumnDef) (rs : List (Restriction CqlValue)) (row : ℕ → CqlValue) (place end : ℕ) (prefix bytes : List ℕ) (d : ColumnDef)
    → slice_get columns place ≡ Some d → (f : Fixed columns rs row place d) → is_eq f.compared.order ≡ true
    → Front columns rs row (place + 1) end prefix bytes → Before columns rs row place end d f.relation.value prefix bytes
same_value keeps columns rs row place end prefix bytes d here f e (apart a) = apart (record {
  place = a.place;
  relation = a.relation;
  stands = a.stands;
  on_row = a.on_row;
  unmet = a.unmet;
  order = a.order;
  decided = λ y. word_first keeps d.is_descending (row place) f.relation f.compared prefix bytes y
      ∙ (ap (λ (o : Ordering). ordering_then (directed d.is_descending o) (signs_cmp (signs bytes 1) (map byte_sign prefix ++ y))) (is_equal_order f.compared.order e)
      ∙ (ap (λ (o : Ordering). ordering_then o (signs_cmp (signs bytes 1) (map byte_sign prefix ++ y))) (directed_equal d.is_descending) ∙ a.decided y));
})
same_value keeps columns rs row place end prefix bytes d here f e (same s) =
    let c = f.compared in
    let desc = d.is_descending in
    let word = same_word keeps desc (row place) f.relation.value c.row_fits c.fits (c.ordered ∙ ap Some (is_equal_order c.order e)) in
    same (record {
      front = (λ i. word i ++ s.front i) ∙ sym (append_assoc (order_word desc f.relation.value) prefix (bytes_from row end (drop end columns)));
      met = λ at x low high stands clustering. go at x (first_or_later place at low) high stands clustering;
    })
  where
    go : (at : ℕ) (x : ColumnDef) → (at ≡ place) ⊎ (place + 1 ≤ at) → at < end → slice_get columns at ≡ Some x → x.kind ≡ Clustering
        → (g : Restriction CqlValue) × (fixing rs at ≡ Some g) × (meets (row at) g ≡ true)
    go at x (inl first) high stands clustering =
        (f.relation, ap (fixing rs) first ∙ f.is, ap (λ (n : ℕ). meets (row n) f.relation) first ∙ (f.meets_order ∙ e))
    go at x (inr later) high stands clustering = s.met at x later high stands clustering

fixed_step : KeepsOrder → (columns : List ColumnDef) (rs : List (Restriction CqlValue)) (row : ℕ → CqlValue) (place end : ℕ) (prefix bytes : List ℕ) (d : ColumnDef)
    → slice_get columns place ≡ Some d → d.kind ≡ Clustering → (f : Fixed columns rs row place d) → (b : Bool) → is_eq f.compared.order ≡ b
    → Front columns rs row (place + 1) end prefix bytes → Before columns rs row place end d f.relation.value prefix bytes
fixed_step keeps columns rs row place end prefix bytes d at kind f true e rest = same_value keeps columns rs row place end prefix bytes d at f e rest
fixed_step keeps columns rs row place end prefix bytes d at kind f false e rest = other_value keeps columns rs row place end prefix bytes d at kind f e

-- ---- all columns up to the first that is not fixed

abbrev FrontFrom : List ColumnDef → List (Restriction CqlValue) → (ℕ → CqlValue) → ℕ → List ColumnDef → Type 0
FrontFrom columns rs row place ds = Front columns rs row place (open_from rs place ds) (prefix_from rs place ds) (bytes_from row place ds)

pub front_from : KeepsOrder → ComparesTypes → (columns : List ColumnDef) (rs : List (Restriction CqlValue)) (row : ℕ → CqlValue) → NameRows columns rs → IsRow columns row
    → (place : ℕ) (ds : List ColumnDef) → drop place columns ≡ ds → is_partition_at columns (open_from rs place ds) ≡ false
    → Front columns rs row place (open_from rs place ds) (prefix_from rs place ds) (bytes_from row place ds)
front_from keeps compares columns rs row named is_row place [] left away = stop columns rs row place [] left
front_from keeps compares columns rs row named is_row place (d ∷ ds) left away =
    go d.kind refl (is_fixed rs place) refl (λ h. front_from keeps compares columns rs row named is_row (place + 1) ds (left_next columns ds place d left) h)
  where
    at : slice_get columns place ≡ Some d
    at = head_at columns place ∙ ap (λ (l : List ColumnDef). slice_get l 0) left

    go : (k : ColumnKind) → d.kind ≡ k → (b : Bool) → is_fixed rs place ≡ b
        → (is_partition_at columns (open_from rs (place + 1) ds) ≡ false → FrontFrom columns rs row (place + 1) ds) → FrontFrom columns rs row place (d ∷ ds)
    go Partition e true f rest =
        let end : open_from rs place (d ∷ ds) ≡ open_from rs (place + 1) ds = (λ i. cond (is_key (e i) && f i) (open_from rs (place + 1) ds) place) in
        recast columns rs row place (open_from rs place (d ∷ ds)) (open_from rs (place + 1) ds) (prefix_from rs place (d ∷ ds)) (prefix_from rs (place + 1) ds)
        (bytes_from row place (d ∷ ds)) (bytes_from row (place + 1) ds) end
        (λ i. cond (is_partition (e i)) (prefix_from rs (place + 1) ds) (cond (is_clustering (e i) && is_fixed rs place) (word_in d.is_descending (fixing rs place) ++ prefix_from rs (place + 1) ds) []))
        (λ i. cond (is_clustering (e i)) (order_word d.is_descending (row place) ++ bytes_from row (place + 1) ds) (bytes_from row (place + 1) ds))
        (skip columns rs row place (open_from rs (place + 1) ds) (prefix_from rs (place + 1) ds) (bytes_from row (place + 1) ds) d at e
        (rest (sym (ap (is_partition_at columns) end) ∙ away)))
    go Partition e false f rest =
        let end : open_from rs place (d ∷ ds) ≡ place = (λ i. cond (is_key (e i) && f i) (open_from rs (place + 1) ds) place) in
        let here : is_partition_at columns place ≡ true = ap (is_of_kind is_partition) at ∙ ap is_partition e in
        let there : is_partition_at columns place ≡ false = sym (ap (is_partition_at columns) end) ∙ away in
        absurd (cc)
    go Clustering e true f rest =
        let fixed = fixed_at compares columns rs row named is_row place d at e f in
        let value = fixed.relation.value in
        let end : open_from rs place (d ∷ ds) ≡ open_from rs (place + 1) ds = (λ i. cond (is_key (e i) && f i) (open_from rs (place + 1) ds) place) in
        let same : word_in d.is_descending (fixing rs place) ≡ order_word d.is_descending value =
        ap (word_in d.is_descending) fixed.is in
        recast columns rs row place (open_from rs place (d ∷ ds)) (open_from rs (place + 1) ds)
        (prefix_from rs place (d ∷ ds)) (order_word d.is_descending value ++ prefix_from rs (place + 1) ds)
        (bytes_from row place (d ∷ ds)) (order_word d.is_descending (row place) ++ bytes_from row (place + 1) ds) end
        ((λ i. cond (is_partition (e i)) (prefix_from rs (place + 1) ds) (cond (is_clustering (e i) && f i) (word_in d.is_descending (fixing rs place) ++ prefix_from rs (place + 1) ds) []))
        ∙ ap (λ (l : List ℕ). l ++ prefix_from rs (place + 1) ds) same)
        (λ i. cond (is_clustering (e i)) (order_word d.is_descending (row place) ++ bytes_from row (place + 1) ds) (bytes_from row (place + 1) ds))
        (fixed_step keeps columns rs row place (open_from rs (place + 1) ds) (prefix_from rs (place + 1) ds) (bytes_from row (place + 1) ds) d at e fixed
        (is_eq fixed.compared.order) refl (rest (sym (ap (is_partition_at columns) end) ∙ away)))
    go Clustering e false f rest =
        recast columns rs row place (open_from rs place (d ∷ ds)) place (prefix_from rs place (d ∷ ds)) []
        (bytes_from row place (d ∷ ds)) (bytes_from row place (d ∷ ds))
        (λ i. cond (is_key (e i) && f i) (open_from rs (place + 1) ds) place)
        (λ i. cond (is_partition (e i)) (prefix_from rs (place + 1) ds) (cond (is_clustering (e i) && f i) (word_in d.is_descending (fixing rs place) ++ prefix_from rs (place + 1) ds) []))
        refl (stop columns rs row place (d ∷ ds) left)
    go Regular e b f rest =
        recast columns rs row place (open_from rs place (d ∷ ds)) place (prefix_from rs place (d ∷ ds)) []
        (bytes_from row place (d ∷ ds)) (bytes_from row place (d ∷ ds))
        (λ i. cond (is_key (e i) && is_fixed rs place) (open_from rs (place + 1) ds) place)
        (λ i. cond (is_partition (e i)) (prefix_from rs (place + 1) ds) (cond (is_clustering (e i) && is_fixed rs place) (word_in d.is_descending (fixing rs place) ++ prefix_from rs (place + 1) ds) []))
        refl (stop columns rs row place (d ∷ ds) left)
