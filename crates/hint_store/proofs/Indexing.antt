-- What the keys beside the entries of a table tell of them.
use Rattle.std.proofs.Common.{◌≡◌, ℕ, ◌+◌, inl, inr, Bool, true, false, List, [], ◌∷◌, Some, refl, sym, ap, subst, ◌∙◌, arith, Contains}
use Rattle.std.specs.Prelude.{◌==◌, not}
use Rattle.std.specs.declared.cmp.Ordering.{Ordering}
use Rattle.std.specs.Ordering.{is_eq}
use Rattle.std.specs.Cmp.{IsTotalOrder}
use Rattle.std.specs.List.{list_any}
use Rattle.std.specs.List.Sorted.{IsStrictlySortedBy}
use Rattle.std.specs.Map.{keys_of, lookup, remove_entry}
use Rattle.std.specs.BTreeMap.{is_at, insert_entry}
use Rattle.std.proofs.lemmas.Bool.{or_from, or_left, or_right, and_from, eq-eqb}
use Rattle.std.proofs.lemmas.Cmp.{tied_itself}
use Rattle.std.proofs.lemmas.Map.Views.{Contains-from_lookup}
use Rattle.cs_base.proofs.Members.{contains_nil, contains_cases, contains_here, contains_there, some_passes}
use Rattle.row_change.specs.declared.entry.Hint.{Hint}
use Rattle.hint_store.specs.Tables.{place_cmp, number_cmp, age_cmp, number_key, age_key, is_place, is_hint, AreFiled, one_if, Indexes, Gains, HaveSame, IsTable, IsAt}
use Rattle.hint_store.proofs.Keys.{none_from_count, some_from_count, count_from_some, count_from_none, IsExact, place_exact, number_exact, age_exact, number_total, age_total}
use Rattle.hint_store.proofs.Places.{filed_at, filed_on, filed_in, filed_filter, gains_entry, loses_entry, removed, is_equal, only_one, place_is, is_place_itself}

-- ---- tests of a list

pub any_of : {X : Type 0} (q : X → Bool) (xs : List X) (x : X) → Contains xs x → q x ≡ true → list_any q xs ≡ true
any_of q [] x h t = absurd (contains_nil x h)
any_of {X} q (y ∷ ys) x h t = elim (contains_cases y ys x h) [
  | inl here ↦ or_left (q y) (list_any q ys) (ap q here ∙ t)
  | inr rest ↦ or_right (q y) (list_any q ys) (any_of q ys x rest t)
]

pub none_of : {X : Type 0} (q : X → Bool) (xs : List X) → ((x : X) → Contains xs x → q x ≡ false) → list_any q xs ≡ false
none_of q [] each = refl
none_of q (y ∷ ys) each = or_from (q y) (list_any q ys) (each y (contains_here y ys)) (none_of q ys (λ x h. each x (contains_there y ys x h)))

-- ---- keys and entries

pub no_key : {K : Type 0} (key : (ℕ × ℕ) × Hint → K) (es : List ((ℕ × ℕ) × Hint)) (ks : List K) (q : K → Bool) → Indexes key es ks → ((e : (ℕ × ℕ) × Hint) → Contains es e → q (key e) ≡ false) → list_any q ks ≡ false
no_key key es ks q index each = none_from_count q ks (index q ∙ count_from_none (λ e. q (key e)) es (none_of (λ e. q (key e)) es each))

pub some_key : {K : Type 0} (key : (ℕ × ℕ) × Hint → K) (es : List ((ℕ × ℕ) × Hint)) (ks : List K) (q : K → Bool) → Indexes key es ks → (e : (ℕ × ℕ) × Hint) → Contains es e → q (key e) ≡ true → list_any q ks ≡ true
some_key key es ks q index e h t =
    let many = count_from_some (λ x. q (key x)) es (any_of (λ x. q (key x)) es e h t) in
    let same = index q in
    some_from_count q ks (omega (arith, many, same))

pub its_entry : {K : Type 0} (key : (ℕ × ℕ) × Hint → K) (es : List ((ℕ × ℕ) × Hint)) (ks : List K) (q : K → Bool) → Indexes key es ks → list_any q ks ≡ true → (e : (ℕ × ℕ) × Hint) × Contains es e × (q (key e) ≡ true)
its_entry key es ks q index any =
    let many = count_from_some q ks any in
    let same = index q in
    some_passes (λ e. q (key e)) es (some_from_count (λ e. q (key e)) es (omega (arith, many, same)))

-- a key of the sequence that comes next is not there
sequence_is_free : {K : Type 0} (key : (ℕ × ℕ) × Hint → K) (sequence : K → ℕ) (cmp : K → K → Ordering) → IsExact cmp → ((e : (ℕ × ℕ) × Hint) → sequence (key e) ≡ e.0.1) → (next : ℕ) (k : K) → sequence k ≡ next
    → (es : List ((ℕ × ℕ) × Hint)) (ks : List K) → AreFiled next es → Indexes key es ks → list_any (is_at (cmp k)) ks ≡ false
sequence_is_free key sequence cmp exact sequences next k at es ks filed index =
    no_key key es ks (is_at (cmp k)) index (λ e h.
    let below = (filed_at next es filed e h).1 in
    apart_if (is_eq (cmp k (key e))) (λ t.
    let same = ap sequence (exact k (key e) (is_equal (cmp k (key e)) t)) in
    let numbered_so = sequences e in
    omega (arith, below, same, numbered_so, at)))
  where
    apart_if : (b : Bool) → (b ≡ true → ⊥) → b ≡ false
    apart_if true apart = absurd (apart refl)
    apart_if false apart = refl

pub number_is_free : (next peer number : ℕ) (es : List ((ℕ × ℕ) × Hint)) (ks : List (ℕ × ℕ × ℕ)) → AreFiled next es → Indexes number_key es ks → list_any (is_at (number_cmp (peer, number, next))) ks ≡ false
number_is_free next peer number es ks filed index = sequence_is_free number_key (λ k. k.2) number_cmp number_exact (λ e. refl) next (peer, number, next) refl es ks filed index

pub age_is_free : (next born peer number : ℕ) (es : List ((ℕ × ℕ) × Hint)) (ks : List (ℕ × ℕ × ℕ × ℕ)) → AreFiled next es → Indexes age_key es ks → list_any (is_at (age_cmp (born, peer, number, next))) ks ≡ false
age_is_free next born peer number es ks filed index = sequence_is_free age_key (λ k. k.3) age_cmp age_exact (λ e. refl) next (born, peer, number, next) refl es ks filed index

-- a key that came is there
pub is_there : {K : Type 0} (cmp : K → K → Ordering) → IsTotalOrder cmp → (k : K) (ks ks' : List K) → Gains k ks ks' → list_any (is_at (cmp k)) ks' ≡ true
is_there cmp total k ks ks' gains =
    let many = gains (is_at (cmp k)) in
    let one = ap one_if (ap is_eq (tied_itself total k)) in
    some_from_count (is_at (cmp k)) ks' (omega (arith, many, one))

-- and so is that of an entry
pub entry_at : (place : ℕ × ℕ) (h : Hint) (es : List ((ℕ × ℕ) × Hint)) → lookup (is_at (place_cmp place)) es ≡ Some h → Contains es (place, h)
entry_at place h es there = Contains-from_lookup {eq = λ x y. is_at (place_cmp x) y} (λ x y t. place_exact x y (is_equal (place_cmp x y) t)) place h es there

pub its_number : (place : ℕ × ℕ) (h : Hint) (es : List ((ℕ × ℕ) × Hint)) (ks : List (ℕ × ℕ × ℕ)) → Indexes number_key es ks → lookup (is_at (place_cmp place)) es ≡ Some h → list_any (is_at (number_cmp (h.peer, h.number, place.1))) ks ≡ true
its_number place h es ks index there =
    some_key number_key es ks (is_at (number_cmp (h.peer, h.number, place.1))) index (place, h) (entry_at place h es there) (ap is_eq (tied_itself number_total (h.peer, h.number, place.1)))

pub its_age : (place : ℕ × ℕ) (h : Hint) (es : List ((ℕ × ℕ) × Hint)) (ks : List (ℕ × ℕ × ℕ × ℕ)) → Indexes age_key es ks → lookup (is_at (place_cmp place)) es ≡ Some h → list_any (is_at (age_cmp (h.born, h.peer, h.number, place.1))) ks ≡ true
its_age place h es ks index there =
    some_key age_key es ks (is_at (age_cmp (h.born, h.peer, h.number, place.1))) index (place, h) (entry_at place h es there) (ap is_eq (tied_itself age_total (h.born, h.peer, h.number, place.1)))

-- ---- a table through its changes

index_on : {K : Type 0} (key : (ℕ × ℕ) × Hint → K) (next : ℕ) (h : Hint) (es : List ((ℕ × ℕ) × Hint)) (ks ks' : List K) → AreFiled next es → Indexes key es ks → Gains (key ((h.peer, next), h)) ks ks' → Indexes key (insert_entry place_cmp es (h.peer, next) h) ks'
index_on key next h es ks ks' filed index gains q =
    let a = gains q in
    let b = index q in
    let d = gains_entry (λ e. q (key e)) next h es filed in
    omega (arith, a, b, d)

pub table_gains : (next : ℕ) (h : Hint) (es es' : List ((ℕ × ℕ) × Hint)) (ns ns' : List (ℕ × ℕ × ℕ)) (ages ages' : List (ℕ × ℕ × ℕ × ℕ)) → IsTable es ns ages next → es' ≡ insert_entry place_cmp es (h.peer, next) h
    → IsStrictlySortedBy place_cmp (keys_of es') → Gains (h.peer, h.number, next) ns ns' → Gains (h.born, h.peer, h.number, next) ages ages' → IsTable es' ns' ages' (next + 1)
table_gains next h es es' ns ns' ages ages' table is sorted by_number by_age = record {
  sorted = sorted;
  filed = subst (AreFiled (next + 1)) (sym is) (filed_in (next + 1) next h es (omega arith) (filed_on next es table.filed));
  by_number = subst (λ (xs : List ((ℕ × ℕ) × Hint)). Indexes number_key xs ns') (sym is) (index_on number_key next h es ns ns' table.filed table.by_number by_number);
  by_age = subst (λ (xs : List ((ℕ × ℕ) × Hint)). Indexes age_key xs ages') (sym is) (index_on age_key next h es ages ages' table.filed table.by_age by_age);
}

same_on : {K : Type 0} (key : (ℕ × ℕ) × Hint → K) (es : List ((ℕ × ℕ) × Hint)) (ks ks' : List K) → Indexes key es ks → HaveSame ks ks' → Indexes key es ks'
same_on key es ks ks' index same q = same q ∙ index q

pub table_stays : (next : ℕ) (es es' : List ((ℕ × ℕ) × Hint)) (ns ns' : List (ℕ × ℕ × ℕ)) (ages ages' : List (ℕ × ℕ × ℕ × ℕ)) → IsTable es ns ages next → es' ≡ es → HaveSame ns ns' → HaveSame ages ages' → IsTable es' ns' ages' next
table_stays next es es' ns ns' ages ages' table is by_number by_age =
    subst (λ (xs : List ((ℕ × ℕ) × Hint)). IsTable xs ns' ages' next) (sym is) (record {
      sorted = table.sorted;
      filed = table.filed;
      by_number = same_on number_key es ns ns' table.by_number by_number;
      by_age = same_on age_key es ages ages' table.by_age by_age;
    })

index_out : {K : Type 0} (key : (ℕ × ℕ) × Hint → K) (place : ℕ × ℕ) (h : Hint) (es : List ((ℕ × ℕ) × Hint)) (ks ks' : List K) → Indexes key es ks → lookup (is_at (place_cmp place)) es ≡ Some h → Gains (key (place, h)) ks' ks
    → Indexes key (remove_entry (is_at (place_cmp place)) es) ks'
index_out key place h es ks ks' index there gains q =
    let a = gains q in
    let b = index q in
    let d = loses_entry (λ e. q (key e)) place h es there in
    omega (arith, a, b, d)

pub table_loses : (next : ℕ) (place : ℕ × ℕ) (h : Hint) (es es' : List ((ℕ × ℕ) × Hint)) (ns ns' : List (ℕ × ℕ × ℕ)) (ages ages' : List (ℕ × ℕ × ℕ × ℕ)) → IsTable es ns ages next → lookup (is_at (place_cmp place)) es ≡ Some h
    → es' ≡ remove_entry (is_at (place_cmp place)) es → IsStrictlySortedBy place_cmp (keys_of es') → Gains (h.peer, h.number, place.1) ns' ns → Gains (h.born, h.peer, h.number, place.1) ages' ages → IsTable es' ns' ages' next
table_loses next place h es es' ns ns' ages ages' table there is sorted by_number by_age = record {
  sorted = sorted;
  filed = subst (AreFiled next) (sym (is ∙ removed place es table.sorted)) (filed_filter (λ e. not (is_place place e.0)) next es table.filed);
  by_number = subst (λ (xs : List ((ℕ × ℕ) × Hint)). Indexes number_key xs ns') (sym is) (index_out number_key place h es ns ns' table.by_number there by_number);
  by_age = subst (λ (xs : List ((ℕ × ℕ) × Hint)). Indexes age_key xs ages') (sym is) (index_out age_key place h es ages ages' table.by_age there by_age);
}

-- ---- what the key of a number tells

pub at_number : (next peer number sequence : ℕ) (es : List ((ℕ × ℕ) × Hint)) (ks : List (ℕ × ℕ × ℕ)) → IsStrictlySortedBy place_cmp (keys_of es) → AreFiled next es → Indexes number_key es ks
    → Contains ks (peer, number, sequence) → IsAt peer number sequence es
at_number next peer number sequence es ks sorted filed index there =
    let q : ℕ × ℕ × ℕ → Bool = is_at (number_cmp (peer, number, sequence)) in
    let any = any_of q ks (peer, number, sequence) there (ap is_eq (tied_itself number_total (peer, number, sequence))) in
    let found : (e : (ℕ × ℕ) × Hint) × Contains es e × (q (number_key e) ≡ true) = its_entry number_key es ks q index any in
    let e : (ℕ × ℕ) × Hint = found.0 in
    let is : (peer, number, sequence) ≡ number_key e = number_exact (peer, number, sequence) (number_key e) (is_equal (number_cmp (peer, number, sequence) (number_key e)) found.2) in
    let mine : peer ≡ e.1.peer = ap (λ (k : ℕ × ℕ × ℕ). k.0) is in
    let numbered : number ≡ e.1.number = ap (λ (k : ℕ × ℕ × ℕ). k.1) is in
    let numbered_so : sequence ≡ e.0.1 = ap (λ (k : ℕ × ℕ × ℕ). k.2) is in
    let home : e.0.0 ≡ e.1.peer = (filed_at next es filed e found.1).0 in
    let place : e.0 ≡ (peer, sequence) = ap (λ (a : ℕ). (a, e.0.1)) (home ∙ sym mine) ∙ ap (λ (a : ℕ). (peer, a)) (sym numbered_so) in
    let hint : is_hint peer number e.1 ≡ true = and_from (e.1.peer == peer) (e.1.number == number) (eq-eqb e.1.peer peer (sym mine)) (eq-eqb e.1.number number (sym numbered)) in
    record {
      some = any_of (λ x. is_place (peer, sequence) x.0) es e found.1 (subst (λ (p : ℕ × ℕ). is_place (peer, sequence) p ≡ true) (sym place) (is_place_itself (peer, sequence)));
      only = λ x h t.
          let same : x.0 ≡ e.0 = place_is (peer, sequence) x.0 t ∙ sym place in
          subst (λ (y : (ℕ × ℕ) × Hint). is_hint peer number y.1 ≡ true) (sym (only_one es x e sorted h found.1 same)) hint;
    }
