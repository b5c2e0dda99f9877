-- What a load makes of the partitions.
use Rattle.std.proofs.Common.{◌≡◌, ◌≢◌, ℕ, List, [], ◌∷◌, ◌++◌, Some, None, Result, Ok, Err, OnOk, Contains, refl, sym, ◌∙◌, ap, subst, append_assoc, append-nil}
use Rattle.std.specs.Prelude.{map}
use Rattle.std.specs.BTreeMap.{get, insert_entry, IsOrdered}
use Rattle.std.specs.List.Sorted.{IsStrictlySortedBy}
use Rattle.std.specs.Map.{keys_of}
use Rattle.std.specs.Ordering.{match_ordering, ordering_reverse}
use Rattle.std.specs.declared.cmp.Ordering.{Ordering}
use Rattle.std.specs.declared.cmp.Ordering.TheVariants.{Greater}
use Rattle.cs_base.proofs.Members.{contains_here, contains_there}
use Rattle.cell_merge.proofs.InOrder.{sorted_across}
use Rattle.changes.specs.declared.Held.{Held}
use Rattle.changes.specs.declared.Partition.{Partition}
use Rattle.changes.specs.Contents.{IsMergeOf}
use Rattle.changes.specs.Order.{partition_cmp}
use Rattle.changes.specs.Totals.{partition_total}
use Rattle.partition_content.specs.declared.Arrived.{Arrived}
use Rattle.partition_content.specs.Arrivals.{held_of, ComeAt}
use Rattle.partition_content.specs.Partition.{Partition as Content, changes_in}
use Rattle.durable_state.specs.State.{Stored}
use Rattle.list_replica.specs.Staging.{Map}
use Rattle.list_replica.specs.Stores.{stored, stored_all, all_of, stored_if, stored_at, TakesData}
use Rattle.list_replica.proofs.Looking.{takes_in, arrives, takes_found, arrives_found}

pub on_ok_both : {X E P Q R : Type 0} (r : Result X E) → (P → Q → R) → OnOk r P → OnOk r Q → OnOk r R
on_ok_both (Ok x) to p q = to p q
on_ok_both (Err e) to p q = tt

-- changes came to what was found
pub taken_found : (m n : Map) (p : Partition) (old new : Content) (incoming : List Held) (time : ℕ) → IsOrdered partition_cmp m → IsOrdered partition_cmp n → Some old ≡ get partition_cmp m p → get partition_cmp n p ≡ Some new
    → ((q : Partition) → q ≢ p → get partition_cmp n q ≡ get partition_cmp m q) → IsMergeOf (changes_in new) (changes_in old) incoming → ComeAt time old.stored new.stored → TakesData time (record { partition = p; changes = incoming }) m n
taken_found m n p old new incoming time ordered ordered' at at' others merge come =
    (takes_found m n p old new incoming ordered ordered' at at' merge others, arrives_found m n p old new time ordered ordered' at at' come others)

-- or to a partition that was not there
pub taken_new : (m n : Map) (p : Partition) (none new : Content) (incoming : List Held) (time : ℕ) → IsOrdered partition_cmp m → IsOrdered partition_cmp n → get partition_cmp m p ≡ None → none.stored ≡ [] → get partition_cmp n p ≡ Some new
    → ((q : Partition) → q ≢ p → get partition_cmp n q ≡ get partition_cmp m q) → IsMergeOf (changes_in new) (changes_in none) incoming → ComeAt time none.stored new.stored → TakesData time (record { partition = p; changes = incoming }) m n
taken_new m n p none new incoming time ordered ordered' missing empty at others merge come =
    let was : none.stored ≡ stored_at m p = empty ∙ sym (ap stored_if missing) in
    let now : new.stored ≡ stored_at n p = sym (ap stored_if at) in (
      takes_in m n p incoming ordered ordered'
          (subst (λ (l : List Arrived). IsMergeOf (map held_of l) (map held_of (stored_at m p)) incoming) now (subst (λ (l : List Arrived). IsMergeOf (changes_in new) (map held_of l) incoming) was merge))
          others,
      arrives m n p time ordered ordered'
          (subst (λ (l : List Arrived). ComeAt time (stored_at m p) l) now (subst (λ (l : List Arrived). ComeAt time l new.stored) was come))
          others,
    )

-- ---- the contents at the end

abbrev Entries : Type 0
Entries = List (Partition × Content)

-- a key above all others goes behind them
insert_last : (es : Entries) (k : Partition) (c : Content) → ((q : Partition) → Contains (keys_of es) q → partition_cmp k q ≡ Greater) → insert_entry partition_cmp es k c ≡ es ++ (k, c) ∷ []
insert_last [] k c above = refl
insert_last (e ∷ es) k c above =
    ap (λ (o : Ordering). match_ordering o ((k, c) ∷ e ∷ es) ((e.0, c) ∷ es) (e ∷ insert_entry partition_cmp es k c)) (above e.0 (contains_here e.0 (keys_of es)))
    ∙ ap (λ (l : Entries). e ∷ l) (insert_last es k c (λ q there. above q (contains_there e.0 (keys_of es) q there)))

all_both : (a b : Entries) → all_of (a ++ b) ≡ all_of a ++ all_of b
all_both [] b = refl
all_both (e ∷ a) b = ap (λ (l : List Stored). stored_all e ++ l) (all_both a b) ∙ sym (append_assoc (stored_all e) (all_of a) (all_of b))

keys_both : (a b : Entries) → keys_of (a ++ b) ≡ keys_of a ++ keys_of b
keys_both [] b = refl
keys_both (e ∷ a) b = ap (λ (l : List Partition). e.0 ∷ l) (keys_both a b)

made_one : (k : Partition) (loaded c : Content) (rest : List Stored) → c.stored ≡ loaded.stored → all_of ((k, c) ∷ []) ++ rest ≡ stored_all (k, loaded) ++ rest
made_one k loaded c rest same = ap (λ (l : List Stored). l ++ rest) (append-nil (stored_all (k, c)) ∙ ap (λ (l : List Arrived). map (stored k) l) same)

-- those so far are made contents, and the others are to come
pub record IsMade (made rest all : Entries) : Type 0 where
  pub keys : keys_of made ++ keys_of rest ≡ keys_of all
  pub stored : all_of made ++ all_of rest ≡ all_of all

pub made_none : (made all : Entries) → made ≡ [] → IsMade made all all
made_none made all none = record { keys = ap (λ (l : Entries). keys_of l ++ keys_of all) none; stored = ap (λ (l : Entries). all_of l ++ all_of all) none }

pub made_more : (made now it rest all : Entries) (k : Partition) (loaded c : Content) → IsStrictlySortedBy partition_cmp (keys_of all) → IsMade made it all → it ≡ (k, loaded) ∷ rest → c.stored ≡ loaded.stored → now ≡ insert_entry partition_cmp made k c → IsMade now rest all
made_more made now it rest all k loaded c ordered so_far next same put =
    let keys : keys_of made ++ k ∷ keys_of rest ≡ keys_of all = ap (λ (l : Entries). keys_of made ++ keys_of l) (sym next) ∙ so_far.keys in
    let sorted : IsStrictlySortedBy partition_cmp (keys_of made ++ k ∷ keys_of rest) = subst (IsStrictlySortedBy partition_cmp) (sym keys) ordered in
    let last : now ≡ made ++ (k, c) ∷ [] =
    put ∙ insert_last made k c (λ q there. partition_total.antisymm k q ∙ ap ordering_reverse (sorted_across partition_cmp (keys_of made) (k ∷ keys_of rest) sorted q k there (contains_here k (keys_of rest)))) in
    let one : all_of ((k, c) ∷ []) ++ all_of rest ≡ all_of ((k, loaded) ∷ rest) = made_one k loaded c (all_of rest) same in
    record {
      keys = ap (λ (l : Entries). keys_of l ++ keys_of rest) last ∙ ap (λ (l : List Partition). l ++ keys_of rest) (keys_both made ((k, c) ∷ [])) ∙ append_assoc (keys_of made) (k ∷ []) (keys_of rest) ∙ keys;
      stored = ap (λ (l : Entries). all_of l ++ all_of rest) last ∙ ap (λ (l : List Stored). l ++ all_of rest) (all_both made ((k, c) ∷ [])) ∙ append_assoc (all_of made) (all_of ((k, c) ∷ [])) (all_of rest)
          ∙ ap (λ (l : List Stored). all_of made ++ l) one ∙ ap (λ (l : Entries). all_of made ++ all_of l) (sym next) ∙ so_far.stored;
    }

pub made_all : (made rest all : Entries) → rest ≡ [] → IsMade made rest all → all_of made ≡ all_of all
made_all made rest all none m = sym (append-nil (all_of made)) ∙ ap (λ (l : Entries). all_of made ++ all_of l) (sym none) ∙ m.stored
