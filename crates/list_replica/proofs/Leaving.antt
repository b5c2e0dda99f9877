-- What is left of what is stored when a change is let go of.
use Rattle.std.proofs.Common.{◌≡◌, ◌≢◌, ◌↔◌, ◌⊎◌, ℕ, inl, inr, Bool, true, false, not, filter, Option, Some, None, List, [], ◌∷◌, ◌++◌, Contains, refl, sym, ◌∙◌, ap, subst}
use Rattle.std.specs.Prelude.{map, ◌&&◌}
use Rattle.std.specs.Ordering.{is_eq}
use Rattle.std.specs.declared.cmp.Ordering.TheVariants.{Less, Equal}
use Rattle.std.specs.BTreeMap.{get, IsOrdered}
use Rattle.std.proofs.lemmas.Bool.{false≢true}
use Rattle.std.proofs.lemmas.Cmp.{tied_itself}
use Rattle.std.proofs.lemmas.List.Elements.{Contains-append_cases, Contains-append_left, Contains-append_right}
use Rattle.std.proofs.lemmas.Map.Keys.{sorted_head, sorted_tail}
use Rattle.cs_base.proofs.Members.{contains_nil, contains_here, contains_cases, contains_map, contains_from_map, contains_filter, contains_from_filter, contains_one}
use Rattle.changes.specs.declared.Change.{Change}
use Rattle.changes.specs.declared.Held.{Held}
use Rattle.changes.specs.declared.Partition.{Partition}
use Rattle.changes.specs.Contents.{AreApart, Either, IsContent, IsMergeOf}
use Rattle.changes.specs.Order.{Outranks, partition_cmp, rank_cmp}
use Rattle.changes.specs.Places.{AreInOrder, stored_cmp, place_cmp}
use Rattle.changes.proofs.Partitions.{same_or_apart}
use Rattle.changes.proofs.Orderings.{equal_is}
use Rattle.changes.proofs.Places.{stored_total, place_exact, place_tied}
use Rattle.changes.proofs.Ranks.{rank_exact, rank_total}
use Rattle.changes.proofs.Sorted.{all_at}
use Rattle.change_laws.proofs.Contents.{IsContent-same, IsContent-onto, Either_swap}
use Rattle.partition_content.specs.declared.Arrived.{Arrived}
use Rattle.partition_content.specs.Arrivals.{held_of, ComeAt}
use Rattle.partition_content.specs.Partition.{Partition as Content}
use Rattle.durable_state.specs.State.{Stored, change_of}
use Rattle.durable_state.specs.Taking.{LetsGo}
use Rattle.list_replica.specs.Removing.{is_same_held, is_other, IsAdded, IsWithout}
use Rattle.list_replica.specs.Staging.{Map}
use Rattle.list_replica.specs.Stores.{stored, stored_if, stored_at, all_of}
use Rattle.list_replica.proofs.Gathering.{split_more}
use Rattle.list_replica.proofs.Looking.{stored_from, stored_to}

-- ---- one partition

pub one_of : (xs : List Arrived) → AreInOrder (map held_of xs) → (a b : Arrived) → Contains xs a → Contains xs b → a.held ≡ b.held → a ≡ b
one_of [] up a b k l same = absurd (contains_nil a k)
one_of (x ∷ xs) up a b k l same = elim (contains_cases x xs a k) [
  | inl is ↦ elim (contains_cases x xs b l) [
    | inl also ↦ sym is ∙ also
    | inr later ↦ absurd (no_less x b (below later) (ap held_of is ∙ same))
  ]
  | inr behind ↦ elim (contains_cases x xs b l) [
    | inl also ↦ absurd (no_less x a (below behind) (ap held_of also ∙ sym same))
    | inr later ↦ one_of xs (sorted_tail stored_cmp x.held (map held_of xs) up) a b behind later same
  ]
]
  where
    below : {z : Arrived} → Contains xs z → stored_cmp x.held z.held ≡ Less
    below {z} m = all_at (λ (h : Held). stored_cmp x.held h ≡ Less) (map held_of xs) z.held (sorted_head stored_cmp x.held (map held_of xs) up) (contains_map held_of xs z m)

    no_less : (u v : Arrived) → stored_cmp u.held v.held ≡ Less → u.held ≡ v.held → ⊥
    no_less u v less e = let f = sym (subst (λ (h : Held). stored_cmp u.held h ≡ Equal) e (tied_itself stored_total u.held)) ∙ less in cc

same_arrived : (a b : Arrived) → a.held ≡ b.held → a.arrival ≡ b.arrival → a ≡ b
same_arrived a b held arrival =
    ap (λ (h : Held). let x : Arrived = record { held = h; arrival = a.arrival } in x) held ∙ ap (λ (n : ℕ). let x : Arrived = record { held = b.held; arrival = n } in x) arrival

-- all that is stored of the partition
pub record Whole (xs : List Arrived) : Type 0 where
  pub ordered : AreInOrder (map held_of xs)
  pub apart : AreApart (map held_of xs)

none_above : (xs : List Arrived) → Whole xs → (a b : Arrived) → Contains xs a → Contains xs b → Outranks a.held b.held → ⊥
none_above xs w a b k l over = w.apart a.held b.held (contains_map held_of xs a k) (contains_map held_of xs b l) over

-- those that stay are put in
abbrev pub AreAll : List Arrived → List Arrived → Type 0
AreAll front stored = (a : Arrived) → Contains stored a ↔ Contains front a

-- one more
pub left_more : (xs front old new : List Arrived) (x : Arrived) → Whole xs → ((a : Arrived) → Contains (front ++ x ∷ []) a → Contains xs a) → AreAll front old → IsAdded x old new → AreAll (front ++ x ∷ []) new
left_more xs front old new x w among so_far added a = (
  λ k. elim (added.arrivals a k) [
    | inl was ↦ Contains-append_left front (x ∷ []) a ((so_far a).0 was)
    | inr (fresh, when) ↦
        let is : x ≡ a = elim (added.content.within a.held (contains_map held_of new a k)) [ inl old_one ↦ absurd (fresh old_one) | inr e ↦ same_arrived x a e (sym when) ] in
        Contains-append_right front (x ∷ []) a (subst (λ (z : Arrived). Contains (x ∷ []) z) is (contains_here x []))
  ],
  λ h.
      let in_all : Contains xs a = among a h in
      let last : Contains xs x = among x (Contains-append_right front (x ∷ []) x (contains_here x [])) in
      let came : Contains (map held_of old) a.held ⊎ (x.held ≡ a.held) = elim (Contains-append_cases front (x ∷ []) a h) [
        | inl before ↦ inl (contains_map held_of old a ((so_far a).1 before))
        | inr here ↦ elim (contains_cases x [] a here) [ inl e ↦ inr (ap held_of e) | inr none ↦ absurd (contains_nil a none) ]
      ] in
      let there : Contains (map held_of new) a.held = elim (added.content.reached a.held came) [
        | inl k ↦ k
        | inr (y, k, over) ↦ absurd (elim (added.content.within y k) [
          | inl old_one ↦
              let b = contains_from_map held_of old y old_one in
              none_above xs w b.0 a (among b.0 (Contains-append_left front (x ∷ []) b.0 ((so_far b.0).0 b.1))) in_all (subst (λ (z : Held). Outranks z a.held) (sym b.2) over)
          | inr e ↦ none_above xs w x a last in_all (subst (λ (z : Held). Outranks z a.held) (sym e) over)
        ])
      ] in
      let b = contains_from_map held_of new a.held there in
      let is : b.0 ≡ a = elim (added.arrivals b.0 b.1) [
        | inl was ↦ one_of xs w.ordered b.0 a (among b.0 (Contains-append_left front (x ∷ []) b.0 ((so_far b.0).0 was))) in_all b.2
        | inr (fresh, when) ↦ elim came [
          | inl old_one ↦ absurd (fresh (subst (λ (z : Held). Contains (map held_of old) z) (sym b.2) old_one))
          | inr e ↦
              let as_x : b.0 ≡ x = same_arrived b.0 x (b.2 ∙ sym e) when in
              as_x ∙ one_of xs w.ordered x a last in_all e
        ]
      ] in
      subst (λ (z : Arrived). Contains new z) is b.1,
)

pub left_none : (stored : List Arrived) → stored ≡ [] → AreAll [] stored
left_none stored e a = (λ k. subst (λ (l : List Arrived). Contains l a) e k, λ k. absurd (contains_nil a k))

held_is : (x y : Held) → is_same_held x y ≡ true → x ≡ y
held_is x y t =
    let both = and_parts (is_eq (place_cmp x.place y.place)) (is_eq (rank_cmp x y)) t in
    rank_exact x y (place_exact x.place y.place (equal_is (place_cmp x.place y.place) both.0)) (equal_is (rank_cmp x y) both.1)
  where
    and_parts : (a b : Bool) → (a && b) ≡ true → (a ≡ true) × (b ≡ true)
    and_parts true b e = (refl, e)
    and_parts false b e = cc

held_itself : (x : Held) → is_same_held x x ≡ true
held_itself x = ap (λ (t : Bool). t && is_eq (rank_cmp x x)) (ap is_eq (place_tied x.place x.place refl)) ∙ ap is_eq (tied_itself rank_total x)

same_held_or_not : (x y : Held) → (x ≡ y) ⊎ (x ≢ y)
same_held_or_not x y = go (is_same_held x y) refl
  where
    go : (t : Bool) → is_same_held x y ≡ t → (x ≡ y) ⊎ (x ≢ y)
    go true e = inl (held_is x y e)
    go false e = inr (λ same. false≢true (sym e ∙ ap (λ (z : Held). is_same_held x z) (sym same) ∙ held_itself x))

-- what passes is what is not of the change
pub without_from : (held : Held) (xs all rest : List Arrived) → all ≡ filter (is_other held) xs → AreAll all rest → IsWithout held xs rest
without_from held xs all rest is are a = (
  λ k.
      let h = contains_from_filter (is_other held) xs a (subst (λ (l : List Arrived). Contains l a) is ((are a).0 k)) in (
        h.0,
        λ e. absurd (false≢true (ap not (sym (ap (λ (z : Held). is_same_held a.held z) (sym e) ∙ held_itself a.held)) ∙ h.1)),
      ),
  λ h. (are a).1 (subst (λ (l : List Arrived). Contains l a) (sym is) (contains_filter (is_other held) xs a h.0 (passes (is_same_held a.held held) refl h.1))),
)
  where
    passes : (t : Bool) → is_same_held a.held held ≡ t → a.held ≢ held → is_other held a ≡ true
    passes true e n = absurd (n (held_is a.held held e))
    passes false e n = ap not e

-- ---- all of them

same_made : (y : Stored) (c : Change) → y.partition ≡ c.partition → y.held ≡ c.held → change_of y ≡ c
same_made y c p h =
    ap (λ (q : Partition). let z : Change = record { partition = q; held = y.held } in z) p ∙ ap (λ (v : Held). let z : Change = record { partition = c.partition; held = v } in z) h

pub lets_go : (m n : Map) (x : Change) → IsOrdered partition_cmp m → IsOrdered partition_cmp n → IsWithout x.held (stored_at m x.partition) (stored_at n x.partition) → ((q : Partition) → q ≢ x.partition → get partition_cmp n q ≡ get partition_cmp m q)
    → LetsGo (all_of m.entries) x (all_of n.entries)
lets_go m n x ordered ordered' without others = record {
  only = λ y k.
      let a = stored_to n y ordered' k in
      elim (same_or_apart y.partition x.partition) [
        | inl same ↦
            let h = (without a.0).0 (subst (λ (q : Partition). Contains (stored_at n q) a.0) same a.1) in (
              subst (λ (v : Stored). Contains (all_of m.entries) v) a.2 (stored_from m y.partition a.0 (subst (λ (q : Partition). Contains (stored_at m q) a.0) (sym same) h.0)),
              λ e. h.1 (ap (λ (v : Stored). v.held) a.2 ∙ ap (λ (c : Change). c.held) e),
            )
        | inr other ↦ (
          subst (λ (v : Stored). Contains (all_of m.entries) v) a.2 (stored_from m y.partition a.0 (subst (λ (l : List Arrived). Contains l a.0) (ap stored_if (others y.partition other)) a.1)),
          λ e. other (ap (λ (c : Change). c.partition) e),
        )
      ];
  others = λ y k.
      let a = stored_to m y ordered k in
      elim (same_or_apart y.partition x.partition) [
        | inl same ↦ elim (same_held_or_not y.held x.held) [
          | inl held ↦ inl (same_made y x same held)
          | inr differs ↦
              inr (subst (λ (v : Stored). Contains (all_of n.entries) v) a.2 (stored_from n y.partition a.0 (subst (λ (q : Partition). Contains (stored_at n q) a.0) (sym same)
              ((without a.0).1 (subst (λ (q : Partition). Contains (stored_at m q) a.0) same a.1, λ e. differs (sym (ap (λ (v : Stored). v.held) a.2) ∙ e))))))
        ]
        | inr other ↦ inr (subst (λ (v : Stored). Contains (all_of n.entries) v) a.2 (stored_from n y.partition a.0 (subst (λ (l : List Arrived). Contains l a.0) (sym (ap stored_if (others y.partition other))) a.1)))
      ];
}

-- with what is found
pub lets_go_found : (m n : Map) (x : Change) (old new : Content) → IsOrdered partition_cmp m → IsOrdered partition_cmp n → Some old ≡ get partition_cmp m x.partition → get partition_cmp n x.partition ≡ Some new → IsWithout x.held old.stored new.stored
    → ((q : Partition) → q ≢ x.partition → get partition_cmp n q ≡ get partition_cmp m q) → LetsGo (all_of m.entries) x (all_of n.entries)
lets_go_found m n x old new ordered ordered' at at' without others =
    lets_go m n x ordered ordered'
    (subst (λ (o : Option Content). IsWithout x.held (stored_at m x.partition) (stored_if o)) (sym at') (subst (λ (o : Option Content). IsWithout x.held (stored_if o) new.stored) at without))
    others

pub lets_go_none : (m : Map) (x : Change) → IsOrdered partition_cmp m → None ≡ get partition_cmp m x.partition → LetsGo (all_of m.entries) x (all_of m.entries)
lets_go_none m x ordered at =
    lets_go m m x ordered ordered (subst (λ (o : Option Content). IsWithout x.held (stored_if o) (stored_if o)) at (λ a. (λ k. absurd (contains_nil a k), λ h. h.0))) (λ q other. refl)

-- ---- one change put in

pub added : (arrived : Arrived) (was old new : List Arrived) (pushed none incoming : List Held) → none ≡ [] → pushed ≡ none ++ arrived.held ∷ [] → IsContent incoming (Contains pushed) → old ≡ was
    → IsMergeOf (map held_of new) (map held_of old) incoming → ComeAt arrived.arrival old new → IsAdded arrived was new
added arrived was old new pushed none incoming empty push content same merge come =
    let one : pushed ≡ arrived.held ∷ [] = push ∙ ap (λ (l : List Held). l ++ arrived.held ∷ []) empty in
    let there : Held → Type 0 = Contains (map held_of old) in
    let only : Held → Type 0 = λ x. arrived.held ≡ x in
    let alone : IsContent incoming only = IsContent-same incoming (Contains pushed) only (λ x k. contains_one arrived.held x (subst (λ (l : List Held). Contains l x) one k))
    (λ x e. subst (λ (l : List Held). Contains l x) (sym one) (subst (λ (z : Held). Contains (arrived.held ∷ []) z) e (contains_here arrived.held []))) content in
    let swapped = IsContent-same (map held_of new) (Either there (Contains incoming)) (Either (Contains incoming) there) (Either_swap there (Contains incoming)) (Either_swap (Contains incoming) there) merge in
    let both = IsContent-same (map held_of new) (Either only there) (Either there only) (Either_swap only there) (Either_swap there only) (IsContent-onto incoming (map held_of new) only there alone swapped) in
    record {
      content = subst (λ (l : List Arrived). IsContent (map held_of new) (Either (Contains (map held_of l)) (λ x. arrived.held ≡ x))) same both;
      arrivals = subst (λ (l : List Arrived). ComeAt arrived.arrival l new) same come;
    }

pub among_all : (held : Held) (xs front it rest : List Arrived) (x : Arrived) → front ++ it ≡ filter (is_other held) xs → it ≡ x ∷ rest → (a : Arrived) → Contains (front ++ x ∷ []) a → Contains xs a
among_all held xs front it rest x split next a k =
    (contains_from_filter (is_other held) xs a (subst (λ (l : List Arrived). Contains l a) (split_more (filter (is_other held) xs) front it rest x split next) (Contains-append_left (front ++ x ∷ []) rest a k))).0
