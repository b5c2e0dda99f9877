-- The definitions at a few rows, computed.
use Rattle.std.proofs.Common.{◌≡◌, ◌≢◌, ◌⊎◌, inl, inr, ℕ, Bool, true, false, not, refl, sym, ap, ◌∙◌, subst, List, [], ◌∷◌, Contains}
use Rattle.std.specs.Prelude.{slice_index_or}
use Rattle.std.specs.Cmp.Lexicographic.{bytes_decides}
use Rattle.cs_base.specs.Leaves.{leaves_where}
use Rattle.cs_base.proofs.LeafSets.{same_leaves, no_leaves}
use Rattle.std.specs.List.Sorted.{IsStrictlySortedBy}
use Rattle.cs_base.proofs.Members.{contains_here, contains_there, contains_one, contains_cases}
use Rattle.changes.specs.declared.Held.{Held}
use Rattle.changes.specs.declared.Mutation.{Mutation}
use Rattle.changes.specs.declared.Partition.{Partition}
use Rattle.changes.specs.Contents.{IsContent, IsReachedBy, AreApart}
use Rattle.changes.specs.Order.{Outranks}
use Rattle.changes.specs.Places.{AreInOrder}
use Rattle.merkle_tree.specs.Digests.{differ_at}
use Rattle.merkle_tree.specs.Laws.{AreByPartition}
use Rattle.repair_moves.specs.declared.repair.Fetched.{Fetched}
use Rattle.repair_moves.specs.Merges.{IsMergeOfAll, WasFetched}
use Rattle.repair_moves.specs.declared.repair.Repair.{Repair}
use Rattle.repair_moves.specs.declared.repair.Snapshot.{Snapshot}
use Rattle.repair_moves.specs.Repairs.{with_snapshot, Fetches}
use Rattle.repair_moves.specs.Snapshots.{is_differing, differing_leaves}
use Rattle.repair_moves.specs.Worked.{Replicas, DownAtItsStart, told_by, two_have_told, told_alone, digests_with, NothingDiffers, AnotherHasARow, LastOfAll, AtItsDeadline, OneLacksARow, fetched_of, some_partition, some_cell, some_part, newer_cell, newer_part, both_fetched, NewerIsTheMerge}

pub replicas : Replicas
replicas = (refl, refl, refl)

pub down_at_its_start : DownAtItsStart
down_at_its_start = (refl, refl, refl)

-- ---- equal digests

same_as_itself : (leaves : List (List ℕ)) (i : ℕ) → differ_at leaves leaves i ≡ false
same_as_itself leaves i = ap not ((bytes_decides (slice_index_or leaves i []) (slice_index_or leaves i [])).1 refl)

-- node 2 has told them too, with a row or without one
abbrev third : Bool → List (List ℕ) → Snapshot
third has_row leaves = record { from = 2; time = 40; leaves = leaves; has_row = has_row }

abbrev three_have_told : Bool → List (List ℕ) → Repair
three_have_told has_row leaves = with_snapshot (two_have_told leaves) (third has_row leaves)

none_differs : (has_row : Bool) (leaves : List (List ℕ)) → differing_leaves (three_have_told has_row leaves).snapshots ≡ []
none_differs has_row leaves = same_leaves (is_differing (three_have_told has_row leaves).snapshots) (λ i. false) (λ i low. rw (same_as_itself leaves i) refl) ∙ no_leaves

pub nothing_differs : NothingDiffers
nothing_differs leaves turn r' h = (subst (λ (xs : List ℕ). Fetches 50 (three_have_told false leaves) xs turn r') (none_differs false leaves) h).0

pub another_has_a_row : AnotherHasARow
another_has_a_row leaves turn r' h = (subst (λ (xs : List ℕ). Fetches 50 (three_have_told true leaves) xs turn r') (none_differs true leaves) h).0

pub last_of_all : LastOfAll
last_of_all leaves other turn r' = (λ h. h, λ h. (h.0, ap (λ (r : Repair). r.phase) h.1))

pub at_its_deadline : AtItsDeadline
at_its_deadline = (refl, refl)

-- ---- digests that differ

abbrev both_have_told : Repair
both_have_told = with_snapshot told_alone (told_by 1 4 (digests_with (2 ∷ [])))

one_differs : differing_leaves both_have_told.snapshots ≡ 188 ∷ []
unfolding leaves_where
one_differs = refl

pub one_lacks_a_row : OneLacksARow
one_lacks_a_row = (
  refl,
  λ turn r' h. let fetches = subst (λ (xs : List ℕ). Fetches 5 both_have_told xs turn r') one_differs h in (fetches.0, ap (λ (r : Repair). r.phase) fetches.1),
  refl,
  refl,
)

-- ---- a newer cell

one_by_partition : AreByPartition (newer_part ∷ [])
unfolding IsStrictlySortedBy
one_by_partition = (tt, tt)

one_in_order : AreInOrder (newer_cell ∷ [])
unfolding IsStrictlySortedBy
one_in_order = (tt, tt)

-- what holds of the only part holds of each
of_one : (P : Mutation → Type 0) → P newer_part → (m : Mutation) → Contains (newer_part ∷ []) m → P m
of_one P h m at = subst P (contains_one newer_part m at) h

-- each change that was fetched is one of the two
either_cell : (p : Partition) (x : Held) → WasFetched both_fetched p x → (some_cell ≡ x) ⊎ (newer_cell ≡ x)
either_cell p x (f, a, f_at, a_at, e, x_at) =
    elim (contains_cases (fetched_of 0 (some_part ∷ [])) (fetched_of 1 (newer_part ∷ []) ∷ []) f f_at) [
      | inl first ↦
          let part = contains_one some_part a (subst (λ (g : Fetched). Contains g.parts a) (sym first) a_at) in
          inl (contains_one some_cell x (subst (λ (b : Mutation). Contains b.changes x) (sym part) x_at))
      | inr rest ↦
          let second = contains_one (fetched_of 1 (newer_part ∷ [])) f rest in
          let part = contains_one newer_part a (subst (λ (g : Fetched). Contains g.parts a) (sym second) a_at) in
          inr (contains_one newer_cell x (subst (λ (b : Mutation). Contains b.changes x) (sym part) x_at))
    ]

-- and of the partition
of_partition : (p : Partition) (x : Held) → WasFetched both_fetched p x → some_partition ≡ p
of_partition p x (f, a, f_at, a_at, e, x_at) =
    elim (contains_cases (fetched_of 0 (some_part ∷ [])) (fetched_of 1 (newer_part ∷ []) ∷ []) f f_at) [
      | inl first ↦ ap (λ (b : Mutation). b.partition) (contains_one some_part a (subst (λ (g : Fetched). Contains g.parts a) (sym first) a_at)) ∙ e
      | inr rest ↦
          let second = contains_one (fetched_of 1 (newer_part ∷ [])) f rest in
          ap (λ (b : Mutation). b.partition) (contains_one newer_part a (subst (λ (g : Fetched). Contains g.parts a) (sym second) a_at)) ∙ e
    ]

newer_fetched : WasFetched both_fetched some_partition newer_cell
newer_fetched = (
  fetched_of 1 (newer_part ∷ []),
  newer_part,
  contains_there (fetched_of 0 (some_part ∷ [])) (fetched_of 1 (newer_part ∷ []) ∷ []) (fetched_of 1 (newer_part ∷ [])) (contains_here (fetched_of 1 (newer_part ∷ [])) []),
  contains_here newer_part [],
  refl,
  contains_here newer_cell [],
)

not_itself : Outranks newer_cell newer_cell → ⊥
not_itself (inl (same, above)) = cc
not_itself (inr (covers, other)) = other refl

newer_apart : AreApart (newer_cell ∷ [])
newer_apart x y x_at y_at h =
    not_itself
    (subst (λ (z : Held). Outranks z newer_cell) (sym (contains_one newer_cell x x_at))
    (subst (λ (z : Held). Outranks x z) (sym (contains_one newer_cell y y_at)) h))

newer_reaches : (x : Held) → (some_cell ≡ x) ⊎ (newer_cell ≡ x) → IsReachedBy (newer_cell ∷ []) x
newer_reaches x (inl e) = subst (λ (z : Held). IsReachedBy (newer_cell ∷ []) z) e (inr (newer_cell, contains_here newer_cell [], inl (refl, refl)))
newer_reaches x (inr e) = inl (subst (λ (z : Held). Contains (newer_cell ∷ []) z) e (contains_here newer_cell []))

newer_content : IsContent (newer_cell ∷ []) (WasFetched both_fetched some_partition)
newer_content = record {
  within = λ x at. subst (λ (z : Held). WasFetched both_fetched some_partition z) (contains_one newer_cell x at) newer_fetched;
  reached = λ x h. newer_reaches x (either_cell some_partition x h);
  apart = newer_apart;
}

newer_merged : IsMergeOfAll both_fetched (newer_part ∷ [])
newer_merged = record {
  by_partition = one_by_partition;
  some = of_one (λ m. m.changes ≢ []) (λ e. cc);
  in_order = of_one (λ m. AreInOrder m.changes) one_in_order;
  each = of_one (λ m. IsContent m.changes (WasFetched both_fetched m.partition)) newer_content;
  all = λ p x h. (newer_part, contains_here newer_part [], of_partition p x h);
}

pub newer_is_the_merge : NewerIsTheMerge
newer_is_the_merge = (newer_merged, refl)
