-- Changes that were staged come to what is held.
use Rattle.std.proofs.Common.{◌≡◌, ◌↔◌, ◌⊎◌, ℕ, inl, inr, List, [], ◌∷◌, Contains, refl, sym, ◌∙◌, ap, subst}
use Rattle.std.specs.Prelude.{map}
use Rattle.std.specs.BTreeMap.{IsOrdered}
use Rattle.cs_base.proofs.Members.{contains_nil, contains_here, contains_there, contains_cases, contains_map, contains_from_map}
use Rattle.changes.specs.declared.Change.{Change}
use Rattle.changes.specs.declared.Held.{Held}
use Rattle.changes.specs.declared.Mutation.{Mutation}
use Rattle.changes.specs.declared.Partition.{Partition}
use Rattle.changes.specs.Contents.{Either, IsContent}
use Rattle.changes.specs.Order.{partition_cmp}
use Rattle.changes.proofs.Partitions.{same_or_apart}
use Rattle.change_laws.proofs.Contents.{IsContent-same, IsContent-onto, Either_swap}
use Rattle.partition_content.specs.declared.Arrived.{Arrived}
use Rattle.partition_content.specs.Arrivals.{held_of, ComeAt}
use Rattle.row_change.specs.declared.entry.LogItem.{LogItem}
use Rattle.durable_state.specs.State.{Stored, Durable, change_of, changes_of, Holds, IsSameKept}
use Rattle.durable_state.specs.Taking.{IsHeldOf, IsTouched, InOne, TakesAll, ArriveAt, HasOneArrival}
use Rattle.durable_state.specs.Keeping.{Commits}
use Rattle.durable_state.specs.Laws.{data_item}
use Rattle.durable_state.proofs.Kept.{kept_is_one}
use Rattle.durable_state.proofs.Together.{taken_together}
use Rattle.replica.specs.Kept.{ArriveAllAt, PurgeNothing}
use Rattle.list_replica.specs.declared.staging.Staged.{Staged}
use Rattle.list_replica.specs.Stores.{stored_if, stored_at, all_of}
use Rattle.list_replica.specs.Staging.{Map, mutations, held_at, IsStagedAt, IsStaging, AllCome}
use Rattle.list_replica.proofs.Growing.{Shown}
use Rattle.list_replica.proofs.Items.{projected}
use Rattle.list_replica.proofs.Looking.{holds_from, holds_to, stored_from, stored_to}

pub staged_or_not : (staged : List Staged) (p : Partition) → IsStagedAt staged p ⊎ (IsStagedAt staged p → ⊥)
staged_or_not [] p = inr (λ h. contains_nil h.0 h.1)
staged_or_not (s ∷ ss) p = elim (same_or_apart s.partition p) [
  | inl same ↦ inl (s, contains_here s ss, same)
  | inr apart ↦ elim (staged_or_not ss p) [
    | inl h ↦ inl (h.0, contains_there s ss h.0 h.1, h.2)
    | inr n ↦ inr (λ h. elim (contains_cases s ss h.0 h.1) [ inl e ↦ apart (ap (λ (t : Staged). t.partition) e ∙ h.2) | inr later ↦ n (h.0, later, h.2) ])
  ]
]

-- ---- what is held

-- what came to the partition is the content of what was held and of all that the mutations bring to it
held_of_all : (old new : Map) (time : ℕ) (items : List LogItem) (staged : List Staged) → IsOrdered partition_cmp old → IsStaging items staged → AllCome time old new staged → (s : Staged) → Contains staged s
    → IsContent (held_at new s.partition) (Either (Holds (changes_of (all_of old.entries)) s.partition) (InOne (mutations items) s.partition))
held_of_all old new time items staged ordered staging all s there =
    let p = s.partition in
    let was : Held → Type 0 = Contains (held_at old p) in
    let came : Held → Type 0 = InOne (mutations items) p in
    let turned : IsContent (held_at new p) (Either (Contains s.changes) was) =
    IsContent-same (held_at new p) (Either was (Contains s.changes)) (Either (Contains s.changes) was) (Either_swap was (Contains s.changes)) (Either_swap (Contains s.changes) was) ((all.each s there).merged) in
    IsContent-same (held_at new p) (Either came was) (Either (Holds (changes_of (all_of old.entries)) p) came)
    (λ x u. elim u [ inl k ↦ inr k | inr k ↦ inl (holds_from old p x k) ])
    (λ x u. elim u [ inl h ↦ inr (holds_to old p x ordered h) | inr k ↦ inl k ])
    (IsContent-onto s.changes (held_at new p) came was (staging.content s there) turned)

takes_all : (old new : Map) (time : ℕ) (items : List LogItem) (staged : List Staged) → IsOrdered partition_cmp old → IsOrdered partition_cmp new → IsStaging items staged → AllCome time old new staged
    → TakesAll (changes_of (all_of old.entries)) (mutations items) (changes_of (all_of new.entries))
takes_all old new time items staged ordered ordered' staging all = record {
  each = λ p t.
      let s = staging.all p t in
      subst (λ (q : Partition). (kept : List Held) × IsHeldOf (changes_of (all_of new.entries)) q kept × IsContent kept (Either (Holds (changes_of (all_of old.entries)) q) (InOne (mutations items) q))) s.2 (
        held_at new s.0.partition,
        λ x. (λ k. holds_from new s.0.partition x k, λ h. holds_to new s.0.partition x ordered' h),
        held_of_all old new time items staged ordered staging all s.0 s.1,
      );
  others = λ q x n.
      let same : stored_at new q ≡ stored_at old q = ap stored_if (all.others q (λ h. n (subst (λ (r : Partition). IsTouched (mutations items) r) h.2 (staging.within h.0 h.1)))) in (
        λ h. holds_from old q x (subst (λ (l : List Arrived). Contains (map held_of l) x) same (holds_to new q x ordered' h)),
        λ h. holds_from new q x (subst (λ (l : List Arrived). Contains (map held_of l) x) (sym same) (holds_to old q x ordered h)),
      );
}

-- ---- when it came

came_to : (old new : Map) (time : ℕ) → IsOrdered partition_cmp old → IsOrdered partition_cmp new → (x : Stored) → ComeAt time (stored_at old x.partition) (stored_at new x.partition)
    → Contains (all_of new.entries) x → Contains (all_of old.entries) x ⊎ ((Contains (changes_of (all_of old.entries)) (change_of x) → ⊥) × (x.arrival ≡ time))
came_to old new time ordered ordered' x come k =
    let a = stored_to new x ordered' k in
    elim (come a.0 a.1) [
      | inl was ↦ inl (subst (λ (v : Stored). Contains (all_of old.entries) v) a.2 (stored_from old x.partition a.0 was))
      | inr (fresh, when) ↦
          inr (
            (λ h.
                let as_x : Holds (changes_of (all_of old.entries)) x.partition x.held = h in
                fresh (subst (λ (z : Held). Contains (held_at old x.partition) z) (sym (ap (λ (v : Stored). v.held) a.2)) (holds_to old x.partition x.held ordered as_x))),
            sym (ap (λ (v : Stored). v.arrival) a.2) ∙ when,
          )
    ]

arrive_all : (old new : Map) (time : ℕ) (staged : List Staged) → IsOrdered partition_cmp old → IsOrdered partition_cmp new → AllCome time old new staged → ArriveAt time (all_of old.entries) (all_of new.entries)
arrive_all old new time staged ordered ordered' all x k = elim (staged_or_not staged x.partition) [
  | inl s ↦ came_to old new time ordered ordered' x (subst (λ (q : Partition). ComeAt time (stored_at old q) (stored_at new q)) s.2 ((all.each s.0 s.1).arrivals)) k
  | inr n ↦
      let same : stored_at new x.partition ≡ stored_at old x.partition = ap stored_if (all.others x.partition n) in
      let a = stored_to new x ordered' k in
      inl (subst (λ (v : Stored). Contains (all_of old.entries) v) a.2 (stored_from old x.partition a.0 (subst (λ (l : List Arrived). Contains l a.0) same a.1)))
]

-- ---- what is kept

-- where no change came or went, nothing else did
same_all : (time : ℕ) (a b : List Stored) → HasOneArrival a → ArriveAt time a b → ((p : Partition) (x : Held) → Holds (changes_of b) p x ↔ Holds (changes_of a) p x) → (x : Stored) → Contains b x ↔ Contains a x
same_all time a b one arrive same x = (
  λ k. elim (arrive x k) [
    | inl was ↦ was
    | inr (fresh, when) ↦ absurd (fresh ((same x.partition x.held).0 (contains_map change_of b x k)))
  ],
  λ k.
      let y = contains_from_map change_of b _ ((same x.partition x.held).1 (contains_map change_of a x k)) in
      let is : y.0 ≡ x = elim (arrive y.0 y.1) [
        | inl was ↦ one y.0 x was k y.2
        | inr (fresh, when) ↦ absurd (fresh (subst (λ (c : Change). Contains (changes_of a) c) (sym y.2) (contains_map change_of a x k)))
      ] in
      subst (λ (v : Stored). Contains b v) is y.1,
)

-- of mutations that are taken in together or one after another, the same is held
same_after : (time : ℕ) (ms : List Mutation) (d d' : Durable) (a b : List Stored) → ((x : Stored) → Contains a x ↔ Contains d.content x) → HasOneArrival a → TakesAll (changes_of a) ms (changes_of b) → ArriveAt time a b
    → Commits (map (data_item time) ms) d (record d { content = d'.content }) → (x : Stored) → Contains b x ↔ Contains d'.content x
same_after time [] d d' a b shown one takes arrive commits x =
    let stays = same_all time a b one arrive (λ p y. takes.others p y (λ t. contains_nil t.0 t.1)) x in
    let is : d'.content ≡ d.content = ap (λ (e : Durable). e.content) commits in (
      λ k. subst (λ (l : List Stored). Contains l x) (sym is) ((shown x).0 (stays.0 k)),
      λ k. stays.1 ((shown x).1 (subst (λ (l : List Stored). Contains l x) is k)),
    )
same_after time (m ∷ ms) d d' a b shown one takes arrive commits x =
    let from : Durable = record d { content = a } in
    let upto : Durable = record d { content = b } in
    let same : IsSameKept from d = record {
      ceiling = refl;
      content = λ y. ((shown y).1, (shown y).0);
      rows = λ p. refl;
      hints = λ peer. refl;
      numbers = λ peer. refl;
      marks = λ n. (λ h. h, λ h. h);
    } in
    let makes : Commits (map (data_item time) (m ∷ ms)) from upto = taken_together time m ms from upto one takes arrive refl in
    let kept = (kept_is_one (map (data_item time) (m ∷ ms)) from d upto (record d { content = d'.content }) same one makes commits).0 in
    ((kept.content x).1, (kept.content x).0)

pub shown_after : (old new : Map) (time : ℕ) (d d' : Durable) (items : List LogItem) (staged : List Staged) → IsOrdered partition_cmp old → IsOrdered partition_cmp new → Shown old d → HasOneArrival d.content → PurgeNothing items
    → ArriveAllAt time items → IsStaging items staged → AllCome time old new staged → Commits items d d' → Shown new d'
shown_after old new time d d' items staged ordered ordered' shown one calm all staging come commits x =
    same_after time (mutations items) d d' (all_of old.entries) (all_of new.entries) shown (λ y z k l same. one y z ((shown y).0 k) ((shown z).0 l) same)
    (takes_all old new time items staged ordered ordered' staging come) (arrive_all old new time staged ordered ordered' come) (projected time items d d' calm all commits) x
