-- What is held of a query's rows, behind changes that are taken in.
use Rattle.std.proofs.Common.{◌≡◌, ◌≢◌, ◌↔◌, inl, inr, ℕ, true, false, List, [], ◌∷◌, ◌++◌, Contains, refl, sym, ap, subst, ◌∙◌}
use Rattle.std.specs.Ordering.{is_eq}
use Rattle.std.specs.declared.cmp.Ordering.{Ordering}
use Rattle.std.specs.declared.cmp.Ordering.TheVariants.{Less, Equal, Greater}
use Rattle.std.proofs.lemmas.Cmp.{tied_itself}
use Rattle.changes.specs.Totals.{partition_total}
use Rattle.changes.proofs.Partitions.{partition_exact}
use Rattle.durable_state.specs.Partitions.{is_partition}
use Rattle.std.specs.List.{AllByRecursion}
use Rattle.changes.specs.declared.Held.{Held}
use Rattle.changes.specs.declared.Mutation.{Mutation}
use Rattle.changes.specs.declared.Partition.{Partition}
use Rattle.changes.specs.declared.Query.{Query}
use Rattle.changes.specs.Contents.{Either, IsContent, IsMergeOf}
use Rattle.changes.specs.Order.{partition_cmp}
use Rattle.changes.specs.Queries.{MeetsBounds}
use Rattle.changes.specs.Shown.{IsTop}
use Rattle.change_laws.specs.Kept.{Within}
use Rattle.change_laws.proofs.Contents.{IsContent-same, IsContent-onto, Either_swap, content_is_tops}
use Rattle.change_laws.proofs.Slices.{meets_above}
use Rattle.row_change.specs.declared.entry.LogItem.{LogItem}
use Rattle.row_change.specs.declared.entry.LogItem.TheVariants.{Data, Paxos, HintAdd, HintGone, Ceiling, Mark, Purge}
use Rattle.durable_state.specs.State.{Durable, Holds, changes_of}
use Rattle.durable_state.specs.Keeping.{TakesItem}
use Rattle.durable_state.proofs.Entries.{commits_parts}
use Rattle.node_steps.specs.Replicas.{IsAnswerTo}
use Rattle.node_core.specs.Working.{IsDataAt}
use Rattle.node_core.specs.Moving.{IsBehind, IsBehindItem, AreBehind}

-- what nothing outranks, of what meets the bounds
abbrev Set : Type 1
Set = Held → Type 0

within_of : (q : Query) (S T : Set) (part s all : List Held) → ((x : Held) → Contains part x → Within q.from q.upto S x) → ((x : Held) → Within q.from q.upto S x → Contains part x) → IsContent s (Within q.from q.upto T) → IsMergeOf all part s
    → IsContent all (Within q.from q.upto (Either S T))
within_of q S T part s all to from slice merged =
    IsContent-same all (Either (Within q.from q.upto T) (Contains part)) (Within q.from q.upto (Either S T)) gather part_it
    (IsContent-onto s all (Within q.from q.upto T) (Contains part) slice
    (IsContent-same all (Either (Contains part) (Contains s)) (Either (Contains s) (Contains part)) (Either_swap (Contains part) (Contains s)) (Either_swap (Contains s) (Contains part)) merged))
  where
    gather : (x : Held) → Either (Within q.from q.upto T) (Contains part) x → Within q.from q.upto (Either S T) x
    gather x (inl h) = (inr h.0, h.1)
    gather x (inr h) = let w = to x h in (inl w.0, w.1)

    part_it : (x : Held) → Within q.from q.upto (Either S T) x → Either (Within q.from q.upto T) (Contains part) x
    part_it x (inl h, meets) = inr (from x (h, meets))
    part_it x (inr h, meets) = inl (h, meets)

top_within : (q : Query) (U : Set) (x : Held) → IsTop (Within q.from q.upto U) x → IsTop U x × MeetsBounds q.from q.upto x.place
top_within q U x ((h, meets), none) = ((h, λ y above out. none y (above, meets_above q.from q.upto y x out meets) out), meets)

within_top : (q : Query) (U : Set) (x : Held) → IsTop U x → MeetsBounds q.from q.upto x.place → IsTop (Within q.from q.upto U) x
within_top q U x (h, none) meets = ((h, meets), λ y above out. none y above.0 out)

pub part_behind : (m : Mutation) (q : Query) (part s all : List Held) → m.partition ≡ q.partition → IsContent s (Within q.from q.upto (Contains m.changes)) → IsMergeOf all part s → IsBehind m q part all
part_behind m q part s all same slice merged content content' takes answers x =
    let U : Set = Either (Holds content m.partition) (Contains m.changes) in
    let answers_m = subst (λ (p : Partition). (y : Held) → Contains part y ↔ (Holds content p y × MeetsBounds q.from q.upto y.place)) (sym same) answers in
    let of_all = content_is_tops (Within q.from q.upto U) all (within_of q (Holds content m.partition) (Contains m.changes) part s all (λ y. (answers_m y).0) (λ y. (answers_m y).1) slice merged) x in
    let of_kept = content_is_tops U takes.kept takes.merged x in
    let held = takes.held x in (
      λ h. let top = top_within q U x (of_all.0 h) in (subst (λ (p : Partition). Holds content' p x) same (held.0 (of_kept.1 top.0)), top.1),
      λ h. of_all.1 (within_top q U x (of_kept.0 (held.1 (subst (λ (p : Partition). Holds content' p x) (sym same) h.0))) h.1),
    )

pub part_beside : (m : Mutation) (q : Query) (part : List Held) → m.partition ≢ q.partition → IsBehind m q part part
part_beside m q part other content content' takes answers x =
    let same = takes.others q.partition x (λ e. other (sym e)) in
    (λ h. let a = (answers x).0 h in (same.1 a.0, a.1), λ h. (answers x).1 (same.0 h.0, h.1))

equal_at : (o : Ordering) → is_eq o ≡ true → o ≡ Equal
equal_at Less p = cc
equal_at Equal p = refl
equal_at Greater p = cc

pub same_partition : (a b : Partition) → is_partition a b ≡ true → a ≡ b
same_partition a b t = partition_exact a b (equal_at (partition_cmp a b) t)

true_false : true ≡ false → ⊥
true_false e = cc

pub other_partition : (a b : Partition) → is_partition a b ≡ false → a ≢ b
other_partition a b f same = true_false (sym (ap is_eq (subst (λ (p : Partition). partition_cmp a p ≡ Equal) same (tied_itself partition_total a))) ∙ f)

-- ---- items

pub behind_none : (q : Query) (part : List Held) → AreBehind [] q part part
behind_none q part time are d d' commits answers = subst (λ (x : Durable). IsAnswerTo (changes_of x.content) q part) (sym commits) answers

item_behind : (time : ℕ) (i : LogItem) (q : Query) (part all : List Held) (d d' : Durable) → IsDataAt time i → TakesItem i d d' → IsBehindItem i q part all → IsAnswerTo (changes_of d.content) q part → IsAnswerTo (changes_of d'.content) q all
item_behind time (Data arrival m) q part all d d' are takes behind answers = behind (changes_of d.content) (changes_of d'.content) takes.0 answers
item_behind time (Paxos p row) q part all d d' are takes behind answers = absurd are
item_behind time (HintAdd h) q part all d d' are takes behind answers = absurd are
item_behind time (HintGone peer number) q part all d d' are takes behind answers = absurd are
item_behind time (Ceiling t) q part all d d' are takes behind answers = absurd are
item_behind time (Mark m) q part all d d' are takes behind answers = absurd are
item_behind time (Purge x) q part all d d' are takes behind answers = absurd are

all_parts : {X : Type 0} (P : X → Type 0) (xs : List X) (x : X) → AllByRecursion P (xs ++ x ∷ []) → AllByRecursion P xs × P x
all_parts {X} P [] x all = (tt, all.0)
all_parts {X} P (y ∷ ys) x all = let rest = all_parts P ys x all.1 in ((all.0, rest.0), rest.1)

pub behind_more : (items : List LogItem) (i : LogItem) (q : Query) (part mid all : List Held) → AreBehind items q part mid → IsBehindItem i q mid all → AreBehind (items ++ i ∷ []) q part all
behind_more items i q part mid all first next time are d d' commits answers =
    let parts = commits_parts items (i ∷ []) d d' commits in
    let datas = all_parts (IsDataAt time) items i are in
    let rest = parts.2 in
    let at_mid = first time datas.0 d parts.0 parts.1 answers in
    subst (λ (x : Durable). IsAnswerTo (changes_of x.content) q all) (sym rest.2) (item_behind time i q mid all parts.0 rest.0 datas.1 rest.1 next at_mid)
