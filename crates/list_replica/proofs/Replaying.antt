-- What an item makes of what the entries before it made.
use Rattle.std.proofs.Common.{◌≡◌, ◌≢◌, ◌↔◌, ℕ, ◌==◌, ◌++◌, inl, inr, Bool, true, false, Some, List, [], ◌∷◌, take, Contains, refl, sym, ◌∙◌, ap, subst, eqb-true}
use Rattle.std.specs.Prelude.{map, Vec, nat_lt, if◌then◌else◌, filter, not}
use Rattle.std.specs.declared.alloc.Global.{Global}
use Rattle.std.specs.BTreeMap.{BTreeMap, get, IsOrdered}
use Rattle.std.specs.List.{AllByRecursion}
use Rattle.std.specs.List.Sorted.{IsStrictlySortedBy}
use Rattle.std.specs.Ordering.{nat_cmp}
use Rattle.std.proofs.lemmas.Bool.{eq-eqb}
use Rattle.cs_base.proofs.Members.{contains_here, contains_there, contains_cases, contains_push}
use Rattle.changes.specs.declared.Change.{Change}
use Rattle.changes.specs.declared.Held.{Held}
use Rattle.changes.specs.declared.Mutation.{Mutation}
use Rattle.changes.specs.declared.Partition.{Partition}
use Rattle.changes.specs.Contents.{Either, IsContent}
use Rattle.changes.specs.Order.{partition_cmp}
use Rattle.changes.proofs.Partitions.{same_or_apart}
use Rattle.change_laws.proofs.Contents.{IsContent-same, IsContent-onto, Either_swap}
use Rattle.row_change.specs.declared.entry.Hint.{Hint}
use Rattle.row_change.specs.declared.entry.LogEntry.{LogEntry}
use Rattle.row_change.specs.declared.entry.LogItem.{LogItem}
use Rattle.row_change.specs.declared.entry.LogItem.TheVariants.{Data, Paxos, HintAdd, HintGone, Ceiling, Purge}
use Rattle.row_change.specs.declared.entry.LogItem.TheVariants as item
use Rattle.row_change.specs.declared.entry.Mark.{Mark}
use Rattle.row_change.specs.declared.entry.PaxosRow.{PaxosRow}
use Rattle.row_change.specs.Spelling.{EntryFits}
use Rattle.commit_log.specs.Format.{AreEntries}
use Rattle.durable_state.specs.declared.parts.LastNumber.{LastNumber}
use Rattle.durable_state.specs.declared.parts.RowAt.{RowAt}
use Rattle.durable_state.specs.State.{Stored, Durable, IsSameKept, row_at, hints_of, last_of, changes_of, formatted, Holds}
use Rattle.durable_state.specs.Taking.{HasOneArrival, LetsGo, TakesIn, ArriveAt}
use Rattle.durable_state.specs.Keeping.{TakesItem, with_last, without_hint}
use Rattle.durable_state.proofs.Entries.{commits_parts}
use Rattle.durable_state.proofs.Kept.{kept_is_one, last_filter}
use Rattle.replica.specs.declared.kept.Kept.{Kept}
use Rattle.replica.specs.Kept.{IsKeptOf, IsInOrder, by_partition, by_peer}
use Rattle.list_replica.specs.declared.memtable.Memtable.{Memtable}
use Rattle.list_replica.specs.declared.replay.Replay.{Replay}
use Rattle.list_replica.specs.Keeping.{Entered, entries_of, kept_by}
use Rattle.list_replica.specs.Memtables.{kept_in, IsSound}
use Rattle.list_replica.specs.Numbers.{number_at, SetsNumber}
use Rattle.list_replica.specs.Replays.{Shows, ShowsItem, ShowsItems, replayed}
use Rattle.list_replica.specs.Rows.{row_entry, number_entry}
use Rattle.list_replica.specs.Staging.{Map}
use Rattle.list_replica.specs.Stores.{all_of, TakesData}
use Rattle.list_replica.proofs.Keeping.{kept_more, kept_none, entries_push}
use Rattle.list_replica.proofs.RowLooking.{row_looked, rows_in_order, number_looked, numbers_in_order}

marks_as : (r : Replay) (d d' : Durable) → d'.marks ≡ d.marks → ((m : Mark) → Contains r.marks.items m ↔ Contains d.marks m) → (m : Mark) → Contains r.marks.items m ↔ Contains d'.marks m
marks_as r d d' same h m = subst (λ (l : List Mark). Contains r.marks.items m ↔ Contains l m) (sym same) (h m)

-- ---- contents

-- contents that hold what the state holds
contents_show : (r : Replay) (contents : Map) (d d' : Durable) → Shows r d → IsOrdered partition_cmp contents → ((x : Stored) → Contains (all_of contents.entries) x ↔ Contains d'.content x) → HasOneArrival (all_of contents.entries)
    → d' ≡ record d { content = d'.content } → Shows (record r { contents = contents }) d'
contents_show r contents d d' s ordered content one is = record {
  ordered = ordered;
  content = content;
  one = one;
  ceiling = s.ceiling ∙ sym (ap (λ (e : Durable). e.ceiling) is);
  rows = λ p. s.rows p ∙ sym (ap (λ (e : Durable). row_at e.rows p) is);
  hints = s.hints ∙ sym (ap (λ (e : Durable). e.hints) is);
  numbers = λ peer. s.numbers peer ∙ sym (ap (λ (e : Durable). last_of e.numbers peer) is);
  marks = marks_as r d d' (ap (λ (e : Durable). e.marks) is) s.marks;
}

pub data_shows : (r : Replay) (contents : Map) (t : ℕ) (m : Mutation) → TakesData t m r.contents contents → IsOrdered partition_cmp contents → ShowsItem (Data t m) r (record r { contents = contents })
data_shows r contents t m takes ordered d d' s (took, arrive, is) =
    let from : Durable = record d { content = all_of r.contents.entries } in
    let upto : Durable = record d { content = all_of contents.entries } in
    let same : IsSameKept from d = record {
      ceiling = refl;
      content = λ x. ((s.content x).1, (s.content x).0);
      rows = λ p. refl;
      hints = λ peer. refl;
      numbers = λ peer. refl;
      marks = λ n. (λ h. h, λ h. h);
    } in
    let kept = kept_is_one (Data t m ∷ []) from d upto d' same s.one (upto, (takes.0, takes.1, refl), refl) (d', (took, arrive, is), refl) in
    contents_show r contents d d' s ordered (λ x. ((kept.0.content x).1, (kept.0.content x).0)) kept.1 is

pub purge_shows : (r : Replay) (contents : Map) (x : Change) → LetsGo (all_of r.contents.entries) x (all_of contents.entries) → IsOrdered partition_cmp contents → ShowsItem (Purge x) r (record r { contents = contents })
purge_shows r contents x goes ordered d d' s (went, is) =
    contents_show r contents d d' s ordered
    (λ y. (
      λ k. elim (went.others y ((s.content y).0 (goes.only y k).0)) [ inl e ↦ absurd ((goes.only y k).1 e) | inr k' ↦ k' ],
      λ k. elim (goes.others y ((s.content y).1 (went.only y k).0)) [ inl e ↦ absurd ((went.only y k).1 e) | inr k' ↦ k' ],
    ))
    (λ y z k l e. s.one y z (goes.only y k).0 (goes.only z l).0 e)
    is

-- ---- the others

content_as : (r : Replay) (d d' : Durable) → d'.content ≡ d.content → ((x : Stored) → Contains (all_of r.contents.entries) x ↔ Contains d.content x) → (x : Stored) → Contains (all_of r.contents.entries) x ↔ Contains d'.content x
content_as r d d' same h x = subst (λ (l : List Stored). Contains (all_of r.contents.entries) x ↔ Contains l x) (sym same) (h x)

pub row_shows : (r : Replay) (rows : BTreeMap Partition PaxosRow) (p : Partition) (row : PaxosRow) → get partition_cmp rows p ≡ Some row → ((q : Partition) → q ≢ p → get partition_cmp rows q ≡ get partition_cmp r.rows q)
    → ShowsItem (Paxos p row) r (record r { rows = rows })
row_shows r rows p row here others d d' s (sets, is) = record {
  ordered = s.ordered;
  content = content_as r d d' (ap (λ (e : Durable). e.content) is) s.content;
  one = s.one;
  ceiling = s.ceiling ∙ sym (ap (λ (e : Durable). e.ceiling) is);
  rows = λ q. elim (same_or_apart q p) [
    | inl e ↦ ap (λ (z : Partition). get partition_cmp rows z) e ∙ here ∙ sym sets.here ∙ sym (ap (λ (z : Partition). row_at d'.rows z) e)
    | inr other ↦ others q other ∙ s.rows q ∙ sym (sets.others q other)
  ];
  hints = s.hints ∙ sym (ap (λ (e : Durable). e.hints) is);
  numbers = λ peer. s.numbers peer ∙ sym (ap (λ (e : Durable). last_of e.numbers peer) is);
  marks = marks_as r d d' (ap (λ (e : Durable). e.marks) is) s.marks;
}

-- with the last number of one peer set
last_set : (ns : List LastNumber) (peer last q : ℕ) → (peer == q) ≡ false → last_of (with_last ns peer last) q ≡ last_of ns q
last_set [] peer last q other = ap (λ (t : Bool). if t then last else 0) other
last_set (n ∷ ns) peer last q other = ap (λ (t : Bool). if t then last else last_of (filter (λ (m : LastNumber). not (m.peer == peer)) (n ∷ ns)) q) other ∙ last_filter (n ∷ ns) peer q other

last_here : (ns : List LastNumber) (peer last : ℕ) → last_of (with_last ns peer last) peer ≡ last
last_here ns peer last = ap (λ (t : Bool). if t then last else last_of (filter (λ (m : LastNumber). not (m.peer == peer)) ns) peer) (eq-eqb peer peer refl)

numbers_set : (numbers numbers' : BTreeMap ℕ ℕ) (ns : List LastNumber) (peer last : ℕ) → ((q : ℕ) → number_at numbers q ≡ last_of ns q) → SetsNumber peer last numbers numbers' → (q : ℕ) → number_at numbers' q ≡ last_of (with_last ns peer last) q
numbers_set numbers numbers' ns peer last same sets q = go (peer == q) refl
  where
    go : (t : Bool) → (peer == q) ≡ t → number_at numbers' q ≡ last_of (with_last ns peer last) q
    go true e = subst (λ (k : ℕ). number_at numbers' k ≡ last_of (with_last ns peer last) k) (eqb-true peer q e) (sets.here ∙ sym (last_here ns peer last))
    go false e = sets.others q e ∙ same q ∙ sym (last_set ns peer last q e)

pub hint_shows : (r : Replay) (numbers : BTreeMap ℕ ℕ) (hints : Vec Hint Global) (h : Hint) → SetsNumber h.peer h.number r.numbers numbers → hints.items ≡ r.hints.items ++ h ∷ []
    → ShowsItem (HintAdd h) r (record r { numbers = numbers; hints = hints })
hint_shows r numbers hints h sets pushed d d' s is = record {
  ordered = s.ordered;
  content = content_as r d d' (ap (λ (e : Durable). e.content) is) s.content;
  one = s.one;
  ceiling = s.ceiling ∙ sym (ap (λ (e : Durable). e.ceiling) is);
  rows = λ p. s.rows p ∙ sym (ap (λ (e : Durable). row_at e.rows p) is);
  hints = pushed ∙ ap (λ (l : List Hint). l ++ h ∷ []) s.hints ∙ sym (ap (λ (e : Durable). e.hints) is);
  numbers = λ q. numbers_set r.numbers numbers d.numbers h.peer h.number s.numbers sets q ∙ sym (ap (λ (e : Durable). last_of e.numbers q) is);
  marks = marks_as r d d' (ap (λ (e : Durable). e.marks) is) s.marks;
}

-- where it is no more than the one that is there, or where it is set
given : (t : Bool) (ns : List LastNumber) (numbers numbers' : BTreeMap ℕ ℕ) (peer number : ℕ) → ((q : ℕ) → number_at numbers q ≡ last_of ns q)
    → SetsNumber peer (if t then number else number_at numbers peer) numbers numbers' → (q : ℕ) → number_at numbers' q ≡ last_of (if t then with_last ns peer number else ns) q
given true ns numbers numbers' peer number same sets q = numbers_set numbers numbers' ns peer number same sets q
given false ns numbers numbers' peer number same sets q = go (peer == q) refl
  where
    go : (t : Bool) → (peer == q) ≡ t → number_at numbers' q ≡ last_of ns q
    go true e = subst (λ (k : ℕ). number_at numbers' k ≡ last_of ns k) (eqb-true peer q e) (sets.here ∙ same peer)
    go false e = sets.others q e ∙ same q

pub gone_shows : (r : Replay) (numbers : BTreeMap ℕ ℕ) (hints : Vec Hint Global) (peer number : ℕ) → SetsNumber peer (if nat_lt (number_at r.numbers peer) number then number else number_at r.numbers peer) r.numbers numbers
    → hints.items ≡ without_hint r.hints.items peer number → ShowsItem (HintGone peer number) r (record r { numbers = numbers; hints = hints })
gone_shows r numbers hints peer number sets left d d' s is = record {
  ordered = s.ordered;
  content = content_as r d d' (ap (λ (e : Durable). e.content) is) s.content;
  one = s.one;
  ceiling = s.ceiling ∙ sym (ap (λ (e : Durable). e.ceiling) is);
  rows = λ p. s.rows p ∙ sym (ap (λ (e : Durable). row_at e.rows p) is);
  hints = left ∙ ap (λ (l : List Hint). without_hint l peer number) s.hints ∙ sym (ap (λ (e : Durable). e.hints) is);
  numbers = λ q.
      given (nat_lt (number_at r.numbers peer) number) d.numbers r.numbers numbers peer number s.numbers sets q
      ∙ ap (λ (n : ℕ). last_of (if nat_lt n number then with_last d.numbers peer number else d.numbers) q) (s.numbers peer)
      ∙ sym (ap (λ (e : Durable). last_of e.numbers q) is);
  marks = marks_as r d d' (ap (λ (e : Durable). e.marks) is) s.marks;
}

pub ceiling_shows : (r : Replay) (time : ℕ) → ShowsItem (Ceiling time) r (record r { ceiling = time })
ceiling_shows r time d d' s is = record {
  ordered = s.ordered;
  content = content_as r d d' (ap (λ (e : Durable). e.content) is) s.content;
  one = s.one;
  ceiling = sym (ap (λ (e : Durable). e.ceiling) is);
  rows = λ p. s.rows p ∙ sym (ap (λ (e : Durable). row_at e.rows p) is);
  hints = s.hints ∙ sym (ap (λ (e : Durable). e.hints) is);
  numbers = λ peer. s.numbers peer ∙ sym (ap (λ (e : Durable). last_of e.numbers peer) is);
  marks = marks_as r d d' (ap (λ (e : Durable). e.marks) is) s.marks;
}

pub mark_shows : (r : Replay) (marks : Vec Mark Global) (m : Mark) → marks.items ≡ r.marks.items ++ m ∷ [] → ShowsItem (item.Mark m) r (record r { marks = marks })
mark_shows r marks m pushed d d' s is = record {
  ordered = s.ordered;
  content = content_as r d d' (ap (λ (e : Durable). e.content) is) s.content;
  one = s.one;
  ceiling = s.ceiling ∙ sym (ap (λ (e : Durable). e.ceiling) is);
  rows = λ p. s.rows p ∙ sym (ap (λ (e : Durable). row_at e.rows p) is);
  hints = s.hints ∙ sym (ap (λ (e : Durable). e.hints) is);
  numbers = λ peer. s.numbers peer ∙ sym (ap (λ (e : Durable). last_of e.numbers peer) is);
  marks = λ x.
      let push = contains_push r.marks.items m x in (
        λ k. subst (λ (l : List Mark). Contains l x) (sym (ap (λ (e : Durable). e.marks) is)) (elim (push.0 (subst (λ (l : List Mark). Contains l x) pushed k)) [
          | inl old ↦ contains_there m d.marks x ((s.marks x).0 old)
          | inr e ↦ subst (λ (z : Mark). Contains (m ∷ d.marks) z) e (contains_here m d.marks)
        ]),
        λ k. subst (λ (l : List Mark). Contains l x) (sym pushed) (push.1 (elim (contains_cases m d.marks x (subst (λ (l : List Mark). Contains l x) (ap (λ (e : Durable). e.marks) is) k)) [
          | inl e ↦ inr e
          | inr old ↦ inl ((s.marks x).1 old)
        ])),
      );
}

-- ---- one after another

pub shows_none : (r : Replay) → ShowsItems [] r r
shows_none r d d' s is = subst (λ (e : Durable). Shows r e) (sym is) s

pub shows_more : (items : List LogItem) (i : LogItem) (a b c : Replay) → ShowsItems items a b → ShowsItem i b c → ShowsItems (items ++ i ∷ []) a c
shows_more items i a b c first one d d' s commits =
    let parts = commits_parts items (i ∷ []) d d' commits in
    one parts.0 d' (first d parts.0 s parts.1) (subst (λ (e : Durable). TakesItem i parts.0 e) (sym parts.2.2) parts.2.1)

-- only what is kept counts
pub shows_as : (r q : Replay) (d : Durable) → q.contents ≡ r.contents → q.ceiling ≡ r.ceiling → q.rows ≡ r.rows → q.hints ≡ r.hints → q.numbers ≡ r.numbers → q.marks ≡ r.marks → Shows r d → Shows q d
shows_as r q d e f g h i j s = record {
  ordered = subst (λ (m : Map). IsOrdered partition_cmp m) (sym e) s.ordered;
  content = subst (λ (m : Map). (x : Stored) → Contains (all_of m.entries) x ↔ Contains d.content x) (sym e) s.content;
  one = subst (λ (m : Map). HasOneArrival (all_of m.entries)) (sym e) s.one;
  ceiling = f ∙ s.ceiling;
  rows = λ p. ap (λ (m : BTreeMap Partition PaxosRow). get partition_cmp m p) g ∙ s.rows p;
  hints = ap (λ (v : Vec Hint Global). v.items) h ∙ s.hints;
  numbers = λ peer. ap (λ (m : BTreeMap ℕ ℕ). number_at m peer) i ∙ s.numbers peer;
  marks = subst (λ (v : Vec Mark Global). (m : Mark) → Contains v.items m ↔ Contains d.marks m) (sym j) s.marks;
}

-- one entry more
pub entry_shows : (r q : Replay) (es : List Entered) (e : Entered) → Shows r (kept_by es) → ShowsItems e.0.items r q → Shows q (kept_by (es ++ e ∷ []))
entry_shows r q es e s more = more (kept_by es) (kept_by (es ++ e ∷ [])) s (kept_more es e formatted)

-- what is kept beside the contents is told as lists
pub kept_of : (r : Replay) (kept : Kept) → kept.ceiling ≡ r.ceiling → kept.rows ≡ map row_entry r.rows.entries → kept.hints ≡ r.hints.items → kept.numbers ≡ map number_entry r.numbers.entries → kept.marks ≡ r.marks.items
    → (d : Durable) → Shows r d → IsKeptOf d kept
kept_of r kept e f g h i d s = record {
  ceiling = e ∙ s.ceiling;
  rows = λ p. ap (λ (l : List RowAt). row_at l p) f ∙ row_looked r.rows.entries p ∙ s.rows p;
  hints = λ peer. ap (λ (l : List Hint). hints_of l peer) (g ∙ s.hints);
  numbers = λ peer. ap (λ (l : List LastNumber). last_of l peer) h ∙ number_looked r.numbers.entries peer ∙ s.numbers peer;
  marks = λ m. subst (λ (l : List Mark). Contains l m ↔ Contains d.marks m) (sym i) (s.marks m);
}

pub in_order : (r : Replay) (kept : Kept) → kept.rows ≡ map row_entry r.rows.entries → kept.numbers ≡ map number_entry r.numbers.entries → IsOrdered partition_cmp r.rows → IsOrdered nat_cmp r.numbers → IsInOrder kept
in_order r kept f h rows numbers = record {
  rows = subst (λ (l : List RowAt). IsStrictlySortedBy by_partition l) (sym f) (rows_in_order r.rows.entries rows);
  numbers = subst (λ (l : List LastNumber). IsStrictlySortedBy by_peer l) (sym h) (numbers_in_order r.numbers.entries numbers);
}

-- ---- a load

pub begins : (r : Replay) → Shows r formatted → replayed r ≡ [] → Shows r (kept_by (replayed r))
begins r s none = subst (λ (d : Durable). Shows r d) (sym (ap kept_by none ∙ kept_none)) s

pub goes_on : (r q : Replay) (entry : LogEntry) → Shows r (kept_by (replayed r)) → ShowsItems entry.items r q → replayed q ≡ replayed r ++ (entry, tt) ∷ [] → Shows q (kept_by (replayed q))
goes_on r q entry s more e = subst (λ (es : List Entered). Shows q (kept_by es)) (sym e) (entry_shows r q (replayed r) (entry, tt) s more)

pub entries_on : (old new : List Entered) (entry : LogEntry) (front : List LogEntry) → entries_of old ≡ front → new ≡ old ++ (entry, tt) ∷ [] → entries_of new ≡ front ++ entry ∷ []
entries_on old new entry front so_far e = ap entries_of e ∙ entries_push old (entry, tt) ∙ ap (λ (l : List LogEntry). l ++ entry ∷ []) so_far

-- ---- the entries of which a log has the words

pub each_none : (words : List (List ℕ)) (es : List Entered) → es ≡ [] → AreEntries (take 0 words) (entries_of es)
each_none words es none = subst (λ (l : List Entered). AreEntries [] (entries_of l)) (sym none) tt

pub fit_none : (es : List Entered) → es ≡ [] → AllByRecursion EntryFits (entries_of es)
fit_none es none = subst (λ (l : List Entered). AllByRecursion EntryFits (entries_of l)) (sym none) tt

pub each_on : (words : List (List ℕ)) (old new : List Entered) (entry : LogEntry) → AreEntries words (entries_of old ++ entry ∷ []) → new ≡ old ++ (entry, tt) ∷ [] → AreEntries words (entries_of new)
each_on words old new entry each e = subst (λ (l : List LogEntry). AreEntries words l) (sym (entries_on old new entry (entries_of old) refl e)) each

fit_push : (es : List LogEntry) (entry : LogEntry) → AllByRecursion EntryFits es → EntryFits entry → AllByRecursion EntryFits (es ++ entry ∷ [])
fit_push [] entry fit fits = (fits, tt)
fit_push (f ∷ es) entry fit fits = (fit.0, fit_push es entry fit.1 fits)

pub fit_on : (old new : List Entered) (entry : LogEntry) → AllByRecursion EntryFits (entries_of old) → EntryFits entry → new ≡ old ++ (entry, tt) ∷ [] → AllByRecursion EntryFits (entries_of new)
fit_on old new entry fit fits e =
    subst (λ (l : List LogEntry). AllByRecursion EntryFits l) (sym (entries_on old new entry (entries_of old) refl e)) (fit_push (entries_of old) entry fit fits)

-- where only the entries are others
pub items_from : (r r' q : Replay) (items : List LogItem) → r'.contents ≡ r.contents → r'.ceiling ≡ r.ceiling → r'.rows ≡ r.rows → r'.hints ≡ r.hints → r'.numbers ≡ r.numbers → r'.marks ≡ r.marks → ShowsItems items r' q → ShowsItems items r q
items_from r r' q items e f g h i j more d d' s commits = more d d' (shows_as r r' d e f g h i j s) commits

pub sound_from : (r : Replay) (m : Memtable) → IsOrdered partition_cmp m.contents → all_of m.contents.entries ≡ all_of r.contents.entries → m.committed.items ≡ replayed r → Shows r (kept_by (replayed r)) → IsSound m
sound_from r m ordered e f s = record {
  ordered = ordered;
  content = λ x.
      subst (λ (es : List Entered). Contains (all_of m.contents.entries) x ↔ Contains (kept_by es).content x) (sym f)
      (subst (λ (l : List Stored). Contains l x ↔ Contains (kept_by (replayed r)).content x) (sym e) (s.content x));
}

pub kept_from_all : (r : Replay) (m : Memtable) (kept : Kept) → m.committed.items ≡ replayed r → Shows r (kept_by (replayed r)) → ((d : Durable) → Shows r d → IsKeptOf d kept) → IsKeptOf (kept_in m) kept
kept_from_all r m kept f s all = subst (λ (es : List Entered). IsKeptOf (kept_by es) kept) (sym f) (all (kept_by (replayed r)) s)

-- ---- data

pub takes_data : (m n : Map) (time : ℕ) (p : Partition) (changes incoming : List Held) → IsContent incoming (Contains changes)
    → TakesIn (changes_of (all_of m.entries)) p incoming (changes_of (all_of n.entries)) → TakesIn (changes_of (all_of m.entries)) p changes (changes_of (all_of n.entries))
takes_data m n time p changes incoming content takes =
    let was : Held → Type 0 = Holds (changes_of (all_of m.entries)) p in
    let swapped : IsContent takes.kept (Either (Contains incoming) was) = IsContent-same takes.kept (Either was (Contains incoming)) (Either (Contains incoming) was) (Either_swap was (Contains incoming)) (Either_swap (Contains incoming) was) takes.merged in
    let onto : IsContent takes.kept (Either (Contains changes) was) = IsContent-onto incoming takes.kept (Contains changes) was content swapped in
    record {
      kept = takes.kept;
      held = takes.held;
      merged = IsContent-same takes.kept (Either (Contains changes) was) (Either was (Contains changes)) (Either_swap (Contains changes) was) (Either_swap was (Contains changes)) onto;
      others = takes.others;
    }

pub data_taken : (old mid new : Map) (time : ℕ) (m : Mutation) (incoming changes : List Held) → all_of mid.entries ≡ all_of old.entries → changes ≡ m.changes → IsContent incoming (Contains changes)
    → TakesIn (changes_of (all_of mid.entries)) m.partition incoming (changes_of (all_of new.entries)) → ArriveAt time (all_of mid.entries) (all_of new.entries) → TakesData time m old new
data_taken old mid new time m incoming changes same is content takes arrive = (
  subst (λ (l : List Stored). TakesIn (changes_of l) m.partition m.changes (changes_of (all_of new.entries))) same
      (subst (λ (l : List Held). TakesIn (changes_of (all_of mid.entries)) m.partition l (changes_of (all_of new.entries))) is (takes_data mid new time m.partition changes incoming content takes)),
  subst (λ (l : List Stored). ArriveAt time l (all_of new.entries)) same arrive,
)
