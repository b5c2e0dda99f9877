-- What the changes among items make of what is held.
use Rattle.std.proofs.Common.{◌≡◌, ◌↔◌, ℕ, inl, inr, List, [], ◌∷◌, Contains, refl, sym, ◌∙◌, ap, subst}
use Rattle.std.specs.Prelude.{map}
use Rattle.cs_base.proofs.Members.{contains_nil, contains_here, contains_there, contains_cases, contains_filter_map}
use Rattle.changes.specs.declared.Change.{Change}
use Rattle.changes.specs.declared.Held.{Held}
use Rattle.changes.specs.declared.Mutation.{Mutation}
use Rattle.changes.specs.declared.Partition.{Partition}
use Rattle.changes.specs.Contents.{Either, IsContent}
use Rattle.changes.proofs.Partitions.{same_or_apart}
use Rattle.change_laws.proofs.Contents.{IsContent-same, IsContent-onto}
use Rattle.row_change.specs.declared.entry.LogItem.{LogItem}
use Rattle.row_change.specs.declared.entry.LogItem.TheVariants.{Data, Paxos, HintAdd, HintGone, Ceiling, Mark, Purge}
use Rattle.durable_state.specs.State.{Stored, Durable, changes_of, Holds}
use Rattle.durable_state.specs.Taking.{IsHeldOf, IsTouched, InOne, TakesIn, ArriveAt}
use Rattle.durable_state.specs.Keeping.{Commits}
use Rattle.durable_state.specs.Laws.{data_item}
use Rattle.durable_state.proofs.Together.{touched_or_not, in_rest, in_first, in_cases}
use Rattle.replica.specs.Kept.{ArriveAllAt, PurgeNothing}
use Rattle.replica.specs.Lengths.{IsOf}
use Rattle.list_replica.specs.Staging.{mutation_of, mutations}

-- ---- the changes among items

-- mutations are taken in one after another
abbrev pub TakesEach : List Mutation → List Change → List Change → Type 0
TakesEach [] a c = c ≡ a
TakesEach (m ∷ ms) a c = (b : List Change) × TakesIn a m.partition m.changes b × TakesEach ms b c

same_content : (a b : Durable) → b ≡ a → b.content ≡ a.content
same_content a b e = ap (λ (d : Durable). d.content) e

begun : (ms : List Mutation) (a b d : Durable) → b.content ≡ a.content → TakesEach ms (changes_of b.content) (changes_of d.content) → TakesEach ms (changes_of a.content) (changes_of d.content)
begun ms a b d same h = subst (λ (l : List Stored). TakesEach ms (changes_of l) (changes_of d.content)) same h

pub each_taken : (items : List LogItem) (d d' : Durable) → PurgeNothing items → Commits items d d' → TakesEach (mutations items) (changes_of d.content) (changes_of d'.content)
each_taken [] d d' calm is = ap (λ (e : Durable). changes_of e.content) is
each_taken (Data t m ∷ items) d d' calm (mid, takes, more) = (changes_of mid.content, takes.0, each_taken items mid d' calm.1 more)
each_taken (Paxos p row ∷ items) d d' calm (mid, takes, more) = begun (mutations items) d mid d' (same_content _ mid takes.1) (each_taken items mid d' calm.1 more)
each_taken (HintAdd h ∷ items) d d' calm (mid, takes, more) = begun (mutations items) d mid d' (same_content _ mid takes) (each_taken items mid d' calm.1 more)
each_taken (HintGone peer number ∷ items) d d' calm (mid, takes, more) = begun (mutations items) d mid d' (same_content _ mid takes) (each_taken items mid d' calm.1 more)
each_taken (Ceiling time ∷ items) d d' calm (mid, takes, more) = begun (mutations items) d mid d' (same_content _ mid takes) (each_taken items mid d' calm.1 more)
each_taken (Mark m ∷ items) d d' calm (mid, takes, more) = begun (mutations items) d mid d' (same_content _ mid takes) (each_taken items mid d' calm.1 more)
each_taken (Purge x ∷ items) d d' calm (mid, takes, more) = absurd calm.0

-- ---- with their time, and nothing else

-- only the contents count
commits_data : (time : ℕ) (ms : List Mutation) (a b c : Durable) → Commits (map (data_item time) ms) a b → Commits (map (data_item time) ms) (record c { content = a.content }) (record c { content = b.content })
commits_data time [] a b c is = ap (λ (d : Durable). let e : Durable = record c { content = d.content } in e) is
commits_data time (m ∷ ms) a b c (mid, takes, more) = (record c { content = mid.content }, (takes.0, takes.1, refl), commits_data time ms mid b c more)

passed : (time : ℕ) (ms : List Mutation) (d mid d' : Durable) → mid.content ≡ d.content
    → Commits (map (data_item time) ms) mid (record mid { content = d'.content }) → Commits (map (data_item time) ms) d (record d { content = d'.content })
passed time ms d mid d' same h =
    subst (λ (l : List Stored). Commits (map (data_item time) ms) (record d { content = l }) (record d { content = d'.content })) same
    (commits_data time ms mid (record mid { content = d'.content }) d h)

pub projected : (time : ℕ) (items : List LogItem) (d d' : Durable) → PurgeNothing items → ArriveAllAt time items → Commits items d d'
    → Commits (map (data_item time) (mutations items)) d (record d { content = d'.content })
projected time [] d d' calm all is = ap (λ (e : Durable). let f : Durable = record d { content = e.content } in f) is
projected time (Data t m ∷ items) d d' calm all (mid, takes, more) = (
  record d { content = mid.content },
  (takes.0, subst (λ (n : ℕ). ArriveAt n d.content mid.content) all.0 takes.1, refl),
  commits_data time (mutations items) mid (record mid { content = d'.content }) d (projected time items mid d' calm.1 all.1 more),
)
projected time (Paxos p row ∷ items) d d' calm all (mid, takes, more) = passed time (mutations items) d mid d' (same_content _ mid takes.1) (projected time items mid d' calm.1 all.1 more)
projected time (HintAdd h ∷ items) d d' calm all (mid, takes, more) = passed time (mutations items) d mid d' (same_content _ mid takes) (projected time items mid d' calm.1 all.1 more)
projected time (HintGone peer number ∷ items) d d' calm all (mid, takes, more) = passed time (mutations items) d mid d' (same_content _ mid takes) (projected time items mid d' calm.1 all.1 more)
projected time (Ceiling at ∷ items) d d' calm all (mid, takes, more) = passed time (mutations items) d mid d' (same_content _ mid takes) (projected time items mid d' calm.1 all.1 more)
projected time (Mark m ∷ items) d d' calm all (mid, takes, more) = passed time (mutations items) d mid d' (same_content _ mid takes) (projected time items mid d' calm.1 all.1 more)
projected time (Purge x ∷ items) d d' calm all (mid, takes, more) = absurd calm.0

-- ---- which partitions are touched

pub touched_of : (items : List LogItem) (p : Partition) → IsOf items p → IsTouched (mutations items) p
touched_of items p h = (h.1, contains_filter_map mutation_of items (Data h.0 h.1) h.1 h.2 refl, h.3)

-- ---- what is held of a partition in the end

untouched : (ms : List Mutation) (a c : List Change) → TakesEach ms a c → (p : Partition) (x : Held) → (IsTouched ms p → ⊥) → Holds c p x ↔ Holds a p x
untouched [] a c is p x n = (λ h. subst (λ (l : List Change). Holds l p x) is h, λ h. subst (λ (l : List Change). Holds l p x) (sym is) h)
untouched (m ∷ ms) a c (b, first, rest) p x n =
    let more = untouched ms b c rest p x (λ t. n (t.0, contains_there m ms t.0 t.1, t.2)) in
    let here = first.others p x (λ e. n (m, contains_here m ms, sym e)) in
    (λ h. here.0 (more.0 h), λ h. more.1 (here.1 h))

-- the same changes, as another list
content_as : (kept other : List Held) (S : Held → Type 0) → ((x : Held) → Contains kept x ↔ Contains other x) → IsContent other S → IsContent kept S
content_as kept other S same h = record {
  within = λ x k. h.within x ((same x).0 k);
  reached = λ x s. elim (h.reached x s) [
    | inl k ↦ inl ((same x).1 k)
    | inr (y, k, over) ↦ inr (y, (same y).1 k, over)
  ];
  apart = λ x y k l over. h.apart x y ((same x).0 k) ((same y).0 l) over;
}

-- of the first one's partition
grown_here : (m : Mutation) (ms : List Mutation) (a b c : List Change) (kept : List Held) → TakesIn a m.partition m.changes b → TakesEach ms b c
    → (IsTouched ms m.partition → IsContent kept (Either (Holds b m.partition) (InOne ms m.partition))) → IsHeldOf c m.partition kept → IsContent kept (Either (Holds a m.partition) (InOne (m ∷ ms) m.partition))
grown_here m ms a b c kept first rest later held = elim (touched_or_not ms m.partition) [
  | inl t ↦
      let onto = IsContent-onto first.kept kept (Either (Holds a m.partition) (Contains m.changes)) (InOne ms m.partition) first.merged
      (IsContent-same kept (Either (Holds b m.partition) (InOne ms m.partition)) (Either (Contains first.kept) (InOne ms m.partition))
      (λ x u. elim u [ inl h ↦ inl ((first.held x).1 h) | inr k ↦ inr k ])
      (λ x u. elim u [ inl k ↦ inl ((first.held x).0 k) | inr k ↦ inr k ])
      (later t)) in
      IsContent-same kept (Either (Either (Holds a m.partition) (Contains m.changes)) (InOne ms m.partition)) (Either (Holds a m.partition) (InOne (m ∷ ms) m.partition))
      (λ x u. elim u [ inl v ↦ elim v [ inl old ↦ inl old | inr k ↦ inr (in_first m ms x k) ] | inr k ↦ inr (in_rest m ms m.partition x k) ])
      (λ x u. elim u [ inl old ↦ inl (inl old) | inr came ↦ elim (in_cases m ms m.partition x came) [ inl k ↦ inl (inr k.1) | inr k ↦ inr k ] ])
      onto
  | inr n ↦
      IsContent-same kept (Either (Holds a m.partition) (Contains m.changes)) (Either (Holds a m.partition) (InOne (m ∷ ms) m.partition))
      (λ x u. elim u [ inl old ↦ inl old | inr k ↦ inr (in_first m ms x k) ])
      (λ x u. elim u [ inl old ↦ inl old | inr came ↦ elim (in_cases m ms m.partition x came) [ inl k ↦ inr k.1 | inr k ↦ absurd (n (k.0, k.1, k.2)) ] ])
      (content_as kept first.kept (Either (Holds a m.partition) (Contains m.changes))
      (λ x. (
        λ k. (first.held x).1 ((untouched ms b c rest m.partition x n).0 ((held x).0 k)),
        λ k. (held x).1 ((untouched ms b c rest m.partition x n).1 ((first.held x).0 k)),
      ))
      first.merged)
]

-- of a partition that mutations touch, the content of what was held and of their changes is held
pub grown : (ms : List Mutation) (a c : List Change) → TakesEach ms a c → (p : Partition) (kept : List Held) → IsTouched ms p → IsHeldOf c p kept → IsContent kept (Either (Holds a p) (InOne ms p))
grown [] a c is p kept t held = absurd (contains_nil t.0 t.1)
grown (m ∷ ms) a c (b, first, rest) p kept t held = elim (same_or_apart p m.partition) [
  | inl same ↦
      subst (λ (q : Partition). IsContent kept (Either (Holds a q) (InOne (m ∷ ms) q))) (sym same)
      (grown_here m ms a b c kept first rest (λ u. grown ms b c rest m.partition kept u (subst (λ (q : Partition). IsHeldOf c q kept) same held)) (subst (λ (q : Partition). IsHeldOf c q kept) same held))
  | inr other ↦
      let later : IsTouched ms p = elim (contains_cases m ms t.0 t.1) [
        | inl e ↦ absurd (other (sym (ap (λ (v : Mutation). v.partition) e ∙ t.2)))
        | inr k ↦ (t.0, k, t.2)
      ] in
      IsContent-same kept (Either (Holds b p) (InOne ms p)) (Either (Holds a p) (InOne (m ∷ ms) p))
      (λ x u. elim u [ inl h ↦ inl ((first.others p x other).0 h) | inr k ↦ inr (in_rest m ms p x k) ])
      (λ x u. elim u [ inl h ↦ inl ((first.others p x other).1 h) | inr came ↦ elim (in_cases m ms p x came) [ inl k ↦ absurd (other (sym k.0)) | inr k ↦ inr k ] ])
      (grown ms b c rest p kept later held)
]
