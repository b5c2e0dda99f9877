-- Mutations of one time, taken in together or one after another.
use Rattle.std.proofs.Common.{◌≡◌, ◌≢◌, ◌⊎◌, ◌↔◌, ℕ, inl, inr, List, [], ◌∷◌, refl, sym, ◌∙◌, ap, subst, Contains}
use Rattle.std.specs.Prelude.{map}
use Rattle.cs_base.proofs.Members.{contains_nil, contains_here, contains_there, contains_cases, contains_map, contains_from_map}
use Rattle.changes.specs.declared.Change.{Change}
use Rattle.changes.specs.declared.Held.{Held}
use Rattle.changes.specs.declared.Mutation.{Mutation}
use Rattle.changes.specs.declared.Partition.{Partition}
use Rattle.changes.specs.Contents.{Either, IsContent}
use Rattle.changes.proofs.Partitions.{same_or_apart}
use Rattle.change_laws.proofs.Contents.{IsContent-same, content_is_one, content_is_tops}
use Rattle.durable_state.specs.State.{Stored, Durable, change_of, changes_of, Holds}
use Rattle.durable_state.specs.Taking.{IsHeldOf, TakesIn, ArriveAt, IsTouched, InOne, TakesAll, HasOneArrival}
use Rattle.durable_state.specs.Keeping.{Commits}
use Rattle.durable_state.specs.Laws.{data_item, DataIsTakenTogether}
use Rattle.durable_state.proofs.Deciding.{OrNot, same_change_or_not, contains_or_not}
use Rattle.durable_state.proofs.Kept.{one_stored, arrives_one}
use Rattle.durable_state.proofs.Making.{data_made}

-- ---- contents

-- what is kept of a set and more, and is of the set, is kept of the set
kept_under : (S T : Held → Type 0) (first kept : List Held) → IsContent first S → IsContent kept (Either S T) → (x : Held) → Contains kept x → S x → Contains first x
kept_under S T first kept f h x k s =
    let top = (content_is_tops (Either S T) kept h x).0 k in
    (content_is_tops S first f x).1 (s, λ y t over. top.1 y (inl t) over)

-- the content of a set and more is that of the set's content and more
pub content_under : (S T : Held → Type 0) (first kept : List Held) → IsContent first S → IsContent kept (Either S T) → IsContent kept (Either (Contains first) T)
content_under S T first kept f h = record {
  within = λ x k. elim (h.within x k) [ inl s ↦ inl (kept_under S T first kept f h x k s) | inr t ↦ inr t ];
  reached = λ x u. elim u [ inl k ↦ h.reached x (inl (f.within x k)) | inr t ↦ h.reached x (inr t) ];
  apart = h.apart;
}

-- ---- which partitions are touched

pub touched_or_not : (ms : List Mutation) (p : Partition) → OrNot (IsTouched ms p)
touched_or_not [] p = inr (λ t. contains_nil t.0 t.1)
touched_or_not (m ∷ ms) p = elim (same_or_apart m.partition p) [
  | inl same ↦ inl (m, contains_here m ms, same)
  | inr apart ↦ elim (touched_or_not ms p) [
    | inl t ↦ inl (t.0, contains_there m ms t.0 t.1, t.2)
    | inr n ↦ inr (λ t. elim (contains_cases m ms t.0 t.1) [ inl e ↦ apart (ap (λ (v : Mutation). v.partition) e ∙ t.2) | inr later ↦ n (t.0, later, t.2) ])
  ]
]

touched_more : (m : Mutation) (ms : List Mutation) (p : Partition) → IsTouched ms p → IsTouched (m ∷ ms) p
touched_more m ms p t = (t.0, contains_there m ms t.0 t.1, t.2)

touched_apart : (m : Mutation) (ms : List Mutation) (q : Partition) → q ≢ m.partition → (IsTouched ms q → ⊥) → IsTouched (m ∷ ms) q → ⊥
touched_apart m ms q other n t = elim (contains_cases m ms t.0 t.1) [ inl e ↦ other (sym (ap (λ (v : Mutation). v.partition) e ∙ t.2)) | inr later ↦ n (t.0, later, t.2) ]

pub in_rest : (m : Mutation) (ms : List Mutation) (p : Partition) (x : Held) → InOne ms p x → InOne (m ∷ ms) p x
in_rest m ms p x h = (h.0, contains_there m ms h.0 h.1, h.2, h.3)

pub in_first : (m : Mutation) (ms : List Mutation) (x : Held) → Contains m.changes x → InOne (m ∷ ms) m.partition x
in_first m ms x k = (m, contains_here m ms, refl, k)

pub in_cases : (m : Mutation) (ms : List Mutation) (p : Partition) (x : Held) → InOne (m ∷ ms) p x → ((m.partition ≡ p) × Contains m.changes x) ⊎ InOne ms p x
in_cases m ms p x h = elim (contains_cases m ms h.0 h.1) [
  | inl e ↦ inl (ap (λ (v : Mutation). v.partition) e ∙ h.2, subst (λ (v : Mutation). Contains v.changes x) (sym e) h.3)
  | inr later ↦ inr (h.0, later, h.2, h.3)
]

-- ---- the first, and then the others together

-- what is held at first, held behind the first, and held in the end
record Middle (m : Mutation) (ms : List Mutation) (a b c : List Change) : Type 0 where
  pub first : TakesIn a m.partition m.changes b
  pub all : TakesAll a (m ∷ ms) c

-- of the first one's partition: what is kept in the end, of what was held, what came first, and what came then
record AtFirst (m : Mutation) (ms : List Mutation) (a c : List Change) : Type 0 where
  pub kept : List Held
  pub held : IsHeldOf c m.partition kept
  pub merged : IsContent kept (Either (Either (Holds a m.partition) (Contains m.changes)) (InOne ms m.partition))

at_first : (m : Mutation) (ms : List Mutation) (a b c : List Change) → Middle m ms a b c → AtFirst m ms a c
at_first m ms a b c h =
    let all = h.all.each m.partition (m, contains_here m ms, refl) in
    record {
      kept = all.0;
      held = all.1;
      merged = IsContent-same all.0 (Either (Holds a m.partition) (InOne (m ∷ ms) m.partition)) (Either (Either (Holds a m.partition) (Contains m.changes)) (InOne ms m.partition))
          (λ x u. elim u [
            | inl old ↦ inl (inl old)
            | inr came ↦ elim (in_cases m ms m.partition x came) [ inl here ↦ inl (inr here.1) | inr later ↦ inr later ]
          ])
          (λ x u. elim u [
            | inl v ↦ elim v [ inl old ↦ inl old | inr here ↦ inr (in_first m ms x here) ]
            | inr later ↦ inr (in_rest m ms m.partition x later)
          ])
          all.2;
    }

-- what is behind the first, and then of the others
abbrev Left : List Mutation → List Change → List Change → Partition → Type 0
Left ms b c p = (kept : List Held) × IsHeldOf c p kept × IsContent kept (Either (Holds b p) (InOne ms p))

left_at_first : (m : Mutation) (ms : List Mutation) (a b c : List Change) → Middle m ms a b c → Left ms b c m.partition
left_at_first m ms a b c h =
    let f = at_first m ms a b c h in (
      f.kept,
      f.held,
      IsContent-same f.kept (Either (Contains h.first.kept) (InOne ms m.partition)) (Either (Holds b m.partition) (InOne ms m.partition))
          (λ x u. elim u [ inl k ↦ inl ((h.first.held x).0 k) | inr t ↦ inr t ])
          (λ x u. elim u [ inl b ↦ inl ((h.first.held x).1 b) | inr t ↦ inr t ])
          (content_under (Either (Holds a m.partition) (Contains m.changes)) (InOne ms m.partition) h.first.kept f.kept h.first.merged f.merged),
    )

left_elsewhere : (m : Mutation) (ms : List Mutation) (a b c : List Change) → Middle m ms a b c → (p : Partition) → p ≢ m.partition → IsTouched ms p → Left ms b c p
left_elsewhere m ms a b c h p other t =
    let all = h.all.each p (touched_more m ms p t) in (
      all.0,
      all.1,
      IsContent-same all.0 (Either (Holds a p) (InOne (m ∷ ms) p)) (Either (Holds b p) (InOne ms p))
          (λ x u. elim u [
            | inl old ↦ inl ((h.first.others p x other).1 old)
            | inr came ↦ elim (in_cases m ms p x came) [ inl here ↦ absurd (other (sym here.0)) | inr later ↦ inr later ]
          ])
          (λ x u. elim u [ inl old ↦ inl ((h.first.others p x other).0 old) | inr later ↦ inr (in_rest m ms p x later) ])
          all.2,
    )

-- of the first one's partition, where no other touches it
done_at_first : (m : Mutation) (ms : List Mutation) (a b c : List Change) → Middle m ms a b c → (IsTouched ms m.partition → ⊥) → (x : Held) → Holds c m.partition x ↔ Holds b m.partition x
done_at_first m ms a b c h n x =
    let f = at_first m ms a b c h in
    let alone : IsContent f.kept (Either (Holds a m.partition) (Contains m.changes)) =
    IsContent-same f.kept (Either (Either (Holds a m.partition) (Contains m.changes)) (InOne ms m.partition)) (Either (Holds a m.partition) (Contains m.changes))
    (λ y u. elim u [ inl s ↦ s | inr t ↦ absurd (n (t.0, t.1, t.2)) ]) (λ y s. inl s) f.merged in
    let same = content_is_one (Either (Holds a m.partition) (Contains m.changes)) f.kept h.first.kept alone h.first.merged in (
      λ k. (h.first.held x).0 (same.0 x ((f.held x).1 k)),
      λ k. (f.held x).0 (same.1 x ((h.first.held x).1 k)),
    )

left_over : (m : Mutation) (ms : List Mutation) (a b c : List Change) → Middle m ms a b c → TakesAll b ms c
left_over m ms a b c h = record {
  each = λ p t. elim (same_or_apart p m.partition) [
    | inl same ↦ subst (λ (q : Partition). Left ms b c q) (sym same) (left_at_first m ms a b c h)
    | inr other ↦ left_elsewhere m ms a b c h p other t
  ];
  others = λ q x n. elim (same_or_apart q m.partition) [
    | inl same ↦
        subst (λ (r : Partition). Holds c r x ↔ Holds b r x) (sym same) (done_at_first m ms a b c h (λ t. n (subst (λ (r : Partition). IsTouched ms r) (sym same) t)) x)
    | inr other ↦
        let all = h.all.others q x (touched_apart m ms q other n) in
        let first = h.first.others q x other in
        (λ k. first.1 (all.0 k), λ k. all.1 (first.0 k))
  ];
}

-- what was held and is in the end, is behind the first
stays_middle : (m : Mutation) (ms : List Mutation) (a b c : List Change) → Middle m ms a b c → (p : Partition) (x : Held) → Holds a p x → Holds c p x → Holds b p x
stays_middle m ms a b c h p x old end = elim (same_or_apart p m.partition) [
  | inr other ↦ (h.first.others p x other).1 old
  | inl same ↦
      let f = at_first m ms a b c h in
      let end_at : Holds c m.partition x = subst (λ (r : Partition). Holds c r x) same end in
      let old_at : Holds a m.partition x = subst (λ (r : Partition). Holds a r x) same old in
      subst (λ (r : Partition). Holds b r x) (sym same)
      ((h.first.held x).0 (kept_under (Either (Holds a m.partition) (Contains m.changes)) (InOne ms m.partition) h.first.kept f.kept h.first.merged f.merged x ((f.held x).1 end_at) (inl old_at)))
]

arrive_then : (time : ℕ) (m : Mutation) (ms : List Mutation) (a b c : List Stored) → HasOneArrival a → Middle m ms (changes_of a) (changes_of b) (changes_of c) → ArriveAt time a b → ArriveAt time a c → ArriveAt time b c
arrive_then time m ms a b c one h first all x k = elim (contains_or_not same_change_or_not (changes_of b) (change_of x)) [
  | inr gone ↦
      inr (
        gone,
        elim (all x k) [
          | inl old ↦ absurd (gone (stays_middle m ms (changes_of a) (changes_of b) (changes_of c) h x.partition x.held (contains_map change_of a x old) (contains_map change_of c x k)))
          | inr (new, at) ↦ at
        ],
      )
  | inl there ↦
      let found = contains_from_map change_of b (change_of x) there in
      let s : Stored = found.0 in
      let same : change_of s ≡ change_of x = found.2 in
      let is : s ≡ x = elim (all x k) [
        | inl old ↦ elim (first s found.1) [
          | inl older ↦ one s x older old same
          | inr (new, at) ↦ absurd (new (subst (λ (v : Change). Contains (changes_of a) v) (sym same) (contains_map change_of a x old)))
        ]
        | inr (new, at) ↦ elim (first s found.1) [
          | inl older ↦ absurd (new (subst (λ (v : Change). Contains (changes_of a) v) same (contains_map change_of a s older)))
          | inr (newer, when) ↦ one_stored s x same (when ∙ sym at)
        ]
      ] in
      inl (subst (λ (v : Stored). Contains b v) is found.1)
]

-- ---- one alone

takes_alone : (m : Mutation) (a c : List Change) → TakesAll a (m ∷ []) c → TakesIn a m.partition m.changes c
takes_alone m a c all =
    let here = all.each m.partition (m, contains_here m [], refl) in
    record {
      kept = here.0;
      held = here.1;
      merged = IsContent-same here.0 (Either (Holds a m.partition) (InOne (m ∷ []) m.partition)) (Either (Holds a m.partition) (Contains m.changes))
          (λ x u. elim u [
            | inl old ↦ inl old
            | inr came ↦ elim (in_cases m [] m.partition x came) [ inl k ↦ inr k.1 | inr later ↦ absurd (contains_nil later.0 later.1) ]
          ])
          (λ x u. elim u [ inl old ↦ inl old | inr k ↦ inr (in_first m [] x k) ])
          here.2;
      others = λ q x other. all.others q x (touched_apart m [] q other (λ t. contains_nil t.0 t.1));
    }

taken : (time : ℕ) (ms : List Mutation) (m : Mutation) (d d' : Durable) → HasOneArrival d.content → TakesAll (changes_of d.content) (m ∷ ms) (changes_of d'.content) → ArriveAt time d.content d'.content
    → d' ≡ record d { content = d'.content } → Commits (map (data_item time) (m ∷ ms)) d d'
taken time [] m d d' one all arrive is = (d', (takes_alone m (changes_of d.content) (changes_of d'.content) all, arrive, is), refl)
taken time (n ∷ ms) m d d' one all arrive is =
    let made = data_made time m d.content in
    let mid : Durable = record d { content = made.0 } in
    let h : Middle m (n ∷ ms) (changes_of d.content) (changes_of made.0) (changes_of d'.content) = record { first = made.1; all = all } in (
      mid,
      (made.1, made.2, refl),
      taken time ms n mid d' (arrives_one time d.content made.0 one made.2) (left_over m (n ∷ ms) (changes_of d.content) (changes_of made.0) (changes_of d'.content) h)
          (arrive_then time m (n ∷ ms) d.content made.0 d'.content one h made.2 arrive) is,
    )

pub taken_together : DataIsTakenTogether
taken_together time m ms d d' one all arrive is = taken time ms m d d' one all arrive is
