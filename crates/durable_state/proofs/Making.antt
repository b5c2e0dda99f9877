-- Each item makes some state of what is kept.
use Rattle.std.proofs.Common.{◌≡◌, ◌≢◌, ℕ, ◌⊎◌, ◌↔◌, inl, inr, Bool, true, false, Some, List, [], ◌∷◌, ◌++◌, refl, sym, ◌∙◌, ap, subst, Contains}
use Rattle.std.specs.Prelude.{map, if◌then◌else◌}
use Rattle.std.specs.Ordering.{is_eq}
use Rattle.std.proofs.lemmas.Cmp.{tied_itself}
use Rattle.std.proofs.lemmas.List.Elements.{Contains-append_left, Contains-append_right, Contains-append_cases}
use Rattle.cs_base.proofs.Members.{contains_nil, contains_here, contains_there, contains_cases, contains_map, contains_from_map}
use Rattle.changes.specs.declared.Change.{Change}
use Rattle.changes.specs.declared.Held.{Held}
use Rattle.changes.specs.declared.Mutation.{Mutation}
use Rattle.changes.specs.declared.Partition.{Partition}
use Rattle.changes.specs.Contents.{Either, AreApart, IsReachedBy, IsContent}
use Rattle.changes.specs.Order.{Outranks, partition_cmp}
use Rattle.changes.specs.Totals.{partition_total}
use Rattle.changes.proofs.Orderings.{equal_is}
use Rattle.changes.proofs.Partitions.{same_or_apart, partition_exact}
use Rattle.change_laws.proofs.Outranking.{Outranks_irrefl}
use Rattle.change_laws.proofs.Contents.{IsContent-onto, IsContent-same}
use Rattle.row_change.specs.declared.entry.LogItem.{LogItem}
use Rattle.row_change.specs.declared.entry.LogItem.TheVariants.{Data, Paxos, HintAdd, HintGone, Ceiling, Mark, Purge}
use Rattle.row_change.specs.declared.entry.PaxosRow.{PaxosRow}
use Rattle.durable_state.specs.declared.parts.RowAt.{RowAt}
use Rattle.durable_state.specs.Partitions.{is_partition}
use Rattle.durable_state.specs.State.{Stored, Durable, change_of, changes_of, row_at, Holds}
use Rattle.durable_state.specs.Taking.{TakesIn, ArriveAt, LetsGo, IsHeldOf}
use Rattle.durable_state.specs.Keeping.{SetsRow, TakesItem}
use Rattle.durable_state.specs.Laws.{EachEntryMakesAState}
use Rattle.durable_state.proofs.Deciding.{OrNot, not_or, outranks_or_not, same_held_or_not, same_change_or_not, contains_or_not, ArePicked, picks}

-- ---- contents, one change after another

reached_or_not : (kept : List Held) (x : Held) → OrNot (IsReachedBy kept x)
reached_or_not [] x = inr (λ h. elim h [ inl k ↦ contains_nil x k | inr (y, k, over) ↦ contains_nil y k ])
reached_or_not (y ∷ kept) x =
    elim (reached_or_not kept x) [
      | inl h ↦ inl (elim h [ inl k ↦ inl (contains_there y kept x k) | inr (z, k, over) ↦ inr (z, contains_there y kept z k, over) ])
      | inr n ↦ elim (outranks_or_not y x) [
        | inl over ↦ inl (inr (y, contains_here y kept, over))
        | inr under ↦ elim (same_held_or_not y x) [
          | inl same ↦ inl (inl (subst (λ (z : Held). Contains (y ∷ kept) z) same (contains_here y kept)))
          | inr other ↦ inr (λ h. elim h [
            | inl k ↦ elim (contains_cases y kept x k) [ inl e ↦ other e | inr later ↦ n (inl later) ]
            | inr (z, k, over) ↦ elim (contains_cases y kept z k) [ inl e ↦ under (subst (λ (w : Held). Outranks w x) (sym e) over) | inr later ↦ n (inr (z, later, over)) ]
          ])
        ]
      ]
    ]

-- x is there already, or under what is there
stays_content : (kept : List Held) (x : Held) → AreApart kept → IsReachedBy kept x → IsContent kept (Either (Contains kept) (λ y. x ≡ y))
stays_content kept x apart r = record {
  within = λ y k. inl k;
  reached = λ y u. elim u [ inl k ↦ inl k | inr e ↦ subst (IsReachedBy kept) e r ];
  apart = apart;
}

-- x comes to what it leaves
joins_content : (kept left : List Held) (x : Held) → AreApart kept → (IsReachedBy kept x → ⊥) → ArePicked (λ y. Outranks x y → ⊥) kept left → IsContent (x ∷ left) (Either (Contains kept) (λ y. x ≡ y))
joins_content kept left x apart free picked =
    record {
      within = λ y k. elim (contains_cases x left y k) [ inl e ↦ inr e | inr later ↦ inl ((picked y).0 later).0 ];
      reached = λ y u. elim u [
        | inl k ↦ elim (outranks_or_not x y) [
          | inl over ↦ inr (x, contains_here x left, over)
          | inr under ↦ inl (contains_there x left y ((picked y).1 (k, under)))
        ]
        | inr e ↦ inl (subst (λ (z : Held). Contains (x ∷ left) z) e (contains_here x left))
      ];
      apart = λ y z ky kz over. elim (contains_cases x left y ky) [
        | inl e ↦ elim (contains_cases x left z kz) [
          | inl f ↦ Outranks_irrefl x (subst (Outranks x) (sym f) (subst (λ (w : Held). Outranks w z) (sym e) over))
          | inr later ↦ ((picked z).0 later).1 (subst (λ (w : Held). Outranks w z) (sym e) over)
        ]
        | inr early ↦ elim (contains_cases x left z kz) [
          | inl f ↦ free (inr (y, ((picked y).0 early).0, subst (Outranks y) (sym f) over))
          | inr later ↦ apart y z ((picked y).0 early).0 ((picked z).0 later).0 over
        ]
      ];
    }

content_more : (kept : List Held) (x : Held) → AreApart kept → (new : List Held) × IsContent new (Either (Contains kept) (λ y. x ≡ y))
content_more kept x apart =
    elim (reached_or_not kept x) [
      | inl r ↦ (kept, stays_content kept x apart r)
      | inr free ↦ (let left = picks (λ y. Outranks x y → ⊥) (λ y. not_or (Outranks x y) (outranks_or_not x y)) kept in (x ∷ left.0, joins_content kept left.0 x apart free left.1))
    ]

one_more : (x : Held) (xs : List Held) (y : Held) → Either (Contains xs) (λ z. x ≡ z) y → Contains (x ∷ xs) y
one_more x xs y (inl k) = contains_there x xs y k
one_more x xs y (inr e) = subst (λ (z : Held). Contains (x ∷ xs) z) e (contains_here x xs)

one_less : (x : Held) (xs : List Held) (y : Held) → Contains (x ∷ xs) y → Either (Contains xs) (λ z. x ≡ z) y
one_less x xs y k = elim (contains_cases x xs y k) [ inl e ↦ inr e | inr later ↦ inl later ]

-- each list of changes has a content
pub content_made : (xs : List Held) → (kept : List Held) × IsContent kept (Contains xs)
content_made [] = ([], record { within = λ x k. k; reached = λ x k. absurd (contains_nil x k); apart = λ x y k. absurd (contains_nil x k) })
content_made (x ∷ xs) =
    let before : (kept : List Held) × IsContent kept (Contains xs) = content_made xs in
    let now = content_more before.0 x before.1.apart in
    (now.0, IsContent-same now.0 (Either (Contains xs) (λ z. x ≡ z)) (Contains (x ∷ xs)) (one_more x xs) (one_less x xs) (IsContent-onto before.0 now.0 (Contains xs) (λ z. x ≡ z) before.1 now.1))

-- ---- changes come to a partition

-- all that is held of a partition
pub held_made : (content : List Stored) (p : Partition) → (held : List Held) × IsHeldOf (changes_of content) p held
held_made [] p = ([], λ x. (λ k. absurd (contains_nil x k), λ h. absurd (contains_nil _ h)))
held_made (e ∷ es) p =
    let rest : (held : List Held) × IsHeldOf (changes_of es) p held = held_made es p in
    elim (same_or_apart e.partition p) [
      | inl same ↦ (
        e.held ∷ rest.0,
        λ x. (
          λ k. elim (contains_cases e.held rest.0 x k) [
            | inl f ↦ subst (λ (q : Partition). Holds (changes_of (e ∷ es)) q x) same (subst (λ (z : Held). Holds (changes_of (e ∷ es)) e.partition z) f (contains_here (change_of e) (changes_of es)))
            | inr later ↦ contains_there (change_of e) (changes_of es) _ ((rest.1 x).0 later)
          ],
          λ h. elim (contains_cases (change_of e) (changes_of es) _ h) [
            | inl f ↦ subst (λ (z : Held). Contains (e.held ∷ rest.0) z) (ap (λ (c : Change). c.held) f) (contains_here e.held rest.0)
            | inr later ↦ contains_there e.held rest.0 x ((rest.1 x).1 later)
          ],
        ),
      )
      | inr apart ↦ (
        rest.0,
        λ x. (
          λ k. contains_there (change_of e) (changes_of es) _ ((rest.1 x).0 k),
          λ h. elim (contains_cases (change_of e) (changes_of es) _ h) [
            | inl f ↦ absurd (apart (ap (λ (c : Change). c.partition) f))
            | inr later ↦ (rest.1 x).1 later
          ],
        ),
      )
    ]

abbrev stored : Partition → ℕ → Held → Stored
stored p time x = record { partition = p; held = x; arrival = time }

-- a change that is held elsewhere, or is kept
abbrev Stays : Partition → List Held → Stored → Type 0
Stays p kept s = (s.partition ≢ p) ⊎ Contains kept s.held

stays_or_not : (p : Partition) (kept : List Held) (s : Stored) → OrNot (Stays p kept s)
stays_or_not p kept s = elim (same_or_apart s.partition p) [
  | inr apart ↦ inl (inl apart)
  | inl same ↦ elim (contains_or_not same_held_or_not kept s.held) [
    | inl k ↦ inl (inr k)
    | inr n ↦ inr (λ h. elim h [ inl apart ↦ apart same | inr k ↦ n k ])
  ]
]

-- a change of a list with its partition, as one of what is stored
found : (content : List Stored) (p : Partition) (x : Held) → Holds (changes_of content) p x → (s : Stored) × Contains content s × (s.partition ≡ p) × (s.held ≡ x)
found content p x h =
    let s = contains_from_map change_of content _ h in
    (s.0, s.1, ap (λ (c : Change). c.partition) s.2, ap (λ (c : Change). c.held) s.2)

holds : (content : List Stored) (s : Stored) (p : Partition) (x : Held) → Contains content s → s.partition ≡ p → s.held ≡ x → Holds (changes_of content) p x
holds content s p x there partition held =
    subst (λ (q : Partition). Holds (changes_of content) q x) partition (subst (λ (z : Held). Holds (changes_of content) s.partition z) held (contains_map change_of content s there))

-- what is held before, what is kept of it and what comes, what stays of all partitions, and what is new
record Parts (content : List Stored) (p : Partition) (changes : List Held) : Type 0 where
  pub here : List Held
  pub held : IsHeldOf (changes_of content) p here
  pub kept : List Held
  pub merged : IsContent kept (Contains (here ++ changes))
  pub old : List Stored
  pub stays : ArePicked (Stays p kept) content old
  pub fresh : List Held
  pub comes : ArePicked (λ x. Contains here x → ⊥) kept fresh

parts_of : (content : List Stored) (p : Partition) (changes : List Held) → Parts content p changes
parts_of content p changes =
    let here : (held : List Held) × IsHeldOf (changes_of content) p held = held_made content p in
    let made : (kept : List Held) × IsContent kept (Contains (here.0 ++ changes)) = content_made (here.0 ++ changes) in
    let old = picks (Stays p made.0) (stays_or_not p made.0) content in
    let fresh = picks (λ x. Contains here.0 x → ⊥) (λ x. not_or (Contains here.0 x) (contains_or_not same_held_or_not here.0 x)) made.0 in
    record { here = here.0; held = here.1; kept = made.0; merged = made.1; old = old.0; stays = old.1; fresh = fresh.0; comes = fresh.1 }

abbrev after_of : (content : List Stored) (p : Partition) (changes : List Held) → ℕ → Parts content p changes → List Stored
after_of content p changes time a = a.old ++ map (stored p time) a.fresh

-- what is held then is what stays or is new
from_after : (content : List Stored) (p : Partition) (changes : List Held) (time : ℕ) (a : Parts content p changes) (s : Stored) → Contains (after_of content p changes time a) s
    → (Contains content s × Stays p a.kept s) ⊎ ((x : Held) × Contains a.kept x × (Contains a.here x → ⊥) × (stored p time x ≡ s))
from_after content p changes time a s k = elim (Contains-append_cases a.old (map (stored p time) a.fresh) s k) [
  | inl old ↦ inl ((a.stays s).0 old)
  | inr new ↦ inr (let x = contains_from_map (stored p time) a.fresh s new in (x.0, ((a.comes x.0).0 x.1).0, ((a.comes x.0).0 x.1).1, x.2))
]

stays_after : (content : List Stored) (p : Partition) (changes : List Held) (time : ℕ) (a : Parts content p changes) (s : Stored) → Contains content s → Stays p a.kept s → Contains (after_of content p changes time a) s
stays_after content p changes time a s k stays = Contains-append_left a.old (map (stored p time) a.fresh) s ((a.stays s).1 (k, stays))

comes_after : (content : List Stored) (p : Partition) (changes : List Held) (time : ℕ) (a : Parts content p changes) (x : Held) → Contains a.kept x → (Contains a.here x → ⊥) → Contains (after_of content p changes time a) (stored p time x)
comes_after content p changes time a x k new =
    Contains-append_right a.old (map (stored p time) a.fresh) (stored p time x) (contains_map (stored p time) a.fresh x ((a.comes x).1 (k, new)))

held_after : (content : List Stored) (p : Partition) (changes : List Held) (time : ℕ) (a : Parts content p changes) → IsHeldOf (changes_of (after_of content p changes time a)) p a.kept
held_after content p changes time a x = (
  λ k. elim (contains_or_not same_held_or_not a.here x) [
    | inl here ↦
        let s = found content p x ((a.held x).0 here) in
        holds (after_of content p changes time a) s.0 p x (stays_after content p changes time a s.0 s.1 (inr (subst (λ (z : Held). Contains a.kept z) (sym s.3) k))) s.2 s.3
    | inr new ↦ holds (after_of content p changes time a) (stored p time x) p x (comes_after content p changes time a x k new) refl refl
  ],
  λ h.
      let s = found (after_of content p changes time a) p x h in
      elim (from_after content p changes time a s.0 s.1) [
        | inl (k, stays) ↦ elim stays [ inl apart ↦ absurd (apart s.2) | inr kept ↦ subst (λ (z : Held). Contains a.kept z) s.3 kept ]
        | inr (y, k, new, is) ↦ subst (λ (z : Held). Contains a.kept z) (ap (λ (v : Stored). v.held) is ∙ s.3) k
      ],
)

merged_of : (content : List Stored) (p : Partition) (changes : List Held) (a : Parts content p changes) → IsContent a.kept (Either (Holds (changes_of content) p) (Contains changes))
merged_of content p changes a =
    IsContent-same a.kept (Contains (a.here ++ changes)) (Either (Holds (changes_of content) p) (Contains changes))
    (λ x k. elim (Contains-append_cases a.here changes x k) [ inl here ↦ inl ((a.held x).0 here) | inr new ↦ inr new ])
    (λ x u. elim u [ inl h ↦ Contains-append_left a.here changes x ((a.held x).1 h) | inr new ↦ Contains-append_right a.here changes x new ])
    a.merged

others_after : (content : List Stored) (p : Partition) (changes : List Held) (time : ℕ) (a : Parts content p changes) (q : Partition) (x : Held) → q ≢ p
    → Holds (changes_of (after_of content p changes time a)) q x ↔ Holds (changes_of content) q x
others_after content p changes time a q x other = (
  λ h.
      let s = found (after_of content p changes time a) q x h in
      elim (from_after content p changes time a s.0 s.1) [
        | inl (k, stays) ↦ holds content s.0 q x k s.2 s.3
        | inr (y, k, new, is) ↦ absurd (other (sym s.2 ∙ sym (ap (λ (v : Stored). v.partition) is)))
      ],
  λ h.
      let s = found content q x h in
      holds (after_of content p changes time a) s.0 q x (stays_after content p changes time a s.0 s.1 (inl (λ e. other (sym s.2 ∙ e)))) s.2 s.3,
)

arrived : (content : List Stored) (p : Partition) (changes : List Held) (time : ℕ) (a : Parts content p changes) → ArriveAt time content (after_of content p changes time a)
arrived content p changes time a s k = elim (from_after content p changes time a s k) [
  | inl (there, stays) ↦ inl there
  | inr (x, there, new, is) ↦
      inr (
        (λ h.
            let as_x : Holds (changes_of content) p x = subst (λ (v : Stored). Contains (changes_of content) (change_of v)) (sym is) h in
            new ((a.held x).1 as_x)),
        sym (ap (λ (v : Stored). v.arrival) is),
      )
]

pub data_made : (time : ℕ) (m : Mutation) (content : List Stored) → (content' : List Stored) × TakesIn (changes_of content) m.partition m.changes (changes_of content') × ArriveAt time content content'
data_made time m content =
    let a = parts_of content m.partition m.changes in (
      after_of content m.partition m.changes time a,
      record {
        kept = a.kept;
        held = held_after content m.partition m.changes time a;
        merged = merged_of content m.partition m.changes a;
        others = others_after content m.partition m.changes time a;
      },
      arrived content m.partition m.changes time a,
    )

-- ---- rows

is_itself : (p : Partition) → is_partition p p ≡ true
is_itself p = ap is_eq (tied_itself partition_total p)

is_no_other : (p q : Partition) → q ≢ p → is_partition p q ≡ false
is_no_other p q other = go (is_partition p q) refl
  where
    go : (t : Bool) → is_partition p q ≡ t → is_partition p q ≡ false
    go true e = absurd (other (sym (partition_exact p q (equal_is (partition_cmp p q) e))))
    go false e = e

row_made : (rows : List RowAt) (p : Partition) (row : PaxosRow) → SetsRow rows p row (record { partition = p; row = row } ∷ rows)
row_made rows p row = record {
  here = ap (λ (t : Bool). if t then Some row else row_at rows p) (is_itself p);
  others = λ q other. ap (λ (t : Bool). if t then Some row else row_at rows q) (is_no_other p q other);
}

-- ---- purges

purge_made : (content : List Stored) (x : Change) → (left : List Stored) × LetsGo content x left
purge_made content x =
    let left = picks (λ (s : Stored). change_of s ≢ x) (λ (s : Stored). not_or (change_of s ≡ x) (same_change_or_not (change_of s) x)) content in (
      left.0,
      record {
        only = λ y k. (left.1 y).0 k;
        others = λ y k. elim (same_change_or_not (change_of y) x) [ inl e ↦ inl e | inr other ↦ inr ((left.1 y).1 (k, other)) ];
      },
    )

-- ---- items

pub item_made : (i : LogItem) (d : Durable) → (d' : Durable) × TakesItem i d d'
item_made (Data time m) d = let made = data_made time m d.content in (record d { content = made.0 }, (made.1, made.2, refl))
item_made (Paxos p row) d = (record d { rows = record { partition = p; row = row } ∷ d.rows }, (row_made d.rows p row, refl))
item_made (HintAdd h) d = (_, refl)
item_made (HintGone peer number) d = (_, refl)
item_made (Ceiling time) d = (_, refl)
item_made (Mark m) d = (_, refl)
item_made (Purge x) d = let made = purge_made d.content x in (record d { content = made.0 }, (made.1, refl))

pub each_entry_makes : EachEntryMakesAState
each_entry_makes [] d = (d, refl)
each_entry_makes (i ∷ items) d =
    let first = item_made i d in
    let rest = each_entry_makes items first.0 in
    (rest.0, (first.0, first.1, rest.1))
