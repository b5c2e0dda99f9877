-- Items one after another make one state of what is kept, but for its order.
use Rattle.std.proofs.Common.{◌≡◌, ◌↔◌, ℕ, ◌==◌, Bool, true, false, inl, inr, List, [], ◌∷◌, ◌++◌, refl, sym, ap, subst, ◌∙◌, Contains, eqb-true}
use Rattle.std.specs.Prelude.{filter, not, nat_lt, ◌&&◌, if◌then◌else◌}
use Rattle.std.proofs.lemmas.List.Elements.{filter-append}
use Rattle.cs_base.proofs.Members.{contains_map, contains_from_map, contains_here, contains_there, contains_cases}
use Rattle.changes.specs.declared.Partition.{Partition}
use Rattle.changes.specs.declared.Held.{Held}
use Rattle.changes.specs.declared.Change.{Change}
use Rattle.changes.specs.Contents.{Either, IsContent}
use Rattle.changes.proofs.Partitions.{same_or_apart}
use Rattle.change_laws.proofs.Contents.{IsContent-same, content_is_one}
use Rattle.row_change.specs.declared.entry.Hint.{Hint}
use Rattle.row_change.specs.declared.entry.LogItem.{LogItem}
use Rattle.row_change.specs.declared.entry.LogItem.TheVariants.{Data, Paxos, HintAdd, HintGone, Ceiling, Purge}
use Rattle.row_change.specs.declared.entry.LogItem.TheVariants as item
use Rattle.row_change.specs.declared.entry.Mark.{Mark}
use Rattle.durable_state.specs.declared.parts.LastNumber.{LastNumber}
use Rattle.durable_state.specs.declared.parts.RowAt.{RowAt}
use Rattle.durable_state.specs.State.{Stored, Durable, change_of, changes_of, row_at, last_of, hints_of, Holds, IsSameKept}
use Rattle.durable_state.specs.Taking.{TakesIn, ArriveAt, HasOneArrival}
use Rattle.durable_state.specs.Keeping.{without_hint, with_last, with_given, TakesItem, Commits}

-- the one holds what the other holds
abbrev HasAll : List Change → List Change → Type 0
HasAll a b = (p : Partition) (x : Held) → Holds a p x → Holds b p x

-- ---- the changes held

takes_same : (a b a' b' : List Change) (p : Partition) (ms : List Held) → HasAll a b → HasAll b a → TakesIn a p ms a' → TakesIn b p ms b' → HasAll a' b'
takes_same a b a' b' p ms to back s t q x h = elim (same_or_apart q p) [
  | inl same ↦
      let turned : IsContent t.kept (Either (Holds a p) (Contains ms)) =
      IsContent-same t.kept (Either (Holds b p) (Contains ms)) (Either (Holds a p) (Contains ms)) (λ y u. elim u [ inl l ↦ inl (back p y l) | inr r ↦ inr r ]) (λ y u. elim u [ inl l ↦ inl (to p y l) | inr r ↦ inr r ]) t.merged in
      let here : Contains s.kept x = (s.held x).1 (subst (λ (r : Partition). Holds a' r x) same h) in
      subst (λ (r : Partition). Holds b' r x) (sym same) ((t.held x).0 ((content_is_one (Either (Holds a p) (Contains ms)) s.kept t.kept s.merged turned).0 x here))
  | inr other ↦ (t.others q x other).1 (to q x ((s.others q x other).0 h))
]

-- ---- with their arrivals

same_changes : (a b : List Stored) → ((x : Stored) → Contains a x → Contains b x) → HasAll (changes_of a) (changes_of b)
same_changes a b to p x h = let y = contains_from_map change_of a _ h in subst (λ (z : Change). Contains (changes_of b) z) y.2 (contains_map change_of b y.0 (to y.0 y.1))

pub one_stored : (x y : Stored) → change_of x ≡ change_of y → x.arrival ≡ y.arrival → x ≡ y
one_stored x y change arrival =
    ap (λ (z : Change). let w : Stored = record { partition = z.partition; held = z.held; arrival = x.arrival } in w) change
    ∙ ap (λ (n : ℕ). let w : Stored = record { partition = y.partition; held = y.held; arrival = n } in w) arrival

there_as : (a : List Stored) (x y : Stored) → change_of x ≡ change_of y → Contains a x → Contains (changes_of a) (change_of y)
there_as a x y same h = subst (λ (z : Change). Contains (changes_of a) z) same (contains_map change_of a x h)

arrives_same : (t : ℕ) (a b a' b' : List Stored) → ((x : Stored) → Contains b x → Contains a x) → ((x : Stored) → Contains a x → Contains b x) → HasOneArrival a → ArriveAt t a a' → ArriveAt t b b' → HasAll (changes_of a') (changes_of b') → (x : Stored)
    → Contains a' x → Contains b' x
arrives_same t a b a' b' back to one s r changes x h =
    let found = contains_from_map change_of b' (change_of x) (changes x.partition x.held (contains_map change_of a' x h)) in
    let y : Stored = found.0 in
    let same : change_of y ≡ change_of x = found.2 in
    let is : y ≡ x = elim (s x h) [
      | inl old ↦ elim (r y found.1) [
        | inl older ↦ one y x (back y older) old same
        | inr (new, at) ↦ absurd (new (there_as b x y (sym same) (to x old)))
      ]
      | inr (new, at) ↦ elim (r y found.1) [
        | inl older ↦ absurd (new (there_as a y x same (back y older)))
        | inr (newer, there) ↦ one_stored y x same (there ∙ sym at)
      ]
    ] in
    subst (λ (z : Stored). Contains b' z) is found.1

pub arrives_one : (t : ℕ) (a a' : List Stored) → HasOneArrival a → ArriveAt t a a' → HasOneArrival a'
arrives_one t a a' one s x y h k same = elim (s x h) [
  | inl old ↦ elim (s y k) [
    | inl older ↦ one x y old older same
    | inr (new, at) ↦ absurd (new (there_as a x y same old))
  ]
  | inr (new, at) ↦ elim (s y k) [
    | inl older ↦ absurd (new (there_as a y x (sym same) older))
    | inr (newer, there) ↦ one_stored x y same (at ∙ sym there)
  ]
]

one_on : (a b : Durable) → IsSameKept a b → HasOneArrival a.content → HasOneArrival b.content
one_on a b same one x y h k change = one x y ((same.content x).0 h) ((same.content y).0 k) change

-- ---- hints and their numbers

pub last_filter : (ns : List LastNumber) (peer q : ℕ) → (peer == q) ≡ false → last_of (filter (λ (n : LastNumber). not (n.peer == peer)) ns) q ≡ last_of ns q
last_filter [] peer q e = refl
last_filter (m ∷ ns) peer q e = go (last_filter ns peer q e) (m.peer == peer) refl
  where
    go : last_of (filter (λ (n : LastNumber). not (n.peer == peer)) ns) q ≡ last_of ns q → (t : Bool) → (m.peer == peer) ≡ t → last_of (if not t then m ∷ filter (λ (n : LastNumber). not (n.peer == peer)) ns else filter (λ (n : LastNumber). not (n.peer == peer)) ns) q ≡ last_of (m ∷ ns) q
    go rest true h = rest ∙ sym (ap (λ (b : Bool). if b then m.last else last_of ns q) (ap (λ (k : ℕ). k == q) (eqb-true m.peer peer h) ∙ e))
    go rest false h = ap (λ (z : ℕ). if m.peer == q then m.last else z) rest

pub last_with : (ns ms : List LastNumber) (peer number q : ℕ) → last_of ns q ≡ last_of ms q → last_of (with_last ns peer number) q ≡ last_of (with_last ms peer number) q
last_with ns ms peer number q same = go (peer == q) refl
  where
    go : (t : Bool) → (peer == q) ≡ t
        → (if t then number else last_of (filter (λ (n : LastNumber). not (n.peer == peer)) ns) q) ≡ (if t then number else last_of (filter (λ (n : LastNumber). not (n.peer == peer)) ms) q)
    go true h = refl
    go false h = last_filter ns peer q h ∙ same ∙ sym (last_filter ms peer q h)

filter_filter : {X : Type 0} (f g : X → Bool) (xs : List X) → filter f (filter g xs) ≡ filter g (filter f xs)
filter_filter f g [] = refl
filter_filter {X} f g (x ∷ xs) = go (filter_filter f g xs) (f x) (g x) refl refl
  where
    go : filter f (filter g xs) ≡ filter g (filter f xs) → (t u : Bool) → f x ≡ t → g x ≡ u → filter f (if u then x ∷ filter g xs else filter g xs) ≡ filter g (if t then x ∷ filter f xs else filter f xs)
    go rest true true a b = ap (λ (z : Bool). if z then x ∷ filter f (filter g xs) else filter f (filter g xs)) a ∙ ap (λ (zs : List X). x ∷ zs) rest ∙ sym (ap (λ (z : Bool). if z then x ∷ filter g (filter f xs) else filter g (filter f xs)) b)
    go rest true false a b = rest ∙ sym (ap (λ (z : Bool). if z then x ∷ filter g (filter f xs) else filter g (filter f xs)) b)
    go rest false true a b = ap (λ (z : Bool). if z then x ∷ filter f (filter g xs) else filter f (filter g xs)) a ∙ rest
    go rest false false a b = rest

pub hints_without : (xs ys : List Hint) (peer number q : ℕ) → hints_of xs q ≡ hints_of ys q → hints_of (without_hint xs peer number) q ≡ hints_of (without_hint ys peer number) q
hints_without xs ys peer number q same =
    filter_filter (λ (h : Hint). h.peer == q) (λ (h : Hint). not ((h.peer == peer) && (h.number == number))) xs
    ∙ ap (λ (zs : List Hint). without_hint zs peer number) same
    ∙ sym (filter_filter (λ (h : Hint). h.peer == q) (λ (h : Hint). not ((h.peer == peer) && (h.number == number))) ys)

pub hints_with : (xs ys : List Hint) (h : Hint) (q : ℕ) → hints_of xs q ≡ hints_of ys q → hints_of (xs ++ h ∷ []) q ≡ hints_of (ys ++ h ∷ []) q
hints_with xs ys h q same =
    filter-append (λ (x : Hint). x.peer == q) xs (h ∷ []) ∙ ap (λ (zs : List Hint). zs ++ hints_of (h ∷ []) q) same ∙ sym (filter-append (λ (x : Hint). x.peer == q) ys (h ∷ []))

pub last_given : (ns ms : List LastNumber) (peer number q : ℕ) → ((k : ℕ) → last_of ns k ≡ last_of ms k) → last_of (with_given ns peer number) q ≡ last_of (with_given ms peer number) q
last_given ns ms peer number q same = go (nat_lt (last_of ns peer) number) (nat_lt (last_of ms peer) number) (ap (λ (n : ℕ). nat_lt n number) (same peer))
  where
    go : (t u : Bool) → t ≡ u → last_of (if t then with_last ns peer number else ns) q ≡ last_of (if u then with_last ms peer number else ms) q
    go true true e = last_with ns ms peer number q (same q)
    go false false e = same q
    go true false e = cc
    go false true e = cc

-- ---- field by field

keep_ceiling : (a b a' b' : Durable) → IsSameKept a b → a'.ceiling ≡ a.ceiling → b'.ceiling ≡ b.ceiling → b'.ceiling ≡ a'.ceiling
keep_ceiling a b a' b' same e f = f ∙ same.ceiling ∙ sym e

keep_content : (a b a' b' : Durable) → IsSameKept a b → a'.content ≡ a.content → b'.content ≡ b.content → (x : Stored) → Contains b'.content x ↔ Contains a'.content x
keep_content a b a' b' same e f x = (
  λ h. subst (λ (xs : List Stored). Contains xs x) (sym e) ((same.content x).0 (subst (λ (xs : List Stored). Contains xs x) f h)),
  λ h. subst (λ (xs : List Stored). Contains xs x) (sym f) ((same.content x).1 (subst (λ (xs : List Stored). Contains xs x) e h)),
)

keep_rows : (a b a' b' : Durable) → IsSameKept a b → a'.rows ≡ a.rows → b'.rows ≡ b.rows → (p : Partition) → row_at b'.rows p ≡ row_at a'.rows p
keep_rows a b a' b' same e f p = ap (λ (rs : List RowAt). row_at rs p) f ∙ same.rows p ∙ sym (ap (λ (rs : List RowAt). row_at rs p) e)

keep_hints : (a b a' b' : Durable) → IsSameKept a b → a'.hints ≡ a.hints → b'.hints ≡ b.hints → (q : ℕ) → hints_of b'.hints q ≡ hints_of a'.hints q
keep_hints a b a' b' same e f q = ap (λ (hs : List Hint). hints_of hs q) f ∙ same.hints q ∙ sym (ap (λ (hs : List Hint). hints_of hs q) e)

keep_numbers : (a b a' b' : Durable) → IsSameKept a b → a'.numbers ≡ a.numbers → b'.numbers ≡ b.numbers → (q : ℕ) → last_of b'.numbers q ≡ last_of a'.numbers q
keep_numbers a b a' b' same e f q = ap (λ (ns : List LastNumber). last_of ns q) f ∙ same.numbers q ∙ sym (ap (λ (ns : List LastNumber). last_of ns q) e)

keep_marks : (a b a' b' : Durable) → IsSameKept a b → a'.marks ≡ a.marks → b'.marks ≡ b.marks → (x : Mark) → Contains b'.marks x ↔ Contains a'.marks x
keep_marks a b a' b' same e f x = (
  λ h. subst (λ (xs : List Mark). Contains xs x) (sym e) ((same.marks x).0 (subst (λ (xs : List Mark). Contains xs x) f h)),
  λ h. subst (λ (xs : List Mark). Contains xs x) (sym f) ((same.marks x).1 (subst (λ (xs : List Mark). Contains xs x) e h)),
)

more_marks : (m : Mark) (xs ys : List Mark) → ((x : Mark) → Contains xs x → Contains ys x) → (x : Mark) → Contains (m ∷ xs) x → Contains (m ∷ ys) x
more_marks m xs ys to x h = elim (contains_cases m xs x h) [
  | inl here ↦ subst (λ (z : Mark). Contains (m ∷ ys) z) here (contains_here m ys)
  | inr rest ↦ contains_there m ys x (to x rest)
]

one_still : (a a' : List Stored) → a' ≡ a → HasOneArrival a → HasOneArrival a'
one_still a a' e one = subst (λ (xs : List Stored). HasOneArrival xs) (sym e) one

item_same : (i : LogItem) (a b a' b' : Durable) → IsSameKept a b → HasOneArrival a.content → TakesItem i a a' → TakesItem i b b' → IsSameKept a' b' × HasOneArrival a'.content
item_same (Data t m) a b a' b' same one (takes, arrive, is) (takes_b, arrive_b, is_b) =
    let to : (x : Stored) → Contains a.content x → Contains b.content x = λ x h. (same.content x).1 h in
    let back : (x : Stored) → Contains b.content x → Contains a.content x = λ x h. (same.content x).0 h in
    let there = same_changes a.content b.content to in
    let here = same_changes b.content a.content back in (
      record {
        ceiling = keep_ceiling a b a' b' same (ap (λ (d : Durable). d.ceiling) is) (ap (λ (d : Durable). d.ceiling) is_b);
        content = λ x. (
          arrives_same t b.content a.content b'.content a'.content to back (one_on a b same one) arrive_b arrive (takes_same _ _ _ _ m.partition m.changes here there takes_b takes) x,
          arrives_same t a.content b.content a'.content b'.content back to one arrive arrive_b (takes_same _ _ _ _ m.partition m.changes there here takes takes_b) x,
        );
        rows = keep_rows a b a' b' same (ap (λ (d : Durable). d.rows) is) (ap (λ (d : Durable). d.rows) is_b);
        hints = keep_hints a b a' b' same (ap (λ (d : Durable). d.hints) is) (ap (λ (d : Durable). d.hints) is_b);
        numbers = keep_numbers a b a' b' same (ap (λ (d : Durable). d.numbers) is) (ap (λ (d : Durable). d.numbers) is_b);
        marks = keep_marks a b a' b' same (ap (λ (d : Durable). d.marks) is) (ap (λ (d : Durable). d.marks) is_b);
      },
      arrives_one t a.content a'.content one arrive,
    )
item_same (Paxos p row) a b a' b' same one (sets, is) (sets_b, is_b) = (
  record {
    ceiling = keep_ceiling a b a' b' same (ap (λ (d : Durable). d.ceiling) is) (ap (λ (d : Durable). d.ceiling) is_b);
    content = keep_content a b a' b' same (ap (λ (d : Durable). d.content) is) (ap (λ (d : Durable). d.content) is_b);
    rows = λ q. elim (same_or_apart q p) [
      | inl e ↦ ap (λ (z : Partition). row_at b'.rows z) e ∙ sets_b.here ∙ sym sets.here ∙ sym (ap (λ (z : Partition). row_at a'.rows z) e)
      | inr ne ↦ sets_b.others q ne ∙ same.rows q ∙ sym (sets.others q ne)
    ];
    hints = keep_hints a b a' b' same (ap (λ (d : Durable). d.hints) is) (ap (λ (d : Durable). d.hints) is_b);
    numbers = keep_numbers a b a' b' same (ap (λ (d : Durable). d.numbers) is) (ap (λ (d : Durable). d.numbers) is_b);
    marks = keep_marks a b a' b' same (ap (λ (d : Durable). d.marks) is) (ap (λ (d : Durable). d.marks) is_b);
  },
  one_still a.content a'.content (ap (λ (d : Durable). d.content) is) one,
)
item_same (HintAdd h) a b a' b' same one is is_b = (
  record {
    ceiling = keep_ceiling a b a' b' same (ap (λ (d : Durable). d.ceiling) is) (ap (λ (d : Durable). d.ceiling) is_b);
    content = keep_content a b a' b' same (ap (λ (d : Durable). d.content) is) (ap (λ (d : Durable). d.content) is_b);
    rows = keep_rows a b a' b' same (ap (λ (d : Durable). d.rows) is) (ap (λ (d : Durable). d.rows) is_b);
    hints = λ q. ap (λ (d : Durable). hints_of d.hints q) is_b ∙ hints_with b.hints a.hints h q (same.hints q) ∙ sym (ap (λ (d : Durable). hints_of d.hints q) is);
    numbers = λ q. ap (λ (d : Durable). last_of d.numbers q) is_b ∙ last_with b.numbers a.numbers h.peer h.number q (same.numbers q) ∙ sym (ap (λ (d : Durable). last_of d.numbers q) is);
    marks = keep_marks a b a' b' same (ap (λ (d : Durable). d.marks) is) (ap (λ (d : Durable). d.marks) is_b);
  },
  one_still a.content a'.content (ap (λ (d : Durable). d.content) is) one,
)
item_same (HintGone peer number) a b a' b' same one is is_b = (
  record {
    ceiling = keep_ceiling a b a' b' same (ap (λ (d : Durable). d.ceiling) is) (ap (λ (d : Durable). d.ceiling) is_b);
    content = keep_content a b a' b' same (ap (λ (d : Durable). d.content) is) (ap (λ (d : Durable). d.content) is_b);
    rows = keep_rows a b a' b' same (ap (λ (d : Durable). d.rows) is) (ap (λ (d : Durable). d.rows) is_b);
    hints = λ q. ap (λ (d : Durable). hints_of d.hints q) is_b ∙ hints_without b.hints a.hints peer number q (same.hints q) ∙ sym (ap (λ (d : Durable). hints_of d.hints q) is);
    numbers = λ q. ap (λ (d : Durable). last_of d.numbers q) is_b ∙ last_given b.numbers a.numbers peer number q same.numbers ∙ sym (ap (λ (d : Durable). last_of d.numbers q) is);
    marks = keep_marks a b a' b' same (ap (λ (d : Durable). d.marks) is) (ap (λ (d : Durable). d.marks) is_b);
  },
  one_still a.content a'.content (ap (λ (d : Durable). d.content) is) one,
)
item_same (Ceiling t) a b a' b' same one is is_b = (
  record {
    ceiling = ap (λ (d : Durable). d.ceiling) is_b ∙ sym (ap (λ (d : Durable). d.ceiling) is);
    content = keep_content a b a' b' same (ap (λ (d : Durable). d.content) is) (ap (λ (d : Durable). d.content) is_b);
    rows = keep_rows a b a' b' same (ap (λ (d : Durable). d.rows) is) (ap (λ (d : Durable). d.rows) is_b);
    hints = keep_hints a b a' b' same (ap (λ (d : Durable). d.hints) is) (ap (λ (d : Durable). d.hints) is_b);
    numbers = keep_numbers a b a' b' same (ap (λ (d : Durable). d.numbers) is) (ap (λ (d : Durable). d.numbers) is_b);
    marks = keep_marks a b a' b' same (ap (λ (d : Durable). d.marks) is) (ap (λ (d : Durable). d.marks) is_b);
  },
  one_still a.content a'.content (ap (λ (d : Durable). d.content) is) one,
)
item_same (item.Mark m) a b a' b' same one is is_b = (
  record {
    ceiling = keep_ceiling a b a' b' same (ap (λ (d : Durable). d.ceiling) is) (ap (λ (d : Durable). d.ceiling) is_b);
    content = keep_content a b a' b' same (ap (λ (d : Durable). d.content) is) (ap (λ (d : Durable). d.content) is_b);
    rows = keep_rows a b a' b' same (ap (λ (d : Durable). d.rows) is) (ap (λ (d : Durable). d.rows) is_b);
    hints = keep_hints a b a' b' same (ap (λ (d : Durable). d.hints) is) (ap (λ (d : Durable). d.hints) is_b);
    numbers = keep_numbers a b a' b' same (ap (λ (d : Durable). d.numbers) is) (ap (λ (d : Durable). d.numbers) is_b);
    marks = λ x. (
      λ h. subst (λ (xs : List Mark). Contains xs x) (sym (ap (λ (d : Durable). d.marks) is)) (more_marks m b.marks a.marks (λ y k. (same.marks y).0 k) x (subst (λ (xs : List Mark). Contains xs x) (ap (λ (d : Durable). d.marks) is_b) h)),
      λ h. subst (λ (xs : List Mark). Contains xs x) (sym (ap (λ (d : Durable). d.marks) is_b)) (more_marks m a.marks b.marks (λ y k. (same.marks y).1 k) x (subst (λ (xs : List Mark). Contains xs x) (ap (λ (d : Durable). d.marks) is) h)),
    );
  },
  one_still a.content a'.content (ap (λ (d : Durable). d.content) is) one,
)
item_same (Purge x) a b a' b' same one (goes, is) (goes_b, is_b) = (
  record {
    ceiling = keep_ceiling a b a' b' same (ap (λ (d : Durable). d.ceiling) is) (ap (λ (d : Durable). d.ceiling) is_b);
    content = λ y. (
      λ h. elim (goes.others y ((same.content y).0 (goes_b.only y h).0)) [ inl e ↦ absurd ((goes_b.only y h).1 e) | inr r ↦ r ],
      λ h. elim (goes_b.others y ((same.content y).1 (goes.only y h).0)) [ inl e ↦ absurd ((goes.only y h).1 e) | inr r ↦ r ],
    );
    rows = keep_rows a b a' b' same (ap (λ (d : Durable). d.rows) is) (ap (λ (d : Durable). d.rows) is_b);
    hints = keep_hints a b a' b' same (ap (λ (d : Durable). d.hints) is) (ap (λ (d : Durable). d.hints) is_b);
    numbers = keep_numbers a b a' b' same (ap (λ (d : Durable). d.numbers) is) (ap (λ (d : Durable). d.numbers) is_b);
    marks = keep_marks a b a' b' same (ap (λ (d : Durable). d.marks) is) (ap (λ (d : Durable). d.marks) is_b);
  },
  λ u v h k e. one u v (goes.only u h).0 (goes.only v k).0 e,
)

pub kept_is_one : (items : List LogItem) (a b a' b' : Durable) → IsSameKept a b → HasOneArrival a.content → Commits items a a' → Commits items b b' → IsSameKept a' b' × HasOneArrival a'.content
kept_is_one [] a b a' b' same one is is_b = (subst (λ (d : Durable). IsSameKept d b') (sym is) (subst (λ (d : Durable). IsSameKept a d) (sym is_b) same), subst (λ (d : Durable). HasOneArrival d.content) (sym is) one)
kept_is_one (x ∷ xs) a b a' b' same one (mid, takes, more) (mid_b, takes_b, more_b) =
    let first = item_same x a b mid mid_b same one takes takes_b in
    kept_is_one xs mid mid_b a' b' first.0 first.1 more more_b
