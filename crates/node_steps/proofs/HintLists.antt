-- Hints that come and go, one after another, and what a log's items make of them.
use Rattle.std.proofs.Common.{◌≡◌, ℕ, ◌≤◌, ◌<◌, inl, inr, Bool, true, false, List, [], ◌∷◌, ◌++◌, append-nil, filter, refl, sym, ap, subst, ◌∙◌, arith, Contains}
use Rattle.std.specs.Prelude.{◌==◌, ◌&&◌, not, nat_lt, if◌then◌else◌, map}
use Rattle.std.proofs.lemmas.Bool.{and_parts, cases_Bool, eq-eqb, eqb-true, ltb-true, ltb-false, not-true}
use Rattle.std.proofs.lemmas.List.Elements.{Contains-append_cases}
use Rattle.cs_base.proofs.Members.{contains_nil, contains_cases, contains_here, contains_there}
use Rattle.changes.specs.declared.Mutation.{Mutation}
use Rattle.row_change.specs.declared.entry.Hint as hint
use Rattle.durable_state.specs.declared.parts.LastNumber.{LastNumber}
use Rattle.durable_state.specs.State.{Durable, last_of}
use Rattle.durable_state.specs.Keeping.{Commits, without_hint, with_last, with_given}
use Rattle.durable_state.proofs.Entries.{commits_both, commits_parts}
use Rattle.node_steps.specs.Hints.{KeptHints, is_full, next_hint, with_hint, push_hint, pushed_hint, push_hints, pushed_hints, is_kept, drop_hint}
use Rattle.node_steps.specs.Keeping.{Gone, gone_if_kept, add_item, gone_item, hint_items}

-- ---- last numbers

pub same_number : (n : ℕ) → (n == n) ≡ true
same_number n = eq-eqb n n refl

others_stay : (b same : Bool) (ns rest : List LastNumber) (x : LastNumber) (peer k : ℕ) → (x.peer == peer) ≡ b → (peer == k) ≡ false → last_of rest k ≡ last_of ns k
    → last_of (if not b then x ∷ rest else rest) k ≡ (if x.peer == k then x.last else last_of ns k)
others_stay true same ns rest x peer k is away h = h ∙ ap (λ (b : Bool). if b then x.last else last_of ns k) (sym (ap (λ (n : ℕ). n == k) (eqb-true x.peer peer is) ∙ away))
others_stay false same ns rest x peer k is away h = ap (λ (n : ℕ). if x.peer == k then x.last else n) h

others_last : (ns : List LastNumber) (peer k : ℕ) → (peer == k) ≡ false → last_of (filter (λ n. not (n.peer == peer)) ns) k ≡ last_of ns k
others_last [] peer k away = refl
others_last (x ∷ ns) peer k away = others_stay (x.peer == peer) true ns (filter (λ n. not (n.peer == peer)) ns) x peer k refl away (others_last ns peer k away)

pub last_here : (ns : List LastNumber) (peer n : ℕ) → last_of (with_last ns peer n) peer ≡ n
last_here ns peer n = ap (λ (b : Bool). if b then n else last_of (filter (λ x. not (x.peer == peer)) ns) peer) (same_number peer)

pub last_other : (ns : List LastNumber) (peer n k : ℕ) → (peer == k) ≡ false → last_of (with_last ns peer n) k ≡ last_of ns k
last_other ns peer n k away = ap (λ (b : Bool). if b then n else last_of (filter (λ x. not (x.peer == peer)) ns) k) away ∙ others_last ns peer k away

-- a number that rises does not fall elsewhere
pub last_rises : (ns : List LastNumber) (peer n k : ℕ) → last_of ns peer < n → last_of ns k ≤ last_of (with_last ns peer n) k
last_rises ns peer n k above = elim (cases_Bool (peer == k)) [
  | inl here ↦
      let is = last_here ns peer n in
      subst (λ (j : ℕ). last_of ns j ≤ last_of (with_last ns peer n) j) (eqb-true peer k here) (omega (arith, above, is))
  | inr away ↦ let is = last_other ns peer n k away in omega (arith, is)
]

-- ---- hints one after another

abbrev pub with_lasts : List hint.Hint → List LastNumber → List LastNumber
with_lasts [] ns = ns
with_lasts (h ∷ hs) ns = with_lasts hs (with_last ns h.peer h.number)

abbrev pub without_all : List Gone → List hint.Hint → List hint.Hint
without_all [] hs = hs
without_all (x ∷ xs) hs = without_all xs (without_hint hs x.peer x.number)

-- each hint has a number above the last one of its peer
abbrev pub AreNew : List hint.Hint → List LastNumber → Type 0
AreNew [] ns = Unit {0}
AreNew (h ∷ hs) ns = (last_of ns h.peer < h.number) × AreNew hs (with_last ns h.peer h.number)

-- each of these numbers was given
abbrev pub AreGiven : List Gone → List LastNumber → Type 0
AreGiven gone ns = (x : Gone) → Contains gone x → x.number ≤ last_of ns x.peer

pub lasts_both : (xs ys : List hint.Hint) (ns : List LastNumber) → with_lasts (xs ++ ys) ns ≡ with_lasts ys (with_lasts xs ns)
lasts_both [] ys ns = refl
lasts_both (x ∷ xs) ys ns = lasts_both xs ys (with_last ns x.peer x.number)

pub without_both : (xs ys : List Gone) (hs : List hint.Hint) → without_all (xs ++ ys) hs ≡ without_all ys (without_all xs hs)
without_both [] ys hs = refl
without_both (x ∷ xs) ys hs = without_both xs ys (without_hint hs x.peer x.number)

pub new_both : (xs ys : List hint.Hint) (ns : List LastNumber) → AreNew xs ns → AreNew ys (with_lasts xs ns) → AreNew (xs ++ ys) ns
new_both [] ys ns first second = second
new_both (x ∷ xs) ys ns first second = (first.0, new_both xs ys (with_last ns x.peer x.number) first.1 second)

pub lasts_rise : (hs : List hint.Hint) (ns : List LastNumber) (k : ℕ) → AreNew hs ns → last_of ns k ≤ last_of (with_lasts hs ns) k
lasts_rise [] ns k new = omega arith
lasts_rise (h ∷ hs) ns k new =
    let first = last_rises ns h.peer h.number k new.0 in
    let rest = lasts_rise hs (with_last ns h.peer h.number) k new.1 in
    omega (arith, first, rest)

pub given_on : (gone : List Gone) (hs : List hint.Hint) (ns : List LastNumber) → AreNew hs ns → AreGiven gone ns → AreGiven gone (with_lasts hs ns)
given_on gone hs ns new given x h = let before = given x h in let more = lasts_rise hs ns x.peer new in omega (arith, before, more)

-- a hint that comes later is none of those that went before
abbrev is_it : Gone → hint.Hint → Bool
is_it x h = (h.peer == x.peer) && (h.number == x.number)

not_it : (b : Bool) (x : Gone) (h : hint.Hint) (ns : List LastNumber) → last_of ns h.peer < h.number → x.number ≤ last_of ns x.peer → is_it x h ≡ b → b ≡ false
not_it false x h ns above given is = refl
not_it true x h ns above given is =
    let parts = and_parts (h.peer == x.peer) (h.number == x.number) is in
    let peer : last_of ns h.peer ≡ last_of ns x.peer = ap (λ (k : ℕ). last_of ns k) (eqb-true h.peer x.peer parts.0) in
    let number : h.number ≡ x.number = eqb-true h.number x.number parts.1 in
    absurd (omega (arith, above, given, peer, number))

filter_head : {X : Type 0} (b : Bool) (y : X) (front whole : List X) (x : X) → whole ≡ front ++ x ∷ [] → (if b then y ∷ whole else whole) ≡ (if b then y ∷ front else front) ++ x ∷ []
filter_head {X} true y front whole x is = ap (λ (zs : List X). y ∷ zs) is
filter_head {X} false y front whole x is = is

filter_last : {X : Type 0} (p : X → Bool) (xs : List X) (x : X) → p x ≡ true → filter p (xs ++ x ∷ []) ≡ filter p xs ++ x ∷ []
filter_last {X} p [] x passes = ap (λ (b : Bool). if b then x ∷ [] else []) passes
filter_last {X} p (y ∷ ys) x passes = filter_head (p y) y (filter p ys) (filter p (ys ++ x ∷ [])) x (filter_last p ys x passes)

one_stays : (x : Gone) (hs : List hint.Hint) (h : hint.Hint) (ns : List LastNumber) → last_of ns h.peer < h.number → x.number ≤ last_of ns x.peer → without_hint (hs ++ h ∷ []) x.peer x.number ≡ without_hint hs x.peer x.number ++ h ∷ []
one_stays x hs h ns above given =
    filter_last (λ g. not ((g.peer == x.peer) && (g.number == x.number))) hs h (ap not (not_it (is_it x h) x h ns above given refl))

last_stays : (gone : List Gone) (hs : List hint.Hint) (h : hint.Hint) (ns : List LastNumber) → last_of ns h.peer < h.number → AreGiven gone ns → without_all gone (hs ++ h ∷ []) ≡ without_all gone hs ++ h ∷ []
last_stays [] hs h ns above given = refl
last_stays (x ∷ xs) hs h ns above given =
    ap (λ (gs : List hint.Hint). without_all xs gs) (one_stays x hs h ns above (given x (contains_here x xs)))
    ∙ last_stays xs (without_hint hs x.peer x.number) h ns above (λ y c. given y (contains_there x xs y c))

pub append_both : {X : Type 0} (xs ys zs : List X) → xs ++ (ys ++ zs) ≡ (xs ++ ys) ++ zs
append_both {X} [] ys zs = refl
append_both {X} (x ∷ xs) ys zs = ap (λ (rest : List X). x ∷ rest) (append_both xs ys zs)

append_more : {X : Type 0} (xs : List X) (y : X) (ys : List X) → xs ++ y ∷ ys ≡ (xs ++ y ∷ []) ++ ys
append_more {X} [] y ys = refl
append_more {X} (x ∷ xs) y ys = ap (λ (zs : List X). x ∷ zs) (append_more xs y ys)

-- hints that come later stay
pub later_stay : (gone : List Gone) (hs new : List hint.Hint) (ns : List LastNumber) → AreNew new ns → AreGiven gone ns → without_all gone (hs ++ new) ≡ without_all gone hs ++ new
later_stay gone hs [] ns are given = ap (λ (xs : List hint.Hint). without_all gone xs) (append-nil hs) ∙ sym (append-nil (without_all gone hs))
later_stay gone hs (h ∷ new) ns are given =
    ap (λ (xs : List hint.Hint). without_all gone xs) (append_more hs h new)
    ∙ later_stay gone (hs ++ h ∷ []) new (with_last ns h.peer h.number) are.1 (given_on gone (h ∷ []) ns (are.0, tt) given)
    ∙ ap (λ (xs : List hint.Hint). xs ++ new) (last_stays gone hs h ns are.0 given)
    ∙ sym (append_more (without_all gone hs) h new)

-- ---- what one move makes of hints: some come, or some go

pub record HintMove (k : KeptHints) (made : List hint.Hint) (gone : List Gone) (k' : KeptHints) : Type 0 where
  pub hints : k'.hints ≡ without_all gone (k.hints ++ made)
  pub numbers : k'.numbers ≡ with_lasts made k.numbers
  pub new : AreNew made k.numbers
  pub given : AreGiven gone k'.numbers

pub no_hints : (k : KeptHints) → HintMove k [] [] k
no_hints k = record { hints = sym (append-nil k.hints); numbers = refl; new = tt; given = λ x h. absurd (contains_nil x h) }

push_move : (full : Bool) (k : KeptHints) (h : hint.Hint) → last_of k.numbers h.peer < h.number → HintMove k (if full then [] else h ∷ []) [] (if full then k else with_hint h k)
push_move true k h above = no_hints k
push_move false k h above = record { hints = refl; numbers = refl; new = (above, tt); given = λ x c. absurd (contains_nil x c) }

both_made : (k mid k' : KeptHints) (xs ys : List hint.Hint) → HintMove k xs [] mid → HintMove mid ys [] k' → HintMove k (xs ++ ys) [] k'
both_made k mid k' xs ys a b = record {
  hints = b.hints ∙ ap (λ (hs : List hint.Hint). hs ++ ys) a.hints ∙ sym (append_both k.hints xs ys);
  numbers = b.numbers ∙ ap (λ (ns : List LastNumber). with_lasts ys ns) a.numbers ∙ sym (lasts_both xs ys k.numbers);
  new = new_both xs ys k.numbers a.new (subst (λ (ns : List LastNumber). AreNew ys ns) a.numbers b.new);
  given = λ x c. absurd (contains_nil x c);
}

pub push_moves : (ps : List ℕ) (born : ℕ) (m : Mutation) (k : KeptHints) → HintMove k (pushed_hints ps born m k) [] (push_hints ps born m k)
push_moves [] born m k = no_hints k
push_moves (p ∷ ps) born m k =
    both_made k (push_hint p born m k) _ (pushed_hint p born m k) _ (push_move (is_full k p) k (next_hint p born m k) (omega arith)) (push_moves ps born m (push_hint p born m k))

pub not_above : (a b : ℕ) → nat_lt a b ≡ false → b ≤ a
not_above a b is = let le = ltb-false a b is in omega (arith, le)

given_if_kept : (k : KeptHints) (peer number : ℕ) → is_kept k peer number ≡ true → number ≤ last_of k.numbers peer
given_if_kept k peer number is =
    let parts = and_parts (not (nat_lt (last_of k.numbers peer) number)) _ is in
    not_above (last_of k.numbers peer) number (not-true _ parts.0)

drop_move : (b : Bool) (peer number : ℕ) (k : KeptHints) → (b ≡ true → number ≤ last_of k.numbers peer)
    → HintMove k [] (if b then record { peer = peer; number = number } ∷ [] else []) (if b then record k { hints = without_hint k.hints peer number } else k)
drop_move true peer number k given = record {
  hints = ap (λ (hs : List hint.Hint). without_hint hs peer number) (sym (append-nil k.hints));
  numbers = refl;
  new = tt;
  given = λ x c. elim (contains_cases _ [] x c) [
    | inl here ↦ subst (λ (y : Gone). y.number ≤ last_of k.numbers y.peer) here (given refl)
    | inr none ↦ absurd (contains_nil x none)
  ];
}
drop_move false peer number k given = no_hints k

pub drop_moves : (peer number : ℕ) (k : KeptHints) → HintMove k [] (gone_if_kept k peer number) (drop_hint peer number k)
drop_moves peer number k = drop_move (is_kept k peer number) peer number k (given_if_kept k peer number)

-- moves one after another
pub hints_on : (k mid k' : KeptHints) (xs ys : List hint.Hint) (gs hs : List Gone) → HintMove k xs gs mid → HintMove mid ys hs k' → HintMove k (xs ++ ys) (gs ++ hs) k'
hints_on k mid k' xs ys gs hs a b =
    let new : AreNew ys (with_lasts xs k.numbers) = subst (λ (ns : List LastNumber). AreNew ys ns) a.numbers b.new in
    let given : AreGiven gs (with_lasts xs k.numbers) = subst (λ (ns : List LastNumber). AreGiven gs ns) a.numbers a.given in
    let numbers : k'.numbers ≡ with_lasts ys (with_lasts xs k.numbers) = b.numbers ∙ ap (λ (ns : List LastNumber). with_lasts ys ns) a.numbers in
    record {
      hints = b.hints
          ∙ ap (λ (zs : List hint.Hint). without_all hs (zs ++ ys)) a.hints
          ∙ ap (λ (zs : List hint.Hint). without_all hs zs) (sym (later_stay gs (k.hints ++ xs) ys (with_lasts xs k.numbers) new given))
          ∙ ap (λ (zs : List hint.Hint). without_all hs (without_all gs zs)) (sym (append_both k.hints xs ys))
          ∙ sym (without_both gs hs (k.hints ++ (xs ++ ys)));
      numbers = numbers ∙ sym (lasts_both xs ys k.numbers);
      new = new_both xs ys k.numbers a.new new;
      given = λ x c. elim (Contains-append_cases gs hs x c) [
        | inl first ↦ subst (λ (ns : List LastNumber). x.number ≤ last_of ns x.peer) (sym numbers) (given_on gs ys (with_lasts xs k.numbers) new given x first)
        | inr second ↦ b.given x second
      ];
    }

-- ---- what items make of hints

-- what is kept, with these hints
abbrev pub held_hints : KeptHints → Durable → Durable
held_hints k d = record d { hints = k.hints; numbers = k.numbers }

made_items : (made : List hint.Hint) (d : Durable) → Commits (map add_item made) d (record d { hints = d.hints ++ made; numbers = with_lasts made d.numbers })
made_items [] d = ap (λ (hs : List hint.Hint). record d { hints = hs }) (append-nil d.hints)
made_items (h ∷ hs) d =
    let mid : Durable = record d { hints = d.hints ++ h ∷ []; numbers = with_last d.numbers h.peer h.number } in
    (mid, refl, subst (λ (xs : List hint.Hint). Commits (map add_item hs) mid (record d { hints = xs; numbers = with_lasts hs mid.numbers })) (sym (append_more d.hints h hs)) (made_items hs mid))

stays_if : (b : Bool) (ns : List LastNumber) (peer number : ℕ) → number ≤ last_of ns peer → nat_lt (last_of ns peer) number ≡ b → (if b then with_last ns peer number else ns) ≡ ns
stays_if false ns peer number given is = refl
stays_if true ns peer number given is = let above = ltb-true (last_of ns peer) number is in absurd (omega (arith, above, given))

given_stays : (ns : List LastNumber) (peer number : ℕ) → number ≤ last_of ns peer → with_given ns peer number ≡ ns
given_stays ns peer number given = stays_if (nat_lt (last_of ns peer) number) ns peer number given refl

gone_items : (gone : List Gone) (d : Durable) → AreGiven gone d.numbers → Commits (map gone_item gone) d (record d { hints = without_all gone d.hints })
gone_items [] d given = refl
gone_items (x ∷ xs) d given =
    let mid : Durable = record d { hints = without_hint d.hints x.peer x.number } in
    let stays = given_stays d.numbers x.peer x.number (given x (contains_here x xs)) in
    (mid, ap (λ (ns : List LastNumber). record mid { numbers = ns }) (sym stays), gone_items xs mid (λ y c. given y (contains_there x xs y c)))

pub hint_items_make : (k k' : KeptHints) (made : List hint.Hint) (gone : List Gone) (d : Durable) → HintMove k made gone k' → Commits (hint_items made gone) (held_hints k d) (held_hints k' d)
hint_items_make k k' made gone d h =
    let mid : Durable = record d { hints = k.hints ++ made; numbers = with_lasts made k.numbers } in
    let given : AreGiven gone (with_lasts made k.numbers) = subst (λ (ns : List LastNumber). AreGiven gone ns) h.numbers h.given in
    let is : record mid { hints = without_all gone mid.hints } ≡ held_hints k' d =
    ap (λ (hs : List hint.Hint). record d { hints = hs; numbers = with_lasts made k.numbers }) (sym h.hints) ∙ ap (λ (ns : List LastNumber). record d { hints = k'.hints; numbers = ns }) (sym h.numbers) in
    commits_both (map add_item made) (map gone_item gone) (held_hints k d) mid (held_hints k' d) (made_items made (held_hints k d))
    (subst (λ (x : Durable). Commits (map gone_item gone) mid x) is (gone_items gone mid given))

-- and nothing else
made_only : (made : List hint.Hint) (d d' : Durable) → Commits (map add_item made) d d' → d' ≡ record d { hints = d.hints ++ made; numbers = with_lasts made d.numbers }
made_only [] d d' is = is ∙ ap (λ (hs : List hint.Hint). record d { hints = hs }) (sym (append-nil d.hints))
made_only (h ∷ hs) d d' (mid, takes, more) =
    made_only hs mid d' more
    ∙ ap (λ (x : Durable). record x { hints = x.hints ++ hs; numbers = with_lasts hs x.numbers }) takes
    ∙ ap (λ (xs : List hint.Hint). record d { hints = xs; numbers = with_lasts hs (with_last d.numbers h.peer h.number) }) (sym (append_more d.hints h hs))

gone_only : (gone : List Gone) (d d' : Durable) → AreGiven gone d.numbers → Commits (map gone_item gone) d d' → d' ≡ record d { hints = without_all gone d.hints }
gone_only [] d d' given is = is
gone_only (x ∷ xs) d d' given (mid, takes, more) =
    let next : Durable = record d { hints = without_hint d.hints x.peer x.number } in
    let at : mid ≡ next = takes ∙ ap (λ (ns : List LastNumber). record next { numbers = ns }) (given_stays d.numbers x.peer x.number (given x (contains_here x xs))) in
    gone_only xs next d' (λ y c. given y (contains_there x xs y c)) (subst (λ (m : Durable). Commits (map gone_item xs) m d') at more)

pub hint_items_only : (k k' : KeptHints) (made : List hint.Hint) (gone : List Gone) (d d' : Durable) → HintMove k made gone k' → Commits (hint_items made gone) (held_hints k d) d' → d' ≡ held_hints k' d
hint_items_only k k' made gone d d' h commits =
    let parts = commits_parts (map add_item made) (map gone_item gone) (held_hints k d) d' commits in
    let mid : Durable = record d { hints = k.hints ++ made; numbers = with_lasts made k.numbers } in
    let at : parts.0 ≡ mid = made_only made (held_hints k d) parts.0 parts.1 in
    let given : AreGiven gone (with_lasts made k.numbers) = subst (λ (ns : List LastNumber). AreGiven gone ns) h.numbers h.given in
    gone_only gone mid d' given (subst (λ (m : Durable). Commits (map gone_item gone) m d') at parts.2)
    ∙ ap (λ (hs : List hint.Hint). record d { hints = hs; numbers = with_lasts made k.numbers }) (sym h.hints) ∙ ap (λ (ns : List LastNumber). record d { hints = k'.hints; numbers = ns }) (sym h.numbers)
