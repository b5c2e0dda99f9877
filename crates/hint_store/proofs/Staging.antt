-- What came and what went: a store through its changes.
use Rattle.std.proofs.Common.{◌≡◌, ℕ, ◌+◌, ◌<◌, ◌≤◌, ◌⊎◌, inl, inr, zero, suc, Bool, true, false, List, [], ◌∷◌, ◌++◌, filter, length, refl, sym, ap, subst, ◌∙◌, arith, Contains, length-append}
use Rattle.std.specs.Prelude.{◌==◌, ◌&&◌, ◌||◌, not, if◌then◌else◌, slice_index_or}
use Rattle.std.specs.declared.cmp.Ordering.{Ordering}
use Rattle.std.specs.declared.cmp.Ordering.TheVariants.{Less, Equal, Greater}
use Rattle.std.specs.Ordering.{match_ordering}
use Rattle.std.specs.List.{list_any}
use Rattle.std.specs.Map.{values_of}
use Rattle.std.specs.BTreeSet.{insert_key}
use Rattle.std.proofs.lemmas.Bool.{or_parts, or_from, cases_Bool, eqb-true, eq-eqb, and_parts}
use Rattle.std.proofs.lemmas.List.Elements.{filter-append}
use Rattle.cs_base.proofs.Members.{contains_cases, contains_here, contains_there}
use Rattle.row_change.specs.declared.entry.Hint.{Hint}
use Rattle.durable_state.specs.declared.parts.LastNumber.{LastNumber}
use Rattle.durable_state.specs.State.{hints_of, last_of}
use Rattle.durable_state.specs.Keeping.{without_hint, with_last}
use Rattle.node_steps.proofs.HintLists.{same_number, last_here, last_other, append_both}
use Rattle.hint_store.specs.declared.tally.Tally.{Tally}
use Rattle.hint_store.specs.Tables.{place_cmp, is_place, is_hint, passing, one_if, IsVacant, IsPushed}
use Rattle.hint_store.specs.Tallies.{numbers_from, SetsAt}
use Rattle.hint_store.specs.Stores.{is_gone, is_added, hints_before, hints_now, AreGiven}
use Rattle.hint_store.proofs.Keys.{passing_cons, place_exact}

-- ---- last numbers

none_ahead_if : (b : Bool) (peer k n : ℕ) (rest : List LastNumber) → k < peer → last_of rest k ≡ 0 → last_of (if b then rest else record { peer = peer; last = n } ∷ rest) k ≡ 0
none_ahead_if true peer k n rest below h = h
none_ahead_if false peer k n rest below h = away_if (peer == k) refl
  where
    away_if : (b : Bool) → (peer == k) ≡ b → (if b then n else last_of rest k) ≡ 0
    away_if true is = let same = eqb-true peer k is in absurd (omega (arith, same, below))
    away_if false is = h

none_ahead : (peer k : ℕ) (ns : List ℕ) → k < peer → last_of (numbers_from peer ns) k ≡ 0
none_ahead peer k [] below = refl
none_ahead peer k (n ∷ ns) below = none_ahead_if (n == 0) peer k n (numbers_from (peer + 1) ns) below (none_ahead (peer + 1) k ns (omega (arith, below)))

here_if : (b : Bool) (peer n : ℕ) (rest : List LastNumber) → (n == 0) ≡ b → last_of rest peer ≡ 0 → last_of (if b then rest else record { peer = peer; last = n } ∷ rest) peer ≡ n
here_if true peer n rest is h = h ∙ sym (eqb-true n 0 is)
here_if false peer n rest is h = ap (λ (b : Bool). if b then n else last_of rest peer) (same_number peer)

later_if : (b : Bool) (peer k n : ℕ) (rest : List LastNumber) → peer < k → last_of (if b then rest else record { peer = peer; last = n } ∷ rest) k ≡ last_of rest k
later_if true peer k n rest above = refl
later_if false peer k n rest above = away_if (peer == k) refl
  where
    away_if : (b : Bool) → (peer == k) ≡ b → (if b then n else last_of rest k) ≡ last_of rest k
    away_if true is = let same = eqb-true peer k is in absurd (omega (arith, same, above))
    away_if false is = refl

last_at : (peer : ℕ) (ns : List ℕ) (k : ℕ) → last_of (numbers_from peer ns) (peer + k) ≡ slice_index_or ns k 0
last_at peer [] k = refl
last_at peer (n ∷ ns) zero =
    let e : peer + 0 ≡ peer = omega arith in
    subst (λ (j : ℕ). last_of (numbers_from peer (n ∷ ns)) j ≡ n) (sym e) (here_if (n == 0) peer n (numbers_from (peer + 1) ns) refl (none_ahead (peer + 1) peer ns (omega arith)))
last_at peer (n ∷ ns) (suc k) =
    let e : peer + suc k ≡ (peer + 1) + k = omega arith in
    later_if (n == 0) peer (peer + suc k) n (numbers_from (peer + 1) ns) (omega arith) ∙ ap (λ (j : ℕ). last_of (numbers_from (peer + 1) ns) j) e ∙ last_at (peer + 1) ns k

pub last_is : (ns : List ℕ) (peer : ℕ) → last_of (numbers_from 0 ns) peer ≡ slice_index_or ns peer 0
last_is ns peer = let e : peer ≡ 0 + peer = omega arith in ap (λ (j : ℕ). last_of (numbers_from 0 ns) j) e ∙ last_at 0 ns peer

-- ---- nothing came or went

pub all_pass : {X : Type 0} (xs : List X) → filter (λ x. true) xs ≡ xs
all_pass [] = refl
all_pass {X} (x ∷ xs) = ap (λ (ys : List X). x ∷ ys) (all_pass xs)

pub none_went : (es : List ((ℕ × ℕ) × Hint)) → hints_now [] es ≡ values_of es
none_went es = ap (λ (xs : List ((ℕ × ℕ) × Hint)). values_of xs) (all_pass es)

pub none_came : (es : List ((ℕ × ℕ) × Hint)) → hints_before [] es ≡ values_of es
none_came es = ap (λ (xs : List ((ℕ × ℕ) × Hint)). values_of xs) (all_pass es)

-- ---- a hint comes

or_more : (a b d : Bool) → (a || (b || d)) ≡ ((a || b) || d)
or_more true b d = refl
or_more false b d = refl

or_nothing : (a : Bool) → (a || false) ≡ a
or_nothing true = refl
or_nothing false = refl

pub added_push : (added : List (ℕ × ℕ)) (p x : ℕ × ℕ) → is_added (added ++ p ∷ []) x ≡ (is_added added x || is_place p x)
added_push [] p x = or_nothing (is_place p x)
added_push (a ∷ added) p x = ap (λ (b : Bool). is_place a x || b) (added_push added p x) ∙ or_more (is_place a x) (is_added added x) (is_place p x)

stay_if : (b d : Bool) (e : (ℕ × ℕ) × Hint) (xs ys : List ((ℕ × ℕ) × Hint)) → b ≡ d → xs ≡ ys → (if b then e ∷ xs else xs) ≡ (if d then e ∷ ys else ys)
stay_if b d e xs ys same rest = ap (λ (z : Bool). if z then e ∷ xs else xs) same ∙ ap (λ (zs : List ((ℕ × ℕ) × Hint)). if d then e ∷ zs else zs) rest

-- a place that no hint has, among those that came, changes nothing
same_before : (added : List (ℕ × ℕ)) (p : ℕ × ℕ) (es : List ((ℕ × ℕ) × Hint)) → IsVacant p es → filter (λ e. not (is_added (added ++ p ∷ []) e.0)) es ≡ filter (λ e. not (is_added added e.0)) es
same_before added p [] vacant = refl
same_before added p (e ∷ es) vacant =
    let parts = or_parts (is_place p e.0) (list_any (λ x. is_place p x.0) es) vacant in
    stay_if (not (is_added (added ++ p ∷ []) e.0)) (not (is_added added e.0)) e (filter (λ x. not (is_added (added ++ p ∷ []) x.0)) es) (filter (λ x. not (is_added added x.0)) es)
    (ap not (added_push added p e.0 ∙ ap (λ (b : Bool). is_added added e.0 || b) parts.0 ∙ or_nothing (is_added added e.0)))
    (same_before added p es parts.1)

pub vacant_before : (added added' : List (ℕ × ℕ)) (p : ℕ × ℕ) (es : List ((ℕ × ℕ) × Hint)) → added' ≡ added ++ p ∷ [] → IsVacant p es → hints_before added' es ≡ hints_before added es
vacant_before added added' p es is vacant =
    ap (λ (a : List (ℕ × ℕ)). hints_before a es) is ∙ ap (λ (xs : List ((ℕ × ℕ) × Hint)). values_of xs) (same_before added p es vacant)

is_itself : (x : ℕ × ℕ) → is_place x x ≡ true
is_itself x = ap (λ (b : Bool). b && (x.1 == x.1)) (same_number x.0) ∙ same_number x.1

or_true : (a : Bool) → (a || true) ≡ true
or_true true = refl
or_true false = refl

-- what came was not there before
pub before_stays : (added added' : List (ℕ × ℕ)) (p : ℕ × ℕ) (h : Hint) (es es' : List ((ℕ × ℕ) × Hint)) → added' ≡ added ++ p ∷ [] → IsVacant p es → IsPushed es p h es' → hints_before added' es' ≡ hints_before added es
before_stays added added' p h es es' is vacant push =
    let came : is_added added' p ≡ true = ap (λ (a : List (ℕ × ℕ)). is_added a p) is ∙ added_push added p p ∙ ap (λ (b : Bool). is_added added p || b) (is_itself p) ∙ or_true (is_added added p) in
    ap (λ (xs : List ((ℕ × ℕ) × Hint)). values_of xs) (push.others (λ e. not (is_added added' e.0)) (ap not came)) ∙ vacant_before added added' p es is vacant

-- and is there now, behind those of its peer
not_gone : (b : Bool) → b ≡ false → (h : Hint) (p : ℕ × ℕ) (peer : ℕ) → hints_of (values_of (if not b then (p, h) ∷ [] else [])) peer ≡ hints_of (h ∷ []) peer
not_gone true is h p peer = cc
not_gone false is h p peer = refl

pub now_has : (gone : List (ℕ × ℕ)) (p : ℕ × ℕ) (h : Hint) (es es' : List ((ℕ × ℕ) × Hint)) → is_gone gone h ≡ false → IsPushed es p h es' → (peer : ℕ) → hints_of (hints_now gone es') peer ≡ hints_of (hints_now gone es) peer ++ hints_of (h ∷ []) peer
now_has gone p h es es' left push peer =
    push.behind (λ e. not (is_gone gone e.1)) peer ∙ ap (λ (hs : List Hint). hints_of (hints_now gone es) peer ++ hs) (not_gone (is_gone gone h) left h p peer)

-- its number is above all that were given
new_if : (b : Bool) (t : Tally) (x : ℕ × ℕ) (h : Hint) → x.1 ≤ slice_index_or t.last x.0 0 → slice_index_or t.last h.peer 0 < h.number → is_hint x.0 x.1 h ≡ b → b ≡ false
new_if false t x h given above is = refl
new_if true t x h given above is =
    let parts = and_parts (h.peer == x.0) (h.number == x.1) is in
    let peer = ap (λ (k : ℕ). slice_index_or t.last k 0) (eqb-true h.peer x.0 parts.0) in
    let number = eqb-true h.number x.1 parts.1 in
    absurd (omega (arith, given, above, peer, number))

pub new_is_left : (t : Tally) (gone : List (ℕ × ℕ)) (h : Hint) → AreGiven t gone → slice_index_or t.last h.peer 0 < h.number → is_gone gone h ≡ false
new_is_left t [] h given above = refl
new_is_left t (x ∷ gone) h given above =
    or_from (is_hint x.0 x.1 h) (is_gone gone h) (new_if (is_hint x.0 x.1 h) t x h (given x (contains_here x gone)) above refl) (new_is_left t gone h (λ y c. given y (contains_there x gone y c)) above)

-- numbers that rise are above what was given still
pub given_on : (t t' : Tally) (gone : List (ℕ × ℕ)) → ((peer : ℕ) → slice_index_or t.last peer 0 ≤ slice_index_or t'.last peer 0) → AreGiven t gone → AreGiven t' gone
given_on t t' gone rises given x h = let was = given x h in let more = rises x.0 in omega (arith, was, more)

pub sets_up : (peer value : ℕ) (old new : List ℕ) → SetsAt peer value old new → slice_index_or old peer 0 ≤ value → (q : ℕ) → slice_index_or old q 0 ≤ slice_index_or new q 0
sets_up peer value old new sets up q = elim (cases_Bool (q == peer)) [
  | inl same ↦ subst (λ (k : ℕ). slice_index_or old k 0 ≤ slice_index_or new k 0) (sym (eqb-true q peer same)) (let is = sets.here in omega (arith, is, up))
  | inr apart ↦ (let is = sets.others q (λ e. true_false (q == peer) apart (eq-eqb q peer e)) in omega (arith, is))
]
  where
    true_false : (b : Bool) → b ≡ false → b ≡ true → ⊥
    true_false true h k = cc
    true_false false h k = cc

-- how many hints a peer has then
own_if : (b : Bool) (h : Hint) → length (if b then h ∷ [] else []) ≡ one_if b
own_if true h = refl
own_if false h = refl

pub count_on : (h : Hint) (old new : List ℕ) (was now : List Hint) (peer : ℕ) → SetsAt h.peer (slice_index_or old h.peer 0 + 1) old new → hints_of now peer ≡ hints_of was peer ++ hints_of (h ∷ []) peer
    → slice_index_or old peer 0 ≡ length (hints_of was peer) → slice_index_or new peer 0 ≡ length (hints_of now peer)
count_on h old new was now peer sets is count =
    let long = ap (λ (hs : List Hint). length hs) is ∙ length-append (hints_of was peer) (hints_of (h ∷ []) peer) in
    elim (cases_Bool (h.peer == peer)) [
      | inl mine ↦
          let same : h.peer ≡ peer = eqb-true h.peer peer mine in
          let one = own_if (h.peer == peer) h ∙ ap one_if mine in
          let set = subst (λ (k : ℕ). slice_index_or new k 0 ≡ slice_index_or old k 0 + 1) same sets.here in
          omega (arith, long, one, set, count)
      | inr apart ↦
          let none = own_if (h.peer == peer) h ∙ ap one_if apart in
          let stays = sets.others peer (λ e. true_false (h.peer == peer) apart (eq-eqb h.peer peer (sym e))) in
          omega (arith, long, none, stays, count)
    ]
  where
    true_false : (b : Bool) → b ≡ false → b ≡ true → ⊥
    true_false true h k = cc
    true_false false h k = cc

-- the last number of each peer then
pub last_on : (peer number : ℕ) (old new : List ℕ) → SetsAt peer number old new → (q : ℕ) → last_of (numbers_from 0 new) q ≡ last_of (with_last (numbers_from 0 old) peer number) q
last_on peer number old new sets q = elim (cases_Bool (peer == q)) [
  | inl same ↦
      subst (λ (k : ℕ). last_of (numbers_from 0 new) k ≡ last_of (with_last (numbers_from 0 old) peer number) k) (eqb-true peer q same)
      (last_is new peer ∙ sets.here ∙ sym (last_here (numbers_from 0 old) peer number))
  | inr apart ↦
      last_is new q ∙ sets.others q (λ e. true_false (peer == q) apart (eq-eqb peer q (sym e))) ∙ sym (last_is old q) ∙ sym (last_other (numbers_from 0 old) peer number q apart)
]
  where
    true_false : (b : Bool) → b ≡ false → b ≡ true → ⊥
    true_false true h k = cc
    true_false false h k = cc

-- ---- a hint goes

any_at : (o : Ordering) (t : ℕ × ℕ → Bool) (k x : ℕ × ℕ) (xs ins : List (ℕ × ℕ)) → (o ≡ Equal → k ≡ x) → list_any t ins ≡ (t k || list_any t xs) → list_any t (match_ordering o (k ∷ x ∷ xs) (x ∷ xs) (x ∷ ins)) ≡ (t k || (t x || list_any t xs))
any_at Less t k x xs ins exact rest = refl
any_at Equal t k x xs ins exact rest = again (t x) (t k) (list_any t xs) (ap t (exact refl))
  where
    again : (a b r : Bool) → b ≡ a → (a || r) ≡ (b || (a || r))
    again true true r h = refl
    again true false r h = cc
    again false true r h = cc
    again false false r h = refl
any_at Greater t k x xs ins exact rest = ap (λ (b : Bool). t x || b) rest ∙ swap (t x) (t k) (list_any t xs)
  where
    swap : (a b r : Bool) → (a || (b || r)) ≡ (b || (a || r))
    swap true true r = refl
    swap true false r = refl
    swap false true r = refl
    swap false false r = refl

pub any_insert : (t : ℕ × ℕ → Bool) (ks : List (ℕ × ℕ)) (k : ℕ × ℕ) → list_any t (insert_key place_cmp ks k) ≡ (t k || list_any t ks)
any_insert t [] k = refl
any_insert t (x ∷ xs) k = any_at (place_cmp k x) t k x xs (insert_key place_cmp xs k) (place_exact k x) (any_insert t xs k)

in_at : (o : Ordering) (k x y : ℕ × ℕ) (xs ins : List (ℕ × ℕ)) → (Contains ins y → (k ≡ y) ⊎ Contains xs y) → Contains (match_ordering o (k ∷ x ∷ xs) (x ∷ xs) (x ∷ ins)) y → (k ≡ y) ⊎ Contains (x ∷ xs) y
in_at Less k x y xs ins rest h = contains_cases k (x ∷ xs) y h
in_at Equal k x y xs ins rest h = inr h
in_at Greater k x y xs ins rest h = elim (contains_cases x ins y h) [
  | inl here ↦ inr (subst (λ (z : ℕ × ℕ). Contains (x ∷ xs) z) here (contains_here x xs))
  | inr later ↦ elim (rest later) [ inl new ↦ inl new | inr there ↦ inr (contains_there x xs y there) ]
]

in_insert : (ks : List (ℕ × ℕ)) (k y : ℕ × ℕ) → Contains (insert_key place_cmp ks k) y → (k ≡ y) ⊎ Contains ks y
in_insert [] k y h = contains_cases k [] y h
in_insert (x ∷ xs) k y h = in_at (place_cmp k x) k x y xs (insert_key place_cmp xs k) (in_insert xs k y) h

pub given_more : (t : Tally) (gone gone' : List (ℕ × ℕ)) (peer number : ℕ) → gone' ≡ insert_key place_cmp gone (peer, number) → number ≤ slice_index_or t.last peer 0 → AreGiven t gone → AreGiven t gone'
given_more t gone gone' peer number is below given x h =
    elim (in_insert gone (peer, number) x (subst (λ (ks : List (ℕ × ℕ)). Contains ks x) is h)) [
      | inl new ↦ subst (λ (y : ℕ × ℕ). y.1 ≤ slice_index_or t.last y.0 0) new below
      | inr there ↦ given x there
    ]

-- of the hints those of that number go
gone_if : (a b : Bool) (q : Hint → Bool) (e : (ℕ × ℕ) × Hint) (xs ys : List ((ℕ × ℕ) × Hint)) → q e.1 ≡ not b → values_of xs ≡ filter q (values_of ys)
    → values_of (if not (b || a) then e ∷ xs else xs) ≡ filter q (values_of (if not a then e ∷ ys else ys))
gone_if true true q e xs ys is rest = rest
gone_if true false q e xs ys is rest = rest
gone_if false true q e xs ys is rest = rest ∙ sym (ap (λ (b : Bool). if b then e.1 ∷ filter q (values_of ys) else filter q (values_of ys)) is)
gone_if false false q e xs ys is rest = ap (λ (hs : List Hint). e.1 ∷ hs) rest ∙ sym (ap (λ (b : Bool). if b then e.1 ∷ filter q (values_of ys) else filter q (values_of ys)) is)

goes : (gone : List (ℕ × ℕ)) (peer number : ℕ) (es : List ((ℕ × ℕ) × Hint)) → hints_now (insert_key place_cmp gone (peer, number)) es ≡ without_hint (hints_now gone es) peer number
goes gone peer number [] = refl
goes gone peer number (e ∷ es) =
    ap (λ (b : Bool). values_of (if not b then e ∷ filter (λ x. not (is_gone (insert_key place_cmp gone (peer, number)) x.1)) es else filter (λ x. not (is_gone (insert_key place_cmp gone (peer, number)) x.1)) es))
    (any_insert (λ x. is_hint x.0 x.1 e.1) gone (peer, number))
    ∙ gone_if (is_gone gone e.1) (is_hint peer number e.1) (λ h. not (is_hint peer number h)) e (filter (λ x. not (is_gone (insert_key place_cmp gone (peer, number)) x.1)) es) (filter (λ x. not (is_gone gone x.1)) es) refl
    (goes gone peer number es)

pub now_loses : (gone gone' : List (ℕ × ℕ)) (peer number : ℕ) (es : List ((ℕ × ℕ) × Hint)) → gone' ≡ insert_key place_cmp gone (peer, number) → hints_now gone' es ≡ without_hint (hints_now gone es) peer number
now_loses gone gone' peer number es is = ap (λ (ks : List (ℕ × ℕ)). hints_now ks es) is ∙ goes gone peer number es

-- where a number did not go, all its hints are left
left_if : (a b : Bool) (q : Hint → Bool) (e : (ℕ × ℕ) × Hint) (xs ys : List ((ℕ × ℕ) × Hint)) → q e.1 ≡ b → (b ≡ true → a ≡ false) → passing q (values_of xs) ≡ passing q (values_of ys)
    → passing q (values_of (if not a then e ∷ xs else xs)) ≡ passing q (e.1 ∷ values_of ys)
left_if false b q e xs ys is apart rest =
    let now = passing_cons q e.1 (values_of xs) in
    let was = passing_cons q e.1 (values_of ys) in
    omega (arith, now, was, rest)
left_if true true q e xs ys is apart rest = absurd (true_is_false (apart refl))
  where
    true_is_false : true ≡ false → ⊥
    true_is_false h = cc
left_if true false q e xs ys is apart rest =
    let was = passing_cons q e.1 (values_of ys) in
    let none = ap one_if is in
    omega (arith, was, none, rest)

pub all_left : (gone : List (ℕ × ℕ)) (peer number : ℕ) (es : List ((ℕ × ℕ) × Hint)) → is_added gone (peer, number) ≡ false → passing (is_hint peer number) (hints_now gone es) ≡ passing (is_hint peer number) (values_of es)
all_left gone peer number [] left = refl
all_left gone peer number (e ∷ es) left =
    left_if (is_gone gone e.1) (is_hint peer number e.1) (is_hint peer number) e (filter (λ x. not (is_gone gone x.1)) es) es refl
    (λ same.
    let parts = and_parts (e.1.peer == peer) (e.1.number == number) same in
    ap (λ (k : ℕ). is_added gone (k, e.1.number)) (eqb-true e.1.peer peer parts.0) ∙ ap (λ (k : ℕ). is_added gone (peer, k)) (eqb-true e.1.number number parts.1) ∙ left)
    (all_left gone peer number es left)

-- where it went, none is
none_left_if : (a b c : Bool) (q : Hint → Bool) (e : (ℕ × ℕ) × Hint) (xs : List ((ℕ × ℕ) × Hint)) → q e.1 ≡ b → (b ≡ true → a ≡ true) → list_any q (values_of xs) ≡ false → list_any q (values_of (if not a then e ∷ xs else xs)) ≡ false
none_left_if true b c q e xs is gone rest = rest
none_left_if false true c q e xs is gone rest = absurd (false_is_true (gone refl))
  where
    false_is_true : false ≡ true → ⊥
    false_is_true h = cc
none_left_if false false c q e xs is gone rest = or_from (q e.1) (list_any q (values_of xs)) is rest

pub none_left : (gone : List (ℕ × ℕ)) (peer number : ℕ) (es : List ((ℕ × ℕ) × Hint)) → is_added gone (peer, number) ≡ true → list_any (is_hint peer number) (hints_now gone es) ≡ false
none_left gone peer number [] there = refl
none_left gone peer number (e ∷ es) there =
    none_left_if (is_gone gone e.1) (is_hint peer number e.1) true (is_hint peer number) e (filter (λ x. not (is_gone gone x.1)) es) refl
    (λ same.
    let parts = and_parts (e.1.peer == peer) (e.1.number == number) same in
    ap (λ (k : ℕ). is_added gone (k, e.1.number)) (eqb-true e.1.peer peer parts.0) ∙ ap (λ (k : ℕ). is_added gone (peer, k)) (eqb-true e.1.number number parts.1) ∙ there)
    (none_left gone peer number es there)

-- how many of a peer are left
count_off_if : (it : Bool) (peer number : ℕ) (h : Hint) (xs ws : List Hint) → is_hint peer number h ≡ it → (it ≡ true → (h.peer == peer) ≡ true)
    → length (hints_of ws peer) + passing (is_hint peer number) xs ≡ length (hints_of xs peer)
    → length (hints_of (if not it then h ∷ ws else ws) peer) + passing (is_hint peer number) (h ∷ xs) ≡ length (hints_of (h ∷ xs) peer)
count_off_if true peer number h xs ws is mine rest =
    let more = passing_cons (is_hint peer number) h xs ∙ ap (λ (b : Bool). one_if b + passing (is_hint peer number) xs) is in
    let own = passing_cons (λ g. g.peer == peer) h xs ∙ ap (λ (b : Bool). one_if b + passing (λ g. g.peer == peer) xs) (mine refl) in
    omega (arith, more, own, rest)
count_off_if false peer number h xs ws is mine rest =
    let more = passing_cons (is_hint peer number) h xs ∙ ap (λ (b : Bool). one_if b + passing (is_hint peer number) xs) is in
    let own = passing_cons (λ g. g.peer == peer) h xs in
    let left = passing_cons (λ g. g.peer == peer) h ws in
    omega (arith, more, own, left, rest)

pub count_off : (peer number : ℕ) (xs : List Hint) → length (hints_of (without_hint xs peer number) peer) + passing (is_hint peer number) xs ≡ length (hints_of xs peer)
count_off peer number [] = refl
count_off peer number (h ∷ xs) =
    count_off_if (is_hint peer number h) peer number h xs (without_hint xs peer number) refl (λ it. (and_parts (h.peer == peer) (h.number == number) it).0) (count_off peer number xs)

others_if : (it : Bool) (k : ℕ) (h : Hint) (xs ws : List Hint) → (it ≡ true → (h.peer == k) ≡ false) → hints_of ws k ≡ hints_of xs k → hints_of (if not it then h ∷ ws else ws) k ≡ hints_of (h ∷ xs) k
others_if true k h xs ws apart rest = rest ∙ sym (ap (λ (b : Bool). if b then h ∷ hints_of xs k else hints_of xs k) (apart refl))
others_if false k h xs ws apart rest = ap (λ (hs : List Hint). if h.peer == k then h ∷ hs else hs) rest

not_both : (a b k : ℕ) (c : Bool) → (k ≡ b → ⊥) → a ≡ b → (a == k) ≡ c → c ≡ false
not_both a b k true apart same is = absurd (apart (sym (eqb-true a k is) ∙ same))
not_both a b k false apart same is = refl

pub count_others : (peer number k : ℕ) (xs : List Hint) → (k ≡ peer → ⊥) → hints_of (without_hint xs peer number) k ≡ hints_of xs k
count_others peer number k [] apart = refl
count_others peer number k (h ∷ xs) apart =
    others_if (is_hint peer number h) k h xs (without_hint xs peer number)
    (λ it. not_both h.peer peer k (h.peer == k) apart (eqb-true h.peer peer (and_parts (h.peer == peer) (h.number == number) it).0) refl) (count_others peer number k xs apart)

-- all of a table, where nothing went
pub pushed_own : (es es' : List ((ℕ × ℕ) × Hint)) (p : ℕ × ℕ) (h : Hint) → IsPushed es p h es' → (peer : ℕ) → hints_of (values_of es') peer ≡ hints_of (values_of es) peer ++ hints_of (h ∷ []) peer
pushed_own es es' p h push peer =
    ap (λ (xs : List ((ℕ × ℕ) × Hint)). hints_of (values_of xs) peer) (sym (all_pass es'))
    ∙ push.behind (λ e. true) peer
    ∙ ap (λ (xs : List ((ℕ × ℕ) × Hint)). hints_of (values_of xs) peer ++ hints_of (h ∷ []) peer) (all_pass es)

-- a list that is taken item by item
pub split_more : (all front its rest : List Hint) (h : Hint) → front ++ its ≡ all → its ≡ h ∷ rest → (front ++ h ∷ []) ++ rest ≡ all
split_more all front its rest h so_far is = sym (append_both front (h ∷ []) rest) ∙ ap (λ (xs : List Hint). front ++ xs) (sym is) ∙ so_far

pub own_more : (front : List Hint) (h : Hint) (was now : List Hint) (peer : ℕ) → hints_of now peer ≡ hints_of was peer ++ hints_of (h ∷ []) peer → hints_of was peer ≡ hints_of front peer → hints_of now peer ≡ hints_of (front ++ h ∷ []) peer
own_more front h was now peer is same =
    is ∙ ap (λ (hs : List Hint). hs ++ hints_of (h ∷ []) peer) same ∙ sym (filter-append (λ x. x.peer == peer) front (h ∷ []))
