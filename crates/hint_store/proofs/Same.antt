-- The same hints, in whatever order the peers stand: what is asked of them is the same, and what is done to them makes the same.
use Rattle.std.proofs.Common.{◌≡◌, ℕ, ◌+◌, ◌-◌, ◌^◌, ◌↔◌, Bool, true, false, List, [], ◌∷◌, ◌++◌, Some, None, filter, length, refl, sym, ap, subst, ◌∙◌, Contains}
use Rattle.std.specs.Prelude.{◌==◌, ◌&&◌, ◌||◌, not, nat_lt, if◌then◌else◌, take}
use Rattle.std.specs.List.{list_any}
use Rattle.std.proofs.lemmas.Bool.{eqb-true}
use Rattle.std.proofs.lemmas.List.Elements.{filter-append, filter_agree}
use Rattle.cs_base.proofs.Members.{contains_filter, contains_from_filter}
use Rattle.changes.specs.declared.Mutation.{Mutation}
use Rattle.row_change.specs.declared.entry.Hint.{Hint}
use Rattle.peer_messages.specs.declared.setting.Setting.{Setting}
use Rattle.durable_state.specs.declared.parts.LastNumber.{LastNumber}
use Rattle.durable_state.specs.State.{hints_of, last_of}
use Rattle.durable_state.specs.Keeping.{without_hint, with_last}
use Rattle.node_steps.specs.State.{NodeState}
use Rattle.node_steps.specs.Fitting.{is_table}
use Rattle.node_steps.specs.Hints.{KeptHints, is_full, next_hint, with_hint, push_hint, pushed_hint, push_hints, pushed_hints, with_room, is_kept, drop_hint, first_hints}
use Rattle.node_steps.proofs.HintLists.{same_number, last_here, last_other}
use Rattle.hint_store.specs.Staged.{IsSameHints, next_number, first_of}

-- ---- an equivalence

pub same_refl : (k : KeptHints) → IsSameHints k k
same_refl k = record { hints = λ peer. refl; numbers = λ peer. refl }

pub same_sym : (k k' : KeptHints) → IsSameHints k k' → IsSameHints k' k
same_sym k k' s = record { hints = λ peer. sym (s.hints peer); numbers = λ peer. sym (s.numbers peer) }

pub same_trans : (k k' k'' : KeptHints) → IsSameHints k k' → IsSameHints k' k'' → IsSameHints k k''
same_trans k k' k'' s t = record { hints = λ peer. t.hints peer ∙ s.hints peer; numbers = λ peer. t.numbers peer ∙ s.numbers peer }

pub same_from : (k k' : KeptHints) → k' ≡ k → IsSameHints k k'
same_from k k' e = subst (λ (x : KeptHints). IsSameHints k x) (sym e) (same_refl k)

-- ---- what is asked

pub same_full : (k k' : KeptHints) → IsSameHints k k' → (peer : ℕ) → is_full k' peer ≡ is_full k peer
same_full k k' s peer =
    ap (λ (hs : List Hint). not (nat_lt (length hs) 65536) || not (nat_lt (last_of k'.numbers peer) (2 ^ 64 - 1))) (s.hints peer)
    ∙ ap (λ (n : ℕ). not (nat_lt (length (hints_of k.hints peer)) 65536) || not (nat_lt n (2 ^ 64 - 1))) (s.numbers peer)

pub same_next : (k k' : KeptHints) → IsSameHints k k' → (peer : ℕ) → next_number k' peer ≡ next_number k peer
same_next k k' s peer =
    ap (λ (b : Bool). if b then None else Some (last_of k'.numbers peer + 1)) (same_full k k' s peer)
    ∙ ap (λ (n : ℕ). if is_full k peer then None else Some (n + 1)) (s.numbers peer)

pub same_room : (k k' : KeptHints) → IsSameHints k k' → (peers : List ℕ) → with_room k' peers ≡ with_room k peers
same_room k k' s peers = filter_agree (λ p. not (is_full k' p)) (λ p. not (is_full k p)) (λ p. ap not (same_full k k' s p)) peers

member_on : (k k' : KeptHints) → IsSameHints k k' → (h : Hint) → Contains k.hints h → Contains k'.hints h
member_on k k' s h there =
    let own = contains_filter (λ x. x.peer == h.peer) k.hints h there (same_number h.peer) in
    (contains_from_filter (λ x. x.peer == h.peer) k'.hints h (subst (λ (hs : List Hint). Contains hs h) (sym (s.hints h.peer)) own)).0

pub same_member : (k k' : KeptHints) → IsSameHints k k' → (h : Hint) → Contains k'.hints h ↔ Contains k.hints h
same_member k k' s h = (member_on k' k (same_sym k k' s) h, member_on k k' s h)

any_own_if : (mine : Bool) (number : ℕ) (h : Hint) (any rest : Bool) → any ≡ rest → ((mine && (h.number == number)) || any) ≡ (if mine then (mine && (h.number == number)) || rest else rest)
any_own_if true number h any rest e = ap (λ (b : Bool). (h.number == number) || b) e
any_own_if false number h any rest e = e

any_if : (b : Bool) (q : Hint → Bool) (h : Hint) (hs : List Hint) → list_any q (if b then h ∷ hs else hs) ≡ (if b then q h || list_any q hs else list_any q hs)
any_if true q h hs = refl
any_if false q h hs = refl

any_own : (peer number : ℕ) (hs : List Hint) → list_any (λ h. (h.peer == peer) && (h.number == number)) hs ≡ list_any (λ h. (h.peer == peer) && (h.number == number)) (hints_of hs peer)
any_own peer number [] = refl
any_own peer number (h ∷ hs) =
    any_own_if (h.peer == peer) number h (list_any (λ x. (x.peer == peer) && (x.number == number)) hs) (list_any (λ x. (x.peer == peer) && (x.number == number)) (hints_of hs peer)) (any_own peer number hs)
    ∙ sym (any_if (h.peer == peer) (λ x. (x.peer == peer) && (x.number == number)) h (hints_of hs peer))

pub same_kept : (k k' : KeptHints) → IsSameHints k k' → (peer number : ℕ) → is_kept k' peer number ≡ is_kept k peer number
same_kept k k' s peer number =
    ap (λ (n : ℕ). not (nat_lt n number) && list_any (λ h. (h.peer == peer) && (h.number == number)) k'.hints) (s.numbers peer)
    ∙ ap (λ (b : Bool). not (nat_lt (last_of k.numbers peer) number) && b)
    (any_own peer number k'.hints ∙ ap (λ (hs : List Hint). list_any (λ h. (h.peer == peer) && (h.number == number)) hs) (s.hints peer) ∙ sym (any_own peer number k.hints))

pub same_first : (k k' : KeptHints) → IsSameHints k k' → (c : Setting) (peer : ℕ) → first_of c k'.hints peer ≡ first_of c k.hints peer
same_first k k' s c peer = ap (λ (hs : List Hint). take 64 (filter (λ h. is_table c h.mutation.partition) hs)) (s.hints peer)

-- the first hints of a node are those of what it keeps
pub first_hints_are : (c : Setting) (s : NodeState) (peer : ℕ) → first_hints c s peer ≡ first_of c s.hints peer
first_hints_are c s peer = refl

-- ---- what is done

last_if : (b : Bool) (ns ns' : List LastNumber) (peer n q : ℕ) → (peer == q) ≡ b → last_of ns' q ≡ last_of ns q → last_of (with_last ns' peer n) q ≡ last_of (with_last ns peer n) q
last_if true ns ns' peer n q is e =
    subst (λ (k : ℕ). last_of (with_last ns' peer n) k ≡ last_of (with_last ns peer n) k) (eqb-true peer q is) (last_here ns' peer n ∙ sym (last_here ns peer n))
last_if false ns ns' peer n q is e = last_other ns' peer n q is ∙ e ∙ sym (last_other ns peer n q is)

pub same_with : (k k' : KeptHints) → IsSameHints k k' → (h : Hint) → IsSameHints (with_hint h k) (with_hint h k')
same_with k k' s h = record {
  hints = λ q.
      filter-append (λ x. x.peer == q) k'.hints (h ∷ [])
      ∙ ap (λ (hs : List Hint). hs ++ hints_of (h ∷ []) q) (s.hints q)
      ∙ sym (filter-append (λ x. x.peer == q) k.hints (h ∷ []));
  numbers = λ q. last_if (h.peer == q) k.numbers k'.numbers h.peer h.number q refl (s.numbers q);
}

next_same : (k k' : KeptHints) → IsSameHints k k' → (peer born : ℕ) (m : Mutation) → next_hint peer born m k' ≡ next_hint peer born m k
next_same k k' s peer born m = ap (λ (n : ℕ). record { peer = peer; number = n + 1; born = born; mutation = m }) (s.numbers peer)

push_if : (b b' : Bool) (k k' : KeptHints) (h h' : Hint) → b' ≡ b → h' ≡ h → IsSameHints k k' → IsSameHints (if b then k else with_hint h k) (if b' then k' else with_hint h' k')
push_if true true k k' h h' e f s = s
push_if true false k k' h h' e f s = cc
push_if false true k k' h h' e f s = cc
push_if false false k k' h h' e f s = subst (λ (x : Hint). IsSameHints (with_hint h k) (with_hint x k')) (sym f) (same_with k k' s h)

pub same_push : (k k' : KeptHints) → IsSameHints k k' → (peer born : ℕ) (m : Mutation) → IsSameHints (push_hint peer born m k) (push_hint peer born m k')
same_push k k' s peer born m = push_if (is_full k peer) (is_full k' peer) k k' (next_hint peer born m k) (next_hint peer born m k') (same_full k k' s peer) (next_same k k' s peer born m) s

pub same_pushed : (k k' : KeptHints) → IsSameHints k k' → (peer born : ℕ) (m : Mutation) → pushed_hint peer born m k' ≡ pushed_hint peer born m k
same_pushed k k' s peer born m =
    ap (λ (b : Bool). if b then [] else next_hint peer born m k' ∷ []) (same_full k k' s peer)
    ∙ ap (λ (h : Hint). if is_full k peer then [] else h ∷ []) (next_same k k' s peer born m)

pub same_pushes : (peers : List ℕ) (k k' : KeptHints) → IsSameHints k k' → (born : ℕ) (m : Mutation) → IsSameHints (push_hints peers born m k) (push_hints peers born m k')
same_pushes [] k k' s born m = s
same_pushes (p ∷ ps) k k' s born m = same_pushes ps (push_hint p born m k) (push_hint p born m k') (same_push k k' s p born m) born m

pub same_pushed_all : (peers : List ℕ) (k k' : KeptHints) → IsSameHints k k' → (born : ℕ) (m : Mutation) → pushed_hints peers born m k' ≡ pushed_hints peers born m k
same_pushed_all [] k k' s born m = refl
same_pushed_all (p ∷ ps) k k' s born m =
    ap (λ (hs : List Hint). hs ++ pushed_hints ps born m (push_hint p born m k')) (same_pushed k k' s p born m)
    ∙ ap (λ (hs : List Hint). pushed_hint p born m k ++ hs) (same_pushed_all ps (push_hint p born m k) (push_hint p born m k') (same_push k k' s p born m) born m)

swap_if : (a b : Bool) (h : Hint) (q r : Hint → Bool) (xs : List Hint) (ys : List Hint) → q h ≡ a → r h ≡ b → filter q xs ≡ filter r ys → filter q (if b then h ∷ xs else xs) ≡ filter r (if a then h ∷ ys else ys)
swap_if true true h q r xs ys is it e =
    ap (λ (t : Bool). if t then h ∷ filter q xs else filter q xs) is ∙ ap (λ (hs : List Hint). h ∷ hs) e ∙ sym (ap (λ (t : Bool). if t then h ∷ filter r ys else filter r ys) it)
swap_if true false h q r xs ys is it e = e ∙ sym (ap (λ (t : Bool). if t then h ∷ filter r ys else filter r ys) it)
swap_if false true h q r xs ys is it e = ap (λ (t : Bool). if t then h ∷ filter q xs else filter q xs) is ∙ e
swap_if false false h q r xs ys is it e = e

filter_swap : (q r : Hint → Bool) (hs : List Hint) → filter q (filter r hs) ≡ filter r (filter q hs)
filter_swap q r [] = refl
filter_swap q r (h ∷ hs) = swap_if (q h) (r h) h q r (filter r hs) (filter q hs) refl refl (filter_swap q r hs)

drop_if : (b b' : Bool) (k k' : KeptHints) (peer number : ℕ) → b' ≡ b → IsSameHints k k'
    → IsSameHints (if b then record k { hints = without_hint k.hints peer number } else k) (if b' then record k' { hints = without_hint k'.hints peer number } else k')
drop_if true true k k' peer number e s = record {
  hints = λ q.
      filter_swap (λ h. h.peer == q) (λ h. not ((h.peer == peer) && (h.number == number))) k'.hints
      ∙ ap (λ (hs : List Hint). without_hint hs peer number) (s.hints q)
      ∙ filter_swap (λ h. not ((h.peer == peer) && (h.number == number))) (λ h. h.peer == q) k.hints;
  numbers = s.numbers;
}
drop_if true false k k' peer number e s = cc
drop_if false true k k' peer number e s = cc
drop_if false false k k' peer number e s = s

pub same_drop : (k k' : KeptHints) → IsSameHints k k' → (peer number : ℕ) → IsSameHints (drop_hint peer number k) (drop_hint peer number k')
same_drop k k' s peer number = drop_if (is_kept k peer number) (is_kept k' peer number) k k' peer number (same_kept k k' s peer number) s
