-- First replies of nodes: what one more makes of them, and whom they tell of.
use Rattle.std.proofs.Common.{◌≡◌, ℕ, inl, inr, ◌⊎◌, Bool, true, false, Option, Some, None, List, [], ◌∷◌, ◌++◌, refl, sym, ap, subst, ◌∙◌, Contains, map}
use Rattle.std.specs.Prelude.{◌==◌, ◌||◌, ◌&&◌, not, if◌then◌else◌}
use Rattle.std.specs.List.{list_any}
use Rattle.std.proofs.lemmas.Bool.{eqb-true, eq-eqb}
use Rattle.std.proofs.lemmas.List.Elements.{Contains-push_cases}
use Rattle.cs_base.specs.Quorums.{is_in}
use Rattle.cs_base.proofs.Members.{contains_here, contains_there}
use Rattle.changes.specs.declared.Held.{Held}
use Rattle.changes.specs.Contents.{Either, IsContent}
use Rattle.change_laws.proofs.Contents.{IsContent-onto, IsContent-same}
use Rattle.node_steps.specs.State.{Replied}
use Rattle.node_steps.specs.Reads.{is_same, replied_from}
use Rattle.answer_causes.specs.Numbers.{first_reply, IsReplied, has_merge}

-- ---- first replies

abbrev or_first : Option (List Held) → Option (List Held) → Option (List Held)
or_first None y = y
or_first (Some x) y = Some x

first_later : (b : Bool) (content : List Held) (a p q : Option (List Held)) → a ≡ or_first p q → (if b then Some content else a) ≡ or_first (if b then Some content else p) q
first_later true content a p q h = refl
first_later false content a p q h = h

first_push : (xs : List Replied) (y : Replied) (k : ℕ) → first_reply (xs ++ y ∷ []) k ≡ or_first (first_reply xs k) (if y.from == k then Some y.content else None)
first_push [] y k = refl
first_push (x ∷ xs) y k = first_later (x.from == k) x.content (first_reply (xs ++ y ∷ []) k) (first_reply xs k) (if y.from == k then Some y.content else None) (first_push xs y k)

abbrev pub is_found : Option (List Held) → Bool
is_found None = false
is_found (Some x) = true

found_later : (b h : Bool) (content : List Held) (o : Option (List Held)) → h ≡ is_found o → (b || h) ≡ is_found (if b then Some content else o)
found_later true h content o is = refl
found_later false h content o is = is

pub heard_first : (xs : List Replied) (k : ℕ) → is_in (map replied_from xs) k ≡ is_found (first_reply xs k)
heard_first [] k = refl
heard_first (x ∷ xs) k = found_later (x.from == k) (is_in (map replied_from xs) k) x.content (first_reply xs k) (heard_first xs k)

-- of these replicas the first replies are the same
abbrev pub SameFirsts : List ℕ → List Replied → List Replied → Type 0
SameFirsts replicas xs ys = (j : ℕ) → Contains replicas j → first_reply xs j ≡ first_reply ys j

pub push_both : (replicas : List ℕ) (xs ys : List Replied) (y : Replied) → SameFirsts replicas xs ys → SameFirsts replicas (xs ++ y ∷ []) (ys ++ y ∷ [])
push_both replicas xs ys y same j h = first_push xs y j ∙ ap (λ (o : Option (List Held)). or_first o (if y.from == j then Some y.content else None)) (same j h) ∙ sym (first_push ys y j)

stays_first : (o : Option (List Held)) (b : Bool) (content : List Held) → (b ≡ true → is_found o ≡ true) → o ≡ or_first o (if b then Some content else None)
stays_first None true content h = let e : false ≡ true = h refl in cc
stays_first None false content h = refl
stays_first (Some x) b content h = refl

-- one more of a replica that was heard of, or of another node, is no first one
pub push_later : (replicas : List ℕ) (xs ys : List Replied) (y : Replied) → (Contains replicas y.from → is_in (map replied_from xs) y.from ≡ true) → SameFirsts replicas xs ys → SameFirsts replicas xs (ys ++ y ∷ [])
push_later replicas xs ys y heard same j h =
    same j h
    ∙ stays_first (first_reply ys j) (y.from == j) y.content (λ is.
    let at = eqb-true y.from j is in
    ap is_found (sym (same j h)) ∙ sym (heard_first xs j) ∙ subst (λ (k : ℕ). is_in (map replied_from xs) k ≡ true) at (heard (subst (λ (k : ℕ). Contains replicas k) (sym at) h)))
    ∙ sym (first_push ys y j)

-- each node replied once
abbrev pub OnceEach : List Replied → Type 0
OnceEach xs = (x : Replied) → Contains xs x → first_reply xs x.from ≡ Some x.content

or_some : (o p : Option (List Held)) (content : List Held) → o ≡ Some content → or_first o p ≡ Some content
or_some None p content h = cc
or_some (Some x) p content h = h

or_next : (o : Option (List Held)) (b : Bool) (content : List Held) → is_found o ≡ false → b ≡ true → or_first o (if b then Some content else None) ≡ Some content
or_next None true content h e = refl
or_next None false content h e = cc
or_next (Some x) b content h e = cc

pub once_push : (xs : List Replied) (y : Replied) → is_in (map replied_from xs) y.from ≡ false → OnceEach xs → OnceEach (xs ++ y ∷ [])
once_push xs y new once x h = elim (Contains-push_cases xs y x h) [
  | inl old ↦ first_push xs y x.from ∙ or_some (first_reply xs x.from) _ x.content (once x old)
  | inr last ↦ subst (λ (z : Replied). first_reply (xs ++ y ∷ []) z.from ≡ Some z.content) last
      (first_push xs y y.from ∙ or_next (first_reply xs y.from) (y.from == y.from) y.content (sym (heard_first xs y.from) ∙ new) (eq-eqb y.from y.from refl))
]

-- ---- who replied another content than the merge

abbrev pub is_other : List Held → Option (List Held) → Bool
is_other merged None = false
is_other merged (Some content) = not (is_same content merged)

any_one : (x n m rest : Bool) → x ≡ n → rest ≡ (m && n) → (x || rest) ≡ n
any_one true true m rest is rests = refl
any_one true false m rest is rests = cc
any_one false true m rest is rests = cc
any_one false false true rest is rests = rests
any_one false false false rest is rests = rests

any_more : (b x n m rest : Bool) → (b ≡ true → x ≡ n) → rest ≡ (m && n) → ((b && x) || rest) ≡ ((b || m) && n)
any_more true x n m rest is rests = any_one x n m rest (is refl) rests
any_more false x n m rest is rests = rests

any_other : (merged content : List Held) (xs : List Replied) (k : ℕ) → ((x : Replied) → Contains xs x → (x.from == k) ≡ true → x.content ≡ content)
    → list_any (λ (x : Replied). (x.from == k) && not (is_same x.content merged)) xs ≡ (is_in (map replied_from xs) k && not (is_same content merged))
any_other merged content [] k same = refl
any_other merged content (x ∷ xs) k same =
    any_more (x.from == k) (not (is_same x.content merged)) (not (is_same content merged)) (is_in (map replied_from xs) k) _
    (λ at. ap (λ (z : List Held). not (is_same z merged)) (same x (contains_here x xs) at)) (any_other merged content xs k (λ z h at. same z (contains_there x xs z h) at))

some_one : (x y : List Held) → Some x ≡ Some y → x ≡ y
some_one x y e = cc

none_some : (x : List Held) → None ≡ Some x → ⊥
none_some x e = cc

other_as : (merged : List Held) (xs : List Replied) (k : ℕ) (o : Option (List Held)) → first_reply xs k ≡ o → OnceEach xs
    → list_any (λ (x : Replied). (x.from == k) && not (is_same x.content merged)) xs ≡ is_other merged o
other_as merged xs k None first once =
    any_other merged [] xs k (λ x h at. absurd (none_some x.content (sym first ∙ subst (λ (j : ℕ). first_reply xs j ≡ Some x.content) (eqb-true x.from k at) (once x h))))
    ∙ ap (λ (b : Bool). b && not (is_same [] merged)) (heard_first xs k ∙ ap is_found first)
other_as merged xs k (Some content) first once =
    any_other merged content xs k (λ x h at. some_one x.content content (sym (subst (λ (j : ℕ). first_reply xs j ≡ Some x.content) (eqb-true x.from k at) (once x h)) ∙ first))
    ∙ ap (λ (b : Bool). b && not (is_same content merged)) (heard_first xs k ∙ ap is_found first)

pub differs_first : (merged : List Held) (xs : List Replied) (k : ℕ) → OnceEach xs → list_any (λ (x : Replied). (x.from == k) && not (is_same x.content merged)) xs ≡ is_other merged (first_reply xs k)
differs_first merged xs k once = other_as merged xs k (first_reply xs k) refl once

not_both : (same acked : Bool) → (not (not same && not acked) && true) ≡ (same || acked)
not_both true acked = refl
not_both false true = refl
not_both false false = refl

-- who replied, and is not one of those that are to acknowledge the merge yet, has it
pub has_it : (merged : List Held) (o : Option (List Held)) (acked : Bool) → (not (is_other merged o && not acked) && is_found o) ≡ has_merge merged o acked
has_it merged None acked = refl
has_it merged (Some content) acked = not_both (is_same content merged) acked

-- ---- the merge of one reply more

from_or : (o : Option (List Held)) (b : Bool) (content z : List Held) → or_first o (if b then Some content else None) ≡ Some z → (o ≡ Some z) ⊎ ((is_found o ≡ false) × (b ≡ true) × (content ≡ z))
from_or None true content z h = inr (refl, refl, some_one content z h)
from_or None false content z h = absurd (none_some z h)
from_or (Some x) b content z h = inl h

to_replied : (replicas : List ℕ) (xs : List Replied) (y : Replied) (x : Held) → Contains replicas y.from → is_in (map replied_from xs) y.from ≡ false → Either (IsReplied replicas xs) (Contains y.content) x → IsReplied replicas (xs ++ y ∷ []) x
to_replied replicas xs y x replica new (inl (k, content, there, first, at)) = (k, content, there, first_push xs y k ∙ or_some (first_reply xs k) _ content first, at)
to_replied replicas xs y x replica new (inr at) =
    (y.from, y.content, replica, first_push xs y y.from ∙ or_next (first_reply xs y.from) (y.from == y.from) y.content (sym (heard_first xs y.from) ∙ new) (eq-eqb y.from y.from refl), at)

from_replied : (replicas : List ℕ) (xs : List Replied) (y : Replied) (x : Held) → IsReplied replicas (xs ++ y ∷ []) x → Either (IsReplied replicas xs) (Contains y.content) x
from_replied replicas xs y x (k, content, there, first, at) = elim (from_or (first_reply xs k) (y.from == k) y.content content (sym (first_push xs y k) ∙ first)) [
  | inl old ↦ inl (k, content, there, old, at)
  | inr new ↦ inr (subst (λ (zs : List Held). Contains zs x) (sym new.2) at)
]

pub merge_push : (replicas : List ℕ) (xs : List Replied) (y : Replied) (before after : List Held) → Contains replicas y.from → is_in (map replied_from xs) y.from ≡ false → IsContent before (IsReplied replicas xs)
    → IsContent after (Either (Contains before) (Contains y.content)) → IsContent after (IsReplied replicas (xs ++ y ∷ []))
merge_push replicas xs y before after replica new old merge =
    IsContent-same after (Either (IsReplied replicas xs) (Contains y.content)) (IsReplied replicas (xs ++ y ∷ [])) (λ x h. to_replied replicas xs y x replica new h) (λ x h. from_replied replicas xs y x h)
    (IsContent-onto before after (IsReplied replicas xs) (Contains y.content) old merge)

-- the same first replies have the same merge
pub merge_as : (replicas : List ℕ) (xs ys : List Replied) (merged : List Held) → SameFirsts replicas xs ys → IsContent merged (IsReplied replicas xs) → IsContent merged (IsReplied replicas ys)
merge_as replicas xs ys merged same h =
    IsContent-same merged (IsReplied replicas xs) (IsReplied replicas ys) (λ x (k, content, there, first, at). (k, content, there, sym (same k there) ∙ first, at)) (λ x (k, content, there, first, at). (k, content, there, same k there ∙ first, at)) h
