-- Contents compose: the content of a union is made of the contents of its parts.
use Rattle.std.proofs.Common.{inl, inr, List, Contains, subst}
use Rattle.changes.specs.declared.Held.{Held}
use Rattle.changes.specs.Order.{Outranks}
use Rattle.changes.specs.Contents.{Either, AreApart, IsReachedBy, IsContent, IsMergeOf, AreSame}
use Rattle.changes.proofs.Places.{stored_total}
use Rattle.changes.proofs.Sorted.{sorted_one}
use Rattle.change_laws.specs.Kept.{ContentIsOne, ContentIsTops, MergeIsOfBoth, MergeCommutes, MergeRepeats, MergeAssociates, MergeKeeps, IsNotOutranked, ContentInOrderIsOne, SameInOrderAreEqual, MergeInOrderIsOne}
use Rattle.change_laws.proofs.Outranking.{Outranks_trans}

-- what a reached change outranks is reached
pub reached_below : (kept : List Held) (x y : Held) → IsReachedBy kept x → Outranks x y → IsReachedBy kept y
reached_below kept x y (inl here) over = inr (x, here, over)
reached_below kept x y (inr (z, here, higher)) over = inr (z, here, Outranks_trans z x y higher over)

-- what one content reaches, the content of it and more reaches
pub reached_on : (first kept : List Held) (T : Held → Type 0) → IsContent kept (Either (Contains first) T) → (x : Held) → IsReachedBy first x → IsReachedBy kept x
reached_on first kept T h x (inl here) = h.reached x (inl here)
reached_on first kept T h x (inr (y, here, over)) = reached_below kept y x (h.reached y (inl here)) over

-- the same set, said otherwise
pub IsContent-same : (kept : List Held) (S T : Held → Type 0) → ((x : Held) → S x → T x) → ((x : Held) → T x → S x) → IsContent kept S → IsContent kept T
IsContent-same kept S T to back h =
    record {
      within = λ x k. to x (h.within x k);
      reached = λ x t. h.reached x (back x t);
      apart = h.apart;
    }

-- a union with a content is the union with what it is the content of
pub IsContent-onto : (front kept : List Held) (S T : Held → Type 0) → IsContent front S → IsContent kept (Either (Contains front) T) → IsContent kept (Either S T)
IsContent-onto front kept S T f h =
    record {
      within = λ x k. elim (h.within x k) [ inl old ↦ inl (f.within x old) | inr new ↦ inr new ];
      reached = λ x u. elim u [ inl s ↦ reached_on front kept T h x (f.reached x s) | inr t ↦ h.reached x (inr t) ];
      apart = h.apart;
    }

pub Either_swap : (S T : Held → Type 0) (x : Held) → Either S T x → Either T S x
Either_swap S T x (inl s) = inr s
Either_swap S T x (inr t) = inl t

pub merge_commutes : MergeCommutes
merge_commutes a b kept h = IsContent-same kept _ _ (Either_swap (Contains a) (Contains b)) (Either_swap (Contains b) (Contains a)) h

pub merge_of_both : (S T : Held → Type 0) → MergeIsOfBoth S T
merge_of_both S T a b kept f s h =
    let one : IsContent kept (Either S (Contains b)) = IsContent-onto a kept S (Contains b) f h in
    let turned : IsContent kept (Either (Contains b) S) = IsContent-same kept _ _ (Either_swap S (Contains b)) (Either_swap (Contains b) S) one in
    IsContent-same kept _ _ (Either_swap T S) (Either_swap S T) (IsContent-onto b kept T S s turned)

-- a content is its own
pub IsContent-itself : (kept : List Held) → AreApart kept → IsContent kept (Contains kept)
IsContent-itself kept apart = record { within = λ x h. h; reached = λ x h. inl h; apart = apart }

pub merge_repeats : MergeRepeats
merge_repeats a apart =
    IsContent-same a (Contains a) (Either (Contains a) (Contains a)) (λ x h. inl h) (λ x u. elim u [ inl h ↦ h | inr h ↦ h ]) (IsContent-itself a apart)

not_above : (kept : List Held) (S : Held → Type 0) → IsContent kept S → (y x : Held) → Contains kept x → S y → Outranks y x → ⊥
not_above kept S h y x here in_set over =
    elim (h.reached y in_set) [
      | inl there ↦ h.apart y x there here over
      | inr (z, there, higher) ↦ h.apart z x there here (Outranks_trans z y x higher over)
    ]

pub content_is_tops : (S : Held → Type 0) → ContentIsTops S
content_is_tops S kept h x = (
  λ here. (h.within x here, λ y in_set over. not_above kept S h y x here in_set over),
  λ top. elim (h.reached x top.0) [
    | inl here ↦ here
    | inr (y, there, over) ↦ absurd (top.1 y (h.within y there) over)
  ],
)

content_in : (a b : List Held) (S : Held → Type 0) → IsContent a S → IsContent b S → (x : Held) → Contains a x → Contains b x
content_in a b S f s x here = (content_is_tops S b s x).1 ((content_is_tops S a f x).0 here)

pub content_is_one : (S : Held → Type 0) → ContentIsOne S
content_is_one S a b f s = (content_in a b S f s, content_in b a S s f)

-- a change of two that the content of three keeps, the content of the two keeps
top_in : (a b c bc kept : List Held) → IsContent kept (Either (Either (Contains a) (Contains b)) (Contains c)) → IsMergeOf bc b c → (x : Held) → Contains kept x → Either (Contains b) (Contains c) x → Contains bc x
top_in a b c bc kept all g x here u =
    elim (g.reached x u) [
      | inl there ↦ there
      | inr (y, there, over) ↦ absurd (elim (g.within y there) [
        | inl p ↦ not_above kept (Either (Either (Contains a) (Contains b)) (Contains c)) all y x here (inl (inr p)) over
        | inr p ↦ not_above kept (Either (Either (Contains a) (Contains b)) (Contains c)) all y x here (inr p) over
      ])
    ]

pub merge_associates : MergeAssociates
merge_associates a b c ab bc kept h k g =
    let all : IsContent kept (Either (Either (Contains a) (Contains b)) (Contains c)) = IsContent-onto ab kept (Either (Contains a) (Contains b)) (Contains c) h k in
    record {
      within = λ x here. elim (k.within x here) [
        | inl old ↦ elim (h.within x old) [ inl p ↦ inl p | inr p ↦ inr (top_in a b c bc kept all g x here (inl p)) ]
        | inr new ↦ inr (top_in a b c bc kept all g x here (inr new))
      ];
      reached = λ x u. elim u [
        | inl p ↦ all.reached x (inl (inl p))
        | inr p ↦ elim (g.within x p) [ inl q ↦ all.reached x (inl (inr q)) | inr q ↦ all.reached x (inr q) ]
      ];
      apart = k.apart;
    }

-- ---- what a merge keeps

keeps_from : (a b kept : List Held) → IsMergeOf kept a b → (x : Held) → Contains kept x → Contains a x → Contains a x × IsNotOutranked b x
keeps_from a b kept h x here old = (old, λ y at over. not_above kept (Either (Contains a) (Contains b)) h y x here (inr at) over)

keeps_to : (a b kept : List Held) → AreApart a → IsMergeOf kept a b → (x : Held) → Contains a x × IsNotOutranked b x → Contains kept x
keeps_to a b kept apart h x (old, free) =
    elim (h.reached x (inl old)) [
      | inl there ↦ there
      | inr (y, there, over) ↦ absurd (elim (h.within y there) [ inl p ↦ apart y x p old over | inr p ↦ free y p over ])
    ]

pub merge_keeps : MergeKeeps
merge_keeps a b kept f s h x = (
  λ here. elim (h.within x here) [
    | inl old ↦ inl (keeps_from a b kept h x here old)
    | inr new ↦ inr (keeps_from b a kept (merge_commutes a b kept h) x here new)
  ],
  λ u. elim u [
    | inl old ↦ keeps_to a b kept f h x old
    | inr new ↦ keeps_to b a kept s (merge_commutes a b kept h) x new
  ],
)

-- ---- in order

pub same_in_order_are_equal : SameInOrderAreEqual
same_in_order_are_equal a b up high = (λ same. sorted_one stored_total a b up high same.0 same.1, λ e. subst (λ (l : List Held). AreSame a l) e (λ x at. at, λ x at. at))

pub content_in_order_is_one : (S : Held → Type 0) → ContentInOrderIsOne S
content_in_order_is_one S a b f s up high = (same_in_order_are_equal a b up high).0 (content_is_one S a b f s)

pub merge_in_order_is_one : MergeInOrderIsOne
merge_in_order_is_one a b kept other f s up high = content_in_order_is_one (Either (Contains a) (Contains b)) kept other f s up high
