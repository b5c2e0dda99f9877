-- A peer's first hints.
use Rattle.std.proofs.Common.{◌≡◌, ℕ, ◌<◌, ◌≤◌, zero, suc, Bool, true, false, List, [], ◌∷◌, ◌++◌, append-nil, filter, length, take, refl, sym, ap, ◌∙◌, arith, length-append}
use Rattle.std.specs.Prelude.{◌==◌, ◌&&◌, not, if◌then◌else◌}
use Rattle.std.specs.declared.ops.Bound.TheVariants.{Included, Excluded}
use Rattle.std.specs.Map.{values_of}
use Rattle.std.specs.BTreeMap.Range.{range_contains}
use Rattle.row_change.specs.declared.entry.Hint.{Hint}
use Rattle.peer_messages.specs.declared.setting.Setting.{Setting}
use Rattle.durable_state.specs.State.{hints_of}
use Rattle.node_steps.specs.Fitting.{is_table}
use Rattle.node_steps.proofs.HintLists.{append_both}
use Rattle.hint_store.specs.Staged.{first_of}
use Rattle.hint_store.specs.Tables.{place_cmp, AreFiled}
use Rattle.hint_store.specs.Stores.{is_gone, is_sent, hints_now}
use Rattle.hint_store.proofs.Runs.{in_places}

-- ---- a walk that copies what passes

front_of : {X : Type 0} (b : Bool) (x : X) (ys : List X) → (if b then x ∷ ys else ys) ≡ (if b then x ∷ [] else []) ++ ys
front_of true x ys = refl
front_of false x ys = refl

-- one more of those that are to come is copied
pub copied_more : {X : Type 0} (q : X → Bool) (all copied copied' rest : List X) (x : X) → all ≡ copied ++ filter q (x ∷ rest) → copied' ≡ copied ++ filter q (x ∷ []) → all ≡ copied' ++ filter q rest
copied_more {X} q all copied copied' rest x so_far more =
    so_far
    ∙ ap (λ (ys : List X). copied ++ ys) (front_of (q x) x (filter q rest))
    ∙ append_both copied (filter q (x ∷ [])) (filter q rest)
    ∙ ap (λ (ys : List X). ys ++ filter q rest) (sym more)

-- a full front is that of the whole
take_all : {X : Type 0} (n : ℕ) (xs ys : List X) → length xs ≡ n → take n (xs ++ ys) ≡ xs
take_all {X} zero [] ys long = refl
take_all {X} zero (x ∷ xs) ys long = absurd (omega (arith, long))
take_all {X} (suc n) [] ys long = absurd (omega (arith, long))
take_all {X} (suc n) (x ∷ xs) ys long = ap (λ (zs : List X). x ∷ zs) (take_all n xs ys (omega (arith, long)))

take_short : {X : Type 0} (n : ℕ) (xs : List X) → length xs ≤ n → take n xs ≡ xs
take_short {X} zero [] short = refl
take_short {X} zero (x ∷ xs) short = absurd (omega (arith, short))
take_short {X} (suc n) [] short = refl
take_short {X} (suc n) (x ∷ xs) short = ap (λ (zs : List X). x ∷ zs) (take_short n xs (omega (arith, short)))

pub full_front : {X : Type 0} (q : X → Bool) (all copied rest : List X) → filter q all ≡ copied ++ filter q rest → length copied ≤ 64 → 64 ≤ length copied → copied ≡ take 64 (filter q all)
full_front {X} q all copied rest so_far most full =
    sym (ap (λ (ys : List X). take 64 ys) so_far ∙ take_all 64 copied (filter q rest) (omega (arith, most, full)))

pub whole_front : {X : Type 0} (q : X → Bool) (all copied rest : List X) → filter q all ≡ copied ++ filter q rest → rest ≡ [] → length copied ≤ 64 → copied ≡ take 64 (filter q all)
whole_front {X} q all copied rest so_far none most =
    sym (ap (λ (ys : List X). take 64 ys) (so_far ∙ ap (λ (ys : List X). copied ++ filter q ys) none ∙ append-nil copied) ∙ take_short 64 copied most)

one_of : {X : Type 0} (b : Bool) (x : X) → length (if b then x ∷ [] else []) ≤ 1
one_of true x = omega arith
one_of false x = omega arith

pub still_most : {X : Type 0} (q : X → Bool) (copied copied' : List X) (x : X) → copied' ≡ copied ++ filter q (x ∷ []) → length copied < 64 → length copied' ≤ 64
still_most {X} q copied copied' x more room =
    let long = ap (λ (ys : List X). length ys) more ∙ length-append copied (filter q (x ∷ [])) in
    let one = one_of (q x) x in
    omega (arith, long, one, room)

-- ---- what is sent

values_filter_if : (b : Bool) (q : Hint → Bool) (e : (ℕ × ℕ) × Hint) (es : List ((ℕ × ℕ) × Hint))
    → filter q (values_of (if b then e ∷ es else es)) ≡ (if b then (if q e.1 then e.1 ∷ filter q (values_of es) else filter q (values_of es)) else filter q (values_of es))
values_filter_if true q e es = refl
values_filter_if false q e es = refl

-- the tests of one hint, in whatever order
sent_if : (near left table : Bool) (q r : Hint → Bool) (h : Hint) (xs : List Hint) (ys : List Hint) → q h ≡ near → r h ≡ table → xs ≡ filter r (filter q ys)
    → (if near then (if left && table then h ∷ xs else xs) else xs) ≡ filter r (filter q (if left then h ∷ ys else ys))
sent_if true true true q r h xs ys is it rest =
    ap (λ (zs : List Hint). h ∷ zs) rest ∙ sym (ap (λ (b : Bool). filter r (if b then h ∷ filter q ys else filter q ys)) is ∙ ap (λ (b : Bool). if b then h ∷ filter r (filter q ys) else filter r (filter q ys)) it)
sent_if true true false q r h xs ys is it rest =
    rest ∙ sym (ap (λ (b : Bool). filter r (if b then h ∷ filter q ys else filter q ys)) is ∙ ap (λ (b : Bool). if b then h ∷ filter r (filter q ys) else filter r (filter q ys)) it)
sent_if true false table q r h xs ys is it rest = rest
sent_if false true table q r h xs ys is it rest = rest ∙ sym (ap (λ (b : Bool). filter r (if b then h ∷ filter q ys else filter q ys)) is)
sent_if false false table q r h xs ys is it rest = rest

values_if : (b : Bool) (e : (ℕ × ℕ) × Hint) (es : List ((ℕ × ℕ) × Hint)) → values_of (if b then e ∷ es else es) ≡ (if b then e.1 ∷ values_of es else values_of es)
values_if true e es = refl
values_if false e es = refl

sent_of : (c : Setting) (gone : List (ℕ × ℕ)) (peer next : ℕ) (es : List ((ℕ × ℕ) × Hint)) → AreFiled next es
    → filter (is_sent c gone) (values_of (filter (λ e. range_contains place_cmp (Included (peer, 0)) (Excluded (peer, next)) e.0) es)) ≡ filter (λ h. is_table c h.mutation.partition) (hints_of (hints_now gone es) peer)
sent_of c gone peer next [] filed = refl
sent_of c gone peer next (e ∷ es) filed =
    values_filter_if (range_contains place_cmp (Included (peer, 0)) (Excluded (peer, next)) e.0) (is_sent c gone) e (filter (λ x. range_contains place_cmp (Included (peer, 0)) (Excluded (peer, next)) x.0) es)
    ∙ sent_if (range_contains place_cmp (Included (peer, 0)) (Excluded (peer, next)) e.0) (not (is_gone gone e.1)) (is_table c e.1.mutation.partition) (λ h. h.peer == peer) (λ h. is_table c h.mutation.partition) e.1
    (filter (is_sent c gone) (values_of (filter (λ x. range_contains place_cmp (Included (peer, 0)) (Excluded (peer, next)) x.0) es))) (hints_now gone es)
    (ap (λ (k : ℕ). k == peer) (sym filed.0) ∙ sym (in_places peer next e.0 filed.1)) refl (sent_of c gone peer next es filed.2)
    ∙ ap (λ (hs : List Hint). filter (λ h. is_table c h.mutation.partition) (hints_of hs peer)) (sym (values_if (not (is_gone gone e.1)) e (filter (λ x. not (is_gone gone x.1)) es)))

pub first_are : (c : Setting) (gone : List (ℕ × ℕ)) (peer next : ℕ) (es : List ((ℕ × ℕ) × Hint)) → AreFiled next es
    → take 64 (filter (is_sent c gone) (values_of (filter (λ e. range_contains place_cmp (Included (peer, 0)) (Excluded (peer, next)) e.0) es))) ≡ first_of c (hints_now gone es) peer
first_are c gone peer next es filed = ap (λ (hs : List Hint). take 64 hs) (sent_of c gone peer next es filed)

-- ---- all that are left

pub left_more : (gone : List (ℕ × ℕ)) (all copied copied' : List Hint) (e : (ℕ × ℕ) × Hint) (rest : List ((ℕ × ℕ) × Hint)) → all ≡ copied ++ hints_now gone (e ∷ rest) → copied' ≡ copied ++ filter (λ h. not (is_gone gone h)) (e.1 ∷ [])
    → all ≡ copied' ++ hints_now gone rest
left_more gone all copied copied' e rest so_far more =
    so_far
    ∙ ap (λ (ys : List Hint). copied ++ ys) (values_if (not (is_gone gone e.1)) e (filter (λ x. not (is_gone gone x.1)) rest) ∙ front_of (not (is_gone gone e.1)) e.1 (hints_now gone rest))
    ∙ append_both copied (filter (λ h. not (is_gone gone h)) (e.1 ∷ [])) (hints_now gone rest)
    ∙ ap (λ (ys : List Hint). ys ++ hints_now gone rest) (sym more)
