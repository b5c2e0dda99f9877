-- The last numbers of peers, one after another.
use Rattle.std.proofs.Common.{◌≡◌, ℕ, ◌+◌, ◌<◌, suc, Bool, true, false, List, [], ◌∷◌, ◌++◌, length, get_or, drop, drop-cons, add-one, refl, sym, ap, subst, ◌∙◌}
use Rattle.std.specs.Prelude.{◌==◌, if◌then◌else◌, slice_index_or, slice_set}
use Rattle.std.proofs.lemmas.Bool.{eqb-true, eq-eqb}
use Rattle.std.proofs.lemmas.List.{get_or-set_same, get_or-set_other}
use Rattle.durable_state.specs.declared.parts.LastNumber.{LastNumber}
use Rattle.durable_state.specs.State.{last_of}
use Rattle.node_steps.proofs.HintLists.{append_both}
use Rattle.hint_store.specs.Tallies.{numbers_from, SetsAt}

pub sets_at : (xs : List ℕ) (i v : ℕ) → i < length xs → SetsAt i v xs (slice_set xs i v)
sets_at xs i v within = record {
  here = get_or-set_same xs i v 0 within;
  others = λ q other. get_or-set_other xs i q v 0 other;
}

-- ---- from behind, so that the first of a peer's counts

drop_at : (xs : List LastNumber) (i : ℕ) (x : LastNumber) → i < length xs → x ≡ get_or xs i x → drop i xs ≡ x ∷ drop (i + 1) xs
drop_at xs i x within at = rw (add-one, drop-cons xs i x) (ap (λ (y : LastNumber). y ∷ drop (suc i) xs) (sym at))

pub last_more : (xs : List LastNumber) (i : ℕ) (x : LastNumber) (old new : List ℕ) → i < length xs → x ≡ get_or xs i x → ((peer : ℕ) → slice_index_or old peer 0 ≡ last_of (drop (i + 1) xs) peer) → SetsAt x.peer x.last old new
    → (peer : ℕ) → slice_index_or new peer 0 ≡ last_of (drop i xs) peer
last_more xs i x old new within at so_far sets peer =
    is_if (x.peer == peer) refl ∙ ap (λ (ys : List LastNumber). last_of ys peer) (sym (drop_at xs i x within at))
  where
    off_on : (b : Bool) → b ≡ false → b ≡ true → ⊥
    off_on true h k = cc
    off_on false h k = cc

    is_if : (b : Bool) → (x.peer == peer) ≡ b → slice_index_or new peer 0 ≡ (if x.peer == peer then x.last else last_of (drop (i + 1) xs) peer)
    is_if true same =
        subst (λ (k : ℕ). slice_index_or new k 0 ≡ x.last) (eqb-true x.peer peer same) sets.here ∙ sym (ap (λ (b : Bool). if b then x.last else last_of (drop (i + 1) xs) peer) same)
    is_if false apart =
        sets.others peer (λ e. off_on (x.peer == peer) apart (eq-eqb x.peer peer (sym e))) ∙ so_far peer ∙ sym (ap (λ (b : Bool). if b then x.last else last_of (drop (i + 1) xs) peer) apart)

-- ---- as a list

front_if : (b : Bool) (x : LastNumber) (rest : List LastNumber) → (if b then rest else x ∷ rest) ≡ (if b then [] else x ∷ []) ++ rest
front_if true x rest = refl
front_if false x rest = refl

drop_number : (xs : List ℕ) (i : ℕ) (x : ℕ) → i < length xs → x ≡ get_or xs i x → drop i xs ≡ x ∷ drop (i + 1) xs
drop_number xs i x within at = rw (add-one, drop-cons xs i x) (ap (λ (y : ℕ). y ∷ drop (suc i) xs) (sym at))

pub numbers_more : (xs : List ℕ) (i x : ℕ) (all told told' : List LastNumber) → i < length xs → x ≡ get_or xs i x → all ≡ told ++ numbers_from i (drop i xs)
    → told' ≡ told ++ (if x == 0 then [] else record { peer = i; last = x } ∷ []) → all ≡ told' ++ numbers_from (i + 1) (drop (i + 1) xs)
numbers_more xs i x all told told' within at so_far more =
    so_far
    ∙ ap (λ (ys : List ℕ). told ++ numbers_from i ys) (drop_number xs i x within at)
    ∙ ap (λ (ys : List LastNumber). told ++ ys) (front_if (x == 0) (record { peer = i; last = x }) (numbers_from (i + 1) (drop (i + 1) xs)))
    ∙ append_both told (if x == 0 then [] else record { peer = i; last = x } ∷ []) (numbers_from (i + 1) (drop (i + 1) xs))
    ∙ ap (λ (ys : List LastNumber). ys ++ numbers_from (i + 1) (drop (i + 1) xs)) (sym more)
