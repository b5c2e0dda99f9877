-- Hints that go one after another.
use Rattle.std.proofs.Common.{◌≡◌, ℕ, ◌+◌, ◌<◌, Bool, true, false, List, [], ◌∷◌, ◌++◌, filter, length, take, get_or, refl, sym, ap, ◌∙◌, arith, Contains}
use Rattle.std.specs.Prelude.{◌&&◌, ◌||◌, not, if◌then◌else◌}
use Rattle.std.specs.List.{list_any}
use Rattle.std.proofs.lemmas.Bool.{or_parts}
use Rattle.std.proofs.lemmas.List.Elements.{filter_agree}
use Rattle.std.proofs.lemmas.List.Filters.{length-filter_both}
use Rattle.cs_base.proofs.Members.{contains_here, contains_there, front_more}
use Rattle.row_change.specs.declared.entry.Hint.{Hint}
use Rattle.hint_store.specs.Tables.{is_place, is_hint, IsAt}
use Rattle.hint_store.specs.Stores.{is_gone, is_added}
use Rattle.hint_store.proofs.Keys.{count_from_some}
use Rattle.hint_store.proofs.Ages.{filter_both}
use Rattle.hint_store.proofs.Staging.{added_push, all_pass}

same_if : {X : Type 0} (b d : Bool) (x : X) (xs ys : List X) → b ≡ d → xs ≡ ys → (if b then x ∷ xs else xs) ≡ (if d then x ∷ ys else ys)
same_if {X} b d x xs ys same rest = ap (λ (z : Bool). if z then x ∷ xs else xs) same ∙ ap (λ (zs : List X). if d then x ∷ zs else zs) rest

-- tests that agree on what is there
pub agree_in : {X : Type 0} (p q : X → Bool) (xs : List X) → ((x : X) → Contains xs x → p x ≡ q x) → filter p xs ≡ filter q xs
agree_in p q [] each = refl
agree_in p q (x ∷ xs) each = same_if (p x) (q x) x (filter p xs) (filter q xs) (each x (contains_here x xs)) (agree_in p q xs (λ y h. each y (contains_there x xs y h)))

-- ---- those of one number

both_if : (place hint : Bool) → (place ≡ true → hint ≡ true) → (not place && not hint) ≡ not hint
both_if true hint only = sym (ap not (only refl))
both_if false hint only = refl

pub rest_stays : (peer number sequence : ℕ) (es es' : List ((ℕ × ℕ) × Hint)) → IsAt peer number sequence es → es' ≡ filter (λ e. not (is_place (peer, sequence) e.0)) es
    → filter (λ e. not (is_hint peer number e.1)) es' ≡ filter (λ e. not (is_hint peer number e.1)) es
rest_stays peer number sequence es es' at is =
    ap (λ (xs : List ((ℕ × ℕ) × Hint)). filter (λ e. not (is_hint peer number e.1)) xs) is
    ∙ filter_both (λ e. not (is_place (peer, sequence) e.0)) (λ e. not (is_hint peer number e.1)) es
    ∙ agree_in (λ e. not (is_place (peer, sequence) e.0) && not (is_hint peer number e.1)) (λ e. not (is_hint peer number e.1)) es
    (λ e h. both_if (is_place (peer, sequence) e.0) (is_hint peer number e.1) (at.only e h))

pub fewer : (peer number sequence : ℕ) (es es' : List ((ℕ × ℕ) × Hint)) → IsAt peer number sequence es → es' ≡ filter (λ e. not (is_place (peer, sequence) e.0)) es → length es' < length es
fewer peer number sequence es es' at is =
    let long = ap (λ (xs : List ((ℕ × ℕ) × Hint)). length xs) is in
    let both = length-filter_both (λ (e : (ℕ × ℕ) × Hint). is_place (peer, sequence) e.0) (λ e. not (is_place (peer, sequence) e.0)) (λ e. refl) es in
    let one = count_from_some (λ (e : (ℕ × ℕ) × Hint). is_place (peer, sequence) e.0) es at.some in
    omega (arith, long, both, one)

keep_if : {X : Type 0} (b : Bool) (x : X) (xs ys : List X) → b ≡ false → xs ≡ ys → (if not b then x ∷ xs else xs) ≡ x ∷ ys
keep_if {X} true x xs ys is rest = cc
keep_if {X} false x xs ys is rest = ap (λ (zs : List X). x ∷ zs) rest

pub none_goes : {X : Type 0} (p : X → Bool) (xs : List X) → list_any p xs ≡ false → filter (λ x. not (p x)) xs ≡ xs
none_goes p [] none = refl
none_goes p (x ∷ xs) none = let parts = or_parts (p x) (list_any p xs) none in keep_if (p x) x (filter (λ y. not (p y)) xs) xs parts.0 (none_goes p xs parts.1)

-- ---- those of many numbers

not_or : (a b : Bool) → (not a && not b) ≡ not (a || b)
not_or true b = refl
not_or false b = refl

pub went_more : (x : ℕ × ℕ) (rest : List (ℕ × ℕ)) (es es' : List ((ℕ × ℕ) × Hint)) → es' ≡ filter (λ e. not (is_hint x.0 x.1 e.1)) es → filter (λ e. not (is_gone rest e.1)) es' ≡ filter (λ e. not (is_gone (x ∷ rest) e.1)) es
went_more x rest es es' is =
    ap (λ (xs : List ((ℕ × ℕ) × Hint)). filter (λ e. not (is_gone rest e.1)) xs) is
    ∙ filter_both (λ e. not (is_hint x.0 x.1 e.1)) (λ e. not (is_gone rest e.1)) es
    ∙ filter_agree (λ (e : (ℕ × ℕ) × Hint). not (is_hint x.0 x.1 e.1) && not (is_gone rest e.1)) (λ e. not (is_gone (x ∷ rest) e.1)) (λ e. not_or (is_hint x.0 x.1 e.1) (is_gone rest e.1)) es

pub went_all : (rest : List (ℕ × ℕ)) (es : List ((ℕ × ℕ) × Hint)) → rest ≡ [] → filter (λ e. not (is_gone rest e.1)) es ≡ es
went_all rest es none = ap (λ (g : List (ℕ × ℕ)). filter (λ e. not (is_gone g e.1)) es) none ∙ all_pass es

-- ---- those at many places

pub came_more : (added : List (ℕ × ℕ)) (i : ℕ) (p : ℕ × ℕ) (es now now' : List ((ℕ × ℕ) × Hint)) → i < length added → p ≡ get_or added i p → now ≡ filter (λ e. not (is_added (take i added) e.0)) es → now' ≡ filter (λ e. not (is_place p e.0)) now
    → now' ≡ filter (λ e. not (is_added (take (i + 1) added) e.0)) es
came_more added i p es now now' within at so_far is =
    is
    ∙ ap (λ (xs : List ((ℕ × ℕ) × Hint)). filter (λ e. not (is_place p e.0)) xs) so_far
    ∙ filter_both (λ e. not (is_added (take i added) e.0)) (λ e. not (is_place p e.0)) es
    ∙ filter_agree (λ (e : (ℕ × ℕ) × Hint). not (is_added (take i added) e.0) && not (is_place p e.0)) (λ e. not (is_added (take i added ++ p ∷ []) e.0))
    (λ e. not_or (is_added (take i added) e.0) (is_place p e.0) ∙ ap not (sym (added_push (take i added) p e.0))) es
    ∙ ap (λ (a : List (ℕ × ℕ)). filter (λ e. not (is_added a e.0)) es) (sym (front_more added i p within at))
