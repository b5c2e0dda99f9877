-- The places of nodes among the others of a node, and the node at each place.
use Rattle.std.proofs.Common.{◌≡◌, ◌≢◌, ℕ, zero, suc, ◌+◌, ◌-◌, ◌<◌, ◌≤◌, Bool, cond, eqb, not, Some, List, [], ◌∷◌, ◌++◌, length, append-nil, refl, sym, ap, subst, ◌∙◌, arith, eq-eqb, ne_eqb, lt-ltb, le-ltb}
use Rattle.std.specs.Prelude.{slice_get}
use Rattle.std.proofs.lemmas.List.{length-append}
use Rattle.std.proofs.lemmas.List.Elements.{filter-append}
use mathlib.Core.Logic.{dite}
use native.Mathlib.Decide.{ℕ_discrete, dec_le}
use Rattle.node_links.specs.Pairs.{below, others_of}
use Rattle.served_links.specs.Ends.{place_of}

pub get_front : {X : Type 0} (xs ys : List X) (i : ℕ) (x : X) → slice_get xs i ≡ Some x → slice_get (xs ++ ys) i ≡ Some x
get_front [] ys i x at = cc
get_front (y ∷ xs) ys zero x at = at
get_front (y ∷ xs) ys (suc i) x at = get_front xs ys i x at

get_last : {X : Type 0} (xs : List X) (x : X) → slice_get (xs ++ x ∷ []) (length xs) ≡ Some x
get_last [] x = refl
get_last (y ∷ xs) x = get_last xs x

place_below : (other me : ℕ) → other < me → place_of other me ≡ other
place_below other me less = ap (λ b. cond b other (other - 1)) (lt-ltb other me less)

place_above : (other me : ℕ) → me ≤ other → place_of other me ≡ other - 1
place_above other me above = ap (λ b. cond b other (other - 1)) (le-ltb other me above)

-- ---- the others, with one more

others_more : (me n : ℕ) → me ≢ n → others_of me (suc n) ≡ others_of me n ++ n ∷ []
others_more me n apart =
    filter-append (λ (m : ℕ). not (eqb m me)) (below n) (n ∷ [])
    ∙ ap (λ (b : Bool). others_of me n ++ cond (not b) (n ∷ []) []) (ne_eqb n me (λ e. apart (sym e)))

others_same : (me n : ℕ) → me ≡ n → others_of me (suc n) ≡ others_of me n
others_same me n same =
    filter-append (λ (m : ℕ). not (eqb m me)) (below n) (n ∷ [])
    ∙ (ap (λ (b : Bool). others_of me n ++ cond (not b) (n ∷ []) []) (eq-eqb n me (sym same)) ∙ append-nil (others_of me n))

-- as many as there are, but for the node itself
length_before : (me n : ℕ) → n ≤ me → length (others_of me n) ≡ n
length_before me zero le = refl
length_before me (suc n) le =
    let apart : me ≢ n = λ e. absurd (omega (arith, le, e)) in
    let e : length (others_of me (suc n)) ≡ length (others_of me n ++ n ∷ []) = ap (λ (l : List ℕ). length l) (others_more me n apart) in
    let one = length-append (others_of me n) (n ∷ []) in
    let rest = length_before me n (omega (arith, le)) in
    omega (arith, e, one, rest)

length_behind : (me n : ℕ) → me < n → length (others_of me n) + 1 ≡ n
length_behind me zero less = absurd (omega (arith, less))
length_behind me (suc n) less = dite (ℕ_discrete me n)
    (λ same. let e : length (others_of me (suc n)) ≡ length (others_of me n) = ap (λ (l : List ℕ). length l) (others_same me n same) in
    let before = length_before me n (omega (arith, same)) in omega (arith, e, before))
    (λ apart. let e : length (others_of me (suc n)) ≡ length (others_of me n ++ n ∷ []) = ap (λ (l : List ℕ). length l) (others_more me n apart) in
    let one = length-append (others_of me n) (n ∷ []) in
    let rest = length_behind me n (omega (arith, less, apart)) in
    omega (arith, e, one, rest))

-- the last of the others
last_place : (me n : ℕ) → me ≢ n → place_of n me ≡ length (others_of me n)
last_place me n apart = dite (dec_le (suc n) me)
    (λ le. place_below n me (omega (arith, le)) ∙ sym (length_before me n (omega (arith, le))))
    (λ nle. let above : me ≤ n = omega (arith, nle) in
    let less : me < n = omega (arith, nle, apart) in
    let place = place_above n me above in
    let long = length_behind me n less in
    omega (arith, place, long, less))

-- each other node stands at its place
pub others_at : (me n other : ℕ) → other < n → me ≢ other → slice_get (others_of me n) (place_of other me) ≡ Some other
others_at me zero other less apart = absurd (omega (arith, less))
others_at me (suc n) other less apart = dite (ℕ_discrete other n)
    (λ last.
    let here : me ≢ n = λ e. apart (e ∙ sym last) in
    subst (λ (k : ℕ). slice_get (others_of me (suc n)) (place_of k me) ≡ Some k) (sym last)
    (subst (λ (l : List ℕ). slice_get l (place_of n me) ≡ Some n) (sym (others_more me n here))
    (subst (λ (i : ℕ). slice_get (others_of me n ++ n ∷ []) i ≡ Some n) (sym (last_place me n here)) (get_last (others_of me n) n))))
    (λ before.
    let rest = others_at me n other (omega (arith, less, before)) apart in
    dite (ℕ_discrete me n)
    (λ same. subst (λ (l : List ℕ). slice_get l (place_of other me) ≡ Some other) (sym (others_same me n same)) rest)
    (λ differ. subst (λ (l : List ℕ). slice_get l (place_of other me) ≡ Some other) (sym (others_more me n differ)) (get_front (others_of me n) (n ∷ []) (place_of other me) other rest)))

-- the node at a place among the others
pub record IsAt (me n place : ℕ) : Type 0 where
  pub other : ℕ
  pub within : other < n
  pub apart : other ≢ me
  pub is : place_of other me ≡ place

pub node_at : (me n place : ℕ) → place + 1 < n → me < n → IsAt me n place
node_at me n place within here = dite (dec_le (suc place) me)
    (λ le. record { other = place; within = omega (arith, within); apart = λ e. absurd (omega (arith, le, e)); is = place_below place me (omega (arith, le)) })
    (λ nle. record {
      other = place + 1;
      within = within;
      apart = λ e. absurd (omega (arith, nle, e));
      is = let above = place_above (place + 1) me (omega (arith, nle)) in omega (arith, above);
    })
