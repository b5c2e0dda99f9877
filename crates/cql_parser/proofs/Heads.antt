-- What forms begin with.
use Rattle.std.proofs.Common.{◌≡◌, ◌⊎◌, inl, inr, Bool, true, false, cond, not, ◌&&◌, ◌||◌, List, [], ◌∷◌, ◌++◌, refl, sym, ap, ◌∙◌, subst}
use Rattle.cql_tokens.specs.Tokens.{Meaning}
use Rattle.cql_parser.specs.Forms.{Terminal, Form, Derives, AreMany, accepts}
use Rattle.cql_parser.specs.Forms.Form.{Token, Nothing, Then, Or, Many, Made}
use Rattle.cql_parser.specs.Reading.{next_is, starts, firsts, is_nullable}
use Rattle.cql_parser.proofs.Splits.{cons_head, no_cons}

-- ---- tests

pub or_left : (a b : Bool) → a ≡ true → (a || b) ≡ true
or_left true b e = refl
or_left false b e = absurd (cc)

pub or_right : (a b : Bool) → b ≡ true → (a || b) ≡ true
or_right true b e = refl
or_right false b e = e

pub either : (a b : Bool) → (a || b) ≡ true → (a ≡ true) ⊎ (b ≡ true)
either true b e = inl refl
either false b e = inr e

pub both_left : (a b : Bool) → (a && b) ≡ true → a ≡ true
both_left true b e = refl
both_left false b e = absurd (cc)

pub both_right : (a b : Bool) → (a && b) ≡ true → b ≡ true
both_right true b e = e
both_right false b e = absurd (cc)

pub is_false : (a : Bool) → not a ≡ true → a ≡ false
is_false true e = absurd (cc)
is_false false e = refl

pub not_both : (a : Bool) → a ≡ true → a ≡ false → ⊥
not_both a e f = cc

pub sure : (a : Bool) → (a ≡ true → ⊥) → a ≡ false
sure true f = absurd (f refl)
sure false f = refl

-- ---- the head decides

pub next_head : (terminal : Terminal) (t : Meaning) (x y : List Meaning) → next_is terminal (t ∷ x) ≡ next_is terminal (t ∷ y)
next_head terminal t x y = refl

pub starts_head : (terminals : List Terminal) (t : Meaning) (x y : List Meaning) → starts terminals (t ∷ x) ≡ starts terminals (t ∷ y)
starts_head [] t x y = refl
starts_head (a ∷ []) t x y = refl
starts_head (a ∷ b ∷ more) t x y = ap (λ (r : Bool). accepts a t || r) (starts_head (b ∷ more) t x y)

pub starts_cons : (a : Terminal) (terminals : List Terminal) (ts : List Meaning) → starts (a ∷ terminals) ts ≡ (next_is a ts || starts terminals ts)
starts_cons a [] ts = go (next_is a ts)
  where
    go : (r : Bool) → r ≡ (r || false)
    go true = refl
    go false = refl
starts_cons a (b ∷ more) ts = refl

pub starts_nothing : (terminals : List Terminal) → starts terminals [] ≡ false
starts_nothing [] = refl
starts_nothing (a ∷ []) = refl
starts_nothing (a ∷ b ∷ more) = starts_nothing (b ∷ more)

pub starts_front : (xs ys : List Terminal) (ts : List Meaning) → starts xs ts ≡ true → starts (xs ++ ys) ts ≡ true
starts_front [] ys ts e = absurd (cc)
starts_front (a ∷ xs) ys ts e =
    starts_cons a (xs ++ ys) ts
    ∙ go (either (next_is a ts) (starts xs ts) (sym (starts_cons a xs ts) ∙ e)) (λ h. starts_front xs ys ts h)
  where
    go : (next_is a ts ≡ true) ⊎ (starts xs ts ≡ true) → (starts xs ts ≡ true → starts (xs ++ ys) ts ≡ true) → (next_is a ts || starts (xs ++ ys) ts) ≡ true
    go (inl h) ih = or_left _ _ h
    go (inr h) ih = or_right _ _ (ih h)

pub starts_behind : (xs ys : List Terminal) (ts : List Meaning) → starts ys ts ≡ true → starts (xs ++ ys) ts ≡ true
starts_behind [] ys ts e = e
starts_behind (a ∷ xs) ys ts e = starts_cons a (xs ++ ys) ts ∙ or_right _ _ (starts_behind xs ys ts e)

-- what is nothing has no token
pub nothing_derives : {A : Type 0} (f : Form A) (v : A) → Derives f [] v → is_nullable f ≡ true
nothing_derives (Token terminal) v d = absurd (no_cons (sym d.0))
nothing_derives Nothing v d = refl
nothing_derives {A} (Then f g) v d =
    let front_empty : d.0 ≡ [] = empty_front d.0 d.1 (sym d.2) in
    let rest_empty : d.1 ≡ [] = empty_rest d.0 d.1 (sym d.2) in
    both (nothing_derives f v.0 (subst (λ (l : List Meaning). Derives f l v.0) front_empty d.3))
    (nothing_derives g v.1 (subst (λ (l : List Meaning). Derives g l v.1) rest_empty d.4))
  where
    empty_front : (xs ys : List Meaning) → xs ++ ys ≡ [] → xs ≡ []
    empty_front [] ys e = refl
    empty_front (x ∷ xs) ys e = absurd (no_cons e)

    empty_rest : (xs ys : List Meaning) → xs ++ ys ≡ [] → ys ≡ []
    empty_rest [] ys e = e
    empty_rest (x ∷ xs) ys e = absurd (no_cons e)

    both : {a b : Bool} → a ≡ true → b ≡ true → (a && b) ≡ true
    both {a} {b} e h = ap (λ (x : Bool). x && b) e ∙ h
nothing_derives (Or f g) v (inl d) = or_left _ _ (nothing_derives f v d)
nothing_derives (Or f g) v (inr d) = or_right _ _ (nothing_derives g v d)
nothing_derives (Many f) v d = refl
nothing_derives (Made made f) v d = nothing_derives f d.0 d.1

-- the first token of many
pub many_first : {A : Type 0} (Is : List Meaning → A → Type 0) (terminals : List Terminal) (t : Meaning) (rest : List Meaning)
    → ((ts : List Meaning) (v : A) → Is (t ∷ ts) v → starts terminals (t ∷ rest) ≡ true)
    → (vs : List A) (ts : List Meaning) → AreMany Is (t ∷ ts) vs → starts terminals (t ∷ rest) ≡ true
many_first Is terminals t rest heads [] ts d = absurd (no_cons d)
many_first {A} Is terminals t rest heads (v ∷ vs) ts d = go d.0 d.1 d.2 d.3 d.4 (λ us e h. many_first Is terminals t rest heads vs us h)
  where
    go : (front behind : List Meaning) → t ∷ ts ≡ front ++ behind → Is front v → AreMany Is behind vs
        → ((us : List Meaning) → behind ≡ t ∷ us → AreMany Is (t ∷ us) vs → starts terminals (t ∷ rest) ≡ true) → starts terminals (t ∷ rest) ≡ true
    go [] behind e is are later = later ts (sym e) (subst (λ (l : List Meaning). AreMany Is l vs) (sym e) are)
    go (x ∷ front) behind e is are later = heads front v (subst (λ (m : Meaning). Is (m ∷ front) v) (sym (cons_head e)) is)

-- the first token of a form is one that it may begin with
pub first_derives : {A : Type 0} (f : Form A) (t : Meaning) (ts rest : List Meaning) (v : A) → Derives f (t ∷ ts) v → starts (firsts f) (t ∷ rest) ≡ true
first_derives (Token terminal) t ts rest v d = ap (accepts terminal) (cons_head d.0) ∙ d.1
first_derives Nothing t ts rest v d = absurd (no_cons d)
first_derives (Then {A = A} {B = B} f g) t ts rest v d = go d.0 d.1 d.2 d.3 d.4 (λ us h. first_derives f t us rest v.0 h) (λ us h. first_derives g t us rest v.1 h)
  where
    go : (front behind : List Meaning) → t ∷ ts ≡ front ++ behind → Derives f front v.0 → Derives g behind v.1
        → ((us : List Meaning) → Derives f (t ∷ us) v.0 → starts (firsts f) (t ∷ rest) ≡ true)
        → ((us : List Meaning) → Derives g (t ∷ us) v.1 → starts (firsts g) (t ∷ rest) ≡ true)
        → starts (firsts f ++ cond (is_nullable f) (firsts g) []) (t ∷ rest) ≡ true
    go [] behind e df dg hf hg =
        ap (λ (b : Bool). starts (firsts f ++ cond b (firsts g) []) (t ∷ rest)) (nothing_derives f v.0 df)
        ∙ starts_behind (firsts f) (firsts g) _ (hg ts (subst (λ (l : List Meaning). Derives g l v.1) (sym e) dg))
    go (x ∷ front) behind e df dg hf hg =
        starts_front (firsts f) _ _ (hf front (subst (λ (m : Meaning). Derives f (m ∷ front) v.0) (sym (cons_head e)) df))
first_derives (Or f g) t ts rest v (inl d) = starts_front (firsts f) (firsts g) _ (first_derives f t ts rest v d)
first_derives (Or f g) t ts rest v (inr d) = starts_behind (firsts f) (firsts g) _ (first_derives g t ts rest v d)
first_derives (Many {A = A} f) t ts rest v d = many_first (Derives f) (firsts f) t rest (λ us w h. first_derives f t us rest w h) v ts d
first_derives (Made made f) t ts rest v d = first_derives f t ts rest d.0 d.1
