-- Two ways to cut one list.
use Rattle.std.proofs.Common.{◌≡◌, List, [], ◌∷◌, ◌++◌, refl, sym, ap, ◌∙◌}

-- where one list is cut in two ways, the cuts are at one place, or one front goes on with what the other rest begins with
pub data Split {A : Type 0} (xs w ys z : List A) : Type 0 where
  Same : xs ≡ ys → w ≡ z → Split xs w ys z
  FirstLonger : (h : A) (c : List A) → xs ≡ ys ++ h ∷ c → z ≡ h ∷ (c ++ w) → Split xs w ys z
  SecondLonger : (h : A) (c : List A) → ys ≡ xs ++ h ∷ c → w ≡ h ∷ (c ++ z) → Split xs w ys z

pub cons_head : {A : Type 0} {x y : A} {xs ys : List A} → x ∷ xs ≡ y ∷ ys → x ≡ y
cons_head e = cc

pub cons_tail : {A : Type 0} {x y : A} {xs ys : List A} → x ∷ xs ≡ y ∷ ys → xs ≡ ys
cons_tail e = cc

pub no_cons : {A : Type 0} {x : A} {xs : List A} → x ∷ xs ≡ [] → ⊥
no_cons e = cc

pub split : {A : Type 0} (xs w ys z : List A) → xs ++ w ≡ ys ++ z → Split xs w ys z
split [] w [] z e = Same refl e
split [] w (y ∷ ys) z e = SecondLonger y ys refl e
split (x ∷ xs) w [] z e = FirstLonger x xs refl (sym e)
split {A} (x ∷ xs) w (y ∷ ys) z e = go (split xs w ys z (cons_tail e))
  where
    go : Split xs w ys z → Split (x ∷ xs) w (y ∷ ys) z
    go (Same p q) = Same (ap (λ (l : List A). x ∷ l) p ∙ ap (λ (a : A). a ∷ ys) (cons_head e)) q
    go (FirstLonger h c p q) = FirstLonger h c (ap (λ (l : List A). x ∷ l) p ∙ ap (λ (a : A). a ∷ (ys ++ h ∷ c)) (cons_head e)) q
    go (SecondLonger h c p q) = SecondLonger h c (ap (λ (l : List A). y ∷ l) p ∙ ap (λ (a : A). a ∷ (xs ++ h ∷ c)) (sym (cons_head e))) q
