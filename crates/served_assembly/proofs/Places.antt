-- Lists that stand beside each other, and one more that is made of them place by place.
use Rattle.std.proofs.Common.{◌≡◌, ℕ, zero, suc, ◌+◌, List, [], ◌∷◌, ◌++◌, length, Some, None, refl, sym, ap, subst, ◌∙◌, ◌⊎◌, inl, inr, ⊎_elim, append_assoc, arith}
use Rattle.std.specs.List.{slice_get}
use Rattle.std.proofs.lemmas.List.{length-append}

module _ {A : Type 0} where
  no_item : (x : A) → None ≡ Some x → ⊥
  no_item x e = cc

  same_item : (x y : A) → Some x ≡ Some y → x ≡ y
  same_item x y e = cc

  -- what stands behind so many others
  item_behind : (front rest : List A) (x y : A) (k : ℕ) → length front ≡ k → slice_get (front ++ x ∷ rest) k ≡ Some y → x ≡ y
  item_behind [] rest x y zero long here = same_item x y here
  item_behind [] rest x y (suc k) long here = absurd (omega (arith, long))
  item_behind (z ∷ front) rest x y zero long here = absurd (omega (arith, long))
  item_behind (z ∷ front) rest x y (suc k) long here = item_behind front rest x y k (omega (arith, long)) here

  -- an item of a list with one more is one of the list, or the last
  item_cases : (xs : List A) (x y : A) (k : ℕ) → slice_get (xs ++ x ∷ []) k ≡ Some y → (slice_get xs k ≡ Some y) ⊎ ((k ≡ length xs) × (x ≡ y))
  item_cases [] x y zero here = inr (refl, same_item x y here)
  item_cases [] x y (suc k) here = absurd (no_item y here)
  item_cases (z ∷ xs) x y zero here = inl here
  item_cases (z ∷ xs) x y (suc k) here = ⊎_elim inl (λ (last : (k ≡ length xs) × (x ≡ y)). inr (ap suc last.0, last.1)) (item_cases xs x y k here)

module _ {A B C D : Type 0} (R : A → B → C → D → Type 0) where
  -- of three lists all but these rests are done, and this was made of them
  pub record HaveMade (all_a : List A) (all_b : List B) (all_c : List C) (rest_a : List A) (rest_b : List B) (rest_c : List C) (made : List D) : Type 0 where
    pub done_a : List A
    pub done_b : List B
    pub done_c : List C
    pub split_a : done_a ++ rest_a ≡ all_a
    pub split_b : done_b ++ rest_b ≡ all_b
    pub split_c : done_c ++ rest_c ≡ all_c
    pub long_a : length done_a ≡ length made
    pub long_b : length done_b ≡ length made
    pub long_c : length done_c ≡ length made
    pub each : (k : ℕ) (a : A) (b : B) (c : C) (d : D) → slice_get all_a k ≡ Some a → slice_get all_b k ≡ Some b → slice_get all_c k ≡ Some c → slice_get made k ≡ Some d → R a b c d

  pub have_none : (all_a : List A) (all_b : List B) (all_c : List C) (rest_a : List A) (rest_b : List B) (rest_c : List C) (made : List D) → rest_a ≡ all_a → rest_b ≡ all_b → rest_c ≡ all_c → made ≡ []
      → HaveMade all_a all_b all_c rest_a rest_b rest_c made
  have_none all_a all_b all_c rest_a rest_b rest_c made same_a same_b same_c none = record {
    done_a = [];
    done_b = [];
    done_c = [];
    split_a = same_a;
    split_b = same_b;
    split_c = same_c;
    long_a = ap length (sym none);
    long_b = ap length (sym none);
    long_c = ap length (sym none);
    each = λ k a b c d at_a at_b at_c at_d. absurd (no_item d (ap (λ (l : List D). slice_get l k) (sym none) ∙ at_d));
  }

  pub have_more : (all_a : List A) (all_b : List B) (all_c : List C) (rest_a rest_a' : List A) (rest_b rest_b' : List B) (rest_c rest_c' : List C) (made made' : List D) (a : A) (b : B) (c : C) (d : D)
      → HaveMade all_a all_b all_c rest_a rest_b rest_c made → rest_a ≡ a ∷ rest_a' → rest_b ≡ b ∷ rest_b' → rest_c ≡ c ∷ rest_c' → made' ≡ made ++ d ∷ [] → R a b c d
      → HaveMade all_a all_b all_c rest_a' rest_b' rest_c' made'
  have_more all_a all_b all_c rest_a rest_a' rest_b rest_b' rest_c rest_c' made made' a b c d was next_a next_b next_c pushed one =
      let whole_a : was.done_a ++ a ∷ rest_a' ≡ all_a = ap (λ (l : List A). was.done_a ++ l) (sym next_a) ∙ was.split_a in
      let whole_b : was.done_b ++ b ∷ rest_b' ≡ all_b = ap (λ (l : List B). was.done_b ++ l) (sym next_b) ∙ was.split_b in
      let whole_c : was.done_c ++ c ∷ rest_c' ≡ all_c = ap (λ (l : List C). was.done_c ++ l) (sym next_c) ∙ was.split_c in
      subst (λ (l : List D). HaveMade all_a all_b all_c rest_a' rest_b' rest_c' l) (sym pushed) record {
        done_a = was.done_a ++ a ∷ [];
        done_b = was.done_b ++ b ∷ [];
        done_c = was.done_c ++ c ∷ [];
        split_a = append_assoc was.done_a (a ∷ []) rest_a' ∙ whole_a;
        split_b = append_assoc was.done_b (b ∷ []) rest_b' ∙ whole_b;
        split_c = append_assoc was.done_c (c ∷ []) rest_c' ∙ whole_c;
        long_a = one_longer was.done_a made a d was.long_a;
        long_b = one_longer was.done_b made b d was.long_b;
        long_c = one_longer was.done_c made c d was.long_c;
        each = λ k x y z w at_a at_b at_c at_d. ⊎_elim (was.each k x y z w at_a at_b at_c)
            (λ (last : (k ≡ length made) × (d ≡ w)).
            let is_a : a ≡ x = item_behind was.done_a rest_a' a x k (was.long_a ∙ sym last.0) (ap (λ (l : List A). slice_get l k) whole_a ∙ at_a) in
            let is_b : b ≡ y = item_behind was.done_b rest_b' b y k (was.long_b ∙ sym last.0) (ap (λ (l : List B). slice_get l k) whole_b ∙ at_b) in
            let is_c : c ≡ z = item_behind was.done_c rest_c' c z k (was.long_c ∙ sym last.0) (ap (λ (l : List C). slice_get l k) whole_c ∙ at_c) in
            subst (λ (t : A × B × C × D). R t.0 t.1 t.2 t.3) (λ i. (is_a i, is_b i, is_c i, last.1 i)) one)
            (item_cases made d w k at_d);
      }
    where
      one_longer : {X Y : Type 0} (xs : List X) (ys : List Y) (x : X) (y : Y) → length xs ≡ length ys → length (xs ++ x ∷ []) ≡ length (ys ++ y ∷ [])
      one_longer xs ys x y long = omega (arith, length-append xs (x ∷ []), length-append ys (y ∷ []), long)

  -- so many are made, and so many are left
  pub count_a : (all_a : List A) (all_b : List B) (all_c : List C) (rest_a : List A) (rest_b : List B) (rest_c : List C) (made : List D) → HaveMade all_a all_b all_c rest_a rest_b rest_c made
      → length made + length rest_a ≡ length all_a
  count_a all_a all_b all_c rest_a rest_b rest_c made have =
      let long = have.long_a in let whole = ap length (sym have.split_a) in omega (arith, long, whole, length-append have.done_a rest_a)
