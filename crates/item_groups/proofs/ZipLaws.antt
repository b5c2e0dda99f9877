-- Laws of lists beside each other.
use Rattle.std.proofs.Common.{◌≡◌, ℕ, suc, List, [], ◌∷◌, ◌++◌, length, map, refl, sym, ◌∙◌, ap, subst, append_assoc, append-nil}
use Rattle.std.specs.List.{AllByRecursion, AllZip}
use Rattle.item_groups.specs.Zips.{AllZip3}

-- ---- a loop that makes one item for those at the next place of other lists

module _ {A B : Type 0} (R : A → B → Type 0) where
  -- what is left to do will make the whole
  abbrev pub Makes2 : List A → List A → List B → Type 0
  Makes2 xs rest made = (more : List B) → AllZip R rest more → AllZip R xs (made ++ more)

  pub begin2 : (xs : List A) → Makes2 xs xs []
  begin2 xs more h = h

  pub step2 : (xs rest rest' : List A) (made made' : List B) (x : A) (y : B) → Makes2 xs rest made → rest ≡ x ∷ rest' → made' ≡ made ++ y ∷ [] → R x y → Makes2 xs rest' made'
  step2 xs rest rest' made made' x y was next pushed here more h =
      let whole = was (y ∷ more) (subst (λ l. AllZip R l (y ∷ more)) (sym next) (here, h)) in
      subst (λ l. AllZip R xs l) (sym (append_assoc made (y ∷ []) more) ∙ ap (λ l. l ++ more) (sym pushed)) whole

  pub end2 : (xs rest : List A) (made : List B) → Makes2 xs rest made → rest ≡ [] → AllZip R xs made
  end2 xs rest made was none = subst (λ l. AllZip R xs l) (append-nil made) (was [] (subst (λ l. AllZip R l []) (sym none) tt))

module _ {A B C : Type 0} (R : A → B → C → Type 0) where
  abbrev pub Makes3 : List A → List B → List A → List B → List C → Type 0
  Makes3 xs ys rx ry made = (more : List C) → AllZip3 R rx ry more → AllZip3 R xs ys (made ++ more)

  pub begin3 : (xs : List A) (ys : List B) → Makes3 xs ys xs ys []
  begin3 xs ys more h = h

  pub step3 : (xs : List A) (ys : List B) (rx rx' : List A) (ry ry' : List B) (made made' : List C) (x : A) (y : B) (z : C)
      → Makes3 xs ys rx ry made → rx ≡ x ∷ rx' → ry ≡ y ∷ ry' → made' ≡ made ++ z ∷ [] → R x y z → Makes3 xs ys rx' ry' made'
  step3 xs ys rx rx' ry ry' made made' x y z was next next' pushed here more h =
      let whole = was (z ∷ more) (subst (λ l. AllZip3 R l ry (z ∷ more)) (sym next) (subst (λ l. AllZip3 R (x ∷ rx') l (z ∷ more)) (sym next') (here, h))) in
      subst (λ l. AllZip3 R xs ys l) (sym (append_assoc made (z ∷ []) more) ∙ ap (λ l. l ++ more) (sym pushed)) whole

  pub end3 : (xs : List A) (ys : List B) (rx : List A) (ry : List B) (made : List C) → Makes3 xs ys rx ry made → rx ≡ [] → ry ≡ [] → AllZip3 R xs ys made
  end3 xs ys rx ry made was none none' =
      subst (λ l. AllZip3 R xs ys l) (append-nil made) (was [] (subst (λ l. AllZip3 R l ry []) (sym none) (subst (λ l. AllZip3 R [] l []) (sym none') tt)))

-- ---- two lists that are made beside one

module _ {A B C : Type 0} (R : A → B → C → Type 0) where
  abbrev pub MakesBoth : List A → List A → List B → List C → Type 0
  MakesBoth xs rest made made2 = (more : List B) (more2 : List C) → AllZip3 R rest more more2 → AllZip3 R xs (made ++ more) (made2 ++ more2)

  pub begin-both : (xs : List A) → MakesBoth xs xs [] []
  begin-both xs more more2 h = h

  pub step-both : (xs rest rest' : List A) (b b' : List B) (c c' : List C) (x : A) (y : B) (z : C)
      → MakesBoth xs rest b c → rest ≡ x ∷ rest' → b' ≡ b ++ y ∷ [] → c' ≡ c ++ z ∷ [] → R x y z → MakesBoth xs rest' b' c'
  step-both xs rest rest' b b' c c' x y z was next pushed pushed' here more more2 h =
      let whole = was (y ∷ more) (z ∷ more2) (subst (λ l. AllZip3 R l (y ∷ more) (z ∷ more2)) (sym next) (here, h)) in
      subst (λ l. AllZip3 R xs l (c' ++ more2)) (sym (append_assoc b (y ∷ []) more) ∙ ap (λ l. l ++ more) (sym pushed))
      (subst (λ l. AllZip3 R xs (b ++ y ∷ more) l) (sym (append_assoc c (z ∷ []) more2) ∙ ap (λ l. l ++ more2) (sym pushed')) whole)

  pub end-both : (xs rest : List A) (b : List B) (c : List C) → MakesBoth xs rest b c → rest ≡ [] → AllZip3 R xs b c
  end-both xs rest b c was none =
      subst (λ l. AllZip3 R xs l c) (append-nil b) (subst (λ l. AllZip3 R xs (b ++ []) l) (append-nil c) (was [] [] (subst (λ l. AllZip3 R l [] []) (sym none) tt)))

-- ---- what is so of three lists

module _ {A B C : Type 0} where
  pub zip3-map : (R Q : A → B → C → Type 0) → ((x : A) (y : B) (z : C) → R x y z → Q x y z) → (xs : List A) (ys : List B) (zs : List C) → AllZip3 R xs ys zs → AllZip3 Q xs ys zs
  zip3-map R Q f [] [] [] h = tt
  zip3-map R Q f [] [] (z ∷ zs) h = absurd h
  zip3-map R Q f [] (y ∷ ys) zs h = absurd h
  zip3-map R Q f (x ∷ xs) [] zs h = absurd h
  zip3-map R Q f (x ∷ xs) (y ∷ ys) [] h = absurd h
  zip3-map R Q f (x ∷ xs) (y ∷ ys) (z ∷ zs) h = (f x y z h.0, zip3-map R Q f xs ys zs h.1)

  -- of the second and the third list
  pub zip3-later : (R : A → B → C → Type 0) (Q : B → C → Type 0) → ((x : A) (y : B) (z : C) → R x y z → Q y z) → (xs : List A) (ys : List B) (zs : List C) → AllZip3 R xs ys zs → AllZip Q ys zs
  zip3-later R Q f [] [] [] h = tt
  zip3-later R Q f [] [] (z ∷ zs) h = absurd h
  zip3-later R Q f [] (y ∷ ys) zs h = absurd h
  zip3-later R Q f (x ∷ xs) [] zs h = absurd h
  zip3-later R Q f (x ∷ xs) (y ∷ ys) [] h = absurd h
  zip3-later R Q f (x ∷ xs) (y ∷ ys) (z ∷ zs) h = (f x y z h.0, zip3-later R Q f xs ys zs h.1)

  pub zip3-long : (R : A → B → C → Type 0) (xs : List A) (ys : List B) (zs : List C) → AllZip3 R xs ys zs → (length ys ≡ length xs) × (length zs ≡ length xs)
  zip3-long R [] [] [] h = (refl, refl)
  zip3-long R [] [] (z ∷ zs) h = absurd h
  zip3-long R [] (y ∷ ys) zs h = absurd h
  zip3-long R (x ∷ xs) [] zs h = absurd h
  zip3-long R (x ∷ xs) (y ∷ ys) [] h = absurd h
  zip3-long R (x ∷ xs) (y ∷ ys) (z ∷ zs) h = let l = zip3-long R xs ys zs h.1 in (ap suc l.0, ap suc l.1)

  -- where the first list stands beside another one, and so do the second and the third with that
  pub zip3-through : {D : Type 0} (P : A → D → Type 0) (R : D → B → C → Type 0) (Q : A → B → C → Type 0) → ((x : A) (d : D) (y : B) (z : C) → P x d → R d y z → Q x y z)
      → (xs : List A) (ds : List D) (ys : List B) (zs : List C) → AllZip P xs ds → AllZip3 R ds ys zs → AllZip3 Q xs ys zs
  zip3-through P R Q f [] [] [] [] p h = tt
  zip3-through P R Q f [] [] [] (z ∷ zs) p h = absurd h
  zip3-through P R Q f [] [] (y ∷ ys) zs p h = absurd h
  zip3-through P R Q f [] (d ∷ ds) ys zs p h = absurd p
  zip3-through P R Q f (x ∷ xs) [] ys zs p h = absurd p
  zip3-through P R Q f (x ∷ xs) (d ∷ ds) [] zs p h = absurd h
  zip3-through P R Q f (x ∷ xs) (d ∷ ds) (y ∷ ys) [] p h = absurd h
  zip3-through P R Q f (x ∷ xs) (d ∷ ds) (y ∷ ys) (z ∷ zs) p h = (f x d y z p.0 h.0, zip3-through P R Q f xs ds ys zs p.1 h.1)

  -- where the third list stands beside another one
  pub zip3-onto : {D : Type 0} (R : A → B → C → Type 0) (P : C → D → Type 0) (Q : A → B → D → Type 0) → ((x : A) (y : B) (z : C) (d : D) → R x y z → P z d → Q x y d)
      → (xs : List A) (ys : List B) (zs : List C) (ds : List D) → AllZip3 R xs ys zs → AllZip P zs ds → AllZip3 Q xs ys ds
  zip3-onto R P Q f [] [] [] [] h p = tt
  zip3-onto R P Q f [] [] [] (d ∷ ds) h p = absurd p
  zip3-onto R P Q f [] [] (z ∷ zs) ds h p = absurd h
  zip3-onto R P Q f [] (y ∷ ys) zs ds h p = absurd h
  zip3-onto R P Q f (x ∷ xs) [] zs ds h p = absurd h
  zip3-onto R P Q f (x ∷ xs) (y ∷ ys) [] ds h p = absurd h
  zip3-onto R P Q f (x ∷ xs) (y ∷ ys) (z ∷ zs) [] h p = absurd p
  zip3-onto R P Q f (x ∷ xs) (y ∷ ys) (z ∷ zs) (d ∷ ds) h p = (f x y z d h.0 p.0, zip3-onto R P Q f xs ys zs ds h.1 p.1)
