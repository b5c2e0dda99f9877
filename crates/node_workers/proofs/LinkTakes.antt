-- What several links' receivers take.
use Rattle.std.proofs.Common.{◌≡◌, ◌≢◌, ℕ, zero, suc, ◌+◌, ◌<◌, ◌≤◌, Option, Some, None, List, [], ◌∷◌, ◌++◌, length, get_or, set, refl, sym, ap, subst, ◌∙◌, append_assoc, append-nil, eq-eqb, ne_eqb, arith, eqb, cond, true, false}
use Rattle.std.specs.Prelude.{IfSome, IfNone}
use Rattle.node_links.specs.Ends.{taken_by, known_to, IsSameReceiver}
use Rattle.node_links.specs.declared.ends.Receiver.{Receiver}
use Rattle.node_links.proofs.SameEnds.{same_receiver-trans}
use Rattle.node_workers.specs.Taking.{from_place, taken_at, TakeFrom, Take}

module _ {M : Type 0} where
  from_place-append : (place : ℕ) (xs ys : List (ℕ × M)) → from_place place (xs ++ ys) ≡ from_place place xs ++ from_place place ys
  from_place-append place [] ys = refl
  from_place-append place (x ∷ xs) ys =
      elim (eqb x.0 place) as (λ b. cond b (x.1 ∷ from_place place (xs ++ ys)) (from_place place (xs ++ ys)) ≡ cond b (x.1 ∷ from_place place xs) (from_place place xs) ++ from_place place ys)
      [ true ↦ ap (λ (zs : List M). x.1 ∷ zs) (from_place-append place xs ys) | false ↦ from_place-append place xs ys ]

  from_own : (place j : ℕ) (m : M) → j ≡ place → from_place place ((j, m) ∷ []) ≡ m ∷ []
  from_own place j m h = rw (eq-eqb j place h)

  from_other : (place j : ℕ) (m : M) → j ≢ place → from_place place ((j, m) ∷ []) ≡ []
  from_other place j m h = rw (ne_eqb j place h)

  same_receiver-refl : (r : Receiver M) → IsSameReceiver r r
  same_receiver-refl r = ((refl, refl, refl, refl), refl)

  takes-none : (place : ℕ) (rs : List (Receiver M)) (taken : List (ℕ × M)) → ((k : ℕ) → place ≤ k → from_place k taken ≡ []) → TakeFrom place rs taken rs
  takes-none place [] taken h = tt
  takes-none place (r ∷ rs) taken h = (
    same_receiver-refl r,
    sym (ap (λ (zs : List M). taken_by r ++ zs) (h place (omega arith)) ∙ append-nil (taken_by r)),
    takes-none (suc place) rs taken (λ k le. h k (omega arith)),
  )

  takes-set : (place i j : ℕ) (taken : List (ℕ × M)) (rs : List (Receiver M)) (r' d : Receiver M) → j ≡ place + i → i < length rs
      → IsSameReceiver (get_or rs i d) r' → taken_by r' ≡ taken_by (get_or rs i d) ++ from_place j taken → ((k : ℕ) → k ≢ j → from_place k taken ≡ [])
      → TakeFrom place rs taken (set rs i r')
  takes-set place i j taken [] r' d is within same took others = absurd (omega arith)
  takes-set place zero j taken (r ∷ rs) r' d is within same took others = (
    same,
    took ∙ ap (λ (n : ℕ). taken_by r ++ from_place n taken) (let e : j ≡ place = omega arith in e),
    takes-none (suc place) rs taken (λ k le. others k (λ e. omega arith)),
  )
  takes-set place (suc i) j taken (r ∷ rs) r' d is within same took others = (
    same_receiver-refl r,
    sym (ap (λ (zs : List M). taken_by r ++ zs) (others place (λ e. omega arith)) ∙ append-nil (taken_by r)),
    takes-set (suc place) i j taken rs r' d (omega arith) (omega arith) same took others,
  )

  pub takes_nothing : (rs : List (Receiver M)) → Take rs [] rs
  takes_nothing rs = takes-none 0 rs [] (λ k le. refl)

  pub takes_then : (place : ℕ) (rs ss ts : List (Receiver M)) (xs ys : List (ℕ × M)) → TakeFrom place rs xs ss → TakeFrom place ss ys ts → TakeFrom place rs (xs ++ ys) ts
  takes_then place [] [] [] xs ys h k = tt
  takes_then place [] [] (t ∷ ts) xs ys h k = k
  takes_then place [] (s ∷ ss) ts xs ys h k = absurd h
  takes_then place (r ∷ rs) [] ts xs ys h k = absurd h
  takes_then place (r ∷ rs) (s ∷ ss) [] xs ys h k = absurd k
  takes_then place (r ∷ rs) (s ∷ ss) (t ∷ ts) xs ys h k = (
    same_receiver-trans r s t h.0 k.0,
    k.1
        ∙ ap (λ (zs : List M). zs ++ from_place place ys) h.1
        ∙ append_assoc (taken_by r) (from_place place xs) (from_place place ys)
        ∙ ap (λ (zs : List M). taken_by r ++ zs) (sym (from_place-append place xs ys)),
    takes_then (suc place) rs ss ts xs ys h.2 k.2,
  )

  pub takes-length : (place : ℕ) (rs ss : List (Receiver M)) (xs : List (ℕ × M)) → TakeFrom place rs xs ss → length ss ≡ length rs
  takes-length place [] [] xs h = refl
  takes-length place [] (s ∷ ss) xs h = absurd h
  takes-length place (r ∷ rs) [] xs h = absurd h
  takes-length place (r ∷ rs) (s ∷ ss) xs h = ap suc (takes-length (suc place) rs ss xs h.2)

  -- one receiver of several looked for a message
  pub takes_at : (rs : List (Receiver M)) (place : ℕ) (found : Option M) (r r' d : Receiver M) → place < length rs → r ≡ get_or rs place d → IsSameReceiver r r'
      → IfSome found (λ m. taken_by r' ≡ taken_by r ++ m ∷ []) → IfNone found ((taken_by r' ≡ taken_by r) × (known_to r' ≡ [])) → Take rs (taken_at place found) (set rs place r')
  takes_at rs place None r r' d within is same some none =
      takes-set 0 place place [] rs r' d (omega arith) within (subst (λ (x : Receiver M). IsSameReceiver x r') is same)
      (none.0 ∙ ap taken_by is ∙ sym (append-nil (taken_by (get_or rs place d)))) (λ k ne. refl)
  takes_at rs place (Some m) r r' d within is same some none =
      takes-set 0 place place ((place, m) ∷ []) rs r' d (omega arith) within (subst (λ (x : Receiver M). IsSameReceiver x r') is same)
      (some ∙ ap (λ (x : Receiver M). taken_by x ++ m ∷ []) is ∙ ap (λ (zs : List M). taken_by (get_or rs place d) ++ zs) (sym (from_own place place m refl)))
      (λ k ne. from_other k place m (λ e. ne (sym e)))
