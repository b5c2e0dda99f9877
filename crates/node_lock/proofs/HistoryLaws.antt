-- Entries by number, histories that go on, and their beginnings.
use Rattle.std.proofs.Common.{◌≡◌, ℕ, ◌≤◌, ◌≢◌, List, [], ◌∷◌, ◌++◌, length, sym, refl, ap, ◌∙◌, subst, arith, cond, append_assoc, append-nil, eq-eqb, ne_eqb, le-leb}
use mathlib.Core.Logic.{dite}
use native.Mathlib.Decide.{ℕ_discrete, dec_le}
use Rattle.std.proofs.lemmas.Bool.{lt-leb}
use Rattle.node_lock.specs.Histories.{StartsWith, longer, entries_by, Replays}

module _ {A : Type 0} where
  pub entries_by-append : (n : ℕ) (xs ys : List (ℕ × A)) → entries_by n (xs ++ ys) ≡ entries_by n xs ++ entries_by n ys
  entries_by-append n [] ys = refl
  entries_by-append n (x ∷ xs) ys = dite (ℕ_discrete x.0 n)
      (λ e. rw (eq-eqb x.0 n e) (ap (λ (l : List A). x.1 ∷ l) (entries_by-append n xs ys)))
      (λ ne. rw (ne_eqb x.0 n ne) (entries_by-append n xs ys))

  pub entries_by-one : (n : ℕ) (e : A) → entries_by n ((n, e) ∷ []) ≡ e ∷ []
  entries_by-one n e = rw (eq-eqb n n refl) refl

  pub entries_by-other : (n k : ℕ) (e : A) → n ≢ k → entries_by n ((k, e) ∷ []) ≡ []
  entries_by-other n k e ne = rw (ne_eqb k n (λ h. ne (sym h))) refl

  pub starts-same : (xs : List A) → StartsWith xs xs
  starts-same xs = ([], sym (append-nil xs))

  pub starts-more : (xs ys : List A) → StartsWith (xs ++ ys) xs
  starts-more xs ys = (ys, refl)

  pub starts-chain : (xs ys zs : List A) → StartsWith xs ys → StartsWith ys zs → StartsWith xs zs
  starts-chain xs ys zs a b = (b.0 ++ a.0, a.1 ∙ (ap (λ (l : List A). l ++ a.0) b.1 ∙ append_assoc zs b.0 a.0))

  pub same_rest : (xs ys zs : List A) → xs ++ ys ≡ xs ++ zs → ys ≡ zs
  same_rest [] ys zs e = e
  same_rest (x ∷ xs) ys zs e = same_rest xs ys zs cc

  -- of two beginnings of one list the longer begins with the other
  prefixes : (log xs ys : List A) → StartsWith log xs → StartsWith log ys → length xs ≤ length ys → StartsWith ys xs
  prefixes log [] ys a b le = (ys, refl)
  prefixes log (x ∷ xs) [] a b le = absurd (omega arith)
  prefixes log (x ∷ xs) (y ∷ ys) a b le =
      let e : x ∷ (xs ++ a.0) ≡ y ∷ (ys ++ b.0) = sym a.1 ∙ b.1 in
      let head : x ≡ y = cc in
      let tail : xs ++ a.0 ≡ ys ++ b.0 = cc in
      let more = prefixes (ys ++ b.0) xs ys (a.0, sym tail) (b.0, refl) (omega arith) in
      (more.0, λ i. sym head i ∷ more.1 i)

  pub longer-starts : (log xs ys : List A) → StartsWith log xs → StartsWith log ys → StartsWith log (longer xs ys) × StartsWith (longer xs ys) xs × StartsWith (longer xs ys) ys
  longer-starts log xs ys a b = dite (dec_le (length xs) (length ys))
      (λ le. let P : List A → Type 0 = λ l. StartsWith log l × StartsWith l xs × StartsWith l ys in subst (λ t. P (cond t ys xs)) (sym (le-leb (length xs) (length ys) le)) (b, prefixes log xs ys a b le, starts-same ys))
      (λ nle. let P : List A → Type 0 = λ l. StartsWith log l × StartsWith l xs × StartsWith l ys in subst (λ t. P (cond t ys xs)) (sym (lt-leb (length xs) (length ys) (omega arith))) (a, starts-same xs, prefixes log ys xs b a (omega arith)))

module _ {S E : Type 0} (steps : S → E → S → Type 0) where
  pub replays-more : (xs : List (ℕ × E)) (start now : S) (n : ℕ) (e : E) (next : S) → Replays steps start xs now → steps now e next → Replays steps start (xs ++ (n, e) ∷ []) next
  replays-more [] start now n e next r s = (next, subst (λ (z : S). steps z e next) (sym r) s, refl)
  replays-more (x ∷ xs) start now n e next r s = (r.0, r.1, replays-more xs r.0 now n e next r.2 s)
