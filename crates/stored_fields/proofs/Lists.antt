-- Words that are read one after another, as a loop does, each by what is kept of the one before it.
use Rattle.std.proofs.Common.{◌≡◌, ℕ, zero, suc, ◌-◌, ◌+◌, ◌≤◌, ◌<◌, List, [], ◌∷◌, ◌++◌, length, Ok, Err, refl, sym, ap, subst, ◌∙◌, append_assoc, arith}
use Rattle.std.specs.Prelude.{slice_get, Some}
use Rattle.std.specs.List.{AllByRecursion}
use Rattle.std.proofs.lemmas.List.{append-nil, length-append}
use Rattle.stored_fields.specs.declared.fault.Fault.{Fault}
use Rattle.stored_fields.specs.declared.fault.Fault.TheVariants as faults
use Rattle.stored_fields.specs.Fields.{AreWords}
use Rattle.stored_fields.specs.Reading.{◌>>=◌, Read, Fails, items_at}
use Rattle.stored_fields.proofs.Words.{bind_ok, ok_is}

-- ---- a loop

-- what was read before, and what is still read
abbrev pub with_front : {A : Type 0} → List A → Read (List A) → Read (List A)
with_front front read = read >>= λ x. Ok (front ++ x.0, x.1)

regroup : {A : Type 0} (front : List A) (x : A) (read : Read (List A)) → with_front front (read >>= λ y. Ok (x ∷ y.0, y.1)) ≡ with_front (front ++ x ∷ []) read
regroup {A} front x (Ok y) = ap (λ (xs : List A). Ok (xs, y.1)) (simp append_assoc)
regroup front x (Err f) = refl

pub goes_on : {S A : Type 0} (read : S → List ℕ → Read A) (next : A → S) (front : List A) (before : S) (count i : ℕ) (bytes : List ℕ) (x : A) (after : List ℕ) (total : Read (List A))
    → i < count → read before bytes ≡ Ok (x, after)
    → with_front front (items_at read next before (count - i) bytes) ≡ total → with_front (front ++ x ∷ []) (items_at read next (next x) (count - (i + 1)) after) ≡ total
unfolding items_at
goes_on read next front before count i bytes x after total lt h so_far =
    let k : count - i ≡ suc (count - (i + 1)) = omega arith in
    let one : with_front front (items_at read next before (count - i) bytes) ≡ with_front (front ++ x ∷ []) (items_at read next (next x) (count - (i + 1)) after) =
    rw (k, h) (regroup front x (items_at read next (next x) (count - (i + 1)) after)) in
    sym one ∙ so_far

ends_with : {S A : Type 0} (read : S → List ℕ → Read A) (next : A → S) (f : Fault) (front : List A) (before : S) (count i : ℕ) (bytes : List ℕ) (total : Read (List A))
    → i < count → read before bytes ≡ Err f → with_front front (items_at read next before (count - i) bytes) ≡ total → total ≡ Err f
unfolding items_at
ends_with read next f front before count i bytes total lt h so_far =
    let k : count - i ≡ suc (count - (i + 1)) = omega arith in
    let one : with_front front (items_at read next before (count - i) bytes) ≡ Err f = rw (k, h) refl in
    sym so_far ∙ one

pub ends : {S A : Type 0} (read : S → List ℕ → Read A) (next : A → S) (e : Fault) (front : List A) (before : S) (count i : ℕ) (bytes : List ℕ) (total : Read (List A))
    → i < count → Fails e (read before bytes) → with_front front (items_at read next before (count - i) bytes) ≡ total → Fails e total
ends read next faults.NoMemory front before count i bytes total lt h so_far = tt
ends read next (faults.Short n) front before count i bytes total lt h so_far = ends_with read next (faults.Short n) front before count i bytes total lt h so_far
ends read next (faults.Tag n) front before count i bytes total lt h so_far = ends_with read next (faults.Tag n) front before count i bytes total lt h so_far
ends read next (faults.Order n) front before count i bytes total lt h so_far = ends_with read next (faults.Order n) front before count i bytes total lt h so_far

pub is_done : {S A : Type 0} (read : S → List ℕ → Read A) (next : A → S) (front : List A) (before : S) (count i : ℕ) (bytes : List ℕ) (total : Read (List A))
    → count ≤ i → with_front front (items_at read next before (count - i) bytes) ≡ total → total ≡ Ok (front, bytes)
unfolding items_at
is_done {S} {A} read next front before count i bytes total le so_far =
    let k : count - i ≡ 0 = omega arith in
    let one : with_front front (items_at read next before (count - i) bytes) ≡ Ok (front, bytes) = rw k (ap (λ (xs : List A). Ok (xs, bytes)) (append-nil front)) in
    sym so_far ∙ one

-- ---- what it reads

-- each follows what is kept of the one before it
abbrev pub FollowEach : {S A : Type 0} → (S → A → Type 0) → (A → S) → S → List A → Type 0
FollowEach Follows next before [] = Unit {0}
FollowEach Follows next before (x ∷ xs) = Follows before x × FollowEach Follows next (next x) xs

-- what is read behind something is a word that may follow it
pub record AgreesBehind {S A : Type 0} (read : S → List ℕ → Read A) (N : List ℕ → A → List ℕ → Type 0) (Follows : S → A → Type 0) : Type 0 where
  pub is_word : (before : S) (bytes : List ℕ) (x : A × List ℕ) → read before bytes ≡ Ok x → N bytes x.0 x.1 × Follows before x.0
  pub is_read : (before : S) (bytes : List ℕ) (x : A) (rest : List ℕ) → N bytes x rest → Follows before x → read before bytes ≡ Ok (x, rest)

pub items_words : {S A : Type 0} (read : S → List ℕ → Read A) (next : A → S) (N : List ℕ → A → List ℕ → Type 0) (Follows : S → A → Type 0) → AgreesBehind read N Follows
    → (n : ℕ) (before : S) (bytes : List ℕ) (x : List A × List ℕ) → items_at read next before n bytes ≡ Ok x → AreWords N bytes x.0 x.1 × (n ≡ length x.0) × FollowEach Follows next before x.0
unfolding items_at
items_words {S} {A} read next N Follows agrees zero before bytes x e =
    let made : List A × List ℕ = ([], bytes) in
    subst (λ (q : List A × List ℕ). AreWords N bytes q.0 q.1 × (0 ≡ length q.0) × FollowEach Follows next before q.0) (ok_is made x e) (refl, refl, tt)
items_words {S} {A} read next N Follows agrees (suc n) before bytes x e =
    let a = bind_ok (read before bytes) (λ first. items_at read next (next first.0) n first.1 >>= λ others. Ok (first.0 ∷ others.0, others.1)) x e in
    let b = bind_ok (items_at read next (next a.0.0) n a.0.1) (λ others. Ok (a.0.0 ∷ others.0, others.1)) x a.2 in
    let first = agrees.is_word before bytes a.0 a.1 in
    let others = items_words read next N Follows agrees n (next a.0.0) a.0.1 b.0 b.1 in
    let made : List A × List ℕ = (a.0.0 ∷ b.0.0, b.0.1) in
    subst (λ (q : List A × List ℕ). AreWords N bytes q.0 q.1 × (suc n ≡ length q.0) × FollowEach Follows next before q.0) (ok_is made x b.2)
    ((a.0.1, first.0, others.0), ap suc others.1, (first.1, others.2))

pub items_read : {S A : Type 0} (read : S → List ℕ → Read A) (next : A → S) (N : List ℕ → A → List ℕ → Type 0) (Follows : S → A → Type 0) → AgreesBehind read N Follows
    → (before : S) (bytes : List ℕ) (xs : List A) (rest : List ℕ) → AreWords N bytes xs rest → FollowEach Follows next before xs → items_at read next before (length xs) bytes ≡ Ok (xs, rest)
unfolding items_at
items_read {S} {A} read next N Follows agrees before bytes [] rest word follow = ap (λ (r : List ℕ). Ok ([], r)) word
items_read read next N Follows agrees before bytes (x ∷ xs) rest word follow =
    rw (agrees.is_read before bytes x word.0 word.1 follow.0, items_read read next N Follows agrees (next x) word.0 xs rest word.2 follow.1) refl

-- ---- lists that grow at their end

pub slice_get-end : {A : Type 0} (xs : List A) (x : A) → slice_get (xs ++ x ∷ []) (length xs) ≡ Some x
slice_get-end [] x = refl
slice_get-end (y ∷ ys) x = slice_get-end ys x

pub slice_get-last : {A : Type 0} (xs : List A) (x : A) → slice_get (xs ++ x ∷ []) (length (xs ++ x ∷ []) - 1) ≡ Some x
slice_get-last xs x =
    let k : length (xs ++ x ∷ []) - 1 ≡ length xs = omega (arith, length-append xs (x ∷ [])) in
    ap (slice_get (xs ++ x ∷ [])) k ∙ slice_get-end xs x

pub all_push : {A : Type 0} (P : A → Type 0) (xs : List A) (x : A) → AllByRecursion P xs → P x → AllByRecursion P (xs ++ x ∷ [])
all_push P [] x all here = (here, tt)
all_push P (y ∷ ys) x all here = (all.0, all_push P ys x all.1 here)
