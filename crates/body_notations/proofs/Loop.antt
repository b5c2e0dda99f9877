-- Words that are read one after another, as a loop does.
use Rattle.std.proofs.Common.{◌≡◌, ℕ, suc, ◌-◌, ◌+◌, ◌≤◌, ◌<◌, List, [], ◌∷◌, ◌++◌, Ok, Err, refl, sym, ap, ◌∙◌, append_assoc, arith}
use Rattle.std.proofs.lemmas.List.{append-nil}
use Rattle.body_notations.specs.declared.fault.Fault.{Fault}
use Rattle.body_notations.specs.declared.fault.Fault.TheVariants as faults
use Rattle.body_notations.specs.Reading.{◌>>=◌, Read, Fails, items_at}

-- what was read before, and what is still read
abbrev pub with_front : {A : Type 0} → List A → Read (List A) → Read (List A)
with_front front read = read >>= λ x. Ok (front ++ x.0, x.1)

regroup : {A : Type 0} (front : List A) (x : A) (read : Read (List A)) → with_front front (read >>= λ y. Ok (x ∷ y.0, y.1)) ≡ with_front (front ++ x ∷ []) read
regroup {A} front x (Ok y) = ap (λ (xs : List A). Ok (xs, y.1)) (simp append_assoc)
regroup front x (Err f) = refl

pub goes_on : {A : Type 0} (read : List ℕ → Read A) (front : List A) (count i : ℕ) (bytes : List ℕ) (x : A) (after : List ℕ) (total : Read (List A)) → i < count → read bytes ≡ Ok (x, after)
    → with_front front (items_at read (count - i) bytes) ≡ total → with_front (front ++ x ∷ []) (items_at read (count - (i + 1)) after) ≡ total
unfolding items_at
goes_on read front count i bytes x after total lt h so_far =
    let k : count - i ≡ suc (count - (i + 1)) = omega arith in
    let one : with_front front (items_at read (count - i) bytes) ≡ with_front (front ++ x ∷ []) (items_at read (count - (i + 1)) after) = rw (k, h) (regroup front x (items_at read (count - (i + 1)) after)) in
    sym one ∙ so_far

ends_with : {A : Type 0} (read : List ℕ → Read A) (f : Fault) (front : List A) (count i : ℕ) (bytes : List ℕ) (total : Read (List A)) → i < count → read bytes ≡ Err f
    → with_front front (items_at read (count - i) bytes) ≡ total → total ≡ Err f
unfolding items_at
ends_with read f front count i bytes total lt h so_far =
    let k : count - i ≡ suc (count - (i + 1)) = omega arith in
    let one : with_front front (items_at read (count - i) bytes) ≡ Err f = rw (k, h) refl in
    sym so_far ∙ one

pub ends : {A : Type 0} (read : List ℕ → Read A) (e : Fault) (front : List A) (count i : ℕ) (bytes : List ℕ) (total : Read (List A)) → i < count → Fails e (read bytes)
    → with_front front (items_at read (count - i) bytes) ≡ total → Fails e total
ends read faults.NoMemory front count i bytes total lt h so_far = tt
ends read (faults.Short n) front count i bytes total lt h so_far = ends_with read (faults.Short n) front count i bytes total lt h so_far
ends read (faults.NotUtf8 n) front count i bytes total lt h so_far = ends_with read (faults.NotUtf8 n) front count i bytes total lt h so_far
ends read (faults.BadValue n) front count i bytes total lt h so_far = ends_with read (faults.BadValue n) front count i bytes total lt h so_far
ends read faults.BadFlag front count i bytes total lt h so_far = ends_with read faults.BadFlag front count i bytes total lt h so_far
ends read (faults.BadConsistency n) front count i bytes total lt h so_far = ends_with read (faults.BadConsistency n) front count i bytes total lt h so_far

pub is_done : {A : Type 0} (read : List ℕ → Read A) (front : List A) (count i : ℕ) (bytes : List ℕ) (total : Read (List A)) → count ≤ i
    → with_front front (items_at read (count - i) bytes) ≡ total → total ≡ Ok (front, bytes)
unfolding items_at
is_done {A} read front count i bytes total le so_far =
    let k : count - i ≡ 0 = omega arith in
    let one : with_front front (items_at read (count - i) bytes) ≡ Ok (front, bytes) = rw k (ap (λ (xs : List A). Ok (xs, bytes)) (append-nil front)) in
    sym so_far ∙ one
