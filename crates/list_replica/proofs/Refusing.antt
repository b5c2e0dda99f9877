-- A disk that a refusal hands back.
use Rattle.std.proofs.Common.{◌≡◌, Ok, Err}
use Rattle.std.specs.Result.{IsErrOf}
use Rattle.replica.specs.declared.error.LoadError.{LoadError}
use Rattle.replica.specs.declared.error.LoadError.TheVariants.{Failed, NoMemory}

pub same_failed : {S A : Type 0} (a b : S) → IsErrOf {T = A} {E = LoadError S} (Err (Failed a)) (Failed b) → a ≡ b
same_failed a b e = cc

pub same_no_memory : {S A : Type 0} (a b : S) → IsErrOf {T = A} {E = LoadError S} (Err (NoMemory a)) (NoMemory b) → a ≡ b
same_no_memory a b e = cc

-- the same refusal of a call that gives something else
pub refused_as : {S A B : Type 0} (e d : LoadError S) → IsErrOf {T = A} {E = LoadError S} (Err e) d → IsErrOf {T = B} {E = LoadError S} (Err e) d
refused_as e d is = cc

pub ok_is_none : {S A : Type 0} (a : A) (d : LoadError S) → IsErrOf {T = A} {E = LoadError S} (Ok a) d → ⊥
ok_is_none a d is = cc
