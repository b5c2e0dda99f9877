-- What holds of a value that a computation gives, if it gives one.
use Rattle.std.proofs.Common.{◌≡◌, Bool, true, false, cond, refl, Option, Some, None, Result, Ok, Err}
use Rattle.std.specs.Prelude.{IfOk, IfSome}
use Rattle.std.specs.Option.{option_map}
use Rattle.fault_script.specs.declared.script.Fault.{Fault}
use Rattle.fault_script.specs.Lines.{understood, result_map}

pub some_from : {T : Type 0} (P : T → Type 0) (value : Option T) → ((v : T) → value ≡ Some v → P v) → IfSome value P
some_from P None h = tt
some_from P (Some v) h = h v refl

pub either_holds : {T E : Type 0} (P : T → Type 0) (b : Bool) (r s : Result T E) → IfOk r P → IfOk s P → IfOk (cond b r s) P
either_holds P true r s h k = h
either_holds P false r s h k = k

pub some_where : {T : Type 0} (P : T → Type 0) (b : Bool) (value : T) → (b ≡ true → P value) → IfSome (cond b (Some value) None) P
some_where P true value h = h refl
some_where P false value h = tt

pub understood_where : {T : Type 0} (P : T → Type 0) (f : Fault) (b : Bool) (value : Option T) → (b ≡ true → IfSome value P) → IfOk (understood f b value) P
understood_where P f false value h = tt
understood_where P f true None h = tt
understood_where P f true (Some value) h = h refl

pub option_map_holds : {T U : Type 0} (P : U → Type 0) (f : T → U) (value : Option T) → IfSome value (λ v. P (f v)) → IfSome (option_map f value) P
option_map_holds P f None h = tt
option_map_holds P f (Some value) h = h

pub result_map_holds : {T U : Type 0} (P : U → Type 0) (f : T → U) (r : Result T Fault) → IfOk r (λ v. P (f v)) → IfOk (result_map f r) P
result_map_holds P f (Ok value) h = h
result_map_holds P f (Err e) h = tt
