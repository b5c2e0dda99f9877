-- Values as they are stored.
use Rattle.std.proofs.Common.{◌≡◌, ℕ, Bool, true, false, cond, not, ◌&&◌, nat_lt, length, List, Option, Some, None, Result, Ok, Err, refl, ap, ◌∙◌}
use Rattle.std.specs.Prelude.{◌≢◌, is_ok, option_map}
use Rattle.std.specs.Result.{result_ok}
use Rattle.cql_values.specs.Protocol.{decoded, value_bytes}
use Rattle.cql_values.specs.Value.{IsBytes}
use Rattle.cql_values.specs.declared.error.ValueError.{ValueError}
use Rattle.cql_values.specs.declared.value.CqlType.{CqlType}
use Rattle.cql_values.specs.declared.value.CqlType.TheVariants as types
use Rattle.cql_values.specs.declared.value.CqlValue.{CqlValue}
use Rattle.statement_plan.specs.declared.fault.Fault.{Fault}
use Rattle.statement_plan.specs.declared.fault.Fault.TheVariants as fault
use Rattle.statement_values.specs.declared.params.Param.{Param}
use Rattle.statement_values.specs.declared.params.Param.TheVariants.{Null, NotSet, Given}
use Rattle.prepared_statement.specs.Faults.{fits, most_value_bytes, slot_fault, value_at}
use Rattle.prepared_statement.specs.declared.slot.Role.{Role}
use Rattle.prepared_statement.specs.declared.slot.Role.TheVariants as roles
use Rattle.prepared_statement.specs.declared.slot.Slot.{Slot}
use Rattle.prepared_statement.specs.declared.slot.Stands.{Stands}
use Rattle.prepared_statement.specs.declared.slot.Stands.TheVariants.{Own, Mismatched, Marker}
use Rattle.statement_binder.specs.Filled.{IfGiven, IsWritten, stored, tells_mismatch}

pub bytes_stay : (ty : CqlType) (bytes : List ℕ) → IsBytes bytes → ty ≢ types.Boolean
    → ((t : CqlType) (bs : List ℕ) (v : CqlValue) → IsBytes bs → t ≢ types.Boolean → decoded t bs ≡ Ok v → value_bytes v ≡ bs)
    → stored ty bytes ≡ cond (fits ty bytes) (Some bytes) None
bytes_stay ty bytes are other law = go (decoded ty bytes) refl
  where
    go : (r : Result CqlValue ValueError) → decoded ty bytes ≡ r → option_map value_bytes (result_ok r) ≡ cond (is_ok r) (Some bytes) None
    go (Ok v) e = ap Some (law ty bytes v are other e)
    go (Err x) e = refl

-- ---- what is refused of a slot

abbrev mismatch : Bool → Bool → Option Fault
mismatch typed long = cond (not (typed && true)) (Some fault.TypeMismatch) (cond long (Some fault.ValueTooLong) None)

typed_by : (typed long : Bool) → not (tells_mismatch (mismatch typed long)) ≡ typed
typed_by true true = refl
typed_by true false = refl
typed_by false long = refl

abbrev slot_at : List ℕ → CqlType → Role → Stands → Slot
slot_at name ty role stands = record { name = name; ty = ty; role = role; stands = stands }

abbrev IsToldBy : CqlType → Option Fault → Option Param → Type 0
IsToldBy ty told p = IfGiven (λ bytes. told ≡ mismatch (fits ty bytes) (nat_lt most_value_bytes (length bytes))) p

written_told : (name : List ℕ) (ty : CqlType) (role : Role) (stands : Stands) (given : Option Param) → IsWritten role → IsToldBy ty (slot_fault (slot_at name ty role stands) given) (value_at stands given)
written_told name ty (roles.Key place operator) stands given w = absurd w
written_told name ty (roles.Filter place) stands given w = absurd w
written_told name ty (roles.Cell place) (Own Null) given w = tt
written_told name ty (roles.Cell place) (Own NotSet) given w = tt
written_told name ty (roles.Cell place) (Own (Given bytes)) given w = refl
written_told name ty (roles.Cell place) Mismatched given w = tt
written_told name ty (roles.Cell place) Marker None w = tt
written_told name ty (roles.Cell place) Marker (Some Null) w = tt
written_told name ty (roles.Cell place) Marker (Some NotSet) w = tt
written_told name ty (roles.Cell place) Marker (Some (Given bytes)) w = refl
written_told name ty (roles.Test place operator) (Own Null) given w = tt
written_told name ty (roles.Test place operator) (Own NotSet) given w = tt
written_told name ty (roles.Test place operator) (Own (Given bytes)) given w = refl
written_told name ty (roles.Test place operator) Mismatched given w = tt
written_told name ty (roles.Test place operator) Marker None w = tt
written_told name ty (roles.Test place operator) Marker (Some Null) w = tt
written_told name ty (roles.Test place operator) Marker (Some NotSet) w = tt
written_told name ty (roles.Test place operator) Marker (Some (Given bytes)) w = refl
written_told name ty roles.Timestamp stands given w = absurd w
written_told name ty roles.Limit stands given w = absurd w
written_told name ty (roles.Unfilled place) stands given w = absurd w
written_told name ty roles.Unplaced stands given w = absurd w

given_more : (P Q : List ℕ → Type 0) (p : Option Param) → ((bytes : List ℕ) → P bytes → Q bytes) → IfGiven P p → IfGiven Q p
given_more P Q None more h = tt
given_more P Q (Some Null) more h = tt
given_more P Q (Some NotSet) more h = tt
given_more P Q (Some (Given bytes)) more h = more bytes h

-- it tells whether the bytes are of the type
pub typed_is_told : (s : Slot) (given : Option Param) (told : Option Fault) (b : Bool) → told ≡ slot_fault s given → b ≡ tells_mismatch told → IsWritten s.role
    → IfGiven (λ bytes. not b ≡ fits s.ty bytes) (value_at s.stands given)
typed_is_told s given told b same e w =
    given_more (λ bytes. slot_fault s given ≡ mismatch (fits s.ty bytes) (nat_lt most_value_bytes (length bytes))) (λ bytes. not b ≡ fits s.ty bytes) (value_at s.stands given)
    (λ bytes is. ap not e ∙ (ap (λ (f : Option Fault). not (tells_mismatch f)) (same ∙ is) ∙ typed_by (fits s.ty bytes) (nat_lt most_value_bytes (length bytes))))
    (written_told s.name s.ty s.role s.stands given w)
