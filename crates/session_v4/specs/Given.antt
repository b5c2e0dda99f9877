-- The values that a request gives (native_protocol_v4.spec, section 4.1.4).
use Rattle.std.specs.Prelude.{◌≡◌, ℕ, List, [], ◌∷◌, Option, Some, None, map, if◌then◌else◌}
use Rattle.std.specs.Str.{bytes_eq}
use Rattle.std.specs.BTreeMap.{get_by_text}
use Rattle.body_notations.specs.declared.value.Value.{Value}
use Rattle.body_notations.specs.declared.value.Value.TheVariants as values
use Rattle.request_bodies.specs.declared.parameters.NamedValue.{NamedValue}
use Rattle.request_bodies.specs.declared.parameters.Values.{Values}
use Rattle.request_bodies.specs.declared.parameters.Values.TheVariants as given
use Rattle.statement_values.specs.declared.params.Param.{Param}
use Rattle.statement_values.specs.declared.params.Param.TheVariants as param
use Rattle.statement_values.specs.declared.params.Params.{Params}
use Rattle.statement_values.specs.declared.params.Params.TheVariants as from

abbrev pub param_of : Value → Param
param_of values.Null = param.Null
param_of values.NotSet = param.NotSet
param_of (values.Given bytes) = param.Given bytes

-- the value of a name: of several the last
abbrev pub value_named : Option Param → List NamedValue → List ℕ → Option Param
value_named before [] name = before
value_named before (v ∷ vs) name = value_named (if bytes_eq name v.name then Some (param_of v.value) else before) vs name

-- what is given for the markers
abbrev pub AreGiven : Values → Params → Type 0
AreGiven given.Absent params = params ≡ from.ByPlace []
AreGiven (given.ByPlace vs) params = params ≡ from.ByPlace (map param_of vs)
AreGiven (given.ByName vs) (from.ByPlace ps) = ⊥
AreGiven (given.ByName vs) (from.ByName ps) = (name : List ℕ) → get_by_text ps name ≡ value_named None vs name
