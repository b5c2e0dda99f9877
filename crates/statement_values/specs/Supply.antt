-- What a request gives for the markers of a statement (CQL reference, "Prepared statements"; native_protocol_v4.spec,
-- section 4.1.4).
use Rattle.std.specs.Prelude.{ℕ, Bool, true, false, List, [], ◌∷◌, Option, Some, None}
use Rattle.std.specs.BTreeMap.{get_by_text}
use Rattle.statement_values.specs.declared.params.Param.{Param}
use Rattle.statement_values.specs.declared.params.Params.{Params}
use Rattle.statement_values.specs.declared.params.Params.TheVariants as from

-- a request gives this one next, or by this name
abbrev pub next_given : Params → List ℕ → Option Param
next_given (from.ByPlace []) name = None
next_given (from.ByPlace (p ∷ ps)) name = Some p
next_given (from.ByName values) name = get_by_text values name

-- what is left for the markers that follow
abbrev pub left_of : Params → Params
left_of (from.ByPlace []) = from.ByPlace []
left_of (from.ByPlace (p ∷ ps)) = from.ByPlace ps
left_of (from.ByName values) = from.ByName values

-- whether values are left that no marker took
abbrev pub has_left : Params → Bool
has_left (from.ByPlace []) = false
has_left (from.ByPlace (p ∷ ps)) = true
has_left (from.ByName values) = false
