-- How relations compare.
use Rattle.std.specs.Prelude.{Bool, true, false}
use Rattle.cql_statement.specs.declared.term.RelationOperator.{RelationOperator}
use Rattle.cql_statement.specs.declared.term.RelationOperator.TheVariants.{Equal, Less, LessOrEqual, Greater, GreaterOrEqual}

abbrev pub is_equal : RelationOperator → Bool
is_equal Equal = true
is_equal Less = false
is_equal LessOrEqual = false
is_equal Greater = false
is_equal GreaterOrEqual = false

-- it bounds from below
abbrev pub is_lower : RelationOperator → Bool
is_lower Equal = false
is_lower Less = false
is_lower LessOrEqual = false
is_lower Greater = true
is_lower GreaterOrEqual = true

-- it bounds from above
abbrev pub is_upper : RelationOperator → Bool
is_upper Equal = false
is_upper Less = true
is_upper LessOrEqual = true
is_upper Greater = false
is_upper GreaterOrEqual = false

-- the value itself does not meet it
abbrev pub is_strict : RelationOperator → Bool
is_strict Equal = false
is_strict Less = true
is_strict LessOrEqual = false
is_strict Greater = true
is_strict GreaterOrEqual = false
