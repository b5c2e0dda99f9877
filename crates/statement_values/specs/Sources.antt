-- Where the values for markers are found.
use Rattle.statement_values.specs.declared.params.Params.{Params}
use Rattle.statement_values.specs.declared.params.Params.TheVariants.{ByPlace, ByName}
use Rattle.statement_values.specs.declared.supplier.Supplier.{Supplier}
use Rattle.statement_values.specs.declared.supplier.Source.{Source}
use Rattle.statement_values.specs.declared.supplier.Source.TheVariants.{Next, Named}

abbrev pub values_at : Source → Params
values_at (Next values) = ByPlace values.now
values_at (Named values) = ByName values.now

-- the values that are left for the markers that follow
abbrev pub left_in : Supplier → Params
left_in s = values_at s.source
