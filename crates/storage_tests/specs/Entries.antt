-- Entries that change nothing beside the contents of partitions.
use Rattle.std.specs.Prelude.{List}
use Rattle.std.specs.List.{AllByRecursion}
use Rattle.row_change.specs.declared.entry.LogItem.{LogItem}
use Rattle.row_change.specs.declared.entry.LogItem.TheVariants.{Data}

abbrev pub IsData : LogItem → Type 0
IsData (Data arrival m) = Unit {0}
IsData i = ⊥

abbrev pub AreData : List LogItem → Type 0
AreData items = AllByRecursion IsData items
