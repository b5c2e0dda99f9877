-- What merges and purges make of what is kept.
use Rattle.std.specs.Prelude.{◌++◌, List, [], map, Result, Ok, Err}
use Rattle.row_change.specs.declared.entry.LogItem.{LogItem}
use Rattle.row_change.specs.declared.entry.LogItem.TheVariants.{Purge}
use Rattle.replica.specs.declared.error.FinishError.{FinishError}
use Rattle.replica.specs.declared.error.FinishError.TheVariants.{Failed, Stale, NoMemory}
use Rattle.replica.specs.declared.merge.Purged.{Purged}

abbrev pub purge_item : Purged → LogItem
purge_item x = Purge x.change

-- the items, and then what is purged
abbrev pub with_purges : List LogItem → List Purged → List LogItem
with_purges items purges = items ++ map purge_item purges

-- the purges that an answer tells
abbrev pub told_purges : Result (List Purged) FinishError → List Purged
told_purges (Ok purges) = purges
told_purges (Err (Failed purges)) = purges
told_purges (Err (Stale table)) = []
told_purges (Err NoMemory) = []
