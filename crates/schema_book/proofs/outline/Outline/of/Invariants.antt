use Rattle.std.proofs.Common.{◌≡◌, take}
use Rattle.schema_book.specs.Outlines.{columns_in, keys_in}
use Rattle.schema_book.proofs.outline.Outline.of.Given as goal

abbrev pub invariant-loop-item : goal.invariant-loop-item
invariant-loop-item l = (l.outline.columns ≡ columns_in (take l.item-index l.items)) × (l.outline.keys ≡ keys_in (take l.item-index l.items))
