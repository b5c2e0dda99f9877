use Rattle.std.proofs.Common.{◌≡◌, take, fold, false}
use Rattle.schema_book.specs.Options.{falls_after}
use Rattle.schema_book.proofs.options.falls_in.Given as goal

abbrev pub invariant-loop-option : goal.invariant-loop-option
invariant-loop-option l = l.last ≡ fold (falls_after l.name) false (take l.option-index l.options)
