use Rattle.std.proofs.Common.{◌≡◌, take, fold}
use Rattle.schema_book.specs.Options.{grace_after}
use Rattle.schema_book.proofs.options.grace_in.Given as goal

abbrev pub invariant-loop-option : goal.invariant-loop-option
invariant-loop-option l = l.last ≡ fold grace_after l.grace (take l.option-index l.options)
