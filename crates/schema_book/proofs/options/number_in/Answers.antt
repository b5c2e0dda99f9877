use Rattle.std.proofs.Common.{◌∙◌}
use Rattle.schema_book.proofs.Numbers.{parsed_is}
use Rattle.schema_book.proofs.options.number_in.Goals as goal

pub returns : goal.returns
returns c = c.ok.ensures.value ∙ parsed_is c.args.text.now c.parse.result c.parse.ensures.value.0
