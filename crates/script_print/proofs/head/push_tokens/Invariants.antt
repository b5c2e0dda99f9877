use Rattle.std.proofs.Common.{◌≡◌, ◌++◌, take, flat_map, map}
use Rattle.std.specs.Fmt.{signed_decimal}
use Rattle.script_print.specs.Printed.{spaced}
use Rattle.script_print.proofs.head.push_tokens.Given as goal

-- the tokens so far
abbrev pub invariant-loop-token : goal.invariant-loop-token
invariant-loop-token l = l.out.items ≡ l.fn.out.items ++ flat_map spaced (map signed_decimal (take l.token-index l.tokens))
