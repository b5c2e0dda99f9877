-- One more byte is complemented.
use Rattle.std.proofs.Common.{◌<◌, ◌-◌, length, get_or, ap, arith}
use Rattle.std.proofs.lemmas.List.{get_or_default}
use Rattle.std.proofs.lemmas.List.Edits.{map_over_more}
use Rattle.cql_values.proofs.order.complemented.Goals as goal

pub loop-byte-preserved : goal.loop-byte-preserved
loop-byte-preserved c =
    let xs = c.args.bytes.items in
    let ys = c.loop-byte.byte-items in
    let i = c.loop-byte.byte-index in
    let same = ap length c.deref_mut-byte-items.ensures.value in
    let within : i < length xs = omega arith in
    let inside : i < length ys = omega arith in
    map_over_more (λ b. 255 - b) xs ys i (get_or ys i 0) within c.loop-byte.invariant (get_or_default ys i 0 (get_or ys i 0) inside)
