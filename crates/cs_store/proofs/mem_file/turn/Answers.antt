use Rattle.std.proofs.Common.{ℕ, ◌-◌, get_or, arith}
use Rattle.std.proofs.lemmas.List.{get_or_default}
use Rattle.std.proofs.lemmas.List.Edits.{map_over_more}
use Rattle.cs_store.proofs.mem_file.turn.Goals as goal

pub loop-byte-preserved : goal.loop-byte-preserved
loop-byte-preserved c =
    let ys = c.loop-byte.bytes in
    let i = c.loop-byte.byte-index in
    let x = get_or ys i 0 in
    map_over_more (λ (b : ℕ). 255 - b) c.args.bytes.now ys i x (omega arith) c.loop-byte.invariant (get_or_default ys i 0 x (omega arith))
