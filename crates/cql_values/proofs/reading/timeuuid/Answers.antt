-- Byte by byte.
use Rattle.std.proofs.Common.{◌-◌, ℕ, List, length, take, drop, sym, ap, ◌∙◌, arith}
use Rattle.cql_values.specs.Order.{ascending_bytes}
use Rattle.cql_values.proofs.Columns.{length-ascending, small_ascending, ascending-drop, front_ok}
use Rattle.std.proofs.Common.{below_more}
use Rattle.std.proofs.lemmas.List.{take_rest}
use Rattle.std.specs.Int.{w128, from_be_bytes}
use Rattle.cql_values.proofs.TimeLaws.{time_continues, time_refused, time_read}
use Rattle.cql_values.proofs.reading.timeuuid.Goals as goal

pub returns-then-bytes-at : goal.returns-then-bytes-at
returns-then-bytes-at c =
    let bytes = c.args.bytes.now in
    let all = ascending_bytes c.args.desc bytes in
    let long = length-ascending c.args.desc bytes in
    time_continues all (λ i l. c.loop-at.invariant.1 i (omega arith)) (small_ascending c.args.desc bytes (λ i. omega (arith, c.type_inv.bytes i))) (omega arith)

pub returns-then-not-is_time_byte : goal.returns-then-not-is_time_byte
returns-then-not-is_time_byte c =
    let bytes = c.args.bytes.now in
    let all = ascending_bytes c.args.desc bytes in
    let long = length-ascending c.args.desc bytes in
    let h = c.if-not-is_time_byte in
    time_refused all c.loop-at.at (omega arith) c.loop-at-test.true c.loop-at.invariant.1 (small_ascending c.args.desc bytes (λ i. omega (arith, c.type_inv.bytes i))) (sym c.is_time_byte.ensures ∙ c.if-not-is_time_byte.true)

pub loop-at-preserved : goal.loop-at-preserved
loop-at-preserved c =
    (omega arith, below_more _ _ c.loop-at.invariant.1 (sym c.is_time_byte.ensures ∙ c.if-not-is_time_byte.false))

pub returns : goal.returns
returns c =
    let bytes = c.args.bytes.now in
    let all = ascending_bytes c.args.desc bytes in
    let long = length-ascending c.args.desc bytes in
    let uuid = front_ok 16 c.in_ok-uuid.uuid (ascending_bytes c.args.desc (take (length bytes - 8) (drop 8 bytes))) c.in_ok-uuid.ensures in
    time_read all c.from_be_bytes.result (omega arith) (λ k l. c.loop-at.invariant.1 k (omega arith)) (small_ascending c.args.desc bytes (λ i. omega (arith, c.type_inv.bytes i)))
    (c.from_be_bytes.ensures ∙ ap (from_be_bytes w128) (uuid ∙ ap (λ (l : List ℕ). take 16 (ascending_bytes c.args.desc l)) (take_rest bytes 8) ∙ ap (take 16) (ascending-drop c.args.desc 8 bytes)))
