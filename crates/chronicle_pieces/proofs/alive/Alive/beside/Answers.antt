use Rattle.std.proofs.Common.{rules, ◌≡◌, ◌+◌, ◌≤◌, arith, length}
use Rattle.chronicle_pieces.proofs.Rising.{up_more}
use Rattle.chronicle_pieces.proofs.alive.Alive.beside.Goals as goal

pub loop-number-preserved : goal.loop-number-preserved
loop-number-preserved c =
    let number : c.unwrap.result ≡ c.loop-number.number = search rules in
    let few = c.loop-number.invariant.1 in
    let more = c.add.ensures.length in (
      up_more c.args.down.now c.loop-number.alive c.add.new.self c.loop-number.number c.unwrap.result c.loop-number.invariant.0 c.add.ensures.nodes number,
      (let e : length c.add.new.self ≤ c.loop-number.number + 1 = omega (arith, few, more) in e),
    )
