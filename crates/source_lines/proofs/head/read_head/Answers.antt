use Rattle.std.proofs.Common.{ℕ, List, length, IfSome, sym, subst, arith}
use Rattle.source_lines.specs.Lines.{left_of}
use Rattle.source_lines.specs.Heads.{GivesHead}
use Rattle.source_lines.proofs.HeadLaws.{goes_on, room_left, head_more, longer_by_one, on_err, head_lost, head_read}
use Rattle.source_lines.proofs.head.read_head.Goals as goal

pub loop-ahead-smaller : goal.loop-ahead-smaller
loop-ahead-smaller g c =
    let on = goes_on c.loop-ahead.head.ended (length c.loop-ahead.head.bytes) c.args.longest (sym c.loop-ahead-test.ensures) in
    let took = c.in_ok-read_on.ensures.ok in
    room_left c.args.longest c.loop-ahead.head c.read_on.new.head took.byte on.0 on.1 took.head_is

pub loop-ahead-preserved : goal.loop-ahead-preserved
loop-ahead-preserved g c =
    let on = goes_on c.loop-ahead.head.ended (length c.loop-ahead.head.bytes) c.args.longest (sym c.loop-ahead-test.ensures) in
    let took = c.in_ok-read_on.ensures.ok in
    record {
      head =
          head_more (left_of c.args.ahead.now (g.S.Source.remaining c.args.source.now)) (left_of c.loop-ahead.ahead (g.S.Source.remaining c.loop-ahead.source))
          (left_of c.read_on.new.ahead (g.S.Source.remaining c.read_on.new.source)) c.loop-ahead.head c.read_on.new.head on.0 c.loop-ahead.invariant.head took;
      short = omega (arith, longer_by_one c.loop-ahead.head c.read_on.new.head took.byte took.head_is, on.1);
      faults = omega (arith, c.loop-ahead.invariant.faults, c.read_on.ensures.counted);
    }

pub returns-in_err-read_on-clause-err : goal.returns-in_err-read_on-clause-err
returns-in_err-read_on-clause-err g c =
    let on = goes_on c.loop-ahead.head.ended (length c.loop-ahead.head.bytes) c.args.longest (sym c.loop-ahead-test.ensures) in
    on_err c.from_residual.result _ (head_lost (left_of c.args.ahead.now (g.S.Source.remaining c.args.source.now)) (left_of c.loop-ahead.ahead (g.S.Source.remaining c.loop-ahead.source))
    (left_of c.read_on.new.ahead (g.S.Source.remaining c.read_on.new.source)) c.args.longest c.loop-ahead.head on.0 on.1 c.loop-ahead.invariant.head c.in_err-read_on.ensures.err)

pub returns-clause-ok : goal.returns-clause-ok
returns-clause-ok g c =
    subst (λ (bytes : List ℕ). IfSome (left_of c.args.ahead.now (g.S.Source.remaining c.args.source.now)) (λ left. GivesHead c.args.longest left bytes (left_of c.loop-ahead.ahead (g.S.Source.remaining c.loop-ahead.source)))) (sym c.into_bytes.ensures)
    (head_read (left_of c.args.ahead.now (g.S.Source.remaining c.args.source.now)) (left_of c.loop-ahead.ahead (g.S.Source.remaining c.loop-ahead.source))
    c.args.longest c.loop-ahead.head c.loop-ahead.invariant.short (sym c.loop-ahead-test.ensures) c.loop-ahead.invariant.head)
