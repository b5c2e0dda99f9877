use Rattle.std.proofs.Common.{◌≡◌, ◌+◌, ◌-◌, ap, ◌∙◌, rules, arith}
use Rattle.node_lock.specs.Passes.{IsPassOf, view_of}
use Rattle.served_seats.specs.Seats.{fresh_from, ranging}
use Rattle.served_seats.proofs.Handed.{all_push, kept_fresh, next_range, push_fresh}
use Rattle.served_seats.proofs.opening.hand_out.Goals as goal

pub loop-number-preserved : goal.loop-number-preserved
loop-number-preserved g c =
    let was = c.loop-number.invariant in
    let n = c.loop-number.number in
    let one = c.part_from-next.new.pass in
    let next : n ≡ n + 1 - 1 = omega arith in
    record {
      last = search rules;
      ranges = next_range (view_of c.loop-number.last) (view_of c.part_from-next.result) n c.args.count was.ranges c.part_from-next.ensures.given (omega arith);
      passes = all_push (IsPassOf c.args.lock.now) c.loop-number.passes.items c.push_reserved.new.self.items one was.passes c.part_from-next.ensures.lock.0 c.push_reserved.ensures.items;
      fresh = push_fresh view_of c.loop-number.passes.items c.push_reserved.new.self.items one n was.fresh
          (kept_fresh (view_of c.loop-number.last) (view_of one) n (c.args.count - n + 1) was.ranges c.part_from-next.ensures.kept) (omega arith) c.push_reserved.ensures.items
          ∙ ap (fresh_from {E = g.row.N-Entry.Denot} 1) next;
      counted = search rules;
      room = search rules;
    }

pub returns-clause-fresh : goal.returns-clause-fresh
returns-clause-fresh g c =
    let was = c.loop-number.invariant in
    let n = c.loop-number.number in
    let all : n ≡ c.args.count = omega arith in
    let one : c.args.count - n + 1 ≡ 1 = omega arith in
    push_fresh view_of c.loop-number.passes.items c.push_reserved-2.new.self.items c.loop-number.last n was.fresh
    (was.ranges ∙ ap (ranging {E = g.row.N-Entry.Denot} n) one) (omega arith) c.push_reserved-2.ensures.items
    ∙ ap (fresh_from {E = g.row.N-Entry.Denot} 1) all
