use Rattle.std.proofs.lemmas.Result.{err_from_is_err_and}
use Rattle.stored_fields.proofs.Lists.{goes_on, ends, is_done}
use Rattle.row_change.specs.Grammar.{kind_of}
use Rattle.row_change.specs.Reading.{item_at, counted_items_at}
use Rattle.row_change.proofs.item.read_items.Goals as goal

pub returns-in_err-item : goal.returns-in_err-item
returns-in_err-item c =
    let p = err_from_is_err_and c.from_residual-in_err-item.result c.from_residual-in_err-item.ensures.1 in
    rw (p.1, p.2)
    (ends item_at kind_of c.in_err-item.field-0.0 c.loop.items.items c.loop.before c.args.count c.loop.counter c.loop.reader.rest.now (counted_items_at c.args.count c.args.reader.now.rest.now) c.loop-test.true c.in_err-item.ensures c.loop.invariant)

pub loop-preserved : goal.loop-preserved
loop-preserved c =
    rw (c.in_ok-push.ensures.items, c.kind-before.ensures)
    (goes_on item_at kind_of c.loop.items.items c.loop.before c.args.count c.loop.counter c.loop.reader.rest.now c.in_ok-item.item c.read_item.new.reader.rest.now (counted_items_at c.args.count c.args.reader.now.rest.now) c.loop-test.true c.in_ok-item.ensures c.loop.invariant)

pub returns : goal.returns
returns c = rw c.from_vec.ensures (is_done item_at kind_of c.loop.items.items c.loop.before c.args.count c.loop.counter c.loop.reader.rest.now (counted_items_at c.args.count c.args.reader.now.rest.now) c.loop-test.false c.loop.invariant)
