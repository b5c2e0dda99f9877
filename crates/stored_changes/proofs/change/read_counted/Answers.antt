use Rattle.std.proofs.Common.{◌≡◌, ◌∙◌, ap, subst, Option}
use Rattle.std.specs.Option.{option_copied}
use Rattle.std.proofs.lemmas.Result.{err_from_is_err_and}
use Rattle.changes.specs.declared.Place.{Place}
use Rattle.stored_fields.specs.Reading.{Fails}
use Rattle.stored_fields.proofs.Lists.{ends, is_done}
use Rattle.stored_changes.specs.Reading.{change_at, place_of, last_place, counted_at}
use Rattle.stored_changes.proofs.Loop.{goes_on_behind}
use Rattle.stored_changes.proofs.change.read_counted.Goals as goal

pub returns-in_err-change : goal.returns-in_err-change
returns-in_err-change c =
    let p = err_from_is_err_and c.from_residual-in_err-change.result c.from_residual-in_err-change.ensures.1 in
    let before : option_copied c.last_place.result ≡ last_place c.loop.changes.items = c.last_place.ensures ∙ ap last_place c.deref.ensures.value in
    rw (p.1, p.2)
    (ends change_at place_of c.in_err-change.field-0.0 c.loop.changes.items (last_place c.loop.changes.items) c.args.count c.loop.counter c.loop.reader.rest.now (counted_at c.args.count c.args.reader.now.rest.now) c.loop-test.true
    (subst (λ (b : Option Place). Fails c.in_err-change.field-0.0 (change_at b c.loop.reader.rest.now)) before c.in_err-change.ensures) c.loop.invariant)

pub loop-preserved : goal.loop-preserved
loop-preserved c =
    let before : option_copied c.last_place.result ≡ last_place c.loop.changes.items = c.last_place.ensures ∙ ap last_place c.deref.ensures.value in
    rw c.in_ok-push.ensures.items
    (goes_on_behind c.loop.changes.items c.args.count c.loop.counter c.loop.reader.rest.now c.in_ok-change.change c.read_change.new.reader.rest.now (counted_at c.args.count c.args.reader.now.rest.now) (option_copied c.last_place.result) before c.loop-test.true
    c.in_ok-change.ensures c.loop.invariant)

pub returns : goal.returns
returns c = rw c.from_vec.ensures (is_done change_at place_of c.loop.changes.items (last_place c.loop.changes.items) c.args.count c.loop.counter c.loop.reader.rest.now (counted_at c.args.count c.args.reader.now.rest.now) c.loop-test.false c.loop.invariant)
