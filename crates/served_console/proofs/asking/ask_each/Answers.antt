use Rattle.std.proofs.Common.{refl, ◌∙◌}
use Rattle.served_console.proofs.NodeLaws.{asks_none, tick_more}
use Rattle.served_console.proofs.asking.ask_each.Goals as goal

pub loop-place-init : goal.loop-place-init
loop-place-init g c = record {
  len = refl;
  asks = asks_none g.N.Stepper.steps g.N.Stepper.event_of g.N.Stepper.reply_of g.N.Stepper.refuses g.C.Clock.gives c.args.nodes.now.items c.nothing-told.result c.nothing-told.ensures;
}

pub loop-place-preserved : goal.loop-place-preserved
loop-place-preserved g c = record {
  len = c.ask_at-told.ensures.len ∙ c.loop-place.invariant.len;
  asks =
      tick_more g.N.Stepper.steps g.N.Stepper.event_of g.N.Stepper.reply_of g.N.Stepper.refuses g.C.Clock.gives c.args.nodes.now.items c.loop-place.nodes.items c.ask_at-told.new.nodes.items
      c.loop-place.place c.loop-place.told c.ask_at-told.result c.loop-place.invariant.asks c.ask_at-told.ensures.asks;
}
