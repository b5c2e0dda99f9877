use Rattle.std.proofs.Common.{sym, ◌∙◌, refl, rules, append_assoc, ap, List, ◌∷◌, [], ◌++◌}
use Rattle.std.specs.Vec.Iter.{into_iter_items}
use Rattle.changes.specs.declared.Held.{Held}
use Rattle.cell_merge.proofs.Decided.{plain_more}
use Rattle.cell_merge.proofs.plain.take_all.Goals as goal

pub loop-x-preserved : goal.loop-x-preserved
loop-x-preserved c = record {
  content = plain_more c.args.kept.now.items c.loop-x.kept.items c.take_in.new.kept.items c.loop-x.yielded (c.loop-x.yielded ++ c.in-Some.x ∷ []) c.in-Some.x c.loop-x.invariant.content c.take_in.ensures.content refl;
  all =
      append_assoc c.loop-x.yielded (c.in-Some.x ∷ []) (into_iter_items c.next.new.self) ∙ ap (λ (l : List Held). c.loop-x.yielded ++ l) (sym c.in-Some.ensures.steps.0) ∙ c.loop-x.invariant.all;
  room = search rules;
}
