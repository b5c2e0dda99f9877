use Rattle.std.proofs.Common.{sym, ◌∙◌, arith}
use Rattle.std.proofs.lemmas.List.{nil_from_length}
use Rattle.std.specs.Vec.Iter.{into_iter_items}
use Rattle.item_groups.proofs.ZipLaws.{end-both, zip3-later, zip3-long}
use Rattle.served_run.specs.Crews.{IsCrewOf, IsOpened}
use Rattle.served_run.proofs.opened.open_all.Goals as goal

pub returns : goal.returns
returns g c =
    let rest = into_iter_items c.loop-node.node-iterator in
    let nodes = c.args.nodes.items in
    let locks = c.loop-node.locks.items in
    let crews = c.loop-node.crews.items in
    let each = end-both (IsOpened c.args.jobs) nodes rest locks crews c.loop-node.invariant.made (nil_from_length rest (sym c.loop-node.node-iterator.rest.ok.0 ∙ c.in-None.ensures.steps.0)) in
    let many = (zip3-long (IsOpened c.args.jobs) nodes locks crews each).0 in
    let some = c.requires.some in
    record {
      each = each;
      manned = record {
        some = omega (arith, many, some.0);
        few = omega (arith, many, some.1);
        crews = zip3-later (IsOpened c.args.jobs) (IsCrewOf c.args.jobs) (λ node lock crew p. p.crew_of) nodes locks crews each;
      };
    }
