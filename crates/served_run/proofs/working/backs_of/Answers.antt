use Rattle.std.proofs.Common.{sym, ◌∙◌, arith}
use Rattle.std.proofs.lemmas.List.{nil_from_length}
use Rattle.std.specs.Vec.Iter.{into_iter_items}
use Rattle.item_groups.proofs.ZipLaws.{end3}
use Rattle.served_run.specs.Works.{IsBackOf}
use Rattle.served_run.proofs.working.backs_of.Goals as goal

pub returns : goal.returns
returns g c =
    let was = c.loop-node.invariant in
    let nodes = into_iter_items c.loop-node.node-iterator in
    let none = sym c.loop-node.node-iterator.rest.ok.0 ∙ c.in-None.ensures.steps.0 in
    end3 IsBackOf c.args.nodes.items c.args.groups.items nodes (into_iter_items c.loop-node.groups) c.loop-node.backs.items was.made (nil_from_length nodes none) (nil_from_length (into_iter_items c.loop-node.groups) (let same = was.same in omega (arith, same, none)))
