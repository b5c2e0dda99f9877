use Rattle.std.proofs.Common.{rules, ◌<◌, FitsSigned, w64, ◌*◌, ◌/◌}
use Rattle.std.proofs.lemmas.Int.{to_z-of_z}
use Rattle.merkle_tree.proofs.Places.{leaf_is, shared_out}
use Rattle.merkle_tree.proofs.leaf.leaf_of.Goals as goal

pub overflow_cast-result-2 : goal.overflow_cast-result-2
overflow_cast-result-2 c =
    let token : FitsSigned w64 c.args.token = search rules in
    let below = shared_out c.args.range.now c.args.token c.width.ensures.ends (token, c.requires) in
    let value =
    leaf_is c.args.range.now c.args.token _ _ c.distance-before.result c.from.result c.width.result
    (to_z-of_z w64 c.args.range.now.after c.width.ensures.ends.0) (to_z-of_z w64 c.args.token token) c.distance-before.ensures c.from.ensures c.width.ensures.value in
    let low : (c.from.result * 256) / c.width.result < 256 = rw value below in
    search rules

pub returns-clause-value : goal.returns-clause-value
returns-clause-value c =
    let token : FitsSigned w64 c.args.token = search rules in
    leaf_is c.args.range.now c.args.token _ _ c.distance-before.result c.from.result c.width.result
    (to_z-of_z w64 c.args.range.now.after c.width.ensures.ends.0) (to_z-of_z w64 c.args.token token) c.distance-before.ensures c.from.ensures c.width.ensures.value

pub returns-clause-within : goal.returns-clause-within
returns-clause-within c =
    let token : FitsSigned w64 c.args.token = search rules in
    shared_out c.args.range.now c.args.token c.width.ensures.ends (token, c.requires)
