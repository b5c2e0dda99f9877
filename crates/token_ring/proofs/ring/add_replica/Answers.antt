use Rattle.std.proofs.Common.{slice_get, ℕ, ◌++◌, ◌∷◌, [], ap, ◌∙◌}
use Rattle.std.proofs.Math.Facts.{to_z-of_z}
use Rattle.token_ring.proofs.ByNumber.{with_true, with_false}
use Rattle.token_ring.proofs.ring.add_replica.Goals as goal

pub returns-then-is_replica : goal.returns-then-is_replica
returns-then-is_replica c =
    with_true c.args.tokens.now c.args.rf c.args.token _ (slice_get c.args.tokens.now c.args.node) c.args.out.now c.args.node c.push.new.self (to_z-of_z c.ranges.token) (c.push.ensures ∙ ap (λ (n : ℕ). c.args.out.now ++ n ∷ []) c.node_of.ensures) c.if-is_replica.ensures

pub returns-else-is_replica : goal.returns-else-is_replica
returns-else-is_replica c =
    with_false c.args.tokens.now c.args.rf c.args.token _ (slice_get c.args.tokens.now c.args.node) c.args.out.now c.args.node (to_z-of_z c.ranges.token) c.if-is_replica.ensures
