use Rattle.std.proofs.Math.Facts.{to_z-of_z}
use Rattle.token_ring.proofs.ByNumber.{is_replica_some, own_fits}
use Rattle.token_ring.proofs.ring.is_replica.Goals as goal

pub returns : goal.returns
returns c =
    is_replica_some c.args.tokens.now c.args.rf c.args.token _ _ c.args.node _ (to_z-of_z c.ranges.token) c.requires.node
    (to_z-of_z (own_fits c.args.tokens.now c.args.node c.requires.ring c.requires.node)) c.place_of_token.ensures
