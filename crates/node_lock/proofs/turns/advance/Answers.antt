use Rattle.std.proofs.Common.{rules}
use Rattle.node_lock.proofs.Keeps.{advances}
use Rattle.node_lock.proofs.turns.advance.Goals as goal

pub fetch_add-served-requires : goal.fetch_add-served-requires
fetch_add-served-requires g c = let r = c.requires.seat in (search rules, search rules, advances _ _ _ _ _ _ r.0 r.1 r.2)
