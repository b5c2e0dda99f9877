use Rattle.std.proofs.Common.{vec_len}
use Rattle.served_links.proofs.settling.+settle_with.Given as goal

abbrev pub decreases-settle_with : goal.decreases-settle_with
decreases-settle_with l = vec_len l.before
