use Rattle.std.proofs.Common.{vec_len}
use Rattle.served_links.proofs.settling.+settle.Given as goal

abbrev pub decreases-settle : goal.decreases-settle
decreases-settle l = vec_len l.all
