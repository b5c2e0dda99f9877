-- The definitions at small inputs.
use Rattle.std.proofs.Common.{◌≡◌, List, codes, refl}
use Rattle.source_lines.specs.Lines.{first_line, behind_line}
use Rattle.source_lines.specs.Heads.{head_of}

a_head_and_more : head_of (codes "rf 3\nrun\nstatus\n") ≡ codes "rf 3\nrun\n"
a_head_and_more = refl

no_run : head_of (codes "run 1\nrunrun\nrun") ≡ codes "run 1\nrunrun\nrun"
no_run = refl

a_line : first_line (codes "status\nstop") ≡ codes "status"
a_line = refl

what_follows : behind_line (codes "status\nstop") ≡ codes "stop"
what_follows = refl

the_last_line : behind_line (codes "stop") ≡ codes ""
the_last_line = refl
