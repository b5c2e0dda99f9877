use Rattle.served_assembly.proofs.Moving.{run_moves}
use Rattle.served_assembly.proofs.laws.runs_move_links.Goals as goal

pub returns : goal.returns
returns g c clock schema remaining written link_faults given returned door_faults before now node links doors part console left assembled ran =
    run_moves _ _ _ _ _ _ _ _ schema remaining written link_faults given returned door_faults _ node links doors part console left assembled ran
