use Rattle.repair_moves.proofs.Worked.{replicas, down_at_its_start, nothing_differs, one_lacks_a_row, last_of_all, another_has_a_row, at_its_deadline, newer_is_the_merge}
use Rattle.repair_moves.proofs.laws.worked_rows.Goals as goal

pub returns : goal.returns
returns c = record {
  replicas = replicas;
  down = down_at_its_start;
  equal = nothing_differs;
  lacks = one_lacks_a_row;
  newer = newer_is_the_merge;
  last = last_of_all;
  row = another_has_a_row;
  deadline = at_its_deadline;
}
