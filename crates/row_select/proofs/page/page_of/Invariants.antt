use Rattle.std.proofs.Common.{◌≡◌, ◌≤◌, ◌++◌, ℕ, List, false, length}
use Rattle.changes.specs.declared.Held.{Held}
use Rattle.row_select.specs.Rows.{rows_with, StopsAt}
use Rattle.row_select.proofs.page.page_of.Given as goal

-- the page has what the rows so far show
abbrev pub invariant-loop-row : goal.invariant-loop-row
invariant-loop-row l = record {
  passed : (front : List (List ℕ × List Held)) × (l.fn.walk ≡ front ++ l.walk) × (l.page.rows.items ≡ rows_with front);
  within : length l.page.rows.items ≤ l.page.limit;
  limit : l.page.limit ≡ l.fn.limit;
  more : l.page.more ≡ false;
  stops : StopsAt l.fn.limit l.fn.walk l.walk;
}

abbrev pub decreases-loop-row : goal.decreases-loop-row
decreases-loop-row l = length l.walk
