-- What is so of every row.
use Rattle.std.specs.Prelude.{◌≡◌, ℕ, ◌≤◌, List, length, Ok}
use Rattle.page_state.specs.Pages.{state_of, row_in, most_row_bytes}

abbrev pub ReadingUndoesWriting : Type 0
ReadingUndoesWriting = (row : List ℕ) → length row ≤ most_row_bytes → row_in (state_of row) ≡ Ok row
